-- The margin is the distance from the side of the border that runs half way to the nearest neighbour: with own and other the squared distances from the two
-- centres, unit · (unit - reach) is other - own for the nearest of the six neighbours, and no more than that for the rest. Assumes nothing.
use Rattle.std.proofs.Common.{◌≡◌, ℕ, zero, suc, ◌+◌, ◌*◌, ◌<◌, ◌≤◌, max, get_or, ℤ, pos, ◌+ℤ◌, ◌≤ℤ◌, ap, ◌∙◌, lt_irrefl, mul-le-mul_left, arith, lit<, le→leb}
use native.Mathlib.Decide.{dec_le}
use lib.Signed.{le_z_yes}
use Rattle.vec2d.specs.declared.Steps.{Steps}
use Rattle.vec2d.specs.Nearest.{apart}
use Rattle.vec2d.proofs.Branches.{Within}
use Rattle.vec2d.proofs.Measures.{Is, measured}
use Rattle.margin.proofs.Counting.{longest}
use Rattle.margin.specs.Centres.{from_neighbours}
use Rattle.margin.specs.Margins.{gap_of, step_of, reach_in}

-- one of two things holds
data Either (A B : Type 0) : Type 0 where
  one : A → Either A B
  other : B → Either A B

-- ---- the six neighbours of a centre, where the longest way towards one of them is R

module _ (u m n i j R : ℕ) where
  -- the squared distance from the centre, and from another's: that of the point (m', n') from (i', j')
  abbrev own : ℤ
  own = apart m n (pos i) (pos j)

  over : (m' n' i' j' : ℕ) → ((c c' : ℕ) → Is c m n i j → Is c' m' n' i' j' → c + u * u ≤ c' + u * R)
      → (own +ℤ pos (u * u)) ≤ℤ (apart m' n' (pos i') (pos j') +ℤ pos (u * R))
  over m' n' i' j' h =
      let a = measured m n i j in
      let b = measured m' n' i' j' in
      rw (a.of, b.of) (le_z_yes (le→leb (a.c + u * u) (b.c + u * R) (h a.c b.c a.is b.is)))

  even : (m' n' i' j' : ℕ) → ((c c' : ℕ) → Is c m n i j → Is c' m' n' i' j' → c + u * u ≡ c' + u * R)
      → own +ℤ pos (u * u) ≡ apart m' n' (pos i') (pos j') +ℤ pos (u * R)
  even m' n' i' j' h =
      let a = measured m n i j in
      let b = measured m' n' i' j' in
      rw (a.of, b.of) (ap pos (h a.c b.c a.is b.is))

  -- No neighbour is nearer by more than the longest way says.
  none_nearer : Within m i n j R → (k : ℕ) → k < 6 → (own +ℤ pos (u * u)) ≤ℤ (get_or (from_neighbours u m n i j) k (pos 0) +ℤ pos (u * R))
  none_nearer w zero h = over m n (i + u) j (omega (arith, mul-le-mul_left u w.i))
  none_nearer w (suc zero) h = over m n (i + u) (j + u) (omega (arith, mul-le-mul_left u w.ij))
  none_nearer w (suc (suc zero)) h = over m n i (j + u) (omega (arith, mul-le-mul_left u w.j))
  none_nearer w (suc (suc (suc zero))) h = over (m + u) n i j (omega (arith, mul-le-mul_left u w.i'))
  none_nearer w (suc (suc (suc (suc zero)))) h = over (m + u) (n + u) i j (omega (arith, mul-le-mul_left u w.ij'))
  none_nearer w (suc (suc (suc (suc (suc zero))))) h = over m (n + u) i j (omega (arith, mul-le-mul_left u w.j'))
  none_nearer w (suc (suc (suc (suc (suc (suc k)))))) h = absurd (lt_irrefl 0 (omega arith))

  -- One neighbour is nearer by exactly that.
  pub record Halfway : Type 0 where
    pub which : ℕ
    pub low : which < 6
    pub same : own +ℤ pos (u * u) ≡ get_or (from_neighbours u m n i j) which (pos 0) +ℤ pos (u * R)

  towards_i : Either (2 * m + j ≡ n + 2 * i + R) (n + 2 * i ≡ 2 * m + j + R) → Halfway
  towards_i (one e) = record { which = 0; low = lit< tt; same = even m n (i + u) j (omega (arith, ap (λ (z : ℕ). u * z) e)) }
  towards_i (other e) = record { which = 3; low = lit< tt; same = even (m + u) n i j (omega (arith, ap (λ (z : ℕ). u * z) e)) }

  towards_j : Either (2 * n + i ≡ m + 2 * j + R) (m + 2 * j ≡ 2 * n + i + R) → Halfway
  towards_j (one e) = record { which = 2; low = lit< tt; same = even m n i (j + u) (omega (arith, ap (λ (z : ℕ). u * z) e)) }
  towards_j (other e) = record { which = 5; low = lit< tt; same = even m (n + u) i j (omega (arith, ap (λ (z : ℕ). u * z) e)) }

  towards_ij : Either (m + n ≡ i + j + R) (i + j ≡ m + n + R) → Halfway
  towards_ij (one e) = record { which = 1; low = lit< tt; same = even m n (i + u) (j + u) (omega (arith, ap (λ (z : ℕ). u * z) e)) }
  towards_ij (other e) = record { which = 4; low = lit< tt; same = even (m + u) (n + u) i j (omega (arith, ap (λ (z : ℕ). u * z) e)) }

-- ---- the reach is the longest of the six ways

gap_up : (a b r : ℕ) → gap_of a b ≤ r → (a ≤ b + r) × (b ≤ a + r)
gap_up a b r h = (omega arith, omega arith)

gap_is : (a b r : ℕ) → r ≡ gap_of a b → Either (a ≡ b + r) (b ≡ a + r)
gap_is a b r e = elim (dec_le b a) [ yes l ↦ one (omega arith) | no l ↦ other (omega arith) ]

most : (a b c : ℕ) → (a ≤ max a (max b c)) × (b ≤ max a (max b c)) × (c ≤ max a (max b c))
most a b c = (omega arith, omega arith, omega arith)

larger : (a b : ℕ) → Either (max a b ≡ a) (max a b ≡ b)
larger a b = elim (dec_le b a) [ yes l ↦ one (omega arith) | no l ↦ other (omega arith) ]

module _ (u m n : ℕ) (s : Steps) where
  abbrev i : ℕ
  i = step_of u s.i

  abbrev j : ℕ
  j = step_of u s.j

  -- From the chosen centre the point lies in the hexagon of the reach's size.
  pub within_reach : Within m i n j (reach_in u m n s)
  unfolding reach_in
  within_reach =
      let along_i = gap_of (2 * m + j) (n + 2 * i) in
      let along_j = gap_of (2 * n + i) (m + 2 * j) in
      let along_ij = gap_of (m + n) (i + j) in
      let r = max along_i (max along_j along_ij) in
      let t = most along_i along_j along_ij in
      let a = gap_up (2 * m + j) (n + 2 * i) r t.0 in
      let b = gap_up (2 * n + i) (m + 2 * j) r t.1 in
      let c = gap_up (m + n) (i + j) r t.2 in
      sorted m i n j r a b c
    where
      sorted : (m i n j r : ℕ) → (2 * m + j ≤ n + 2 * i + r) × (n + 2 * i ≤ 2 * m + j + r) → (2 * n + i ≤ m + 2 * j + r) × (m + 2 * j ≤ 2 * n + i + r)
          → (m + n ≤ i + j + r) × (i + j ≤ m + n + r) → Within m i n j r
      sorted m i n j r a b c =
          record { i = omega (arith, a.0); i' = omega (arith, a.1); j = omega (arith, b.0); j' = omega (arith, b.1); ij = omega (arith, c.0); ij' = omega (arith, c.1) }

  -- Of the six neighbours none is nearer than the reach says, and one is as near: own + unit² is at most other + unit · reach, and is it for one.
  pub no_nearer : (k : ℕ) → k < 6 → (apart m n (pos i) (pos j) +ℤ pos (u * u)) ≤ℤ (get_or (from_neighbours u m n i j) k (pos 0) +ℤ pos (u * reach_in u m n s))
  no_nearer k h = none_nearer u m n i j (reach_in u m n s) within_reach k h

  pub half_way : Halfway u m n i j (reach_in u m n s)
  unfolding reach_in
  half_way = by_i (larger along_i (max along_j along_ij)) (larger along_j along_ij)
    where
      along_i : ℕ
      along_i = gap_of (2 * m + j) (n + 2 * i)

      along_j : ℕ
      along_j = gap_of (2 * n + i) (m + 2 * j)

      along_ij : ℕ
      along_ij = gap_of (m + n) (i + j)

      r : ℕ
      r = max along_i (max along_j along_ij)

      by_i : Either (r ≡ along_i) (r ≡ max along_j along_ij) → Either (max along_j along_ij ≡ along_j) (max along_j along_ij ≡ along_ij) → Halfway u m n i j r
      by_i (one e) f = towards_i u m n i j r (gap_is (2 * m + j) (n + 2 * i) r e)
      by_i (other e) (one f) = towards_j u m n i j r (gap_is (2 * n + i) (m + 2 * j) r (e ∙ f))
      by_i (other e) (other f) = towards_ij u m n i j r (gap_is (m + n) (i + j) r (e ∙ f))

  -- A point in the hexagon of a size has no longer reach.
  pub reach_within : (h : ℕ) → Within m i n j h → reach_in u m n s ≤ h
  unfolding reach_in
  reach_within h w =
      longest (gap_of (2 * m + j) (n + 2 * i)) (gap_of (2 * n + i) (m + 2 * j)) (gap_of (m + n) (i + j)) h (near (2 * m + j) (n + 2 * i) h (omega (arith, w.i)) (omega (arith, w.i')))
      (near (2 * n + i) (m + 2 * j) h (omega (arith, w.j)) (omega (arith, w.j'))) (near (m + n) (i + j) h w.ij w.ij')
    where
      near : (a b h : ℕ) → a ≤ b + h → b ≤ a + h → gap_of a b ≤ h
      near a b h p q = omega arith
