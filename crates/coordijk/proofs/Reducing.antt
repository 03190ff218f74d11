-- Laws of reducing. Assumes nothing.
use mathlib.Core.Path.{◌≡◌}
use Prim.Native.Nat.{ℕ, ◌+◌, ◌-◌, ◌≤◌}
use native.Mathlib.Omega.{arith}
use Rattle.coordijk.specs.declared.CoordIJK.{CoordIJK}
use Rattle.coordijk.specs.Coordinates.{coord, least, least_of, reduced}

pub least_shift : (a b c a' b' c' d d' : ℕ) → a + d ≡ a' + d' → b + d ≡ b' + d' → c + d ≡ c' + d' → least a b c + d ≡ least a' b' c' + d'
least_shift a b c a' b' c' d d' p q r = omega arith

sub_shift : (a l a' l' d d' : ℕ) → a + d ≡ a' + d' → l + d ≡ l' + d' → a - l ≡ a' - l'
sub_shift a l a' l' d d' p q = omega arith

-- two triples that differ by one number throughout reduce to the same
pub reduced_shift : (a b c a' b' c' d d' : ℕ) → a + d ≡ a' + d' → b + d ≡ b' + d' → c + d ≡ c' + d' → reduced a b c ≡ reduced a' b' c'
unfolding reduced
reduced_shift a b c a' b' c' d d' p q r =
    let l = least_shift a b c a' b' c' d d' p q r in
    let x = sub_shift a (least a b c) a' (least a' b' c') d d' p l in
    let y = sub_shift b (least a b c) b' (least a' b' c') d d' q l in
    let z = sub_shift c (least a b c) c' (least a' b' c') d d' r l in
    λ n. coord (x n) (y n) (z n)

-- triples that are equal reduce to the same
pub reduced_same : {a b c a' b' c' : ℕ} → a ≡ a' → b ≡ b' → c ≡ c' → reduced a b c ≡ reduced a' b' c'
reduced_same p q r = λ n. reduced (p n) (q n) (r n)

none : (n l : ℕ) → n + l ≡ l + 0 → n ≡ 0
none n l h = omega arith

-- what was reduced has least coordinate 0
pub reduced_flat : (a b c : ℕ) → least_of (reduced a b c) ≡ 0
unfolding reduced
reduced_flat a b c =
    let l = least a b c in
    none _ l (least_shift (a - l) (b - l) (c - l) a b c l 0 (omega arith) (omega arith) (omega arith))

-- reducing what is reduced changes nothing
pub reduced_idle : (c : CoordIJK) → least_of c ≡ 0 → reduced c.i c.j c.k ≡ c
unfolding reduced
reduced_idle c flat =
    let less : (a : ℕ) → a - least_of c ≡ a = λ a. omega arith in
    λ n. coord (less c.i n) (less c.j n) (less c.k n)

-- reducing twice is reducing once
pub reduced_twice : (a b c : ℕ) → let r = reduced a b c in reduced r.i r.j r.k ≡ r
reduced_twice a b c = reduced_idle (reduced a b c) (reduced_flat a b c)

-- a reduced coordinate is none larger than it was
pub reduced_low : (a b c : ℕ) → let r = reduced a b c in (r.i ≤ a) × (r.j ≤ b) × (r.k ≤ c)
unfolding reduced
reduced_low a b c = omega arith
