-- The names of a point in a row: every name that can be reached is one of the row, and the row leads home. Assumes nothing.
use mathlib.Core.Path.{◌≡◌, refl, sym, ap, ◌∙◌, subst}
use mathlib.Core.Bool.{Bool, true, false}
use Prim.Native.Nat.{ℕ, zero, suc, ◌+◌, ◌≤◌, ◌<◌}
use native.Mathlib.Decide.{dec_lt}
use native.Mathlib.Omega.{arith}
use lib.Dec.{eqb}
use borrow.Author.Tests.{eqb-false}
use Rattle.reply.specs.Choice.{pick}
use Rattle.level.specs.declared.Grid.{Grid}
use Rattle.level.specs.Levels.{Sound}
use Rattle.faceijk.specs.declared.Place.{Place}
use Rattle.faceijk.specs.Places.{sum_at}
use Rattle.faceijk.specs.Faces.{face_over}
use Rattle.faceijk.specs.Steps.{step_of}
use Rattle.faceijk.proofs.Faces.{Mate, back_over, mate_over}
use Rattle.faceijk.proofs.Edges.{Edge, ij, ki, jk, edge_of, edge_low, at, point, point_sum, back_edge, exchanged}
use Rattle.names.specs.Names.{LiesOn, Reached, here, beyond}
use Rattle.names.specs.Row.{next_name, others}
use Rattle.names.specs.Entries.{Inside}
use Rattle.names.proofs.Corners.{Dart, dart, after, before, onward, onwards, five_round, back_back}
use Rattle.names.proofs.Sorts.{edge_after, edge_before, end_is, begin_is, lies_on, Which, this, other, which, Kind, inner, between, corner, kind_of, next_inner, next_point, others_inner, others_between, others_corner}

-- the name n places on
unfoldable pub name_at : ℕ → Grid → Place → Place
name_at zero g p = p
name_at (suc n) g p = name_at n g (next_name g p)

-- q stands in the row from p on
pub data Along (g : Grid) : Place → Place → Type 0 where
  stop : {p : Place} → Along g p p
  on : {p q : Place} → Along g (next_name g p) q → Along g p q

pub along_trans : {g : Grid} {p q r : Place} → Along g p q → Along g q r → Along g p r
along_trans stop b = b
along_trans (on a) b = on (along_trans a b)

pub along_at : (n : ℕ) (g : Grid) (p : Place) → Along g p (name_at n g p)
unfolding name_at
along_at zero g p = stop
along_at (suc n) g p = on (along_at n g (next_name g p))

mate : (f : ℕ) {e : ℕ} → f < 20 → Edge e → Mate f e (face_over f e) (back_over f e)
mate f {e} h d = let l = edge_low d in mate_over e l.0 l.1 f h

module _ (g : Grid) (sound : Sound g) where
  pub some : 0 < g.limit
  some = omega (arith, sound.twice, sound.some)

  -- face corners, by dart
  pub corner_at : Dart → Place
  corner_at d = point d.face d.edge g.limit 0

  next_corner : (f e : ℕ) → f < 20 → Edge e → next_name g (corner_at (dart f e)) ≡ corner_at (onward (dart f e))
  unfolding corner_at
  next_corner f e h d = next_point g sound f g.limit 0 d some (omega arith) ∙ end_is (face_over f e) g.limit (back_edge f d)

  names_corner : (n f e : ℕ) → f < 20 → Edge e → name_at n g (corner_at (dart f e)) ≡ corner_at (onwards n (dart f e))
  unfolding name_at
  names_corner zero f e h d = refl
  names_corner (suc n) f e h d =
      ap (name_at n g) (next_corner f e h d) ∙ names_corner n (face_over f e) (after (back_over f e)) (mate f h d).over (edge_after (back_edge f d))

  -- the next name is of the same kind
  pub next_kind : {p : Place} → Kind g p → Kind g (next_name g p)
  unfolding corner_at
  next_kind (inner {p = p} h) = subst (λ (x : Place). Kind g x) (sym (next_inner g p h)) (inner h)
  next_kind (between f e x y h d a b s) =
      subst (λ (x : Place). Kind g x) (sym (next_point g sound f x y d a s)) (between (face_over f e) (back_over f e) y x (mate f h d).over (back_edge f d) b a (omega arith))
  next_kind (corner f e h d) =
      subst (λ (x : Place). Kind g x) (sym (next_corner f e h d)) (corner (face_over f e) (after (back_over f e)) (mate f h d).over (edge_after (back_edge f d)))

  -- and lies inside its face
  point_inside : (f x y : ℕ) {e : ℕ} → f < 20 → Edge e → x + y ≡ g.limit → Inside g (point f e x y)
  point_inside f x y h ij s =
      let t = sound.twice in
      let u = sound.small in
      record { okay = record { on = h; taken = record { flat = omega arith; low = omega arith } }; inside = omega arith }
  point_inside f x y h ki s =
      let t = sound.twice in
      let u = sound.small in
      record { okay = record { on = h; taken = record { flat = omega arith; low = omega arith } }; inside = omega arith }
  point_inside f x y h jk s =
      let t = sound.twice in
      let u = sound.small in
      record { okay = record { on = h; taken = record { flat = omega arith; low = omega arith } }; inside = omega arith }

  by_kind : {p : Place} → Kind g p → Inside g p → Inside g (next_name g p)
  by_kind {p} (inner h) i = subst (λ (x : Place). Inside g x) (sym (next_inner g p h)) i
  by_kind (between f e x y h d a b s) i =
      subst (λ (x : Place). Inside g x) (sym (next_point g sound f x y d a s)) (point_inside (face_over f e) y x (mate f h d).over (back_edge f d) (omega arith))
  by_kind (corner f e h d) i =
      subst (λ (x : Place). Inside g x) (sym (next_point g sound f g.limit 0 d some (omega arith))) (point_inside (face_over f e) 0 g.limit (mate f h d).over (back_edge f d) (omega arith))

  pub next_inside : (p : Place) → Inside g p → Inside g (next_name g p)
  next_inside p i = by_kind (kind_of g p i) i

  -- and has as many other names
  pub others_next : {p : Place} → Kind g p → others g (next_name g p) ≡ others g p
  unfolding corner_at
  others_next (inner {p = p} h) = ap (others g) (next_inner g p h)
  others_next (between f e x y h d a b s) =
      ap (others g) (next_point g sound f x y d a s) ∙ (others_between g (face_over f e) y x (back_edge f d) b a (omega arith) ∙ sym (others_between g f x y d a b s))
  others_next (corner f e h d) =
      ap (others g) (next_corner f e h d) ∙ (others_corner g some (face_over f e) (edge_after (back_edge f d)) ∙ sym (others_corner g some f d))

  -- two steps bring a point between two corners home
  twice_between : (f e x y : ℕ) → f < 20 → Edge e → 0 < x → 0 < y → x + y ≡ g.limit → next_name g (next_name g (point f e x y)) ≡ point f e x y
  twice_between f e x y h d a b s =
      let home = (mate f h d).here in
      let again = back_back d f h in
      ap (next_name g) (next_point g sound f x y d a s) ∙
      (next_point g sound (face_over f e) y x (back_edge f d) b (omega arith) ∙ (λ n. point (home n) (again n) x y))

  -- the name after the last is the first
  pub home : {p : Place} → Kind g p → name_at (suc (others g p)) g p ≡ p
  unfolding name_at corner_at
  home (inner {p = p} h) = ap (λ (n : ℕ). name_at (suc n) g p) (others_inner g p h) ∙ next_inner g p h
  home (between f e x y h d a b s) =
      ap (λ (n : ℕ). name_at (suc n) g (point f e x y)) (others_between g f x y d a b s) ∙ twice_between f e x y h d a b s
  home (corner f e h d) =
      ap (λ (n : ℕ). name_at (suc n) g (corner_at (dart f e))) (others_corner g some f d) ∙
      (names_corner 5 f e h d ∙ ap corner_at (five_round d f h).home)

  -- so the next name leads back
  pub back : {p : Place} → Kind g p → Along g (next_name g p) p
  unfolding name_at
  back {p} k = subst (λ (q : Place). Along g (next_name g p) q) (home k) (along_at (others g p) g (next_name g p))

  -- the row stays inside the faces, and keeps s
  pub along_inside : {p q : Place} → Inside g p → Along g p q → Inside g q
  along_inside h stop = h
  along_inside {p} h (on a) = along_inside (next_inside p h) a

  over_sum : (f x y : ℕ) {e : ℕ} → Edge e → 0 < x → x + y ≡ g.limit → sum_at (next_name g (point f e x y)) ≡ sum_at (point f e x y)
  over_sum f x y {e} d a s =
      ap sum_at (next_point g sound f x y d a s) ∙ (point_sum (face_over f e) y x (back_edge f d) ∙ omega (arith, point_sum f x y d))

  next_sum : {p : Place} → Kind g p → sum_at (next_name g p) ≡ sum_at p
  next_sum {p} (inner h) = ap sum_at (next_inner g p h)
  next_sum (between f e x y h d a b s) = over_sum f x y d a s
  next_sum (corner f e h d) = over_sum f g.limit 0 d some (omega arith)

  pub along_kind : {p q : Place} → Kind g p → Along g p q → Kind g q
  along_kind k stop = k
  along_kind k (on a) = along_kind (next_kind k) a

  pub along_sum : {p q : Place} → Kind g p → Along g p q → sum_at q ≡ sum_at p
  along_sum k stop = refl
  along_sum k (on a) = along_sum (next_kind k) a ∙ next_sum k

  pub along_sym : {p q : Place} → Kind g p → Along g p q → Along g q p
  along_sym k stop = stop
  along_sym k (on a) = along_trans (along_sym (next_kind k) a) (back k)

  -- a step over an edge on which the point lies leads along the row: to the next name, or at a corner to the name four places on
  is_step : (f x y : ℕ) {e : ℕ} → Edge e → 0 < x → x + y ≡ g.limit → next_name g (point f e x y) ≡ step_of (point f e x y) e g.unit
  is_step f x y d a s = next_point g sound f x y d a s ∙ sym (exchanged f x y g.unit d (s ∙ sound.twice))

  along_this : (f x y : ℕ) {e : ℕ} → Edge e → 0 < x → x + y ≡ g.limit → Along g (point f e x y) (step_of (point f e x y) e g.unit)
  along_this f x y {e} d a s = subst (λ (q : Place). Along g (point f e x y) q) (is_step f x y d a s) (on stop)

  along_other : (f e : ℕ) → f < 20 → Edge e → Along g (point f e g.limit 0) (step_of (point f e g.limit 0) (before e) g.unit)
  unfolding corner_at
  along_other f e h d =
      let over = exchanged f 0 g.limit g.unit (edge_before d) (omega (arith, sound.twice)) in
      subst (λ (q : Place). Along g (point f e g.limit 0) q)
      (names_corner 4 f e h d ∙ (ap corner_at (sym (five_round d f h).back) ∙ (sym over ∙ ap (λ (q : Place). step_of q (before e) g.unit) (sym (begin_is f g.limit d)))))
      (along_at 4 g (point f e g.limit 0))

  between_along : (f x y : ℕ) {e d : ℕ} → Edge e → 0 < x → 0 < y → x + y ≡ g.limit → Which e y d → Along g (point f e x y) (step_of (point f e x y) d g.unit)
  between_along f x y w a b s this = along_this f x y w a s
  between_along f x y w a b s (other z) = absurd (omega arith)

  corner_along : (f : ℕ) {e d : ℕ} → f < 20 → Edge e → Which e 0 d → Along g (point f e g.limit 0) (step_of (point f e g.limit 0) d g.unit)
  corner_along f h w this = along_this f g.limit 0 w some (omega arith)
  corner_along f {e} h w (other z) = along_other f e h w

  step_along : {p : Place} → Kind g p → (e : ℕ) → LiesOn g p e → Along g p (step_of p e g.unit)
  step_along (inner h) e o = absurd (omega (arith, o.at_limit))
  step_along (between f e x y h w a b s) d o = between_along f x y w a b s (which f x y w (edge_of d o.low o.high) a o.none)
  step_along (corner f e h w) d o = corner_along f h w (which f g.limit 0 w (edge_of d o.low o.high) some o.none)

  -- what can be reached stands in the row
  pub reached_along : {p q : Place} → Kind g p → Reached g p q → Along g p q
  reached_along k here = stop
  reached_along k (beyond e h r) = let a = step_along k e h in along_trans a (reached_along (along_kind k a) r)

  -- and what stands in the row can be reached
  over_this : (f x y : ℕ) {e : ℕ} {q : Place} → Edge e → 0 < x → x + y ≡ g.limit → Reached g (next_name g (point f e x y)) q → Reached g (point f e x y) q
  over_this f x y {e} {q} d a s r =
      beyond e (lies_on g f x y d s) (subst (λ (n : Place). Reached g n q) (is_step f x y d a s) r)

  next_reached : {p q : Place} → Kind g p → Reached g (next_name g p) q → Reached g p q
  next_reached {p} {q} (inner h) r = subst (λ (n : Place). Reached g n q) (next_inner g p h) r
  next_reached (between f e x y h w a b s) r = over_this f x y w a s r
  next_reached (corner f e h w) r = over_this f g.limit 0 w some (omega arith) r

  pub along_reached : {p q : Place} → Kind g p → Along g p q → Reached g p q
  along_reached k stop = here
  along_reached k (on a) = next_reached k (along_reached (next_kind k) a)

  -- a name stands at one of the first places, as many as the point has names
  pub in_row : {p q : Place} → Kind g p → Along g p q → (n : ℕ) × (n ≤ others g p) × (q ≡ name_at n g p)
  unfolding name_at
  in_row k stop = (0, omega arith, refl)
  in_row {p} {q} k (on a) =
      let r = in_row (next_kind k) a in
      let o = others_next k in
      elim (dec_lt r.0 (others g p)) [
        | yes l ↦ (suc r.0, omega arith, r.2)
        | no l ↦ let e : r.0 ≡ others g p = omega (arith, r.1) in (0, omega arith, r.2 ∙ (ap (λ (n : ℕ). name_at n g (next_name g p)) e ∙ home k))
      ]

  -- no two of them have one face
  face_of : (f x y : ℕ) {e : ℕ} → Edge e → (point f e x y).face ≡ f
  face_of f x y ij = refl
  face_of f x y ki = refl
  face_of f x y jk = refl

  face_of_corner : (d : Dart) → (corner_at d).face ≡ d.face
  unfolding corner_at
  face_of_corner d = go (eqb d.edge 1) (eqb d.edge 2)
    where
      go : (a b : Bool) → (pick a (at d.face g.limit 0 0) (pick b (at d.face 0 0 g.limit) (at d.face 0 g.limit 0))).face ≡ d.face
      go true b = refl
      go false true = refl
      go false false = refl

  away_corner : (n f e : ℕ) → f < 20 → Edge e → 0 < n → n ≤ 4 → (onwards n (dart f e)).face ≡ f → ⊥
  away_corner zero f e h d l u q = omega arith
  away_corner (suc zero) f e h d l u q = eqb-false _ _ (five_round d f h).face_1 q
  away_corner (suc (suc zero)) f e h d l u q = eqb-false _ _ (five_round d f h).face_2 q
  away_corner (suc (suc (suc zero))) f e h d l u q = eqb-false _ _ (five_round d f h).face_3 q
  away_corner (suc (suc (suc (suc zero)))) f e h d l u q = eqb-false _ _ (five_round d f h).face_4 q
  away_corner (suc (suc (suc (suc (suc n))))) f e h d l u q = omega arith

  away : {p : Place} → Kind g p → (n : ℕ) → 0 < n → n ≤ others g p → (name_at n g p).face ≡ p.face → ⊥
  unfolding name_at corner_at
  away {p} (inner h) n l u q = omega (arith, others_inner g p h)
  away (between f e x y h d a b s) n l u q =
      let one : n ≡ 1 = omega (arith, others_between g f x y d a b s) in
      let is = ap (λ (p : Place). p.face) (next_point g sound f x y d a s) in
      eqb-false _ _ (mate f h d).other (sym (is ∙ face_of (face_over f e) y x (back_edge f d)) ∙ (ap (λ (k : ℕ). (name_at k g (point f e x y)).face) (sym one) ∙ (q ∙ face_of f x y d)))
  away (corner f e h d) n l u q =
      away_corner n f e h d l (omega (arith, others_corner g some f d))
      (sym (ap (λ (p : Place). p.face) (names_corner n f e h d) ∙ face_of_corner (onwards n (dart f e))) ∙ (q ∙ face_of f g.limit 0 d))

  pub differ : {p : Place} → Kind g p → (i j : ℕ) → i < j → j ≤ others g p → (name_at i g p).face ≡ (name_at j g p).face → ⊥
  unfolding name_at
  differ {p} k zero j l u q = away k j l u (sym q)
  differ {p} k (suc i) zero l u q = omega arith
  differ {p} k (suc i) (suc j) l u q = differ {p = next_name g p} (next_kind k) i j (omega arith) (omega (arith, others_next k)) q

  -- one name a face
  pub one_a_face : {p q r : Place} → Kind g p → Along g p q → Along g p r → q.face ≡ r.face → q ≡ r
  one_a_face {p} {q} {r} k a b e =
      let x = in_row k a in
      let y = in_row k b in
      let same : (name_at x.0 g p).face ≡ (name_at y.0 g p).face = ap (λ (n : Place). n.face) (sym x.2) ∙ (e ∙ ap (λ (n : Place). n.face) y.2) in
      elim (dec_lt x.0 y.0) [
        | yes l ↦ absurd (differ k x.0 y.0 l y.1 same)
        | no l ↦ elim (dec_lt y.0 x.0) [
          | yes m ↦ absurd (differ k y.0 x.0 m x.1 (sym same))
          | no m ↦ let n : x.0 ≡ y.0 = omega arith in x.2 ∙ (ap (λ (n : ℕ). name_at n g p) n ∙ sym y.2)
        ]
      ]
