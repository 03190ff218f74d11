-- The step over an edge, seen from that edge: a point between the edge's two axes is mirrored in it. Assumes nothing.
use mathlib.Core.Path.{◌≡◌, refl, ap, ◌∙◌}
use mathlib.Core.Bool.{Bool, true, false}
use Prim.Native.Nat.{ℕ, zero, suc, ◌+◌, ◌-◌, ◌*◌, ◌≤◌, ◌<◌}
use native.Mathlib.Nat.{not-suc-le-zero}
use native.Mathlib.Decide.{dec_lt}
use native.Mathlib.Omega.{arith}
use lib.Dec.{eqb}
use borrow.Author.Tests.{lt-ltb, le-ltb}
use Rattle.reply.specs.Choice.{pick}
use Rattle.level.specs.declared.Grid.{Grid}
use Rattle.level.specs.Levels.{Sound}
use Rattle.coordijk.specs.Coordinates.{coord, least, least_of, reduced}
use Rattle.coordijk.proofs.Reducing.{reduced_shift, reduced_idle}
use Rattle.faceijk.specs.declared.Place.{Place}
use Rattle.faceijk.specs.Places.{place, coord_of, sum_at}
use Rattle.faceijk.specs.Faces.{face_over}
use Rattle.faceijk.specs.Steps.{polar, step_of}
use Rattle.faceijk.specs.Crossing.{edge_out, step_out}
use Rattle.faceijk.proofs.Faces.{back_over, back_range}
use Rattle.faceijk.proofs.Stepping.{step_1, step_3, step_5, jk_move, polar_ij, polar_ki, equator_ij, equator_ki}

-- the three edges, to go by cases
pub data Edge : ℕ → Type 0 where
  ij : Edge 1
  ki : Edge 2
  jk : Edge 3

pub edge_of : (e : ℕ) → 1 ≤ e → e ≤ 3 → Edge e
edge_of zero l h = absurd (not-suc-le-zero l)
edge_of (suc zero) l h = ij
edge_of (suc (suc zero)) l h = ki
edge_of (suc (suc (suc zero))) l h = jk
edge_of (suc (suc (suc (suc e)))) l h = absurd (omega arith)

pub edge_low : {e : ℕ} → Edge e → (1 ≤ e) × (e ≤ 3)
edge_low ij = omega arith
edge_low ki = omega arith
edge_low jk = omega arith

abbrev pub at : ℕ → ℕ → ℕ → ℕ → Place
at f i j k = record { face = f; i = i; j = j; k = k }

-- the point of face f that has x in the first coordinate of edge e and y in its second: i and j of IJ, j and k of JK, k and i of KI
abbrev pub point : ℕ → ℕ → ℕ → ℕ → Place
point f e x y = pick (eqb e 1) (at f x y 0) (pick (eqb e 2) (at f y 0 x) (at f 0 x y))

-- its sum; and the edge of the face beyond that leads back is an edge too
pub point_sum : (f x y : ℕ) {e : ℕ} → Edge e → sum_at (point f e x y) ≡ x + y
point_sum f x y ij = omega arith
point_sum f x y ki = omega arith
point_sum f x y jk = omega arith

pub back_edge : (f : ℕ) {e : ℕ} → Edge e → Edge (back_over f e)
back_edge f {e} d = let l = edge_low d in let b = back_range f e l.0 l.1 in edge_of _ b.0 b.1

-- what a step lays out with n more in each is the triple itself
laid : (q : Place) (h a b c x y z n : ℕ) → q ≡ place h (reduced a b c) → a ≡ x + n → b ≡ y + n → c ≡ z + n → least x y z ≡ 0 → q ≡ at h x y z
laid q h a b c x y z n e p r s flat =
    e ∙ ap (place h) (reduced_shift a b c x y z 0 n (omega arith) (omega arith) (omega arith) ∙ reduced_idle (coord x y z) flat)

module _ (f x y u : ℕ) (first : x ≤ 2 * u) (second : y ≤ 2 * u) where
  over_ij : (b : Bool) → polar f ≡ b → step_of (point f 1 x y) 1 u ≡ point (face_over f 1) (pick b 2 1) (2 * u - x) (2 * u - y)
  over_ij true h = laid _ _ _ _ _ _ _ _ (x + y) (step_1 (at f x y 0) 1 u 2 0 2 (polar_ij f h)) (omega arith) (omega arith) (omega arith) (omega arith)
  over_ij false h = laid _ _ _ _ _ _ _ _ (x + y) (step_3 (at f x y 0) 1 u 2 2 0 (equator_ij f h)) (omega arith) (omega arith) (omega arith) (omega arith)

  over_ki : (b : Bool) → polar f ≡ b → step_of (point f 2 x y) 2 u ≡ point (face_over f 2) (pick b 1 2) (2 * u - x) (2 * u - y)
  over_ki true h = laid _ _ _ _ _ _ _ _ (x + y) (step_5 (at f y 0 x) 2 u 2 2 0 (polar_ki f h)) (omega arith) (omega arith) (omega arith) (omega arith)
  over_ki false h = laid _ _ _ _ _ _ _ _ (x + y) (step_3 (at f y 0 x) 2 u 2 0 2 (equator_ki f h)) (omega arith) (omega arith) (omega arith) (omega arith)

  over_jk : step_of (point f 3 x y) 3 u ≡ point (face_over f 3) 3 (2 * u - x) (2 * u - y)
  over_jk = laid _ _ _ _ _ _ _ _ (x + y) (step_3 (at f 0 x y) 3 u 0 2 2 (jk_move f)) (omega arith) (omega arith) (omega arith) (omega arith)

  -- once over the edge: m less each of the two numbers, where neither is above m
  pub mirrored : {e : ℕ} → Edge e → step_of (point f e x y) e u ≡ point (face_over f e) (back_over f e) (2 * u - x) (2 * u - y)
  mirrored ij = over_ij (polar f) refl
  mirrored ki = over_ki (polar f) refl
  mirrored jk = over_jk

-- a point on the edge itself only has its two numbers exchanged
pub exchanged : (f x y u : ℕ) {e : ℕ} → Edge e → x + y ≡ 2 * u → step_of (point f e x y) e u ≡ point (face_over f e) (back_over f e) y x
exchanged f x y u {e} d s =
    let a : 2 * u - x ≡ y = omega arith in
    let b : 2 * u - y ≡ x = omega arith in
    mirrored f x y u (omega arith) (omega arith) d ∙ (λ n. point (face_over f e) (back_over f e) (a n) (b n))

-- So one crossing is enough for a place that has no coordinate above m.
module _ (g : Grid) (sound : Sound g) (f : ℕ) where
  lands_over : (x y : ℕ) {e : ℕ} → Edge e → x ≤ g.limit → y ≤ g.limit → g.limit < x + y → sum_at (step_of (point f e x y) e g.unit) ≤ g.limit
  lands_over x y {e} d a b far =
      let m = sound.twice in
      let u = g.unit in
      let s = ap sum_at (mirrored f x y u (omega arith) (omega arith) d) ∙ point_sum (face_over f e) (2 * u - x) (2 * u - y) (back_edge f d) in
      omega arith

  lands_from : (p : Place) (x y : ℕ) {e : ℕ} → Edge e → p ≡ point f e x y → edge_out p ≡ e → x ≤ g.limit → y ≤ g.limit → g.limit < x + y → sum_at (step_out false g p) ≤ g.limit
  unfolding step_out
  lands_from p x y d is out a b far =
      let same : sum_at (step_out false g p) ≡ _ = λ n. sum_at (step_of (is n) (out n) g.unit) in
      let l = lands_over x y d a b far in
      omega arith

  lands_at : (i j k : ℕ) → least i j k ≡ 0 → i ≤ g.limit → j ≤ g.limit → k ≤ g.limit → g.limit < i + j + k → sum_at (step_out false g (at f i j k)) ≤ g.limit
  lands_at i j k flat a b c far =
      elim (dec_lt 0 k) [
        | yes h ↦ elim (dec_lt 0 j) [
          | yes l ↦ let z : i ≡ 0 = omega arith in lands_from (at f i j k) j k jk (λ n. at f (z n) j k) (simp (lt-ltb 0 k h, lt-ltb 0 j l)) b c (omega arith)
          | no l ↦ let z : j ≡ 0 = omega arith in lands_from (at f i j k) k i ki (λ n. at f i (z n) k) (simp (lt-ltb 0 k h, le-ltb 0 j (omega arith))) c a (omega arith)
        ]
        | no h ↦ let z : k ≡ 0 = omega arith in lands_from (at f i j k) i j ij (λ n. at f i j (z n)) (simp (le-ltb 0 k (omega arith))) a b (omega arith)
      ]

pub lands : (g : Grid) → Sound g → (p : Place) → least_of (coord_of p) ≡ 0 → p.i ≤ g.limit → p.j ≤ g.limit → p.k ≤ g.limit → g.limit < sum_at p → sum_at (step_out false g p) ≤ g.limit
lands g sound p flat a b c far = lands_at g sound p.face p.i p.j p.k flat a b c far
