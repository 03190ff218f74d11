-- Where corners come to rest: on their face, but for a hexagon that is asked for where a pentagon lies. Assumes nothing.
use mathlib.Core.Path.{◌≡◌, refl, sym, ap, ◌∙◌, subst}
use mathlib.Core.Bool.{Bool, true, false}
use Prim.Native.Nat.{ℕ, ◌+◌, ◌-◌, ◌*◌, ◌/◌, ◌≤◌, ◌<◌}
use native.Mathlib.Decide.{dec_lt}
use native.Mathlib.Omega.{arith}
use lib.Dec.{T, ltb, eqb, eqb→eq}
use borrow.Author.Tests.{ltb-true, ltb-false, eqb-true, eqb-false}
use Rattle.reply.specs.Choice.{pick}
use Rattle.reply.specs.Replies.{first, fine}
use Rattle.reply.proofs.Entries.{both}
use Rattle.level.specs.declared.Grid.{Grid}
use Rattle.level.specs.Levels.{raised_of, limit_of, Sound}
use Rattle.level.proofs.Computed.{at}
use Rattle.coordijk.specs.declared.CoordIJK.{CoordIJK}
use Rattle.coordijk.specs.Coordinates.{coord, least, reduced, sum_of, Taken}
use Rattle.coordijk.proofs.Reducing.{reduced_same, reduced_low}
use Rattle.faceijk.specs.declared.Place.{Place}
use Rattle.faceijk.specs.Places.{coord_of, sum_at, QAt, Okay}
use Rattle.faceijk.specs.Crossing.{on_edge, step_out, landed, arrived, crossing_of, settle_from}
use Rattle.faceijk.specs.declared.Overage.TheVariants.{None, FaceEdge}
use Rattle.faceijk.proofs.Taking.{sound_at}
use Rattle.faceijk.proofs.Edges.{lands}
use Rattle.faceijk.proofs.Settling.{walks, settles}
use Rattle.boundary.specs.declared.Shape.{Shape}
use Rattle.boundary.specs.Corners.{class_iii, through_apertures, offset_of, corner_of}
use Rattle.boundary.specs.Landing.{cell_of, substrate_of, corner_place, crossed_once, settled_at, land_from, vertex_of, land_at}
use Rattle.boundary.specs.Boundaries.{boundary_reasons, asked_shape}
use Rattle.boundary.specs.AsWalked.{Fit}
use Rattle.boundary.proofs.Apertures.{tripled, seven, then_seven, widest, offset_within}
use Rattle.boundary.proofs.Cells.{substrate_limit}
use Rattle.boundary.proofs.Landing.{six, vertex_low, corner_okay, land_okay}
use Rattle.boundary.proofs.CornerFaces.{asked_of, asked_fit}

-- ---- a centre that is no corner of its face keeps away from the corners

-- no coordinate is m
pub record NoCorner (m : ℕ) (c : CoordIJK) : Type 0 where
  pub not_i : c.i ≡ m → ⊥
  pub not_j : c.j ≡ m → ⊥
  pub not_k : c.k ≡ m → ⊥

-- each coordinate is n below m
record Below (n m : ℕ) (c : CoordIJK) : Type 0 where
  i_below : c.i + n ≤ m
  j_below : c.j + n ≤ m
  k_below : c.k + n ≤ m

-- Class II: all are multiples of 3
below_3 : (c : CoordIJK) (m : ℕ) → let r = coord (3 * c.i) (3 * c.j) (3 * c.k) in NoCorner (3 * m) r → sum_of r ≤ 3 * m → Below 3 (3 * m) r
below_3 c m n near =
    let i = n.not_i in
    let j = n.not_j in
    let k = n.not_k in
    record { i_below = omega arith; j_below = omega arith; k_below = omega arith }

-- Class III: all are multiples of 3, and of the thirds x + 4y + 2z is a multiple of 7, as the limit is. So no third is 1 below it
no_seven : (r v w : ℕ) → 0 < r → r < 7 → 7 * v + r ≡ 7 * w → ⊥
no_seven r v w h l e = omega arith

at_most_one : (p q : ℕ) → p + q ≤ 1 → (p ≡ 0 → q ≡ 0 → ⊥) → (p ≡ 1 → q ≡ 0 → ⊥) → (p ≡ 0 → q ≡ 1 → ⊥) → ⊥
at_most_one p q h a b c =
    elim (dec_lt 0 p) [
      | yes l ↦ b (omega arith) (omega arith)
      | no l ↦ elim (dec_lt 0 q) [
        | yes m ↦ c (omega arith) (omega arith)
        | no m ↦ a (omega arith) (omega arith)
      ]
    ]

module _ (a b c l x y z t : ℕ) (xs : x + l ≡ 3 * a + c) (ys : y + l ≡ 3 * b + a) (zs : z + l ≡ 3 * c + b) (near : x + y + z ≤ 7 * t) where
  sevens : x + 4 * y + 2 * z + 7 * l ≡ 7 * (a + 2 * b + c)
  sevens = omega arith

  apart_i : x + 1 ≡ 7 * t → ⊥
  apart_i e =
      let s = sevens in
      at_most_one y z (omega arith)
      (λ p q. no_seven 6 (t + l) (a + 2 * b + c + 1) (omega arith) (omega arith) (omega arith))
      (λ p q. no_seven 3 (t + l) (a + 2 * b + c) (omega arith) (omega arith) (omega arith))
      (λ p q. no_seven 1 (t + l) (a + 2 * b + c) (omega arith) (omega arith) (omega arith))

  apart_j : y + 1 ≡ 7 * t → ⊥
  apart_j e =
      let s = sevens in
      at_most_one x z (omega arith)
      (λ p q. no_seven 3 (4 * t + l) (a + 2 * b + c + 1) (omega arith) (omega arith) (omega arith))
      (λ p q. no_seven 4 (4 * t + l) (a + 2 * b + c + 1) (omega arith) (omega arith) (omega arith))
      (λ p q. no_seven 5 (4 * t + l) (a + 2 * b + c + 1) (omega arith) (omega arith) (omega arith))

  apart_k : z + 1 ≡ 7 * t → ⊥
  apart_k e =
      let s = sevens in
      at_most_one x y (omega arith)
      (λ p q. no_seven 5 (2 * t + l) (a + 2 * b + c + 1) (omega arith) (omega arith) (omega arith))
      (λ p q. no_seven 6 (2 * t + l) (a + 2 * b + c + 1) (omega arith) (omega arith) (omega arith))
      (λ p q. no_seven 2 (2 * t + l) (a + 2 * b + c) (omega arith) (omega arith) (omega arith))

  below_6 : NoCorner (3 * (7 * t)) (coord (3 * x) (3 * y) (3 * z)) → Below 6 (3 * (7 * t)) (coord (3 * x) (3 * y) (3 * z))
  below_6 n =
      let i = n.not_i in
      let j = n.not_j in
      let k = n.not_k in
      let p = apart_i in
      let q = apart_j in
      let r = apart_k in
      record { i_below = omega arith; j_below = omega arith; k_below = omega arith }

-- the centre after the apertures, on a grid whose limit is 3m
least_3 : (a b c : ℕ) → least (3 * a) (3 * b) (3 * c) ≡ 3 * least a b c
least_3 a b c = omega arith

less_3 : (a l n : ℕ) → n ≡ 3 * l → 3 * a - n ≡ 3 * (a - l)
less_3 a l n e = omega arith

thirds : (a b c : ℕ) → let l = least a b c in reduced (3 * a) (3 * b) (3 * c) ≡ coord (3 * (a - l)) (3 * (b - l)) (3 * (c - l))
unfolding reduced
thirds a b c =
    let e = least_3 a b c in
    λ n. coord (less_3 a (least a b c) _ e n) (less_3 b (least a b c) _ e n) (less_3 c (least a b c) _ e n)

apertures_odd : (c : CoordIJK) → Taken c → through_apertures true c ≡ reduced (3 * (3 * c.i + c.k)) (3 * (3 * c.j + c.i)) (3 * (3 * c.k + c.j))
apertures_odd c t =
    sym (then_seven c) ∙
    (sym (seven (through_apertures false c)) ∙
    (ap (λ (q : CoordIJK). reduced (3 * q.i + q.k) (3 * q.j + q.i) (3 * q.k + q.j)) (sym (tripled c t)) ∙ reduced_same (omega arith) (omega arith) (omega arith)))

-- it keeps farther away than any offset of a corner reaches: 3, and 6 at an odd level
abbrev slack : Bool → ℕ
slack odd = widest odd + 1

centre_below : (odd : Bool) (c : CoordIJK) (m t : ℕ) → Taken c → (odd ≡ true → m ≡ 7 * t) → NoCorner (3 * m) (through_apertures odd c) → sum_of (through_apertures odd c) ≤ 3 * m → Below (slack odd) (3 * m) (through_apertures odd c)
centre_below true c m t taken sevenths n near =
    let e = apertures_odd c taken ∙ thirds (3 * c.i + c.k) (3 * c.j + c.i) (3 * c.k + c.j) in
    let A = 3 * c.i + c.k in
    let B = 3 * c.j + c.i in
    let C = 3 * c.k + c.j in
    let l = least A B C in
    let m7 = sevenths refl in
    let low : sum_of (coord (3 * (A - l)) (3 * (B - l)) (3 * (C - l))) ≤ 3 * m = subst (λ (q : CoordIJK). sum_of q ≤ 3 * m) e near in
    rw (e, m7) (below_6 c.i c.j c.k l (A - l) (B - l) (C - l) t (omega arith) (omega arith) (omega arith) (omega arith) (subst (λ (q : CoordIJK). NoCorner (3 * (7 * t)) q) e (subst (λ (x : ℕ). NoCorner (3 * x) (through_apertures true c)) m7 n)))
centre_below false c m t taken sevenths n near =
    let e = sym (tripled c taken) in
    rw e (below_3 c m (subst (λ (q : CoordIJK). NoCorner (3 * m) q) e n) (subst (λ (q : CoordIJK). sum_of q ≤ 3 * m) e near))

-- 7 divides the limit of an odd cell level
abbrev sevenfold : ℕ → Bool
sevenfold l = pick (class_iii l) (eqb (limit_of (raised_of l) false) (7 * (limit_of (raised_of l) false / 7))) true

sevens_of : (l : ℕ) → l ≤ 15 → class_iii l ≡ true → limit_of (raised_of l) false ≡ 7 * (limit_of (raised_of l) false / 7)
unfolding limit_of
sevens_of l h odd = eqb→eq _ _ (subst (λ (b : Bool). T (pick b (eqb (limit_of (raised_of l) false) (7 * (limit_of (raised_of l) false / 7))) true)) odd (at sevenfold 16 tt l (omega arith)))

-- ---- so no coordinate of a corner is above the limit

corner_low : (odd : Bool) (c : CoordIJK) (m v : ℕ) → v < 6 → Below (slack odd) m c → let q = corner_of odd c v in (q.i ≤ m) × (q.j ≤ m) × (q.k ≤ m)
unfolding corner_of
corner_low odd c m v h b =
    let o = offset_within odd v h in
    let w = reduced_low (c.i + (offset_of odd v).i) (c.j + (offset_of odd v).j) (c.k + (offset_of odd v).k) in
    (omega (arith, w, o.i_upto, b.i_below), omega (arith, w, o.j_upto, b.j_below), omega (arith, w, o.k_upto, b.k_below))

-- ---- and so one crossing brings it home, as settling does any

at_most : {x y : ℕ} → x ≡ y → x ≤ y
at_most e = omega arith

once_home : (g : Grid) → Sound g → (p : Place) → Okay p → (p.i ≤ g.limit) × (p.j ≤ g.limit) × (p.k ≤ g.limit) → sum_at (crossing_of false g p).place ≤ g.limit
unfolding crossing_of
once_home g sound p o low = go (on_edge g p) (ltb g.limit (sum_at p)) refl refl
  where
    go : (a b : Bool) → on_edge g p ≡ a → ltb g.limit (sum_at p) ≡ b → sum_at (pick a (landed p FaceEdge) (pick b (arrived g (step_out false g p)) (landed p None))).place ≤ g.limit
    go true b h k = at_most (eqb-true (sum_at p) g.limit (both g.substrate (eqb (sum_at p) g.limit) h).1)
    go false true h k = lands g sound p o.taken.flat low.0 low.1 low.2 (ltb-true g.limit (sum_at p) k)
    go false false h k = ltb-false g.limit (sum_at p) k

settled_home : (g : Grid) → Sound g → (p : Place) → Okay p → sum_at (settle_from (QAt p) g p 0).place ≤ g.limit
settled_home g sound p o =
    let w = walks g sound (QAt p) p 0 o.taken.flat (omega arith) in
    rw w.2 (settles sound w.3 o.taken.flat).inside

-- a pentagon's corners all land on their face, a hexagon's where its centre is no corner of its face
module _ (sides : ℕ) (p : Place) (l start : ℕ) (fit : Fit (asked_shape sides p l start)) (taken : Taken (coord_of p)) (low : l ≤ 15) where
  abbrev s : Shape
  s = asked_shape sides p l start

  abbrev g : Grid
  g = substrate_of s.cell.level

  sound : Sound g
  sound = sound_at s.cell.level.0 true fit.solid.level

  hexagon_low : (v : ℕ) → v < 6 → NoCorner g.limit (coord_of s.cell.centre) → let q = corner_place s.cell v in (q.i ≤ g.limit) × (q.j ≤ g.limit) × (q.k ≤ g.limit)
  unfolding cell_of
  hexagon_low v h n =
      let m = limit_of (raised_of l) false in
      let e = substrate_limit (raised_of l) in
      let b = centre_below (class_iii l) (coord_of p) m (m / 7) taken (sevens_of l low) (subst (λ (x : ℕ). NoCorner x (through_apertures (class_iii l) (coord_of p))) e n) fit.near in
      rw e (corner_low (class_iii l) (through_apertures (class_iii l) (coord_of p)) (3 * m) v h b)

  pub lands_home : (s.sides ≡ 6 → NoCorner g.limit (coord_of s.cell.centre)) → (k : ℕ) → sum_at (land_at s k).place ≤ g.limit
  unfolding land_at land_from
  lands_home n k = go (eqb sides 5) refl
    where
      v : ℕ
      v = vertex_of s k

      corner : Place
      corner = corner_place s.cell (vertex_of s k)

      okay : Okay (corner_place s.cell (vertex_of s k))
      okay = corner_okay s (vertex_of s k) fit (vertex_low s k fit.solid)

      go : (b : Bool) → eqb sides 5 ≡ b → sum_at (pick b (settled_at g (corner_place s.cell (vertex_of s k))) (crossed_once g (corner_place s.cell (vertex_of s k)))).place ≤ g.limit
      go true e = settled_home g sound _ okay
      go false e = once_home g sound _ okay (hexagon_low (vertex_of s k) (vertex_low s k fit.solid) (n (six fit.solid (eqb-false sides 5 e))))

-- The same of every boundary whose tests found nothing: each of its corners is a place that is taken, with s at most m.
pub corners_home : (sides : ℕ) (p : Place) (l start n : ℕ) → 5 ≤ sides → sides ≤ 6 → first (boundary_reasons sides p l start n) ≡ fine → let s = asked_shape sides p l start in let g = substrate_of s.cell.level in
    (sides ≡ 6 → NoCorner g.limit (coord_of s.cell.centre)) → (k : ℕ) → Okay (land_at s k).place × (sum_at (land_at s k).place ≤ g.limit)
corners_home sides p l start n many few e apart k =
    let a = asked_of sides p l start n e in
    let fit = asked_fit sides p l start n many few e in
    (land_okay (asked_shape sides p l start) k fit, lands_home sides p l start fit a.taken a.level apart k)
