-- Settling: it ends within the limit, and its count is that of the steps made. Assumes nothing.
use mathlib.Core.Path.{◌≡◌, refl, sym, ap, ◌∙◌}
use mathlib.Core.Bool.{Bool, true, false}
use Prim.Native.Nat.{ℕ, zero, suc, ◌+◌, ◌-◌, ◌*◌, ◌/◌, ◌≤◌, ◌<◌}
use native.Mathlib.Nat.{mul-le-mul, mul-le-mul_left, le-div_iff_mul-le}
use native.Mathlib.Decide.{dec_lt}
use native.Mathlib.Omega.{arith}
use lib.Dec.{ltb}
use borrow.Author.Tests.{lt-ltb, le-ltb}
use Rattle.reply.specs.Choice.{pick}
use Rattle.level.specs.declared.Grid.{Grid}
use Rattle.level.specs.Levels.{Sound}
use Rattle.coordijk.specs.Coordinates.{least_of, largest_of, reduced, Q}
use Rattle.faceijk.specs.declared.Place.{Place}
use Rattle.faceijk.specs.declared.Landed.{Landed}
use Rattle.faceijk.specs.declared.Rested.{Rested}
use Rattle.faceijk.specs.declared.Overage.TheVariants.{FaceEdge, NewFace}
use Rattle.faceijk.specs.Places.{coord_of, sum_at, QAt, Okay}
use Rattle.faceijk.specs.Faces.{face_over}
use Rattle.faceijk.specs.Steps.{step_of}
use Rattle.faceijk.specs.Crossing.{edge_out, on_edge, step_out, landed, crossing_of, rested, follow, settle_from}
use Rattle.faceijk.specs.Walking.{Walk, rest, over}
use Rattle.faceijk.proofs.Crossing.{stays_on_edge, stays, goes, off_edge, edge_sum}
use Rattle.faceijk.proofs.Faces.{mate_over}
use Rattle.faceijk.proofs.Taking.{edge_range}
use Rattle.faceijk.proofs.Nearer.{Nearer, nearer}

module _ (g : Grid) where
  abbrev after : ℕ → Place → ℕ → Landed → Rested
  after t p n c = follow (settle_from t g) (ltb g.limit (sum_at p)) c.overage c.place n

  -- within the limit settling rests, with any fuel
  pub rests : (t : ℕ) (p : Place) (n : ℕ) → sum_at p ≤ g.limit → settle_from t g p n ≡ rested p n
  unfolding settle_from
  rests zero p n h = refl
  rests (suc t) p n h = go (on_edge g p) refl
    where
      go : (b : Bool) → b ≡ on_edge g p → after t p n (crossing_of false g p) ≡ rested p n
      go true e =
          sym (ap (after t p n) (stays_on_edge false g p true e refl)) ∙
          simp (le-ltb g.limit (sum_at p) h)
      go false e = sym (ap (after t p n) (stays false g p false e refl h))

  -- beyond it, it steps and goes on
  pub steps : (t : ℕ) (p : Place) (n : ℕ) → g.limit < sum_at p → settle_from (suc t) g p n ≡ settle_from t g (step_out false g p) (n + 1)
  unfolding settle_from
  steps t p n h = go (on_edge g q) refl
    where
      q : Place
      q = step_out false g p

      came : (d : Bool) → d ≡ on_edge g q → landed q (pick d FaceEdge NewFace) ≡ crossing_of false g p
      came d e = goes false g p false (sym (off_edge g p h)) refl h q d refl e

      go : (d : Bool) → d ≡ on_edge g q → after t p n (crossing_of false g p) ≡ settle_from t g q (n + 1)
      go true e =
          sym (ap (after t p n) (came true e)) ∙
          simp (lt-ltb g.limit (sum_at p) h) (sym (rests t q (n + 1) (omega (arith, edge_sum g q (sym e)))))
      go false e = sym (ap (after t p n) (came false e))

-- a step beyond the limit, of a sound grid
module _ (g : Grid) (sound : Sound g) (p : Place) (far : g.limit < sum_at p) (flat : least_of (coord_of p) ≡ 0) where
  pub closer : Nearer p (step_out false g p) g.limit
  unfolding step_out
  closer = rw sound.twice (nearer p g.unit (omega (arith, sound.twice)) flat)

  -- it lowers Q by the limit at the least
  pub lower : QAt (step_out false g p) + g.limit ≤ QAt p
  lower =
      let d = sum_at p - g.limit in
      let one : 1 ≤ d = omega arith in
      omega (arith, closer.drop, mul-le-mul_left g.limit one)

-- what demand 3 says of a walk
pub record Settles (g : Grid) (p : Place) (n : ℕ) (q : Place) : Type 0 where
  pub inside : sum_at q ≤ g.limit
  pub count : n * g.limit + QAt q ≤ QAt p
  pub no_larger : largest_of (coord_of q) ≤ largest_of (coord_of p)
  pub still : least_of (coord_of q) ≡ 0

pub settles : {g : Grid} {p : Place} {n : ℕ} {q : Place} → Sound g → Walk g p n q → least_of (coord_of p) ≡ 0 → Settles g p n q
settles sound (rest h) flat = record { inside = h; count = omega arith; no_larger = omega arith; still = flat }
settles {g} {p} sound (over {n = n} h w) flat =
    let c = closer g sound p h flat in
    let s = settles sound w c.flat in
    record {
      inside = s.inside;
      count = omega (arith, s.count, lower g sound p h flat);
      no_larger = omega (arith, s.no_larger, c.no_larger);
      still = s.still;
    }

-- at most Q / m steps
pub at_most : {g : Grid} {p : Place} {n : ℕ} {q : Place} → Sound g → Walk g p n q → least_of (coord_of p) ≡ 0 → n ≤ QAt p / g.limit
at_most {g} {p} {n} sound w flat =
    let below : n * g.limit ≤ QAt p = omega (arith, (settles sound w flat).count) in
    let some : 0 < g.limit = omega (arith, sound.twice, sound.some) in
    (le-div_iff_mul-le some).1 below

-- settling reports the end and the number of steps of the walk from p
pub walks : (g : Grid) → Sound g → (t : ℕ) (p : Place) (n : ℕ) → least_of (coord_of p) ≡ 0 → QAt p ≤ t → (k : ℕ) × (q : Place) × (settle_from t g p n ≡ rested q (n + k)) × Walk g p k q
walks g sound zero p n flat h =
    elim (dec_lt g.limit (sum_at p)) [
      | yes far ↦ absurd (omega (arith, lower g sound p far flat, sound.twice, sound.some))
      | no near ↦ (0, p, rests g 0 p n (omega arith) ∙ ap (rested p) (omega arith), rest {p = p} (omega arith))
    ]
walks g sound (suc t) p n flat h =
    elim (dec_lt g.limit (sum_at p)) [
      | yes far ↦
          let w = walks g sound t (step_out false g p) (n + 1) (closer g sound p far flat).flat (omega (arith, lower g sound p far flat, sound.twice, sound.some)) in
          (suc w.0, w.1, steps g t p n far ∙ (w.2 ∙ ap (rested w.1) (omega arith)), over far w.3)
      | no near ↦ (0, p, rests g (suc t) p n (omega arith) ∙ ap (rested p) (omega arith), rest {p = p} (omega arith))
    ]

-- there is one walk from a place
pub one_walk : {g : Grid} {p : Place} {n : ℕ} {q : Place} {k : ℕ} {r : Place} → Walk g p n q → Walk g p k r → (n ≡ k) × (q ≡ r)
one_walk (rest a) (rest b) = (refl, refl)
one_walk (rest a) (over b w) = absurd (omega arith)
one_walk (over a v) (rest b) = absurd (omega arith)
one_walk (over a v) (over b w) = let e = one_walk v w in (ap suc e.0, e.1)

-- a step beyond the limit keeps the place within what is taken
pub face_out : (g : Grid) (p : Place) → (step_out false g p).face ≡ face_over p.face (edge_out p)
unfolding step_out step_of reduced
face_out g p = refl

pub okay_out : (g : Grid) → Sound g → (p : Place) → Okay p → g.limit < sum_at p → Okay (step_out false g p)
okay_out g sound p o far =
    let c = closer g sound p far o.taken.flat in
    let e = edge_range p in
    let on = (mate_over (edge_out p) e.0 e.1 p.face o.on).over in
    record { on = omega (arith, face_out g p); taken = record { flat = c.flat; low = omega (arith, c.no_larger, o.taken.low) } }

Q_small : (p : Place) → Okay p → QAt p ≤ 13510798882111488
unfolding Q
Q_small p o =
    let l = o.taken.low in
    let i : p.i ≤ 67108864 = omega arith in
    let j : p.j ≤ 67108864 = omega arith in
    let k : p.k ≤ 67108864 = omega arith in
    omega (arith, mul-le-mul i i, mul-le-mul j j, mul-le-mul k k)

-- n steps of settling from p₀ have led to p; what is left of the settling is the whole of it
pub record Going (g : Grid) (p₀ p : Place) (n : ℕ) : Type 0 where
  pub sound : Sound g
  pub first : Okay p₀
  pub okay : Okay p
  pub spent : n * g.limit + QAt p ≤ QAt p₀
  pub same : settle_from (QAt p₀ - n) g p n ≡ settle_from (QAt p₀) g p₀ 0

pub going : (g : Grid) (p : Place) → Sound g → Okay p → Going g p p 0
going g p s o =
    let none : QAt p - 0 ≡ QAt p = omega arith in
    record { sound = s; first = o; okay = o; spent = omega arith; same = ap (λ (t : ℕ). settle_from t g p 0) none }

module _ (g : Grid) (p₀ p : Place) (n : ℕ) (now : Going g p₀ p n) where
  some : 0 < g.limit
  some = omega (arith, now.sound.twice, now.sound.some)

  pub going_few : n + 1 < 18446744073709551616
  going_few = omega (arith, now.spent, mul-le-mul_left n some, Q_small p₀ now.first)

  module _ (far : g.limit < sum_at p) (q : Place) (e : q ≡ step_out false g p) where
    fall : QAt (step_out false g p) + g.limit ≤ QAt p
    fall = lower g now.sound p far now.okay.taken.flat

    pub going_less : QAt q < QAt p
    going_less = rw e (omega (arith, fall, some))

    pub going_on : Going g p₀ q (n + 1)
    going_on =
        let more : n + 1 ≤ QAt p₀ = omega (arith, fall, now.spent, mul-le-mul_left n some, some) in
        let one : suc (QAt p₀ - (n + 1)) ≡ QAt p₀ - n = omega arith in
        record {
          sound = now.sound;
          first = now.first;
          okay = rw e (okay_out g now.sound p now.okay far);
          spent = rw e (omega (arith, fall, now.spent));
          same = rw e (sym (steps g (QAt p₀ - (n + 1)) p n far) ∙ (ap (λ (t : ℕ). settle_from t g p n) one ∙ now.same));
        }

  pub going_end : sum_at p ≤ g.limit → rested p n ≡ settle_from (QAt p₀) g p₀ 0
  going_end h = sym (rests g (QAt p₀ - n) p n h) ∙ now.same
