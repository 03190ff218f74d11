-- What the nearest of the faces 0 .. f is: one of them, none is strictly nearer, and each lower one is strictly farther. Assumes nothing.
use mathlib.Core.Path.{◌≡◌, refl, sym, subst, ◌∙◌}
use mathlib.Core.Bool.{Bool, true, false}
use mathlib.Core.Logic.{⊎_elim}
use mathlib.Core.List.{List}
use Prim.Native.Nat.{ℕ, zero, suc, ◌+◌, ◌≤◌, ◌<◌, zero-le}
use native.Mathlib.Numerals.{add-one}
use native.Mathlib.Nat.{le_refl, le-suc, le_trans, le_of_suc-le-suc, eq-or-lt_of_le, not-suc-le-zero}
use native.Mathlib.Omega.{arith}
use lib.Ieee.{Float, lt}
use Rattle.reply.specs.Choice.{pick}
use Rattle.double.specs.Double.{finite}
use Rattle.vec3d.specs.declared.Vec3d.{Vec3d}
use Rattle.vec3d.specs.declared.Nearest.{Nearest}
use Rattle.vec3d.specs.Vectors.{bad_number, off_sphere}
use Rattle.vec3d.specs.Frame.{bad_frame}
use Rattle.vec3d.specs.Nearest.{distance_of, closer_of, nearest_by, nearest_to}
use Rattle.vec3d.specs.AsAsked.{pair_of, distance_at, Distances, NearestIf}
use Rattle.vec3d.proofs.Passing.{passed_both}
use Rattle.vec3d.proofs.Sizes.{distance_under}
use Rattle.vec3d.proofs.Comparing.{below_all, not_both, not_itself}

-- what holds of both holds of the one that a test picks
either : {A : Type 0} (P : A → Type 0) (b : Bool) {x y : A} → P x → P y → P (pick b x y)
either P true p q = p
either P false p q = q

pub nearest_in : (s : List Float) (p : Vec3d) (f : ℕ) → (nearest_to s p f).face ≤ f
unfolding nearest_by closer_of
nearest_in s p zero = zero-le
nearest_in s p (suc f) =
    either (λ (b : Nearest). b.face ≤ suc f) (lt (distance_of s p (suc f)) (nearest_to s p f).distance)
    (le_refl (suc f)) (le_trans (nearest_in s p f) (le-suc f))

-- of distances d, one a face, the face and distance that the paper names among the faces 0 .. f
pub record Wins (d : ℕ → Float) (f : ℕ) (best : Nearest) : Type 0 where
  pub within : best.face ≤ f
  pub own : best.distance ≡ d best.face
  pub least : (k : ℕ) → k ≤ f → lt (d k) best.distance ≡ false
  pub lowest : (k : ℕ) → k < best.face → lt best.distance (d k) ≡ true

module _ (d : ℕ → Float) (f : ℕ) (known : (k : ℕ) → k ≤ suc f → finite (d k) ≡ true) (best : Nearest) (w : Wins d f best) where
  best_finite : finite best.distance ≡ true
  best_finite = subst (λ (x : Float). finite x ≡ true) (sym w.own) (known best.face (le_trans w.within (le-suc f)))

  -- a new face that is strictly nearer is strictly nearer than all before it
  beats : lt (d (suc f)) best.distance ≡ true → (k : ℕ) → k ≤ f → lt (d (suc f)) (d k) ≡ true
  beats e k h = below_all (d (suc f)) best.distance (d k) (known (suc f) (le_refl (suc f))) best_finite (known k (le_trans h (le-suc f))) e (w.least k h)

  new_wins : lt (d (suc f)) best.distance ≡ true → Wins d (suc f) (record { face = suc f; distance = d (suc f) })
  new_wins e =
      record {
        within = le_refl (suc f);
        own = refl;
        least = λ k h. ⊎_elim (λ q. subst (λ (i : ℕ). lt (d i) (d (suc f)) ≡ false) (sym q) (not_itself (d (suc f)) (known (suc f) (le_refl (suc f)))))
            (λ l. not_both (d (suc f)) (d k) (known (suc f) (le_refl (suc f))) (known k h) (beats e k (le_of_suc-le-suc l))) (eq-or-lt_of_le h);
        lowest = λ k h. beats e k (le_of_suc-le-suc h);
      }

  old_wins : lt (d (suc f)) best.distance ≡ false → Wins d (suc f) best
  old_wins e =
      record {
        within = le_trans w.within (le-suc f);
        own = w.own;
        least = λ k h. ⊎_elim (λ q. subst (λ (i : ℕ). lt (d i) best.distance ≡ false) (sym q) e) (λ l. w.least k (le_of_suc-le-suc l)) (eq-or-lt_of_le h);
        lowest = w.lowest;
      }

  closer_wins : Wins d (suc f) (closer_of best (suc f) (d (suc f)))
  unfolding closer_of
  closer_wins = go (lt (d (suc f)) best.distance) new_wins old_wins
    where
      go : (b : Bool) → (b ≡ true → Wins d (suc f) (record { face = suc f; distance = d (suc f) })) → (b ≡ false → Wins d (suc f) best)
          → Wins d (suc f) (pick b (record { face = suc f; distance = d (suc f) }) best)
      go true yes_new no_new = yes_new refl
      go false yes_new no_new = no_new refl

wins : (d : ℕ → Float) (f : ℕ) → ((k : ℕ) → k ≤ f → finite (d k) ≡ true) → Wins d f (nearest_by d f)
unfolding nearest_by
wins d zero known =
    record {
      within = le_refl zero;
      own = refl;
      least = λ k h. subst (λ (i : ℕ). lt (d i) (d 0) ≡ false) (omega arith) (not_itself (d 0) (known 0 zero-le));
      lowest = λ k h. absurd (not-suc-le-zero h);
    }
wins d (suc f) known = closer_wins d f known (nearest_by d f) (wins d f (λ k h. known k (le_trans h (le-suc f))))

-- With a frame and a vector that pass, no face is strictly nearer than the one named, and each lower face is strictly farther.
pub nearest_wins : (s : List Float) (p : Vec3d) → bad_frame s ≡ false → bad_number p ≡ false → off_sphere p ≡ false → Wins (distance_of s p) 19 (nearest_to s p 19)
nearest_wins s p e b o = wins (distance_of s p) 19 (λ k h. (distance_under s p k e b o (omega arith)).number)

-- ---- two faces at a time

module _ (a b c : Float) (A : finite a ≡ true) (B : finite b ≡ true) (C : finite c ≡ true) where
  lt_trans : lt b a ≡ true → lt a c ≡ true → lt b c ≡ true
  lt_trans e h = below_all b a c B A C e (not_both a c A C h)

  not_lt_trans : lt b a ≡ false → lt a c ≡ false → lt b c ≡ false
  not_lt_trans e h = go (lt b c) refl
    where
      go : (t : Bool) → lt b c ≡ t → t ≡ false
      go true k = sym (below_all b c a B C A k h) ∙ e
      go false k = refl

-- The nearer one of two faces against the best so far is one after the other.
module _ (best : Nearest) (f g : ℕ) (d e : Float) (D : finite d ≡ true) (E : finite e ≡ true) (B : finite best.distance ≡ true) where
  abbrev first : Nearest
  first = record { face = f; distance = d }

  abbrev second : Nearest
  second = record { face = g; distance = e }

  tournament : closer_of best (closer_of first g e).face (closer_of first g e).distance ≡ closer_of (closer_of best f d) g e
  unfolding closer_of
  tournament = go (lt d best.distance) (lt e d) refl refl
    where
      go : (x y : Bool) → lt d best.distance ≡ x → lt e d ≡ y
          → pick (lt (pick y second first).distance best.distance) (record { face = (pick y second first).face; distance = (pick y second first).distance }) best
          ≡ pick (lt e (pick x first best).distance) second (pick x first best)
      go true true p q = rw (lt_trans d e best.distance D E B q p, q)
      go true false p q = rw (p, q)
      go false true p q = refl
      go false false p q = rw (p, not_lt_trans d e best.distance D E B q p)

pub first_pair : (d : ℕ → Float) → pair_of d 0 ≡ nearest_by d 1
unfolding pair_of nearest_by
first_pair d = refl

module _ (d : ℕ → Float) (known : (k : ℕ) → k < 20 → finite (d k) ≡ true) where
  best_known : (f : ℕ) → f < 20 → finite (nearest_by d f).distance ≡ true
  best_known f h =
      let w = wins d f (λ k l. known k (omega arith)) in
      subst (λ (x : Float). finite x ≡ true) (sym w.own) (known (nearest_by d f).face (omega (arith, w.within)))

  pub by_pairs : (f : ℕ) (best : Nearest) → f + 2 < 20 → best ≡ nearest_by d f
      → closer_of best (pair_of d (f + 1)).face (pair_of d (f + 1)).distance ≡ nearest_by d (f + 1 + 1)
  unfolding pair_of nearest_by
  by_pairs f best h e =
      rw (e, add-one, add-one)
      (tournament (nearest_by d f) (suc f) (suc (suc f)) (d (suc f)) (d (suc (suc f))) (known (suc f) (omega arith)) (known (suc (suc f)) (omega arith))
      (best_known f (omega arith)))

-- ---- the distances as the code holds them

same_nearest : (d e : ℕ → Float) (f : ℕ) → ((k : ℕ) → k ≤ f → d k ≡ e k) → nearest_by d f ≡ nearest_by e f
unfolding nearest_by
same_nearest d e zero h = rw (h 0 zero-le)
same_nearest d e (suc f) h = rw (same_nearest d e f (λ k l. h k (le_trans l (le-suc f))), h (suc f) (le_refl (suc f)))

-- The nearest of twenty distances, if they are numbers, is the nearest face of a frame and a vector that pass.
pub nearest_held : (s : List Float) (p : Vec3d) (far : List Float) (n : Nearest) → Distances s p far
    → (((k : ℕ) → k < 20 → finite (distance_at far k) ≡ true) → n ≡ nearest_by (distance_at far) 19) → NearestIf s p n
nearest_held s p far n h found frame fine =
    let b = passed_both p fine in
    found (λ k l. rw (h.each k l) (distance_under s p k frame b.0 b.1 l).number) ∙ same_nearest (distance_at far) (distance_of s p) 19 (λ k l. h.each k (omega arith))
