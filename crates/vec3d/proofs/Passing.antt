-- What is known of a frame that has passed its test, and of a vector that has. Assumes nothing.
use mathlib.Core.Path.{◌≡◌, sym, subst}
use mathlib.Core.Bool.{Bool, true, false, not}
use mathlib.Core.Logic.{⊎_elim}
use mathlib.Core.List.{List}
use Prim.Native.Nat.{ℕ, zero, suc, ◌+◌, ◌<◌}
use native.Mathlib.Nat.{le_of_suc-le-suc, not-suc-le-zero, eq-or-lt_of_le}
use native.Mathlib.Omega.{arith}
use lib.Dec.{eqb}
use lib.ListN.{length, get_or}
use lib.Ieee.{Float, nan}
use borrow.Author.Tests.{eqb-true, not-false}
use Rattle.reply.specs.Replies.{fine}
use Rattle.reply.specs.declared.Refusal.TheVariants.{BadNumber, OffSphere}
use Rattle.reply.proofs.Entries.{neither, passed}
use Rattle.double.specs.Double.{finite}
use Rattle.vec3d.specs.declared.Vec3d.{Vec3d}
use Rattle.vec3d.specs.Vectors.{bad_number, off_sphere, vector_verdict}
use Rattle.vec3d.specs.Frame.{vec_at, some_below, non_finite, bad_axes, bad_frame}

-- where a test finds none of the numbers below n, it fails at each
pub none_at : (test : ℕ → Bool) (n k : ℕ) → some_below test n ≡ false → k < n → test k ≡ false
unfolding some_below
none_at test zero k e h = absurd (not-suc-le-zero h)
none_at test (suc n) k e h =
    let e' = neither (some_below test n) (test n) e in
    ⊎_elim (λ q. subst (λ (i : ℕ). test i ≡ false) (sym q) e'.1) (none_at test n k e'.0) (eq-or-lt_of_le (le_of_suc-le-suc h))

module _ (s : List Float) (clear : bad_frame s ≡ false) where
  -- A frame that has passed has 180 numbers.
  pub passed_long : length s ≡ 180
  unfolding bad_frame
  passed_long = eqb-true _ _ (not-false _ (neither (not (eqb (length s) 180)) _ clear).0)

  -- Each of its faces has passed.
  pub passed_face : (f : ℕ) → f < 20 → bad_axes s f ≡ false
  unfolding bad_frame
  passed_face f h =
      none_at (bad_axes s) 20 f (neither (non_finite s) (some_below (bad_axes s) 20) (neither (not (eqb (length s) 180)) _ clear).1).1 h

  -- Each of its numbers is finite.
  pub passed_number : (k : ℕ) → k < 180 → finite (get_or s k nan) ≡ true
  unfolding bad_frame non_finite
  passed_number k h =
      let numbers = (neither (non_finite s) (some_below (bad_axes s) 20) (neither (not (eqb (length s) 180)) _ clear).1).0 in
      not-false _ (none_at (λ (n : ℕ). not (finite (get_or s n nan))) (length s) k numbers (omega (arith, passed_long)))

  -- So none of its vectors has a bad number.
  pub passed_vector : (at : ℕ) → at + 2 < 180 → bad_number (vec_at s at) ≡ false
  unfolding bad_number vec_at
  passed_vector at h =
      rw (passed_number at (omega arith), passed_number (at + 1) (omega arith), passed_number (at + 2) (omega arith))

-- A vector whose verdict is clear has finite parts and is on the sphere.
pub passed_both : (p : Vec3d) → vector_verdict p ≡ fine → (bad_number p ≡ false) × (off_sphere p ≡ false)
passed_both p e =
    let q = passed (bad_number p) BadNumber _ e in
    (q.0, (passed (off_sphere p) OffSphere fine q.1).0)
