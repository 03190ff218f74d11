-- What a list that passes is known to have. Assumes nothing.
use mathlib.Core.Path.{◌≡◌}
use mathlib.Core.Bool.{true, false, not}
use mathlib.Core.List.{List}
use Prim.Native.Nat.{ℕ, ◌≤◌, ◌<◌}
use native.Mathlib.Omega.{arith}
use borrow.Author.Tests.{not-true, eqb-true, ltb-false}
use Rattle.level.specs.Levels.{bad_cell}
use Rattle.reply.proofs.Entries.{both}
use Rattle.region.specs.Lists.{record_at, start_of, level_of, count_of, wrong_length}
use Rattle.region.proofs.Every.{all_at, all_same}
use Rattle.region.proofs.Reading.{Long, long}
use Rattle.region_check.specs.Sound.{sound_to}
use Rattle.region_check.specs.Starts.{begins, splits}
use Rattle.region_check.specs.Checks.{face_at, start_right, starts_right, starts_split, passes}
use Rattle.region_check.proofs.Sorted.{small_at, rising_faces}
use Rattle.region_check.proofs.Begins.{Parts, begins_parts, splits_right}

-- where the records stand in order, the code's test of the starts is the rule's
pub starts_same : (s : List ℕ) → sound_to (record_at s) (count_of s) ≡ true → starts_split s ≡ starts_right s
unfolding starts_split starts_right
starts_same s sound =
    all_same (λ f. splits (face_at s) (count_of s) f (start_of s f)) (start_right s) 20
    (λ f h. splits_right (face_at s) (count_of s) (rising_faces (record_at s) (count_of s) sound) (λ n l. (small_at (record_at s) (count_of s) sound n l).face) f (start_of s f) (omega arith))

pub record Passed (s : List ℕ) : Type 0 where
  pub is_long : Long s
  pub sound : sound_to (record_at s) (count_of s) ≡ true
  pub starts : starts_right s ≡ true
  pub level : level_of s ≤ 15
  pub tested : wrong_length s ≡ false

pub passed_all : (s : List ℕ) → passes s ≡ true → Passed s
unfolding passes
passed_all s e =
    let a = both (not (wrong_length s)) _ e in
    let b = both (sound_to (record_at s) (count_of s)) _ a.1 in
    let c = both (starts_right s) (not (bad_cell (level_of s))) b.1 in
    let w = not-true (wrong_length s) a.0 in
    record { is_long = long s w; sound = b.0; starts = c.0; level = ltb-false 15 (level_of s) (not-true (bad_cell (level_of s)) c.1); tested = w }

-- each start parts the records of lower faces from the others
pub start_parts : (s : List ℕ) → Passed s → (f : ℕ) → f < 20 → Parts (face_at s) (count_of s) f (start_of s f)
unfolding starts_right
start_parts s p f h =
    let e = eqb-true (start_of s f) (begins (face_at s) (count_of s) f) (all_at (start_right s) 20 f p.starts h) in
    rw e (begins_parts (face_at s) (count_of s) (rising_faces (record_at s) (count_of s) p.sound) (λ n l. (small_at (record_at s) (count_of s) p.sound n l).face) f (omega arith))
