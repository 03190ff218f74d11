-- Where a face begins among sorted places, found by halves. Assumes nothing.
use mathlib.Core.Path.{◌≡◌}
use mathlib.Core.Bool.{Bool, true}
use Prim.Native.Nat.{ℕ, ◌≤◌, ◌<◌}
use native.Mathlib.Omega.{arith}
use lib.Dec.{ltb}
use borrow.Author.Tests.{ltb-true, ltb-false, lt-ltb}
use Rattle.faceijk.specs.declared.Place.{Place}
use Rattle.region.specs.Entries.{halved}
use Rattle.region.proofs.Halving.{ends}
use Rattle.region_check.specs.Sound.{faces_of, sound_to}
use Rattle.region_check.specs.Starts.{begins}
use Rattle.region_check.proofs.Sorted.{small_at, rising_faces}
use Rattle.region_check.proofs.Begins.{Parts, one_part, begins_parts}

abbrev pub lower_face : (ℕ → Place) → ℕ → ℕ → Bool
lower_face at f n = ltb (faces_of at n) f

module _ (at : ℕ → Place) (count : ℕ) (sound : sound_to at count ≡ true) (f : ℕ) (low : f ≤ 20) where
  pub parts_at : Parts (faces_of at) count f (begins (faces_of at) count f)
  parts_at = begins_parts (faces_of at) count (rising_faces at count sound) (λ n l. (small_at at count sound n l).face) f low

  first : (m n : ℕ) → m ≤ n → n < count → lower_face at f n ≡ true → lower_face at f m ≡ true
  first m n h l e = lt-ltb (at m).face f (omega (arith, rising_faces at count sound m n h l, ltb-true (at n).face f e))

  -- the lower faces end where the face begins
  pub begins_at : halved (lower_face at f) count 0 count ≡ begins (faces_of at) count f
  begins_at =
      let e = ends (lower_face at f) count first count 0 count (omega arith) (omega arith) (omega arith) in
      one_part (faces_of at) count f _ _
      (record {
        within = e.to;
        before = λ n l. ltb-true (at n).face f (e.low_before n (omega arith) l);
        from = λ n b l. ltb-false (at n).face f (e.high_after n b l);
      })
      parts_at
