-- The first elements of a lent slice, as an array: there are so many, and with what stands past them they are the slice; or the slice is too short. Assumes nothing.
use mathlib.Core.Path.{◌≡◌}
use mathlib.Core.List.{List, ◌++◌}
use Prim.Native.Nat.{ℕ, ◌≤◌, ◌<◌}
use lib.ListN.{length, drop}
use Rattle.std.specs.Prelude.{Option, Some, None, Result, Ok, Err, MatchOption, ok_or}
use Rattle.std.specs.Array.{IsFirstChunk}
use Rattle.std.proofs.lemmas.List.{take-append-drop}
use Rattle.reply.specs.declared.Refusal.{Refusal}

-- o is what `first_chunk_mut` gave, y the chunk
module _ {A B : Type 0} (now : B → List A) (out : List A) (n : ℕ) where
  abbrev Chunk : Option B → Type 0
  Chunk o = MatchOption o (length out < n) (λ x. IsFirstChunk out (now x) n)

  pub found : (o : Option B) (y : B) → Chunk o → o ≡ Some y → (n ≤ length out) × (now y ++ drop n out ≡ out)
  found (Some x) y m e =
      let same : y ≡ x = cc in
      (m.enough, rw (same, m.same) (take-append-drop n out))
  found None y m e = absurd (cc)

  -- the same where `ok_or` says a refusal of a slice that is too short
  pub chunk : (o : Option B) (r : Refusal) (y : B) → Chunk o → ◌≡◌ {A = Result B Refusal} (Ok y) (ok_or o r) → (n ≤ length out) × (now y ++ drop n out ≡ out)
  chunk (Some x) r y m e = found (Some x) y m (cc)
  chunk None r y m e = absurd (cc)

  pub no_chunk : (o : Option B) (r x : Refusal) → Chunk o → ◌≡◌ {A = Result B Refusal} (Err x) (ok_or o r) → (length out < n) × (x ≡ r)
  no_chunk (Some y) r x m e = absurd (cc)
  no_chunk None r x m e = (m, cc)
