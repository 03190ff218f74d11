-- A line that was put into the first bytes of a buffer stands at the buffer's start, and what the buffer held past it stays. Assumes nothing.
use mathlib.Core.Path.{◌≡◌, sym, ap, ◌∙◌}
use mathlib.Core.List.{List, ◌++◌}
use Prim.Native.Nat.{ℕ, ◌≤◌, ◌<◌}
use native.Mathlib.Omega.{arith}
use lib.ListN.{length, drop, length-append}
use borrow.Author.Tests.{le-ltb}
use Rattle.std.specs.Prelude.{Option, Some, None, MatchOption}
use Rattle.std.specs.Array.{IsFirstChunk}
use Rattle.std.proofs.lemmas.List.{take-append-drop, append_assoc, drop-append-le, length-drop}
use Rattle.text.specs.Writing.{PutAt, Wrote}
use Rattle.text.proofs.Putting.{from_start}

-- the first n bytes hold the line
in_front : (n : ℕ) (old room : List ℕ) {x new : List ℕ} {r : ℕ} → n ≤ length old → room ++ drop n old ≡ old → length x ≤ n → PutAt x room new 0 r → Wrote n x old (new ++ drop n old) r
in_front n old room {x} {new} {r} enough whole l p =
    let long : length x ≤ length room = omega (arith, ap length whole, length-append room (drop n old), length-drop n old) in
    record {
      count = rw (le-ltb (length old) n enough) (omega (arith, p.end));
      bytes =
          rw (le-ltb (length old) n enough)
          (ap (λ (b : List ℕ). b ++ drop n old) (from_start p long) ∙
          (append_assoc x (drop (length x) room) (drop n old) ∙
          ap (λ (b : List ℕ). x ++ b) (sym (drop-append-le (length x) room (drop n old) long) ∙ ap (drop (length x)) whole)));
    }

-- o is what `first_chunk_mut` gave
module _ {B : Type 0} (now : B → List ℕ) (old : List ℕ) (n : ℕ) where
  abbrev Chunk : Option B → Type 0
  Chunk o = MatchOption o (length old < n) (λ x. IsFirstChunk old (now x) n)

  pub in_room : (o : Option B) (y : B) → Chunk o → o ≡ Some y → {x new : List ℕ} {r : ℕ} → length x ≤ n → PutAt x (now y) new 0 r → Wrote n x old (new ++ drop n old) r
  in_room (Some z) y m e {x} {new} {r} l p =
      let same : y ≡ z = cc in
      in_front n old (now y) m.enough (rw (same, m.same) (take-append-drop n old)) l p
  in_room None y m e l p = absurd (cc)
