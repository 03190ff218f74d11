-- Repeated calls exist for every state, so that what is said of them is not empty: one call on a large buffer writes the whole text, and one more writes nothing. Assumes nothing.
use mathlib.Core.Path.{◌≡◌, refl, sym, ap, subst, ◌∙◌}
use mathlib.Core.List.{List, [], ◌∷◌, ◌++◌, append-nil}
use Prim.Native.Nat.{ℕ, zero, suc, ◌+◌, ◌≤◌, ◌<◌}
use native.Mathlib.Decide.{dec_lt}
use native.Mathlib.Omega.{arith}
use lib.ListN.{length, replicate, length-append, length-replicate}
use lib.Seq.{take-append_seam}
use Rattle.walk_lines.specs.declared.Line.{Line}
use Rattle.std.specs.Prelude.{Option, Some, None}
use Rattle.walk.specs.declared.State.{State}
use Rattle.walk_lines.specs.Lines.{line_text}
use Rattle.walk.specs.Texts.{text_of, step_of}
use Rattle.walk.specs.Writing.{Lines, none, more, ended, Wrote, Calls, uncalled, called, Repeated, until}
use Rattle.walk.proofs.Stepping.{lines_text, text_step, text_of_step}
use Rattle.walk.proofs.Writing.{line_some}

-- all lines of a state, to its end
pub record Ended (s : State) : Type 0 where
  pub count : ℕ
  pub last : State
  pub lines : Lines s count (text_of s) last
  pub end : step_of last ≡ None

-- one line more, if there is one: what is left of the text falls with it
on : {s m : State} {n : ℕ} {bs : List ℕ} → Lines s n bs m → (x : Option (Line × State)) → x ≡ step_of m
    → ((k : ℕ) (cs : List ℕ) (after : State) → length (text_of after) < length (text_of m) → Lines s k cs after → Ended s) → Ended s
on {s} {m} {n} {bs} l None e again =
    let nothing : text_of m ≡ [] = text_step m ∙ ap text_of_step (sym e) in
    let all : bs ≡ text_of s = sym (lines_text l ∙ (ap (λ (x : List ℕ). bs ++ x) nothing ∙ append-nil bs)) in
    record { count = n; last = m; lines = subst (λ (x : List ℕ). Lines s n x m) all l; end = sym e }
on {s} {m} l (Some (line, after)) e again =
    let is = ap length (text_step m ∙ ap text_of_step (sym e)) in
    again _ _ after (omega (arith, is, length-append (line_text line) (text_of after), line_some line)) (more l (sym e))

goes : {s m : State} {n : ℕ} {bs : List ℕ} (t : ℕ) → length (text_of m) < t → Lines s n bs m → Ended s
goes zero h l = absurd (omega arith)
goes {m = m} (suc t) h l = on l (step_of m) refl (λ k cs after lt more. goes t (omega arith) more)

ends : (s : State) → Ended s
ends s = goes (length (text_of s) + 1) (omega arith) none

-- a call that writes nothing where nothing is left
idle : (m : State) (buffer : List ℕ) → step_of m ≡ None → Wrote m buffer buffer (record { state = m; len = 0 })
idle m buffer e =
    record { begun = record { count = 0; lines = none; within = omega arith; kept = refl; same = refl }; stopped = ended e }

module _ (s : State) where
  abbrev text : List ℕ
  text = text_of s

  abbrev last : State
  last = (ends s).last

  abbrev before : List ℕ
  before = text ++ replicate 70 0

  -- one call writes the whole text into a buffer that has room for it and for a line more
  whole : Wrote s before before (record { state = last; len = length text })
  whole =
      record {
        begun = record {
          count = (ends s).count;
          lines = subst (λ (x : List ℕ). Lines s (ends s).count x last) (sym (take-append_seam text (replicate 70 0))) (ends s).lines;
          within = omega (arith, length-append text (replicate 70 0));
          kept = refl;
          same = refl;
        };
        stopped = ended (ends s).end;
      }

  room : 70 ≤ length before
  room = omega (arith, length-append text (replicate 70 0), length-replicate {A = ℕ} 70 0)

  -- So there are calls that write the whole text of any state: none where it is empty, else one.
  pub some_calls : Repeated s text
  some_calls =
      elim (dec_lt 0 (length text)) [
        | yes h ↦ subst (λ (x : List ℕ). Repeated s x) (take-append_seam text (replicate 70 0)) (until (called uncalled whole h) (idle last before (ends s).end) room refl)
        | no h ↦ until (subst (λ (x : List ℕ). Calls s 0 x s) (nil text (omega arith)) uncalled) whole room (omega arith)
      ]
    where
      nil : (x : List ℕ) → length x ≡ 0 → [] ≡ x
      nil [] e = refl
      nil (b ∷ x) e = absurd (omega arith)
