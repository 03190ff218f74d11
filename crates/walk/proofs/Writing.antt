-- Writing into the buffer: a line put behind the others, and what a stop means. Assumes nothing.
use mathlib.Core.Path.{◌≡◌, refl, sym, ap, subst, ◌∙◌}
use mathlib.Core.List.{List, ◌++◌, append_assoc}
use Prim.Native.Nat.{ℕ, suc, ◌+◌, ◌-◌, ◌≤◌, ◌<◌}
use native.Mathlib.Omega.{arith}
use lib.ListN.{length, take, drop, length-append, length-drop}
use lib.Seq.{sets-eq, take_at, drop_at, drop-drop, length-take-le}
use Rattle.std.specs.Prelude.{Some, None}
use Rattle.text.specs.Writing.{PutAt}
use Rattle.walk_lines.specs.declared.Line.{Line}
use Rattle.walk_lines.specs.Lines.{line_text, from_word, over_word}
use Rattle.walk_lines.proofs.Lengths.{place_line_length, rest_line_length, refused_line_length}
use Rattle.walk.specs.declared.State.{State}
use Rattle.walk.specs.declared.Written.{Written}
use Rattle.walk.specs.Texts.{step_of}
use Rattle.walk.specs.Writing.{Lines, none, more, Stopped, ended, full, Begun, PutLine, put, left, OneMore, wrote, stays}

-- a line that fits stands at its index
pub was_put : {x old new : List ℕ} {at r : ℕ} → at + length x ≤ length old → PutAt x old new at r → PutLine x old new at r
was_put {x} {old} {new} {at} h p = put p.end h (p.bytes ∙ (sets-eq x old at h ∙ append_assoc (take at old) x (drop (at + length x) old)))

-- no line is empty
pub line_some : (line : Line) → 0 < length (line_text line)
line_some (Line.From p) = omega (arith, place_line_length from_word p)
line_some (Line.Over p) = omega (arith, place_line_length over_word p)
line_some (Line.Rest s) = omega (arith, rest_line_length s)
line_some (Line.Refused r) = omega (arith, refused_line_length r)

-- a line that moved nothing did not fit, and writing stops
pub stops : (w : Written) (old new : List ℕ) {line : Line} {after : State} (end : ℕ) → step_of w.state ≡ Some (line, after) → PutLine (line_text line) old new w.len end → end ≤ w.len → OneMore w old new w
stops w old new {line} end e (put a b c) h = absurd (omega (arith, line_some line))
stops w old new end e (left a b c d) h = stays refl b (full e c d)

pub none_left : (w : Written) (old : List ℕ) → step_of w.state ≡ None → OneMore w old old w
none_left w old e = stays refl refl (ended e)

-- nothing is written yet
pub at_start : (s : State) (old : List ℕ) → Begun s old old (record { state = s; len = 0 })
at_start s old = record { count = 0; lines = none; within = omega arith; kept = refl; same = refl }

-- a line put behind the others
module _ (s : State) (old mid new x : List ℕ) (w r : Written) (b : Begun s old mid w) (is : r.len ≡ w.len + length x) (fits : w.len + length x ≤ length mid) (e : new ≡ take w.len mid ++ (x ++ drop (w.len + length x) mid)) where
  whole : new ≡ (take w.len mid ++ x) ++ drop (w.len + length x) mid
  whole = e ∙ sym (append_assoc (take w.len mid) x (drop (w.len + length x) mid))

  head_length : length (take w.len mid ++ x) ≡ r.len
  head_length = omega (arith, length-append (take w.len mid) x, length-take-le w.len mid b.within)

  pub new_head : take r.len new ≡ take w.len mid ++ x
  new_head = ap (take r.len) whole ∙ take_at (take w.len mid ++ x) (drop (w.len + length x) mid) r.len head_length

  pub new_rest : drop r.len new ≡ drop r.len old
  new_rest =
      ap (drop r.len) whole ∙
      (drop_at (take w.len mid ++ x) (drop (w.len + length x) mid) r.len head_length ∙
      (sym (drop-drop (length x) w.len mid) ∙
      (ap (drop (length x)) b.kept ∙
      (drop-drop (length x) w.len old ∙ ap (λ (n : ℕ). drop n old) (sym is)))))

  pub new_length : length new ≡ length mid
  new_length =
      ap length whole ∙
      omega (arith, length-append (take w.len mid ++ x) (drop (w.len + length x) mid), head_length, length-drop (w.len + length x) mid)

-- one line more, or a stop
pub goes_on : {s : State} {old mid new : List ℕ} (w r : Written) → Begun s old mid w → OneMore w mid new r → Begun s old new r × (r.len ≤ w.len → Stopped (length new - r.len) r.state)
goes_on {s} {old} {mid} {new} w r b (wrote {line} e (put is fits eq) lt) =
    let x = line_text line in
    let n = new_length s old mid new x w r b is fits eq in (
      record {
        count = suc b.count;
        lines = subst (λ (z : List ℕ). Lines s (suc b.count) z r.state) (sym (new_head s old mid new x w r b is fits eq)) (more b.lines e);
        within = omega arith;
        kept = new_rest s old mid new x w r b is fits eq;
        same = n ∙ b.same;
      },
      λ h. absurd (omega arith),
    )
goes_on w r b (wrote e (left is k c d) lt) = absurd (omega arith)
goes_on {s} {old} {mid} {new} w r b (stays is k st) = (
  subst (λ (z : Written). Begun s old new z) (sym is) (subst (λ (z : List ℕ). Begun s old z w) (sym k) b),
  λ h. subst (λ (z : Written). Stopped (length new - z.len) z.state) (sym is) (subst (λ (z : List ℕ). Stopped (length z - w.len) w.state) (sym k) st),
)

-- what is written stays written
pub grows : {old new : List ℕ} (w r : Written) → OneMore w old new r → w.len ≤ r.len
grows w r (wrote e p lt) = omega arith
grows w r (stays is k st) = omega (arith, ap (λ (z : Written). z.len) is)
