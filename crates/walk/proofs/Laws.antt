-- What writing as many whole lines as fit means: the text goes on where it stopped, it makes progress, and its outcome is one. Assumes nothing.
use mathlib.Core.Path.{◌≡◌, refl, sym, ap, subst, ◌∙◌}
use mathlib.Core.List.{List, [], ◌++◌, append_assoc, append-nil}
use Prim.Native.Nat.{ℕ, ◌+◌, ◌-◌, ◌≤◌, ◌<◌}
use native.Mathlib.Decide.{dec_lt}
use native.Mathlib.Nat.{not-suc-le-zero}
use native.Mathlib.Omega.{arith}
use lib.ListN.{length, take, drop, length-append, take-append-drop}
use lib.Seq.{length-take-le}
use Rattle.std.specs.Prelude.{Some, None}
use Rattle.walk_lines.specs.declared.Line.{Line}
use Rattle.reply.specs.declared.Refusal.TheVariants.{BadLine}
use Rattle.walk_lines.specs.Lines.{line_text, refused_line}
use Rattle.walk_question.specs.declared.Question.{Question}
use Rattle.walk_question.specs.Reading.{Asks}
use Rattle.walk_question.proofs.Asking.{reads, malformed, as_read, one_reading}
use Rattle.walk.specs.declared.State.{State}
use Rattle.walk.specs.declared.Written.{Written}
use Rattle.walk.specs.Texts.{text_of, step_of, question_text, reading_text, input_text, begun_from, Begins}
use Rattle.walk.specs.Writing.{Lines, none, more, Stopped, ended, full, Wrote, Calls, uncalled, called, Repeated, until}
use Rattle.walk.proofs.Stepping.{lines_text, begun_text, text_step, text_of_step}
use Rattle.walk.proofs.Writing.{line_some}

-- a line that asks q has q's text, and a line that asks nothing is refused with 14
pub asked_text : (input : List ℕ) (q : Question) → Asks q input → input_text input ≡ question_text q
asked_text input q a = ap reading_text ((reads input q).1 a)

pub malformed_text : (input : List ℕ) → ((q : Question) → Asks q input → ⊥) → input_text input ≡ refused_line BadLine
malformed_text input h = ap reading_text ((malformed input).1 h)

-- two states in which the walk of one input begins are one
pub one_beginning : {input : List ℕ} {s t : State} → Begins input s → Begins input t → s ≡ t
one_beginning {input} a b = a.state ∙ (ap begun_from (one_reading input a.reading b.reading a.read b.read) ∙ sym b.state)

-- the walk of an input has that input's whole text to print
pub whole_text : {input : List ℕ} {s : State} → Begins input s → text_of s ≡ input_text input
whole_text {input} b =
    ap text_of b.state ∙ (begun_text b.reading ∙ ap reading_text (as_read input b.reading b.read))

module _ {s : State} {old new : List ℕ} {w : Written} (o : Wrote s old new w) where
  -- the text of the state is the bytes written followed by the text of the next state
  pub text_goes_on : text_of s ≡ take w.len new ++ text_of w.state
  text_goes_on = lines_text o.begun.lines

  pub text_shrinks : w.len + length (text_of w.state) ≡ length (text_of s)
  text_shrinks =
      omega (arith, ap length text_goes_on, length-append (take w.len new) (text_of w.state), length-take-le w.len new o.begun.within)

  -- the bytes past those written are unchanged
  pub rest_unchanged : drop w.len new ≡ drop w.len old
  rest_unchanged = o.begun.kept

  -- a buffer too small for the next line is left unchanged
  pub too_small : w.len ≡ 0 → new ≡ old
  too_small z = ap (λ (n : ℕ). drop n new) (sym z) ∙ (o.begun.kept ∙ ap (λ (n : ℕ). drop n old) z)

-- a stop in a room of 70 bytes is the end
stopped_ended : {n : ℕ} {s : State} → Stopped n s → 70 ≤ n → step_of s ≡ None
stopped_ended (ended e) h = e
stopped_ended (full e a b) h = absurd (omega arith)

-- nothing written means that the state is the same
none_same : {s m : State} {n : ℕ} {bs : List ℕ} → Lines s n bs m → length bs ≡ 0 → m ≡ s
none_same none z = refl
none_same (more {bs = bs} {line = line} l e) z = absurd (omega (arith, length-append bs (line_text line), line_some line))

-- every call on a buffer that holds the longest line writes a byte, unless the text is finished
pub progress : {s : State} {old new : List ℕ} {w : Written} → Wrote s old new w → 70 ≤ length old → w.len ≡ 0 → text_of s ≡ []
progress {s} {old} {new} {w} o h z =
    let l = length-take-le w.len new o.begun.within in
    let same = none_same o.begun.lines (omega arith) in
    let e = stopped_ended o.stopped (omega (arith, o.begun.same)) in
    text_step s ∙ ap text_of_step (ap step_of (sym same) ∙ e)

-- at any moment, the bytes of the calls so far followed by the text of the state they handed on are the whole text
pub calls_text : {s m : State} {n : ℕ} {bs : List ℕ} → Calls s n bs m → text_of s ≡ bs ++ text_of m
calls_text uncalled = refl
calls_text (called {bs = bs} {new = new} {w = w} c o h) =
    calls_text c ∙
    (ap (λ (x : List ℕ). bs ++ x) (text_goes_on o) ∙ sym (append_assoc bs (take w.len new) (text_of w.state)))

-- every run of such calls comes to an end: there are no more of them than the text has bytes
pub calls_end : {s m : State} {n : ℕ} {bs : List ℕ} → Calls s n bs m → n + length (text_of m) ≤ length (text_of s)
calls_end uncalled = omega arith
calls_end (called c o h) = omega (arith, calls_end c, text_shrinks o)

-- repeated calls write the whole text of a state, and of an input, and nothing is left
pub all_written : {s : State} {bs : List ℕ} → Repeated s bs → bs ≡ text_of s
all_written {bs = bs} (until c o h z) =
    sym (calls_text c ∙ (ap (λ (x : List ℕ). bs ++ x) (progress o h z) ∙ append-nil bs))

pub input_written : {input bs : List ℕ} {s : State} → Begins input s → Repeated s bs → bs ≡ input_text input
input_written b r = all_written r ∙ whole_text b

-- a number of lines leads to one place
one_lines : {s m k : State} {n : ℕ} {bs cs : List ℕ} → Lines s n bs m → Lines s n cs k → (bs ≡ cs) × (m ≡ k)
one_lines none none = (refl, refl)
one_lines (more {bs = bs} {m = m} {after = a} {line = x} l e) (more {bs = cs} {m = k} {after = b} {line = y} r f) =
    let i = one_lines l r in
    let t : Some (x, a) ≡ Some (y, b) = sym e ∙ (ap step_of i.1 ∙ f) in
    let p : ◌≡◌ {A = Line × State} (x, a) (y, b) = cc in
    ((λ n. i.0 n ++ line_text (p n).0), λ n. (p n).1)

-- where fewer lines stop, the next line is among the further ones
further : {s m k : State} {n j : ℕ} {bs cs : List ℕ} → Lines s n bs m → Lines s j cs k → n < j → (line : Line) × (after : State) × (step_of m ≡ Some (line, after)) × (length bs + length (line_text line) ≤ length cs)
further {n = n} l none h = absurd (not-suc-le-zero h)
further {s = s} {n = n} {bs = bs} l (more {n = j} {bs = cs} {m = mid} {after = b} {line = y} r f) h =
    elim (dec_lt n j) [
      | yes lt ↦
          let i = further l r lt in
          (i.0, i.1, i.2, omega (arith, i.3, length-append cs (line_text y)))
      | no ge ↦
          let is : j ≡ n = omega arith in
          let o = one_lines l (subst (λ (x : ℕ). Lines s x cs mid) is r) in
          (y, b, ap step_of o.1 ∙ f, omega (arith, ap length o.0, length-append cs (line_text y)))
    ]

-- so lines that fit do not go on behind a stop
no_further : {s m k : State} {n j p : ℕ} {bs cs : List ℕ} → Lines s n bs m → Lines s j cs k → Stopped (p - length bs) m → length cs ≤ p → n < j → ⊥
no_further l r (ended e) fits h =
    let f = further l r h in
    let t : None ≡ Some (f.0, f.1) = sym e ∙ f.2 in
    let z : ◌≡◌ {A = ℕ} 0 1 = cc in
    omega arith
no_further l r (full {line = x} {after = a} e b c) fits h =
    let f = further l r h in
    let t : Some (x, a) ≡ Some (f.0, f.1) = sym e ∙ f.2 in
    let p : ◌≡◌ {A = Line × State} (x, a) (f.0, f.1) = cc in
    omega (arith, f.3, ap (λ (q : Line × State). length (line_text q.0)) p)

same_buffer : (n : ℕ) (a b : List ℕ) → take n a ≡ take n b → drop n a ≡ drop n b → a ≡ b
same_buffer n a b t d = sym (take-append-drop n a) ∙ ((λ i. t i ++ d i) ∙ take-append-drop n b)

-- two outcomes that meet one promise coincide: the state, the number of bytes and the whole buffer
pub one_outcome : {s : State} {old a b : List ℕ} {v w : Written} → Wrote s old a v → Wrote s old b w → (a ≡ b) × (v ≡ w)
one_outcome {s} {old} {a} {b} {v} {w} o p =
    let l = length-take-le v.len a o.begun.within in
    let r = length-take-le w.len b p.begun.within in
    let stop_l = subst (λ (n : ℕ). Stopped (length a - n) v.state) (sym l) o.stopped in
    let stop_r = subst (λ (n : ℕ). Stopped (length b - n) w.state) (sym r) p.stopped in
    let up = no_further o.begun.lines p.begun.lines stop_l (omega (arith, o.begun.same, p.begun.same, p.begun.within)) in
    let down = no_further p.begun.lines o.begun.lines stop_r (omega (arith, o.begun.same, p.begun.same, o.begun.within)) in
    let n : p.begun.count ≡ o.begun.count =
    elim (dec_lt o.begun.count p.begun.count) [
      | yes h ↦ absurd (up h)
      | no h ↦ elim (dec_lt p.begun.count o.begun.count) [
        | yes g ↦ absurd (down g)
        | no g ↦ omega arith
      ]
    ]
    in
    let i = one_lines o.begun.lines (subst (λ (x : ℕ). Lines s x (take w.len b) w.state) n p.begun.lines) in
    let m : v.len ≡ w.len = omega (arith, ap length i.0) in
    let head : take v.len a ≡ take v.len b = i.0 ∙ ap (λ (x : ℕ). take x b) (sym m) in
    let tail : drop v.len a ≡ drop v.len b = o.begun.kept ∙ (ap (λ (x : ℕ). drop x old) m ∙ (sym p.begun.kept ∙ ap (λ (x : ℕ). drop x b) (sym m))) in
    (same_buffer v.len a b head tail, λ k. record { state = i.1 k; len = m k })
