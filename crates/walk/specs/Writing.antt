-- Writing into a lent buffer: as many whole lines as fit, and the state from which to go on.
use Rattle.std.specs.Prelude.{◌≡◌, List, [], ◌++◌, ℕ, suc, ◌+◌, ◌-◌, ◌≤◌, ◌<◌, length, take, drop, Some, None}
use Rattle.walk_lines.specs.declared.Line.{Line}
use Rattle.walk_lines.specs.Lines.{line_text}
use Rattle.walk.specs.declared.State.{State}
use Rattle.walk.specs.declared.Written.{Written}
use Rattle.walk.specs.Texts.{step_of}

-- n whole lines, these bytes, lead from state s to state m
pub data Lines (s : State) : ℕ → List ℕ → State → Type 0 where
  none : Lines s 0 [] s
  more : {n : ℕ} {bs : List ℕ} {m after : State} {line : Line} → Lines s n bs m → step_of m ≡ Some (line, after) → Lines s (suc n) (bs ++ line_text line) after

-- why no further line is written: there is none, or it does not fit. No line has more than 70 bytes
pub data Stopped (room : ℕ) (s : State) : Type 0 where
  ended : step_of s ≡ None → Stopped room s
  full : {line : Line} {after : State} → step_of s ≡ Some (line, after) → room < length (line_text line) → length (line_text line) ≤ 70 → Stopped room s

-- so far: whole lines stand at the buffer's start, and its other bytes are unchanged
pub record Begun (s : State) (old new : List ℕ) (w : Written) : Type 0 where
  pub count : ℕ
  pub lines : Lines s count (take w.len new) w.state
  pub within : w.len ≤ length new
  pub kept : drop w.len new ≡ drop w.len old
  pub same : length new ≡ length old

-- what writing owes: whole lines at the buffer's start, no further one that fits, and the other bytes unchanged
pub record Wrote (s : State) (old new : List ℕ) (w : Written) : Type 0 where
  pub begun : Begun s old new w
  pub stopped : Stopped (length new - w.len) w.state

-- n calls, one after the other, each of which wrote some bytes and handed on its state, lead from s to m; bs are their bytes, in order
pub data Calls (s : State) : ℕ → List ℕ → State → Type 0 where
  uncalled : Calls s 0 [] s
  called : {n : ℕ} {bs old new : List ℕ} {m : State} {w : Written} → Calls s n bs m → Wrote m old new w → 0 < w.len → Calls s (suc n) (bs ++ take w.len new) w.state

-- calls repeated until one on a buffer of at least 70 bytes writes nothing: bs are all their bytes
pub data Repeated (s : State) (bs : List ℕ) : Type 0 where
  until : {n : ℕ} {old new : List ℕ} {m : State} {w : Written} → Calls s n bs m → Wrote m old new w → 70 ≤ length old → w.len ≡ 0 → Repeated s bs

-- a line put at an index: it stands there and the index after it is given, or it does not fit and nothing has changed
pub data PutLine (x old new : List ℕ) (at r : ℕ) : Type 0 where
  put : r ≡ at + length x → at + length x ≤ length old → new ≡ take at old ++ (x ++ drop (at + length x) old) → PutLine x old new at r
  left : r ≡ at → new ≡ old → length old - at < length x → length x ≤ 70 → PutLine x old new at r

-- one line more than w, or none because writing stops there
pub data OneMore (w : Written) (old new : List ℕ) (r : Written) : Type 0 where
  wrote : {line : Line} → step_of w.state ≡ Some (line, r.state) → PutLine (line_text line) old new w.len r.len → w.len < r.len → OneMore w old new r
  stays : r ≡ w → new ≡ old → Stopped (length old - w.len) w.state → OneMore w old new r
