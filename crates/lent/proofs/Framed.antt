-- The number of a call that is lent a frame, past the lengths: it is the reply's, which tells a bad frame itself. Assumes nothing.
use mathlib.Core.Path.{◌≡◌, refl}
use mathlib.Core.Bool.{Bool, true, false}
use mathlib.Core.List.{List}
use Prim.Native.Nat.{ℕ}
use Rattle.reply.specs.Choice.{pick}
use Rattle.reply.specs.declared.Refusal.TheVariants.{BadFrame}
use Rattle.reply.specs.Replies.{Verdict, Reply, reply}
use Rattle.std.specs.Prelude.{Err}
use Rattle.lent.specs.Lent.{framed_number}

-- what an entry's reply begins with: a bad frame is refused first
abbrev pub framed_reply : Bool → ℕ → Verdict → List ℕ → Reply
framed_reply bad m v ws = reply m (pick bad (Err BadFrame) v) ws

-- past the lengths the number is the reply's
pub framed_said : (bad : Bool) (m : ℕ) (v : Verdict) (ws : List ℕ) → framed_number bad false (framed_reply bad m v ws) ≡ (framed_reply bad m v ws).number
framed_said true m v ws = refl
framed_said false m v ws = refl
