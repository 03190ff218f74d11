-- The number of a C function is that of its foremost reason, a slice that is too short among them: 2 comes after a bad frame and before all else. Assumes nothing.
use mathlib.Core.Path.{◌≡◌, refl}
use mathlib.Core.Bool.{Bool, true, false}
use mathlib.Core.List.{List, ◌∷◌}
use Prim.Native.Nat.{ℕ}
use native.Mathlib.Omega.{arith}
use Rattle.std.specs.Prelude.{Ok, Err}
use Rattle.reply.specs.declared.Refusal.TheVariants.{BadFrame, BadRows}
use Rattle.reply.specs.Replies.{verdict_number, Reason, when, first, reply, Verdict}
use Rattle.reply.specs.Order.{rank_of, Foremost, Ascending}
use Rattle.reply.proofs.Foremost.{foremost}
use Rattle.lent.specs.Lent.{number_for, framed_number}

-- a number by a verdict that is foremost among reasons
pub record ByOrder (rs : List Reason) (k : ℕ) : Type 0 where
  pub verdict : Verdict
  pub is_foremost : Foremost rs verdict
  pub number : k ≡ verdict_number verdict

-- a reply has the number of its verdict
pub said : (n : ℕ) (v : Verdict) (vs : List ℕ) → (reply n v vs).number ≡ verdict_number v
said n (Ok _) vs = refl
said n (Err r) vs = refl

module _ (n : ℕ) (rs : List Reason) (vs : List ℕ) (follows : Ascending (rank_of BadRows) rs) where
  by_short : (short : Bool) → number_for short (reply n (first rs) vs) ≡ verdict_number (first (when short BadRows ∷ rs))
  by_short true = refl
  by_short false = said n (first rs) vs

  -- Where no frame is lent: 2, and then the entry's own reasons.
  pub lent_order : (short : Bool) → ByOrder (when short BadRows ∷ rs) (number_for short (reply n (first rs) vs))
  lent_order short = record {
    verdict = first (when short BadRows ∷ rs);
    is_foremost = foremost 0 (when short BadRows ∷ rs) (omega arith, follows);
    number = by_short short;
  }

  by_frame : (bad short : Bool) → framed_number bad short (reply n (first (when bad BadFrame ∷ rs)) vs) ≡ verdict_number (first (when bad BadFrame ∷ when short BadRows ∷ rs))
  by_frame true short = refl
  by_frame false short = by_short short

  -- Where one is lent: 1, 2, and then the entry's others.
  pub framed_order : (bad short : Bool) → ByOrder (when bad BadFrame ∷ when short BadRows ∷ rs) (framed_number bad short (reply n (first (when bad BadFrame ∷ rs)) vs))
  framed_order bad short = record {
    verdict = first (when bad BadFrame ∷ when short BadRows ∷ rs);
    is_foremost = foremost 0 (when bad BadFrame ∷ when short BadRows ∷ rs) (omega arith, (omega arith, follows));
    number = by_frame bad short;
  }
