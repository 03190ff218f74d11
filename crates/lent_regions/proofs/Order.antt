-- At the C face a slice that is too short comes before a bad list, and a bad list before a bad face or number: 2, 15, 3, 5, 10. Assumes nothing.
use mathlib.Core.Bool.{Bool, not}
use mathlib.Core.List.{List, [], ◌∷◌}
use Prim.Native.Nat.{ℕ}
use native.Mathlib.Omega.{arith}
use Rattle.reply.specs.declared.Refusal.TheVariants.{BadRows, BadList}
use Rattle.reply.specs.Replies.{when}
use Rattle.faceijk.specs.declared.Place.{Place}
use Rattle.region.specs.Entries.{read_reasons, read_reply, has_reasons, has_reply}
use Rattle.region_check.specs.Checks.{passes, check_reply}
use Rattle.lent.specs.Lent.{number_for}
use Rattle.lent.proofs.Order.{ByOrder, lent_order}

module _ (short : Bool) (s : List ℕ) where
  pub check_order : ByOrder (when short BadRows ∷ when (not (passes s)) BadList ∷ []) (number_for short (check_reply s))
  check_order = lent_order 2 (when (not (passes s)) BadList ∷ []) _ (omega arith, tt) short

  pub record_order : (n : ℕ) → ByOrder (when short BadRows ∷ read_reasons s n) (number_for short (read_reply s n))
  record_order n = lent_order 4 (read_reasons s n) _ (omega arith, (omega arith, tt)) short

  pub has_order : (p : Place) → ByOrder (when short BadRows ∷ has_reasons s p) (number_for short (has_reply s p))
  has_order p = lent_order 1 (has_reasons s p) _ (omega arith, (omega arith, (omega arith, tt))) short
