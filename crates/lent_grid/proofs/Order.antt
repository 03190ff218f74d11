-- The refusals that stand at the C face alone keep the order: a map's number, 5, before its triple, 10; eight doubles, 2, before what meeting lines refuses. Assumes nothing.
use mathlib.Core.Path.{◌≡◌, refl}
use mathlib.Core.Bool.{Bool, true, false, not}
use mathlib.Core.List.{List, [], ◌∷◌}
use Prim.Native.Nat.{ℕ}
use native.Mathlib.Omega.{arith}
use lib.Dec.{eqb}
use lib.Ieee.{Float}
use lib.ListN.{length}
use Rattle.reply.specs.Choice.{pick}
use Rattle.reply.specs.declared.Refusal.TheVariants.{BadRows, BadRange, NotReduced}
use Rattle.reply.specs.Replies.{when, refusal, reply, first, verdict_number}
use Rattle.reply.proofs.Foremost.{foremost}
use Rattle.coordijk.specs.declared.CoordIJK.{CoordIJK}
use Rattle.coordijk.specs.Coordinates.{not_reduced, verdict_of, coord_values}
use Rattle.coordijk.specs.Maps.{map_of}
use Rattle.vec2d.specs.Meeting.{line_at, meet_reasons, meet_verdict, meet_reply}
use Rattle.lent.proofs.Order.{ByOrder, said}
use Rattle.lent_grid.specs.Lines.{lines_reply}
use Rattle.lent_grid.specs.Numbered.{bad_map, map_at, numbered_reply}

pub map_order : (n : ℕ) (c : CoordIJK) → ByOrder (when (bad_map n) BadRange ∷ when (not_reduced c) NotReduced ∷ []) (numbered_reply n c).number
map_order n c = record {
  verdict = first (when (bad_map n) BadRange ∷ when (not_reduced c) NotReduced ∷ []);
  is_foremost = foremost 0 (when (bad_map n) BadRange ∷ when (not_reduced c) NotReduced ∷ []) (omega arith, (omega arith, tt));
  number = by (bad_map n);
}
  where
    by : (b : Bool) → (pick b (refusal 3 BadRange) (reply 3 (verdict_of c) (coord_values (map_of (map_at n) c)))).number ≡ verdict_number (first (when b BadRange ∷ when (not_reduced c) NotReduced ∷ []))
    by true = refl
    by false = said 3 (verdict_of c) _

module _ (ds : List Float) where
  pub lines_order : ByOrder (when (not (eqb (length ds) 8)) BadRows ∷ meet_reasons (line_at ds 0) (line_at ds 4)) (lines_reply ds).number
  lines_order = record {
    verdict = first (when (not (eqb (length ds) 8)) BadRows ∷ meet_reasons (line_at ds 0) (line_at ds 4));
    is_foremost = foremost 0 (when (not (eqb (length ds) 8)) BadRows ∷ meet_reasons (line_at ds 0) (line_at ds 4)) (omega arith, (omega arith, (omega arith, tt)));
    number = by (eqb (length ds) 8);
  }
    where
      by : (b : Bool) → (pick b (meet_reply (line_at ds 0) (line_at ds 4)) (refusal 2 BadRows)).number ≡ verdict_number (first (when (not b) BadRows ∷ meet_reasons (line_at ds 0) (line_at ds 4)))
      by true = said 2 (meet_verdict (line_at ds 0) (line_at ds 4)) _
      by false = refl
