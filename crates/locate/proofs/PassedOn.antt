-- What locating says of the place is what document 01 says, and leftovers and hexagon are those of its plane point's rounding, the nearest. Assumes nothing.
use mathlib.Core.Path.{◌≡◌, refl}
use mathlib.Core.List.{List}
use Prim.Native.Nat.{ℕ}
use lib.Ieee.{Float}
use lib.ListN.{take, drop}
use borrow.Author.Tests.{ltb-false}
use Rattle.std.specs.Prelude.{Ok, Err}
use Rattle.reply.specs.declared.Refusal.TheVariants.{BadFrame, BadLevel}
use Rattle.reply.specs.Replies.{reply, Verdict, fine}
use Rattle.reply.proofs.Entries.{passed}
use Rattle.level.specs.Levels.{bad_cell}
use Rattle.double.proofs.Left.{InUnit}
use Rattle.vec2d.specs.Rounding.{round_verdict, round_reply}
use Rattle.vec2d.specs.Nearest.{Trusted}
use Rattle.vec2d.proofs.Exact.{in_unit}
use Rattle.vec2d.proofs.Trusting.{trusted}
use Rattle.vec3d.specs.declared.Vec3d.{Vec3d}
use Rattle.vec3d.specs.Frame.{bad_frame}
use Rattle.faceijk.specs.Places.{coord_of, place_values}
use Rattle.locate.specs.Locating.{near_point, place_of, spot_of, spot_values, locate_verdict, locate_reply, place_reply}
use Rattle.locate.proofs.Giving.{rounds}

-- The whole numbers of the reply are the reply without leftovers, where it answers and where it refuses.
pub same_place_as_before : (s : List Float) (l : ℕ) (p : Vec3d) → record { number = (locate_reply s l p).number; values = take 4 (locate_reply s l p).values } ≡ place_reply s l p
same_place_as_before s l p = go (locate_verdict s l p)
  where
    go : (d : Verdict) → let r = reply 6 d (spot_values (spot_of s l p)) in record { number = r.number; values = take 4 r.values } ≡ reply 4 d (place_values (place_of s l p))
    go (Ok _) = refl
    go (Err r) = refl

-- Where the entry answers, rounding accepts the plane point.
pub answered_rounds : (s : List Float) (l : ℕ) (p : Vec3d) → locate_verdict s l p ≡ fine → round_verdict (near_point s l p) ≡ fine
answered_rounds s l p e =
    let f = passed (bad_frame s) BadFrame _ e in
    let c = passed (bad_cell l) BadLevel _ f.1 in
    rounds s l p (record { frame = f.0; level = ltb-false 15 l c.0 }) c.1

-- Its leftovers are then those that rounding returns for the plane point.
pub passed_on : (s : List Float) (l : ℕ) (p : Vec3d) → locate_verdict s l p ≡ fine → drop 4 (locate_reply s l p).values ≡ drop 3 (round_reply (near_point s l p)).values
passed_on s l p e = rw (e, answered_rounds s l p e)

-- So both are at least 0 and below 1, and a zero among them is plus zero.
pub place_in_unit : (s : List Float) (l : ℕ) (p : Vec3d) → locate_verdict s l p ≡ fine → let r = (spot_of s l p).left in InUnit r.r1 × InUnit r.r2
place_in_unit s l p e = in_unit (near_point s l p) (answered_rounds s l p e)

-- And the place's hexagon, unfolded, is the centre nearest to the plane point's x1 and x2.
pub place_trusted : (s : List Float) (l : ℕ) (p : Vec3d) → locate_verdict s l p ≡ fine
    → let t = spot_of s l p in
    Trusted (near_point s l p) (record { hexagon = coord_of t.place; left = t.left })
unfolding place_of
place_trusted s l p e = trusted (near_point s l p) (answered_rounds s l p e)
