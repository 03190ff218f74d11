-- Two outcomes of an entry that meet one promise coincide. Assumes nothing.
use mathlib.Core.Path.{◌≡◌, ap}
use lib.ListN.{take}
use Rattle.locate.specs.declared.Spot.{Spot}
use Rattle.reply.specs.declared.Refusal.{Refusal}
use Rattle.std.specs.Prelude.{ℕ, Result}
use Rattle.reply.proofs.Entries.{WhereGiven, one_said, one_said_where}
use Rattle.double.proofs.Sign.{same_bits}
use Rattle.vec2d.specs.Rounding.{leftovers}
use Rattle.vec2d.proofs.Unique.{HeldLeft}
use Rattle.locate.specs.Locating.{spot, spot_values, said_located}
use Rattle.locate.specs.Batch.{said_batch}
use Rattle.faceijk.proofs.Unique.{same_place_lem}

-- the leftovers of an answer that a program holds: each is a value of the format
abbrev HeldSpot : Spot → Type 0
HeldSpot t = HeldLeft t.left

abbrev pub HeldIn : Result Spot Refusal → Type 0
HeldIn = WhereGiven HeldSpot

same_spot : (t u : Spot) → HeldSpot t → HeldSpot u → spot_values t ≡ spot_values u → t ≡ u
same_spot t u f g v =
    let p = same_place_lem t.place u.place (ap (take 4) v) in
    let r1 = same_bits t.left.r1 u.left.r1 f.r1 g.r1 (cc) in
    let r2 = same_bits t.left.r2 u.left.r2 f.r2 g.r2 (cc) in
    λ n. spot (p n) (leftovers (r1 n) (r2 n))

pub one_located : (a b : Result Spot Refusal) → HeldIn a → HeldIn b → said_located a ≡ said_located b → a ≡ b
one_located = one_said_where HeldSpot 6 spot_values same_spot

-- Of a batch the rows are named by the promise itself; its answer is one.
pub one_batch : (a b : Result ℕ Refusal) → said_batch a ≡ said_batch b → a ≡ b
one_batch = one_said 1 _ (λ m n v. cc)
