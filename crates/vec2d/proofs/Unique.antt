-- Two outcomes of an entry that meet one promise coincide, and what a caller learns of a rounding. Assumes nothing.
use mathlib.Core.Path.{◌≡◌}
use lib.Dec.{T}
use lib.Ieee.{binary64, fits}
use Rattle.reply.specs.Replies.{fine}
use Rattle.std.specs.Prelude.{Ok, Err, Result, Bool}
use Rattle.reply.specs.declared.Refusal.{Refusal}
use Rattle.reply.proofs.Entries.{WhereGiven, one_said_where, one_said_bit, told, told_refusal}
use Rattle.double.proofs.Sign.{same_bits}
use Rattle.coordijk.proofs.Unique.{same_coord}
use Rattle.vec2d.specs.declared.Vec2d.{Vec2d}
use Rattle.vec2d.specs.declared.Leftovers.{Leftovers}
use Rattle.vec2d.specs.declared.Found.{Found}
use Rattle.vec2d.specs.Points.{point, point_values, said_pointed}
use Rattle.vec2d.specs.Rounding.{nearest_of, leftovers, leftovers_of, left_values, found_values, round_verdict, said_rounded, round_reply}
use Rattle.vec2d.specs.Closeness.{said_alike}

-- A point that a program holds: each part is a value of the format, as every f64 is.
pub record Held (v : Vec2d) : Type 0 where
  pub x : T (fits binary64 v.x)
  pub y : T (fits binary64 v.y)

-- the same of an answer
abbrev pub HeldAt : Result Vec2d Refusal → Type 0
HeldAt = WhereGiven Held

-- and of leftovers, alone and in an answer
pub record HeldLeft (l : Leftovers) : Type 0 where
  pub r1 : T (fits binary64 l.r1)
  pub r2 : T (fits binary64 l.r2)

abbrev pub HeldIn : Result Found Refusal → Type 0
HeldIn = WhereGiven (λ (c : Found). HeldLeft c.left)

same_found : (c d : Found) → HeldLeft c.left → HeldLeft d.left → found_values c ≡ found_values d → c ≡ d
same_found c d f g v =
    let h = same_coord c.hexagon d.hexagon (cc) (cc) (cc) in
    let r1 = same_bits c.left.r1 d.left.r1 f.r1 g.r1 (cc) in
    let r2 = same_bits c.left.r2 d.left.r2 f.r2 g.r2 (cc) in
    λ n. record { hexagon = h n; left = leftovers (r1 n) (r2 n) }

-- Two roundings that a program holds, or refusals, that say the same are one.
pub one_rounded : (a b : Result Found Refusal) → HeldIn a → HeldIn b → said_rounded a ≡ said_rounded b → a ≡ b
one_rounded = one_said_where (λ (c : Found). HeldLeft c.left) 5 found_values same_found

-- What a caller learns of a rounding that is done: the point was accepted, and these are its hexagon and, by their bits, its leftovers; and of one that is refused.
pub round_told : (v : Vec2d) {x : Result Found Refusal} {c : Found} → x ≡ Ok c → said_rounded x ≡ round_reply v
    → (round_verdict v ≡ fine) × (c.hexagon ≡ nearest_of v) × (left_values c.left ≡ left_values (leftovers_of v))
round_told v {x} {c} is e =
    let t = told 5 found_values (round_verdict v) _ is e in
    let w = t.1 in
    (t.0, same_coord c.hexagon (nearest_of v) (cc) (cc) (cc), cc)

pub round_refused : (v : Vec2d) {x : Result Found Refusal} {r : Refusal} → x ≡ Err r → said_rounded x ≡ round_reply v → round_verdict v ≡ Err r
round_refused v is e = told_refusal 5 found_values (round_verdict v) _ is e

same_point : (v w : Vec2d) → Held v → Held w → point_values v ≡ point_values w → v ≡ w
same_point v w f g s =
    let x = same_bits v.x w.x f.x g.x (cc) in
    let y = same_bits v.y w.y f.y g.y (cc) in
    λ n. point (x n) (y n)

-- Two points that a program holds, or refusals, that say the same are one.
pub one_pointed : (a b : Result Vec2d Refusal) → HeldAt a → HeldAt b → said_pointed a ≡ said_pointed b → a ≡ b
one_pointed = one_said_where Held 2 point_values same_point

-- Two answers of near-equality that say the same are one.
pub one_alike : (a b : Result Bool Refusal) → said_alike a ≡ said_alike b → a ≡ b
one_alike = one_said_bit
