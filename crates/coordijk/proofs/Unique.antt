-- Two outcomes of a map that meet one promise coincide, and what a caller learns of them. Assumes nothing.
use mathlib.Core.Path.{◌≡◌}
use Rattle.reply.specs.Replies.{fine}
use Rattle.std.specs.Prelude.{Ok, Err, Result}
use Rattle.reply.specs.declared.Refusal.{Refusal}
use Rattle.reply.proofs.Entries.{one_said, told, told_refusal}
use Rattle.coordijk.specs.declared.CoordIJK.{CoordIJK}
use Rattle.coordijk.specs.declared.GridMap.{GridMap}
use Rattle.coordijk.specs.Coordinates.{coord, verdict_of, coord_values}
use Rattle.coordijk.specs.Maps.{map_of, said_mapped, map_reply}

pub same_coord : (c d : CoordIJK) → c.i ≡ d.i → c.j ≡ d.j → c.k ≡ d.k → c ≡ d
same_coord c d p q r = λ n. coord (p n) (q n) (r n)

same_values : (c d : CoordIJK) → coord_values c ≡ coord_values d → c ≡ d
same_values c d v = same_coord c d (cc) (cc) (cc)

pub one_mapped : (a b : Result CoordIJK Refusal) → said_mapped a ≡ said_mapped b → a ≡ b
one_mapped = one_said 3 coord_values same_values

-- what a caller learns of a map that is done: the triple is taken and this is its image; and of one that is refused
pub map_told : (m : GridMap) (c : CoordIJK) {x : Result CoordIJK Refusal} {d : CoordIJK} → x ≡ Ok d → said_mapped x ≡ map_reply m c → (verdict_of c ≡ fine) × (d ≡ map_of m c)
map_told m c {x} {d} is e = let t = told 3 coord_values (verdict_of c) _ is e in (t.0, same_values d (map_of m c) t.1)

pub map_refused : (m : GridMap) (c : CoordIJK) {x : Result CoordIJK Refusal} {r : Refusal} → x ≡ Err r → said_mapped x ≡ map_reply m c → verdict_of c ≡ Err r
map_refused m c is e = told_refusal 3 coord_values (verdict_of c) _ is e
