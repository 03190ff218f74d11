-- How names are found: in a row, each the step of the one before it. The laws (proofs/Laws) say that the row has the names of `Names`, and no other.
use Rattle.std.specs.Prelude.{Bool, ◌||◌, ℕ, zero, suc, ltb, eqb}
use Rattle.reply.specs.Choice.{pick}
use Rattle.level.specs.declared.Grid.{Grid}
use Rattle.faceijk.specs.declared.Place.{Place}
use Rattle.faceijk.specs.Places.{same_place, sum_at}
use Rattle.faceijk.specs.Steps.{step_of}

-- s = m: the point lies on an edge
abbrev pub at_limit : Grid → Place → Bool
at_limit g p = eqb (sum_at p) g.limit

-- each edge has its first corner and not its last, so that the row goes round a corner in one sense: a point with s = m is stepped over IJ from (m,0,0) to before (0,m,0), over JK from there to before (0,0,m), over KI from there on
abbrev pub edge_at : Place → ℕ
edge_at p = pick (eqb p.k 0) (pick (eqb p.i 0) 3 1) (pick (eqb p.j 0) 2 3)

-- the next name: the step over that edge; an inner point is its own
unfoldable pub next_name : Grid → Place → Place
next_name g p = pick (at_limit g p) (step_of p (edge_at p) g.unit) p

-- how many names a point has beside its own: a face corner four, another edge point one, an inner point none
abbrev pub face_corner : Grid → Place → Bool
face_corner g p = eqb p.i g.limit || (eqb p.j g.limit || eqb p.k g.limit)

unfoldable pub others : Grid → Place → ℕ
others g p = pick (at_limit g p) (pick (face_corner g p) 4 1) 0

-- whether q is p or one of the n names that follow it
unfoldable pub among : ℕ → Grid → Place → Place → Bool
among zero g p q = same_place p q
among (suc n) g p q = same_place p q || among n g (next_name g p) q

-- same corner: one name is among the names of the other
unfoldable pub same_of : Grid → Place → Place → Bool
same_of g p q = among (others g p) g p q

-- the name with the lower face
unfoldable pub lower : Place → Place → Place
lower a b = pick (ltb b.face a.face) b a

-- the lowest of a name a and the n names that follow p
unfoldable pub lowest : ℕ → Grid → Place → Place → Place
lowest zero g a p = a
lowest (suc n) g a p = lowest n g (lower a (next_name g p)) (next_name g p)

-- the first name
unfoldable pub first_of : Grid → Place → Place
first_of g p = lowest (others g p) g p p
