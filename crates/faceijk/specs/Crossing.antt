-- Crossing and settling of document 01, on a grid: its unit scale, its limit m, and whether it is a substrate grid.
use Rattle.std.specs.Prelude.{Bool, false, ◌&&◌, ℕ, zero, suc, ◌+◌, ltb, eqb}
use Rattle.reply.specs.Choice.{pick}
use Rattle.level.specs.declared.Grid.{Grid}
use Rattle.coordijk.specs.declared.CoordIJK.{CoordIJK}
use Rattle.coordijk.specs.declared.GridMap.TheVariants.{SixthTurnCw}
use Rattle.coordijk.specs.Coordinates.{coord, reduced}
use Rattle.coordijk.specs.Maps.{map_of}
use Rattle.faceijk.specs.declared.Place.{Place}
use Rattle.faceijk.specs.declared.Overage.{Overage}
use Rattle.faceijk.specs.declared.Overage.TheVariants.{None, FaceEdge, NewFace}
use Rattle.faceijk.specs.declared.Landed.{Landed}
use Rattle.faceijk.specs.declared.Rested.{Rested}
use Rattle.faceijk.specs.Places.{place, coord_of, sum_at}
use Rattle.faceijk.specs.Steps.{step_of}

-- the edge that a place with s > m is stepped over: JK if j and k are both above 0, KI if only k is, otherwise IJ
abbrev pub edge_out : Place → ℕ
edge_out p = pick (ltb 0 p.k) (pick (ltb 0 p.j) 3 2) 1

-- a CW sixth turn about (m,0,0): `turned_about` (Turn) without numbers below zero. Taking (m,0,0) away and adding (0,m,m) reduce to the same
unfoldable pub about_corner : ℕ → CoordIJK → CoordIJK
about_corner m c =
    let q = map_of SixthTurnCw (coord c.i (c.j + m) (c.k + m)) in
    reduced (q.i + m) q.j q.k

-- with the pentagon turn asked, a KI step is preceded by the turn about (m,0,0)
abbrev pub start_out : Bool → ℕ → Grid → Place → Place
start_out turn e g p = pick (turn && eqb e 2) (place p.face (about_corner g.limit (coord_of p))) p

-- the step that crossing makes
unfoldable pub step_out : Bool → Grid → Place → Place
step_out turn g p = step_of (start_out turn (edge_out p) g p) (edge_out p) g.unit

abbrev pub landed : Place → Overage → Landed
landed p o = record { place = p; overage = o }

-- substrate with s = m
abbrev pub on_edge : Grid → Place → Bool
on_edge g p = g.substrate && eqb (sum_at p) g.limit

-- crossing: on substrate, s = m answers FaceEdge, unchanged; s > m steps, and substrate with new s = m answers FaceEdge, otherwise NewFace; in all other cases None, unchanged
abbrev pub arrived : Grid → Place → Landed
arrived g q = landed q (pick (on_edge g q) FaceEdge NewFace)

unfoldable pub crossing_of : Bool → Grid → Place → Landed
crossing_of turn g p =
    pick (on_edge g p) (landed p FaceEdge) (pick (ltb g.limit (sum_at p)) (arrived g (step_out turn g p)) (landed p None))

abbrev pub rested : Place → ℕ → Rested
rested p n = record { place = p; steps = n }

-- what settling does with a crossing from a place after n steps; `over` says whether that crossing was a step
abbrev pub follow : (Place → ℕ → Rested) → Bool → Overage → Place → ℕ → Rested
follow again over NewFace q n = again q (n + 1)
follow again over FaceEdge q n = rested q (pick over (n + 1) n)
follow again over None q n = rested q n

-- settling: crossing repeated without the turn while the answer is NewFace, t times at the most, from a place after n steps. As many times as Q says are always enough
unfoldable pub settle_from : ℕ → Grid → Place → ℕ → Rested
settle_from zero g p n = rested p n
settle_from (suc t) g p n =
    let c = crossing_of false g p in
    follow (settle_from t g) (ltb g.limit (sum_at p)) c.overage c.place n
