-- The entries on corner names, in the paper's numbers. Both are asked of places with s at most m, on the substrate grid of a level.
use Rattle.reply.specs.declared.Refusal.{Refusal}
use Rattle.std.specs.Prelude.{Bool, true, ◌||◌, List, [], ◌∷◌, ℕ, ◌≤◌, ltb, Result}
use Rattle.reply.specs.Choice.{pick}
use Rattle.reply.specs.declared.Refusal.TheVariants.{BadFace, BadLevel, NotReduced, OutOfFace}
use Rattle.reply.specs.Replies.{Reply, Reason, when, first, reply, Verdict, said, yes_or_no}
use Rattle.level.specs.declared.Grid.{Grid}
use Rattle.level.specs.Levels.{bad_grid, grid_of}
use Rattle.coordijk.specs.Coordinates.{not_reduced}
use Rattle.faceijk.specs.declared.Place.{Place}
use Rattle.faceijk.specs.Places.{coord_of, place_values, sum_at, bad_face, Okay}
use Rattle.names.specs.Row.{same_of, first_of}

-- OutOfFace: s above m
abbrev pub out_of : Grid → Place → Bool
out_of g p = ltb g.limit (sum_at p)

-- why two corners on one grid may be refused; a single corner is asked as itself twice
abbrev pub inside_reasons : Place → Place → Grid → List Reason
inside_reasons p q g =
    when (not_reduced (coord_of p) || not_reduced (coord_of q)) NotReduced ∷ when (out_of g p || out_of g q) OutOfFace ∷ []

abbrev pub names_reasons : Place → Place → ℕ → List Reason
names_reasons p q l =
    when (bad_face p.face || bad_face q.face) BadFace ∷ when (bad_grid l) BadLevel ∷ inside_reasons p q (grid_of l true)

abbrev pub inside_verdict : Place → Place → Grid → Verdict
inside_verdict p q g = first (inside_reasons p q g)

abbrev pub names_verdict : Place → Place → ℕ → Verdict
names_verdict p q l = first (names_reasons p q l)

-- a corner that is taken: s at most m
pub record Inside (g : Grid) (p : Place) : Type 0 where
  pub okay : Okay p
  pub inside : sum_at p ≤ g.limit

-- the first name of a corner
abbrev pub first_reply : Place → ℕ → Reply
first_reply p l = reply 4 (names_verdict p p l) (place_values (first_of (grid_of l true) p))

-- whether two corners are the same: 1 yes, 0 no
abbrev pub said_same : Result Bool Refusal → Reply
said_same = said 1 yes_or_no

abbrev pub same_reply : Place → Place → ℕ → Reply
same_reply p q l = reply 1 (names_verdict p q l) (pick (same_of (grid_of l true) p q) 1 0 ∷ [])
