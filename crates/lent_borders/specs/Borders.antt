-- A boundary in two lent slices: the count, then face and mark of each point; and x and y of each point.
use Rattle.std.specs.Prelude.{◌||◌, List, [], ◌∷◌, ℕ, ltb, length}
use Rattle.reply.specs.Replies.{Reply}
use Rattle.lent.specs.Lent.{number_for, GivesBoth}

-- of face, x, y, mark of each point: face and mark
abbrev pub marks_in : List ℕ → List ℕ
marks_in [] = []
marks_in (f ∷ []) = []
marks_in (f ∷ x ∷ []) = []
marks_in (f ∷ x ∷ y ∷ []) = []
marks_in (f ∷ x ∷ y ∷ mark ∷ more) = f ∷ mark ∷ marks_in more

-- x and y
abbrev pub points_in : List ℕ → List ℕ
points_in [] = []
points_in (f ∷ []) = []
points_in (f ∷ x ∷ []) = []
points_in (f ∷ x ∷ y ∷ []) = []
points_in (f ∷ x ∷ y ∷ mark ∷ more) = x ∷ y ∷ points_in more

-- the values of a boundary are its count, then face, x, y and mark of each of the twelve points
abbrev pub marks_of : List ℕ → List ℕ
marks_of [] = []
marks_of (count ∷ points) = count ∷ marks_in points

abbrev pub points_of : List ℕ → List ℕ
points_of [] = []
points_of (count ∷ points) = points_in points

-- 25 numbers for the one slice, 24 doubles for the other
abbrev pub GivesBoundary : Reply → List ℕ → List ℕ → List ℕ → List ℕ → ℕ → Type 0
GivesBoundary r marks marks₂ points points₂ k =
    GivesBoth (number_for (ltb (length marks) 25 || ltb (length points) 24) r) 25 (marks_of r.values) marks marks₂ 24 (points_of r.values) points points₂ k
