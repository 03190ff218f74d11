-- A boundary on the sphere in two lent slices: the count, then face and mark of each point; and x, y and z of each point.
use Rattle.std.specs.Prelude.{Bool, ◌||◌, List, [], ◌∷◌, ℕ, ltb, length}
use Rattle.reply.specs.Replies.{Reply}
use Rattle.lent.specs.Lent.{framed_number, GivesBoth}

-- of face, x, y, z, mark of each point: face and mark
abbrev pub marks_in : List ℕ → List ℕ
marks_in [] = []
marks_in (f ∷ []) = []
marks_in (f ∷ x ∷ []) = []
marks_in (f ∷ x ∷ y ∷ []) = []
marks_in (f ∷ x ∷ y ∷ z ∷ []) = []
marks_in (f ∷ x ∷ y ∷ z ∷ mark ∷ more) = f ∷ mark ∷ marks_in more

-- x, y and z
abbrev pub vectors_in : List ℕ → List ℕ
vectors_in [] = []
vectors_in (f ∷ []) = []
vectors_in (f ∷ x ∷ []) = []
vectors_in (f ∷ x ∷ y ∷ []) = []
vectors_in (f ∷ x ∷ y ∷ z ∷ []) = []
vectors_in (f ∷ x ∷ y ∷ z ∷ mark ∷ more) = x ∷ y ∷ z ∷ vectors_in more

-- the values of a boundary are its count, then face, x, y, z and mark of each of the twelve points
abbrev pub marks_of : List ℕ → List ℕ
marks_of [] = []
marks_of (count ∷ points) = count ∷ marks_in points

abbrev pub vectors_of : List ℕ → List ℕ
vectors_of [] = []
vectors_of (count ∷ points) = vectors_in points

-- 25 numbers for the one slice, 36 doubles for the other; a bad frame comes before a slice that is too short
abbrev pub GivesGlobe : Bool → Reply → List ℕ → List ℕ → List ℕ → List ℕ → ℕ → Type 0
GivesGlobe bad r marks marks₂ points points₂ k =
    GivesBoth (framed_number bad (ltb (length marks) 25 || ltb (length points) 36) r) 25 (marks_of r.values) marks marks₂ 36 (vectors_of r.values) points points₂ k
