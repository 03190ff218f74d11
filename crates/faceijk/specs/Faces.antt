-- The neighbour faces of document 01, those listed for ADJACENT_FACE_DIR, and the direction from face to face.
use Rattle.std.specs.Prelude.{Bool, List, [], ◌∷◌, ℕ, ◌+◌, ◌-◌, ◌*◌, get_or, eqb}
use Rattle.reply.specs.Choice.{pick}
use Rattle.faceijk.specs.declared.Direction.{Direction}
use Rattle.faceijk.specs.declared.Direction.TheVariants.{Itself, OverIJ, OverKI, OverJK, Elsewhere}

-- the faces over the edges IJ, KI, JK of face 0, of face 1, and so on
abbrev pub neighbours : List ℕ
neighbours =
    4 ∷ 1 ∷ 5 ∷ 0 ∷ 2 ∷ 6 ∷ 1 ∷ 3 ∷ 7 ∷ 2 ∷ 4 ∷ 8 ∷ 3 ∷ 0 ∷ 9 ∷
    10 ∷ 14 ∷ 0 ∷ 11 ∷ 10 ∷ 1 ∷ 12 ∷ 11 ∷ 2 ∷ 13 ∷ 12 ∷ 3 ∷ 14 ∷ 13 ∷ 4 ∷
    5 ∷ 6 ∷ 15 ∷ 6 ∷ 7 ∷ 16 ∷ 7 ∷ 8 ∷ 17 ∷ 8 ∷ 9 ∷ 18 ∷ 9 ∷ 5 ∷ 19 ∷
    16 ∷ 19 ∷ 10 ∷ 17 ∷ 15 ∷ 11 ∷ 18 ∷ 16 ∷ 12 ∷ 19 ∷ 17 ∷ 13 ∷ 15 ∷ 18 ∷ 14 ∷ []

-- the face over edge e of face f: 1 is IJ, 2 is KI, 3 is JK
abbrev pub face_over : ℕ → ℕ → ℕ
face_over f e = get_or neighbours (3 * f + e - 1) 0

-- the same list as the code holds it: five bits a face from the lowest on, for one edge, of faces 0..9 (low) or 10..19
abbrev pub word_over : ℕ → Bool → ℕ
word_over e low =
    pick (eqb e 1) (pick low 507299327181828 549293577739461)
    (pick (eqb e 2) (pick low 470980141124673 652576900292838) (pick low 144105826163909 507299344500239))

-- the direction number from face f to face g: 0 the face itself, 1, 2, 3 over that edge, 7 any other
abbrev pub dir_to : ℕ → ℕ → ℕ
dir_to f g = pick (eqb f g) 0 (pick (eqb (face_over f 1) g) 1 (pick (eqb (face_over f 2) g) 2 (pick (eqb (face_over f 3) g) 3 7)))

abbrev pub direction_number : Direction → ℕ
direction_number Itself = 0
direction_number OverIJ = 1
direction_number OverKI = 2
direction_number OverJK = 3
direction_number Elsewhere = 7
