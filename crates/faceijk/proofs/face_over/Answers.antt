-- `face_over` meets its contract: it reads the face's five bits. Assumes nothing.
use mathlib.Core.Path.{◌≡◌, ◌∙◌}
use Prim.Native.Nat.{◌%◌}
use native.Mathlib.Omega.{arith}
use Rattle.faceijk.proofs.Words.{read, word_read}
use Rattle.faceijk.proofs.face_over.Goals as goal
use Rattle.faceijk.proofs.face_over.Goals.{then-low, else-low}

pub returns : goal.returns
returns c =
    let a = c.args in
    let pre = c.requires in
    -- which five bits of their word are the face's
    let place_in : c.if-low.at ≡ a.face % 10 =
    elim c.if-low.branch [
      | then-low w ↦ omega arith
      | else-low w ↦ omega arith
    ] in
    (λ n. read (c.faces_over.ensures n) (place_in n)) ∙ word_read a.face a.edge pre.0 pre.1 pre.2
