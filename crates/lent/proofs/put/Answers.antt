-- `put` meets its contract: the values stand where the slice's part did. Assumes nothing.
use mathlib.Core.Path.{refl, ◌∙◌}
use native.Mathlib.Omega.{arith}
use lib.ListN.{length}
use lib.Seq.{take-length}
use Rattle.std.proofs.lemmas.Slice.{put_mid-paste}
use Rattle.lent.proofs.put.Goals as goal

pub returns : goal.returns
returns g c =
    let a = c.args in
    let vs = a.from.now in
    put_mid-paste a.at _ a.out.now _ vs (length vs) (cc) (omega arith) refl ∙ rw (take-length vs)
