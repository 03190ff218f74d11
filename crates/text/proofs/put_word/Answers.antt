-- `put_word` meets its contract: the word stands where the buffer's part did. Assumes nothing.
use mathlib.Core.Path.{refl}
use native.Mathlib.Omega.{arith}
use lib.ListN.{length}
use Rattle.std.proofs.lemmas.Slice.{put_mid-paste}
use Rattle.text.proofs.Putting.{pasted}
use Rattle.text.proofs.put_word.Goals as goal

pub returns : goal.returns
returns c =
    let a = c.args in
    let w = a.word.now in
    pasted w a.buf.now _ a.at c.requires (put_mid-paste a.at _ a.buf.now _ w (length w) (cc) (omega arith) refl)
