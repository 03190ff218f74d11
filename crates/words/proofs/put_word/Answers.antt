-- `put_word` meets its contract: the number's four bytes stand where the slice's four did. Assumes nothing.
use mathlib.Core.Path.{refl, sym, ◌∙◌}
use native.Mathlib.Omega.{arith}
use lib.Seq.{sets-eq, take-length}
use Rattle.std.proofs.lemmas.Slice.{put_mid-paste}
use Rattle.words.specs.Words.{word_bytes}
use Rattle.words.proofs.put_word.Goals as goal

pub returns : goal.returns
unfolding word_bytes
returns c =
    let a = c.args in
    put_mid-paste a.at _ a.out.now _ (word_bytes a.word) 4 (cc) (omega arith) refl
    ∙ rw (take-length (word_bytes a.word)) (sym (sets-eq (word_bytes a.word) a.out.now a.at (omega arith)))
