-- `heddleplume_frame` meets its contract: it copies the default frame. Assumes nothing.
use mathlib.Core.Path.{refl, ap}
use mathlib.Core.List.{List, ◌++◌}
use lib.Ieee.{Float}
use lib.ListN.{drop}
use Rattle.reply.specs.Replies.{answer}
use Rattle.frame.specs.Default.{default_frame}
use Rattle.lent.specs.Lent.{bits_of}
use Rattle.lent.proofs.Lent.{answers_doubles}
use Rattle.lent.proofs.Chunk.{found}
use Rattle.heddleplume.proofs.heddleplume_frame.Goals as goal

pub returns : goal.returns
returns c =
    let out = c.args.out.now in
    let room = found (λ x. x.now) out 180 c.first_chunk_mut.result c.in-Some.values c.first_chunk_mut.ensures.cases c.in-Some.is in
    answers_doubles 180 out room.0 (answer (bits_of default_frame)) default_frame _ refl (ap (λ (l : List Float). l ++ drop 180 out) c.default_frame.ensures)
