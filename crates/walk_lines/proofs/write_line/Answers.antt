-- `write_line` meets its contract: by the kind of line. Assumes nothing.
use borrow.Author.Rules.{rules}
use Rattle.walk_lines.specs.declared.Line.{Line}
use Rattle.walk_lines.proofs.Lengths.{Fits, longest}
use Rattle.text.proofs.Room.{in_room}
use Rattle.walk_lines.proofs.write_line.Goals as goal

pub returns-in-From : goal.returns-in-From
returns-in-From c =
    let fits : Fits c.in-From.place = record { face = search rules; i = search rules; j = search rules; k = search rules } in
    rw c.in-From.is
    (in_room (λ x. x.now) c.args.buf.now 70 c.first_chunk_mut.result c.in-Some.room c.first_chunk_mut.ensures.cases c.in-Some.is (longest (Line.From c.in-From.place) fits) c.place_line.ensures)

pub returns-in-Over : goal.returns-in-Over
returns-in-Over c =
    let fits : Fits c.in-Over.place = record { face = search rules; i = search rules; j = search rules; k = search rules } in
    rw c.in-Over.is
    (in_room (λ x. x.now) c.args.buf.now 70 c.first_chunk_mut.result c.in-Some.room c.first_chunk_mut.ensures.cases c.in-Some.is (longest (Line.Over c.in-Over.place) fits) c.place_line-in-Over.ensures)

pub returns-in-Rest : goal.returns-in-Rest
returns-in-Rest c =
    let fits : Fits c.in-Rest.rested.place = record { face = search rules; i = search rules; j = search rules; k = search rules } in
    rw c.in-Rest.is
    (in_room (λ x. x.now) c.args.buf.now 70 c.first_chunk_mut.result c.in-Some.room c.first_chunk_mut.ensures.cases c.in-Some.is (longest (Line.Rest c.in-Rest.rested) (fits, search rules)) c.rest_line.ensures)

pub returns-in-Refused : goal.returns-in-Refused
returns-in-Refused c =
    rw c.in-Refused.is
    (in_room (λ x. x.now) c.args.buf.now 70 c.first_chunk_mut.result c.in-Some.room c.first_chunk_mut.ensures.cases c.in-Some.is (longest (Line.Refused c.in-Refused.refusal) tt) c.refused_line.ensures)
