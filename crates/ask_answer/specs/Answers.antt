-- What an answer of the desk tool says.
use Rattle.reply.specs.Replies.{Reply}
use Rattle.lent.specs.Lent.{bits_of}
use Rattle.ask_read.specs.declared.Asked.{Asked}
use Rattle.ask_call.specs.Replies.{kinds_of, values_in, Holds}
use Rattle.ask_answer.specs.declared.Answer.{Answer}

-- its refusal's number, and its values, a double by its bits
abbrev pub said_answer : Asked → Answer → Reply
said_answer asked a =
    record { number = a.number; values = values_in (kinds_of asked) a.numbers (bits_of a.doubles) }

-- an answer that says a reply and nothing else
abbrev pub Says : Asked → Reply → Answer → Type 0
Says asked r a = Holds asked r a.number a.numbers (bits_of a.doubles)
