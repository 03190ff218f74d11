-- Lines that were worked out by hand: each is what the definition gives. Assumes nothing.
use mathlib.Core.Path.{◌≡◌, refl}
use mathlib.Core.List.{List, [], ◌∷◌, ◌++◌}
use Prim.Native.String.{String}
use Rattle.reply.specs.Text.{text}
use Rattle.reply.specs.declared.Refusal.TheVariants.{TooFar, BadLine}
use Rattle.reply.specs.Replies.{Reply, answer, zeros, refusal}
use Rattle.text.specs.Numbers.{digits_to, decimal, hex, field, newline}
use Rattle.ask_read.specs.declared.Asked.{Asked}
use Rattle.ask_text.specs.Texts.{overage_text, agreed_text, mark_text, value_text, field_text, name_of, refused_text}
use Rattle.ask_write.specs.Texts.{text_to, shown_of, values_text, answer_text}

pub record Example : Type 0 where
  pub asked : Asked
  pub reply : Reply
  pub line : String

abbrev pub examples : List Example
examples =
    record { asked = Asked.Round; reply = answer (1 ∷ 0 ∷ 0 ∷ 0x3fe0_0000_0000_0000 ∷ 0 ∷ []); line = "1 0 0 3fe0000000000000 0000000000000000" } ∷
    record { asked = Asked.Cross; reply = answer (4 ∷ 3 ∷ 1 ∷ 0 ∷ 2 ∷ []); line = "4 3 1 0 NewFace" } ∷
    record { asked = Asked.Same; reply = answer (1 ∷ []); line = "yes" } ∷
    record { asked = Asked.Nearest; reply = answer (0 ∷ 0x3fb9_9a41_5f40_0000 ∷ []); line = "0 3fb99a415f400000" } ∷
    record { asked = Asked.Hexagon; reply = answer (1 ∷ 7 ∷ 0x3ff0_0000_0000_0000 ∷ 0 ∷ 2 ∷ zeros 44); line = "1 7 3ff0000000000000 0000000000000000 crossing" } ∷
    record { asked = Asked.Root; reply = answer (0x3ff6_a09e_667f_3bcd ∷ []); line = "3ff6a09e667f3bcd" } ∷
    record { asked = Asked.Globe5; reply = answer (1 ∷ 7 ∷ 0 ∷ 0x3ff0_0000_0000_0000 ∷ 0 ∷ 1 ∷ zeros 55); line = "1 7 0000000000000000 3ff0000000000000 0000000000000000 corner" } ∷
    record { asked = Asked.Round; reply = refusal 5 TooFar; line = "refused 9 TooFar" } ∷
    record { asked = Asked.Unreadable; reply = refusal 0 BadLine; line = "refused 14 BadLine" } ∷
    []

abbrev pub Agree : List Example → Type 0
Agree [] = Unit {0}
Agree (e ∷ es) = (answer_text e.asked e.reply ≡ text e.line ++ newline ∷ []) × Agree es

pub worked : Agree examples
unfolding answer_text values_text shown_of text_to field_text value_text refused_text hex name_of overage_text agreed_text mark_text decimal digits_to field
worked = (refl, (refl, (refl, (refl, (refl, (refl, (refl, (refl, (refl, tt)))))))))
