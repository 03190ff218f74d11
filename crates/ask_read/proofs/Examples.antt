-- Worked examples: lines and what they ask, in one statement. Assumes nothing.
use mathlib.Core.Path.{◌≡◌, refl}
use mathlib.Core.List.{List, [], ◌∷◌, map}
use Prim.Native.Nat.{ℕ}
use Prim.Native.String.{String}
use lib.ListN.{replicate}
use lib.Ieee.{Float, binary64, of_bits, round, neg}
use Rattle.ask_read.specs.Scan.{index_of}
use Rattle.double.specs.Double.{nought}
use Rattle.ask_read.specs.Words.{digit_of, with_digit, spelt, plain, number_from, number_field, decimal_from, unsigned_field, decimal_field, bits_of, double_field, same, flag_field}
use Rattle.ask_read.specs.declared.Asked.TheVariants.{Round, Cross, Same, Root, Sphere, Globe5, First, Help}
use Rattle.ask_read.specs.declared.Question.{Question}
use Rattle.reply.specs.Text.{text}
use Rattle.ask_read.specs.Questions.{words, row_of, row_at, field_of, question, unreadable, filled, question_of}

-- two doubles by their bits, and zeros
abbrev pub two : ℕ → ℕ → List Float
two x y = of_bits binary64 x ∷ of_bits binary64 y ∷ replicate 7 nought

abbrev pub lines : List String
lines =
    "round 1 0" ∷
    "round 0.5 -0" ∷
    "round -2.75 3fe0000000000000" ∷
    "round 0.1 0" ∷
    "round 01 0" ∷
    "round 1  0" ∷
    "round 1 0 " ∷
    "round 1 0 0" ∷
    "cross 0 2 s 14 0 4294967295 yes" ∷
    "direction 0 4294967296" ∷
    "root -0" ∷
    "sphere 0 3 0.5 1" ∷
    "globe5 0 1 6 0 2 0 5" ∷
    "same 0 4 4 0 2 0 4 2 0" ∷
    "first 4 0 4 0 2" ∷
    "help" ∷
    "" ∷
    []

abbrev pub asked : List Question
asked =
    question Round (replicate 9 0) (two 0x3ff0_0000_0000_0000 0) ∷
    question Round (replicate 9 0) (two 0x3fe0_0000_0000_0000 0x8000_0000_0000_0000) ∷
    question Round (replicate 9 0) (two 0xc006_0000_0000_0000 0x3fe0_0000_0000_0000) ∷
    question Round (replicate 9 0) (two 0x3fb9_9999_9999_999a 0) ∷
    unreadable ∷
    unreadable ∷
    unreadable ∷
    unreadable ∷
    question Cross (0 ∷ 2 ∷ 1 ∷ 14 ∷ 0 ∷ 4294967295 ∷ 1 ∷ 0 ∷ 0 ∷ []) (replicate 9 nought) ∷
    unreadable ∷
    question Root (replicate 9 0) (two 0x8000_0000_0000_0000 0) ∷
    question Sphere (0 ∷ 3 ∷ replicate 7 0) (nought ∷ nought ∷ of_bits binary64 0x3fe0_0000_0000_0000 ∷ of_bits binary64 0x3ff0_0000_0000_0000 ∷ replicate 5 nought) ∷
    question Globe5 (0 ∷ 1 ∷ 6 ∷ 0 ∷ 2 ∷ 0 ∷ 5 ∷ 0 ∷ 0 ∷ []) (replicate 9 nought) ∷
    question Same (0 ∷ 4 ∷ 4 ∷ 0 ∷ 2 ∷ 0 ∷ 4 ∷ 2 ∷ 0 ∷ []) (replicate 9 nought) ∷
    question First (4 ∷ 0 ∷ 4 ∷ 0 ∷ 2 ∷ replicate 4 0) (replicate 9 nought) ∷
    question Help (replicate 9 0) (replicate 9 nought) ∷
    unreadable ∷
    []

pub examples : map (λ (s : String). question_of (text s)) lines ≡ asked
unfolding question_of words filled row_of row_at field_of same flag_field number_field number_from double_field bits_of decimal_field unsigned_field decimal_from plain spelt with_digit digit_of index_of of_bits round neg
examples = refl
