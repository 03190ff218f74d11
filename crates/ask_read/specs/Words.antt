-- One word of a question as a field: a number, a double, or one of two words that stand for no and yes.
use Rattle.std.specs.Prelude.{Bool, true, false, not, ◌&&◌, Option, Some, None, option_map, option_and_then, List, [], ◌∷◌, ◌++◌, ℕ, ◌+◌, ◌-◌, ◌*◌, ◌^◌, ltb, eqb, length, get_or, take, drop, Float}
use Rattle.std.specs.Float.{binary64}
use Rattle.std.specs.Float.Ieee.{of_bits, round, neg}
use Rattle.reply.specs.Choice.{pick}
use Rattle.ask_read.specs.Scan.{index_of}

-- ---- digits

-- what a byte counts for as a digit, 0 to 15, small or capital; 16 where it is none
unfoldable pub digit_of : ℕ → ℕ
digit_of b =
    pick (ltb 47 b && ltb b 58) (b - 48)
    (pick (ltb 96 b && ltb b 103) (b - 87)
    (pick (ltb 64 b && ltb b 71) (b - 55)
    16))

-- one byte more, which is a digit of the base or spoils the number
unfoldable pub with_digit : ℕ → ℕ → ℕ → Option ℕ
with_digit base v b = pick (ltb (digit_of b) base) (Some (base * v + digit_of b)) None

-- the number that all bytes spell in the base, after the digits read before them
unfoldable pub spelt : ℕ → ℕ → List ℕ → Option ℕ
spelt base v [] = Some v
spelt base v (b ∷ bs) = option_and_then (λ n. spelt base n bs) (with_digit base v b)

-- one byte, or several of which the first is not 0
unfoldable pub plain : List ℕ → Bool
plain w = pick (ltb (length w) 2) (eqb (length w) 1) (not (eqb (get_or w 0 0) 48))

-- ---- a number: decimal, 0..4294967295, no sign, no leading zero; ten digits hold them all (proofs/Numerals)

unfoldable pub number_from : ℕ → Option ℕ
number_from n = pick (ltb n 4294967296) (Some n) None

unfoldable pub number_field : List ℕ → Option ℕ
number_field w = pick (ltb (length w) 11 && plain w) (option_and_then number_from (spelt 10 0 w)) None

-- ---- a decimal

-- the digits' number with k of the digits after the point: the double that is nearest to it over 10^k, of two as near the even one
unfoldable pub decimal_from : ℕ → ℕ → Float
decimal_from n k = round binary64 false n (10 ^ k)

-- the digits before the point, 46, and those after it
abbrev pub whole_of : List ℕ → List ℕ
whole_of w = take (index_of 46 w) w

abbrev pub decimals_of : List ℕ → List ℕ
decimals_of w = drop (index_of 46 w + 1) w

-- digits without a leading zero, and, if there is a point, digits after it; at most 15 in all
unfoldable pub unsigned_field : List ℕ → Option Float
unsigned_field w =
    pick (plain (whole_of w) && not (eqb (index_of 46 w + 1) (length w)) && ltb (length (whole_of w) + length (decimals_of w)) 16)
    (option_map (λ n. decimal_from n (length (decimals_of w))) (spelt 10 0 (whole_of w ++ decimals_of w)))
    None

-- minus a double; what is none stays none
abbrev pub negated : Option Float → Option Float
negated x = option_map neg x

-- a minus, 45, may stand before them
unfoldable pub decimal_field : List ℕ → Option Float
decimal_field w = pick (eqb (get_or w 0 0) 45) (negated (unsigned_field (drop 1 w))) (unsigned_field w)

-- ---- a double: the 16 hex digits of its bits, or a decimal

unfoldable pub bits_of : List ℕ → Option ℕ
bits_of w = pick (eqb (length w) 16) (spelt 16 0 w) None

-- the double of a pattern, or else the one given
abbrev pub of_pattern : Option ℕ → Option Float → Option Float
of_pattern (Some n) other = Some (of_bits binary64 n)
of_pattern None other = other

unfoldable pub double_field : List ℕ → Option Float
double_field w = of_pattern (bits_of w) (decimal_field w)

-- ---- a flag: the word for 0 or the word for 1

unfoldable pub same : List ℕ → List ℕ → Bool
same [] [] = true
same [] (b ∷ bs) = false
same (a ∷ at) [] = false
same (a ∷ at) (b ∷ bs) = eqb a b && same at bs

unfoldable pub flag_field : List ℕ → List ℕ → List ℕ → Option ℕ
flag_field off on w = pick (same w off) (Some 0) (pick (same w on) (Some 1) None)
