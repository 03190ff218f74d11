-- Numbers as bytes: in decimal, and the sixteen hexadecimal digits of 64 bits.
use Rattle.std.specs.Prelude.{List, [], ◌∷◌, ◌++◌, ℕ, zero, suc, ◌+◌, ◌/◌, ◌%◌, ltb}
use Rattle.io.specs.Digits.{last_digits}
use Rattle.reply.specs.Choice.{pick}

-- the byte of a digit
abbrev pub digit : ℕ → ℕ
digit d = 48 + d

-- a number in decimal, by t digits at the most: the digits of its tenth, then its last one
unfoldable pub digits_to : ℕ → ℕ → List ℕ
digits_to zero n = []
digits_to (suc t) n = pick (ltb n 10) (digit n ∷ []) (digits_to t (n / 10) ++ digit (n % 10) ∷ [])

-- n + 1 digits are always enough
unfoldable pub decimal : ℕ → List ℕ
decimal n = digits_to (suc n) n

-- the last sixteen hexadecimal digits, the highest first, in lower case
unfoldable pub hex : ℕ → List ℕ
hex n = last_digits 16 16 n

abbrev pub space : ℕ
space = 32

abbrev pub newline : ℕ
newline = 10

-- a space, and a number
unfoldable pub field : ℕ → List ℕ
field n = space ∷ decimal n
