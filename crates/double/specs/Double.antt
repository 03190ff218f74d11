-- Doubles in the paper's words: the numbers that it names, sizes, whole parts and leftovers, and its sum of a product.
use Rattle.std.specs.Prelude.{Bool, true, false, ℕ, ◌*◌, ◌^◌, pos, Float}
use Rattle.std.specs.Float.{nan, inf, fin, binary64}
use Rattle.std.specs.Float.Ieee.{up, down, unlike, round, of_bits, sum, add, sub, mul, of_int, to_unsigned}
use Rattle.double.specs.declared.Parts.{Parts}

-- the double nearest to n / 10 ^ d: what the literal of n with d decimals stands for; and the same below zero
abbrev pub decimal : ℕ → ℕ → Float
decimal n d = round binary64 false n (10 ^ d)

abbrev pub minus : ℕ → ℕ → Float
minus n d = round binary64 true n (10 ^ d)

-- The numbers that the paper names, by their bits; proofs/Literals has each as its decimal
abbrev pub nought : Float
nought = of_bits binary64 0x0000_0000_0000_0000

abbrev pub quarter : Float
quarter = of_bits binary64 0x3fd0_0000_0000_0000

abbrev pub half : Float
half = of_bits binary64 0x3fe0_0000_0000_0000

abbrev pub one : Float
one = of_bits binary64 0x3ff0_0000_0000_0000

abbrev pub one_and_half : Float
one_and_half = of_bits binary64 0x3ff8_0000_0000_0000

abbrev pub two : Float
two = of_bits binary64 0x4000_0000_0000_0000

abbrev pub two_and_half : Float
two_and_half = of_bits binary64 0x4004_0000_0000_0000

abbrev pub three : Float
three = of_bits binary64 0x4008_0000_0000_0000

-- 1 / sin 60° and sin 60°, as the source writes them
abbrev pub rsin60 : Float
rsin60 = of_bits binary64 0x3ff2_79a7_4590_331c

abbrev pub sin60 : Float
sin60 = of_bits binary64 0x3feb_b67a_e858_4caa

-- 2^25: a part of a plane point of this size or more is too far
abbrev pub limit : Float
limit = of_bits binary64 0x4180_0000_0000_0000

-- 2^-23: two plane points whose parts differ by at most this are equal
abbrev pub tolerance : Float
tolerance = of_bits binary64 0x3e80_0000_0000_0000

-- 1 - 2^-40 and 1 + 2^-40: the ends between which a vector's dot product with itself is on the sphere
abbrev pub sphere_low : Float
sphere_low = of_bits binary64 0x3fef_ffff_ffff_e000

abbrev pub sphere_high : Float
sphere_high = of_bits binary64 0x3ff0_0000_0000_1000

-- neither a NaN nor an infinity
abbrev pub finite : Float → Bool
finite nan = false
finite (inf s) = false
finite (fin s m e) = true

-- |x|: the sign is cleared, also a zero's
abbrev pub size_of : Float → Float
size_of nan = nan
size_of (inf s) = inf false
size_of (fin s m e) = fin false m e

-- the whole part of an x from 0 up to 2^64, and what is left of x without it
abbrev pub whole_of : Float → ℕ
whole_of x = to_unsigned 64 x

abbrev pub left_of : Float → Float
left_of x = sub binary64 x (of_int binary64 (pos (whole_of x)))

abbrev pub parts_of : Float → Parts
parts_of x = record { whole = whole_of x; left = left_of x }

-- a · b + c: a product and a sum, each rounded
unfoldable pub mul_add_of : Float → Float → Float → Float
mul_add_of a b c = add binary64 (mul binary64 a b) c

-- a · b + c rounded once: the exact product and c over one divisor, and one rounding of their sum. Of finite numbers only: any other gives a NaN
unfoldable pub mul_add_once : Float → Float → Float → Float
mul_add_once nan b c = nan
mul_add_once (inf s) b c = nan
mul_add_once (fin s m e) nan c = nan
mul_add_once (fin s m e) (inf t) c = nan
mul_add_once (fin s m e) (fin t n d) nan = nan
mul_add_once (fin s m e) (fin t n d) (inf u) = nan
mul_add_once (fin s m e) (fin t n d) (fin u k g) =
    sum binary64 (unlike s t) (m * up e * (n * up d) * down g) u (k * up g * (down e * down d)) (down e * down d * down g)
