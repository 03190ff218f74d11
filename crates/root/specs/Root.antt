-- The square root of a double. Document 02, §1: "for any finite number from 0 up, the nearest double, minus zero kept, defined over whole numbers."
use Rattle.reply.specs.declared.Refusal.{Refusal}
use Rattle.std.specs.Prelude.{◌≡◌, Bool, true, false, not, ◌||◌, List, [], ◌∷◌, ℕ, zero, suc, ◌+◌, ◌*◌, ◌/◌, ◌^◌, ◌≤◌, ◌<◌, T, leb, Float, Result}
use Rattle.std.specs.Float.{binary64}
use Rattle.std.specs.Float.Ieee.{fits, size, round, eq, lt, to_bits}
use Rattle.reply.specs.Choice.{pick}
use Rattle.reply.specs.declared.Refusal.TheVariants.{BadNumber}
use Rattle.reply.specs.Replies.{Reply, Reason, when, first, reply, Verdict, said}
use Rattle.double.specs.Double.{nought, finite, size_of}
use Rattle.double.specs.Sizes.{units_of}

-- ---- the root of a whole number

-- r is the root of n, cut to a whole number
pub record IsRoot (n r : ℕ) : Type 0 where
  pub under : r * r ≤ n
  pub over : n < (r + 1) * (r + 1)

-- r, or the next number where its square is still at most n
unfoldable pub raised : ℕ → ℕ → ℕ
raised n r = pick (leb ((r + 1) * (r + 1)) n) (r + 1) r

-- the root of an n below 4^k, one binary digit after the other
unfoldable pub root_upto : ℕ → ℕ → ℕ
unfolding raised
root_upto zero n = 0
root_upto (suc k) n = raised n (root_upto k (n / 4) * 2)

unfoldable pub whole_root : ℕ → ℕ
unfolding root_upto
whole_root n = root_upto (size n) n

-- ---- the root of a double

-- x is so many units of 2^-1074. Its root is the root of this number, in units
abbrev pub radicand_of : Float → ℕ
radicand_of x = units_of x * 2 ^ 1074

-- Of a zero, the zero itself: minus zero is kept. Of another number the root in units, cut to a whole number of 538 digits or more, and of these the 53 that a
-- double keeps, rounded. That it is the nearest double, and the only one, is `Nearest`'s
unfoldable pub root_of : Float → Float
root_of x = pick (eq x nought) x (round binary64 false (whole_root (radicand_of x)) (2 ^ 1074))

-- The root of w is nearer to g than to k: seen from g, the middle of g and k lies past it. With both sides squared, and times 4, this is said of whole numbers
abbrev pub Nearer : ℕ → ℕ → ℕ → Type 0
Nearer w g k = (g < k → 4 * w < (g + k) * (g + k)) × (k < g → (g + k) * (g + k) < 4 * w)

-- r, a double from 0 up, is nearer to the root of x than any other double y is. (One below 0 is farther from it than its size is.)
pub record NearestRoot (x r : Float) : Type 0 where
  pub held : T (fits binary64 r)
  pub number : finite r ≡ true
  pub plus : size_of r ≡ r
  pub nearest : (y : Float) → T (fits binary64 y) → finite y ≡ true → Nearer (radicand_of x) (units_of r) (units_of y)

-- ---- the entry, in the paper's numbers

-- BadNumber: a number below 0 or not finite. Minus zero is not below 0
unfoldable pub no_root : Float → Bool
no_root x = not (finite x) || lt x nought

abbrev pub root_reasons : Float → List Reason
root_reasons x = when (no_root x) BadNumber ∷ []

abbrev pub root_verdict : Float → Verdict
root_verdict x = first (root_reasons x)

abbrev pub said_rooted : Result Float Refusal → Reply
said_rooted = said 1 (λ r. to_bits binary64 r ∷ [])

abbrev pub root_reply : Float → Reply
root_reply x = reply 1 (root_verdict x) (to_bits binary64 (root_of x) ∷ [])
