-- Every answer of rounding may be trusted as `Trusted` has it: the leftovers in units, and the hexagon, unfolded, as the nearest centre. Assumes nothing.
use mathlib.Core.Path.{◌≡◌, refl, ap, ◌∙◌}
use mathlib.Core.Bool.{Bool, true, false, true≢false}
use Prim.Native.Nat.{ℕ, ◌+◌, ◌*◌, ◌/◌, ◌%◌, ◌^◌, ◌<◌}
use native.Mathlib.Nat.{lt_of_mul-lt-mul_right, mul-lt-mul_of_pos_right, mod-lt, div-add-mod'}
use native.Mathlib.Omega.{arith}
use lib.Dec.{T}
use lib.IntN.{pos}
use lib.Ieee.{Float, nan, inf, fin, binary64, fits, lt}
use lib.Ieee.Exact.{HasValue}
use lib.Ieee.Positive.{num, den, den_pos}
use Rattle.reply.specs.Replies.{fine}
use Rattle.reply.specs.Choice.{pick}
use Rattle.double.specs.Double.{nought}
use Rattle.double.specs.Sizes.{Upto, units_of}
use Rattle.double.proofs.Left.{same_fraction}
use Rattle.double.proofs.Units.{L_pos, units_equal}
use Rattle.vec2d.specs.declared.Vec2d.{Vec2d}
use Rattle.vec2d.specs.declared.Steps.{Steps}
use Rattle.vec2d.specs.Rounding.{round_verdict, x1_of, x2_of, quantized_of, steps_of, raised_by, nearest_of, found_of}
use Rattle.vec2d.specs.Nearest.{Nearest, Parted, Trusted}
use Rattle.vec2d.proofs.Accepted.{accepted}
use Rattle.vec2d.proofs.Exact.{exact, fitting, wide_first, wide_second}
use Rattle.vec2d.proofs.Telling.{plus_value}
use Rattle.vec2d.proofs.Branches.{chosen_within}
use Rattle.vec2d.proofs.Nearest.{nearest}
use Rattle.vec2d.proofs.Unfolding.{undone}

-- ---- a leftover in units

in_units : (r : Float) (a c : ℕ) → T (fits binary64 r) → HasValue r false a c → HasValue r false (units_of r) (2 ^ 1074)
in_units nan a c f v = absurd v
in_units (inf s) a c f v = absurd v
in_units (fin true m e) a c f v = absurd (true≢false v.0)
in_units (fin false m e) a c f v = (refl, units_equal (fin false m e) f refl)

-- a fraction below 1 is so in any unit
proper : (a c n k : ℕ) → 0 < k → n * c ≡ a * k → a < c → n < k
proper a c n k K e h = lt_of_mul-lt-mul_right c (omega (arith, e, mul-lt-mul_of_pos_right h K))

-- x is its whole part q and a leftover of n / k
together : (x : Float) (q r n k : ℕ) → HasValue x false (num x) (den x) → q * den x + r ≡ num x → n * den x ≡ r * k → HasValue x false (q * k + n) k
together nan q r n k v e f = absurd v
together (inf s) q r n k v e f = absurd v
together (fin s m x) q r n k v e f = (v.0, omega (arith, ap (λ (z : ℕ). z * k) e, f))

own : (n : ℕ) (x : Float) → Upto n x → HasValue x false (num x) (den x)
own n x p = plus_value x p.under.number p.plus

parted : (x r : Float) (m : ℕ) → Upto (2 ^ 53) x → T (fits binary64 r) → m ≡ num x / den x → HasValue r false (num x % den x) (den x) → Parted x m r
parted x r m u f e v =
    let w = in_units r (num x % den x) (den x) f v in
    let s = same_fraction r (num x % den x) (den x) (units_of r) (2 ^ 1074) v w in
    record {
      n = units_of r;
      left = w;
      low = proper (num x % den x) (den x) (units_of r) (2 ^ 1074) L_pos s (mod-lt (num x) (den_pos x));
      whole = together x m (num x % den x) (units_of r) (2 ^ 1074) (own (2 ^ 53) x u) (ap (λ (z : ℕ). z * den x + num x % den x) e ∙ div-add-mod' (num x) (den x)) s;
    }

-- ---- the chosen centre

-- a step up, or none
abbrev bit : Bool → ℕ
bit b = pick b 1 0

raised_is : (b : Bool) (m : ℕ) → raised_by b m ≡ m + bit b
raised_is true m = refl
raised_is false m = omega arith

scaled : (b : Bool) (k d : ℕ) → pick b (k * d) 0 ≡ k * (d * bit b)
scaled true k d = omega arith
scaled false k d = omega arith

module _ (v : Vec2d) (clear : round_verdict v ≡ fine) where
  abbrev r1 : Float
  r1 = (quantized_of v).r1

  abbrev r2 : Float
  r2 = (quantized_of v).r2

  abbrev m1 : ℕ
  m1 = (quantized_of v).m1

  abbrev m2 : ℕ
  m2 = (quantized_of v).m2

  abbrev s : Steps
  s = steps_of r1 r2

  first : Parted (x1_of v) m1 r1
  unfolding quantized_of
  first = let e = exact v clear in parted (x1_of v) r1 m1 (wide_first v (accepted v clear)) (fitting (x1_of v)) e.whole1 e.left1

  second : Parted (x2_of v) m2 r2
  unfolding quantized_of
  second = let e = exact v clear in parted (x2_of v) r2 m2 (wide_second v (accepted v clear)) (fitting (x2_of v)) e.whole2 e.left2

  chosen_nearest : (d n1 n2 : ℕ) → HasValue r1 false n1 d → HasValue r2 false n2 d → n1 < d → n2 < d
      → Nearest d (m1 * d + n1) (m2 * d + n2) (pos (m1 + bit s.i)) (pos (m2 + bit s.j))
  chosen_nearest d n1 n2 v1 v2 p1 p2 =
      nearest m1 m2 n1 n2 d (bit s.i) (bit s.j) p1 p2 (rw (scaled s.i (2 ^ 40) d, scaled s.j (2 ^ 40) d) at (chosen_within r1 r2 d n1 n2 p1 p2 v1 v2))

  -- What rounding finds for an accepted point may be trusted.
  pub trusted : Trusted v (found_of v)
  unfolding nearest_of
  trusted =
      let u = undone (lt v.x nought) (lt v.y nought) (raised_by s.i m1) (raised_by s.j m2) in
      record {
        first = first;
        second = second;
        nearest = rw (u.first, u.second, raised_is s.i m1, raised_is s.j m2) (chosen_nearest (2 ^ 1074) first.n second.n first.left second.left first.low second.low);
      }
