-- The square of a root, in units, is the number within one part in 2^50: what the length of a vector stands on. Assumes nothing.
use mathlib.Core.Path.{sym, ap, ◌∙◌}
use mathlib.Core.Bool.{false}
use Prim.Native.Nat.{ℕ, ◌+◌, ◌*◌, ◌^◌, ◌≤◌, ◌<◌}
use native.Mathlib.Nat.{le_trans, le_of_eq, le_refl, le_of_lt, lt_of_lt_of_le, lt_of_le_of_lt, le-mul_of_pos_right, mul_comm, add-mul, one-mul}
use native.Mathlib.Omega.{arith}
use lib.Dec.{T, lit<, lit≤}
use lib.Pow.{pow_pos}
use lib.Ieee.{Float, binary64, fits}
use lib.Ieee.Exact.{HasValue}
use lib.Ieee.Scale.{grid}
use Rattle.double.specs.Sizes.{units_of}
use Rattle.double.proofs.Near.{Rel, Rounded, rounded, rel_trans, rel_mul, rel_cancel, rel_le}
use Rattle.double.proofs.Units.{L, value_of}
use Rattle.root.specs.Root.{IsRoot, whole_root, radicand_of, root_of}
use Rattle.root.specs.AsWorked.{Positive}
use Rattle.root.proofs.Squares.{root_le, whole_root_is}
use Rattle.root.proofs.Rules.{root_is}
use Rattle.root.proofs.Nearest.{root_nearest}

-- l is the root of q, both in units, L of which are 1
pub record Root (L q l : ℕ) : Type 0 where
  pub most : Rel (2 ^ 50) (l * l) (q * L)
  pub least : Rel (2 ^ 50) (q * L) (l * l)

abbrev pub root_u : ℕ → ℕ
root_u u = grid binary64 (whole_root (u * L)) L

-- the whole root is so large that a unit more or less is nothing
pub root_near : (u : ℕ) → 0 < u → Root L u (root_u u)
root_near u U = go L (lit≤ tt) (whole_root (u * L)) (root_u u) (whole_root_is (u * L)) (rounded (whole_root (u * L)) L (pow_pos 1074))
  where
    far : (I : ℕ) → 2 ^ 59 ≤ I → Rel (2 ^ 59) (I + 1) I
    far I h = record { says = omega arith }

    half : (I g : ℕ) → 2 ^ 59 ≤ I → Rel (2 ^ 52) I (g + 1) → 2 ^ 58 ≤ g
    half I g h k = omega (arith, k.says)

    up_one : (g : ℕ) → 2 ^ 58 ≤ g → Rel (2 ^ 58) (g + 1) g
    up_one g h = record { says = omega arith }

    go : (L : ℕ) → 2 ^ 59 * 2 ^ 59 ≤ L → (I g : ℕ) → IsRoot (u * L) I → Rounded (I * L) L g → Root L u g
    go L P I g R r =
        let many : 2 ^ 59 ≤ I = root_le (2 ^ 59) I (lt_of_le_of_lt (le_trans P (le_trans (le-mul_of_pos_right L U) (le_of_eq (mul_comm L u)))) R.over) in
        let C : 0 < L = lt_of_lt_of_le (lit< tt) P in
        let a : Rel (2 ^ 52) g (I + 1) = rel_cancel g (I + 1) L C (rel_le (le_refl (g * L)) r.most (le_of_eq (sym (add-mul I 1 L ∙ ap (λ (k : ℕ). I * L + k) (one-mul L))))) in
        let b : Rel (2 ^ 52) I (g + 1) = rel_cancel I (g + 1) L C (rel_le (le_refl (I * L)) r.least (le_of_eq (sym (add-mul g 1 L ∙ ap (λ (k : ℕ). g * L + k) (one-mul L))))) in
        let c = far I many in
        let d : Rel (2 ^ 51 + 2 ^ 50) g I = rel_trans (2 ^ 51 + 2 ^ 50) a c tt tt in
        let e : Rel (2 ^ 51 + 2 ^ 50) (I + 1) g = rel_trans (2 ^ 51 + 2 ^ 50) (rel_trans (2 ^ 51 + 2 ^ 50 + 2 ^ 49) c b tt tt) (up_one g (half I g many b)) tt tt in
        record {
          most = rel_le (le_refl (g * g)) (rel_mul (2 ^ 50) d d tt tt) R.under;
          least = rel_le (le_of_lt R.over) (rel_mul (2 ^ 50) e e tt tt) (le_refl (g * g));
        }

-- The root of a double above zero, in units.
pub root_units : (x : Float) → T (fits binary64 x) → Positive x → HasValue (root_of x) false (root_u (units_of x)) L
root_units x f p = value_of (root_of x) (whole_root (radicand_of x)) L (root_is x p) (root_nearest x f p).number
