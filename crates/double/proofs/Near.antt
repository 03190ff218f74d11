-- How far rounding moves a number. `Rel g x y` says that x is at most y and one part in g of it; rounding moves a fraction by at most one part in 2^52 and one
-- unit of 2^-1074, either way. Assumes nothing.
use mathlib.Core.Path.{◌≡◌, refl, sym, ap, ◌∙◌, subst}
use mathlib.Core.Bool.{Bool, true, false, not}
use Prim.Native.Nat.{ℕ, zero, suc, ◌+◌, ◌-◌, ◌*◌, ◌/◌, ◌%◌, ◌^◌, ◌≤◌, ◌<◌, compare, Ordering}
use native.Mathlib.Nat.{le_trans, le_of_eq, le-add_right, add-le-add, mul-le-mul, mul-le-mul_left, mul-le-mul_right, le_of_mul-le-mul_right, mul-mul-mul_comm, mul_assoc, mul_comm, mul_left_comm, mul_right_comm, mul-pos, add-mul, suc-mul, div-add-mod', mod-lt, le-div_iff_mul-le}
use native.Mathlib.Omega.{arith}
use lib.Arith.{lt_of_le-ne}
use lib.Dec.{T, leb, ltb, ltb→lt, eqb, eqb_refl, is_le, compare_is_eq, leb→le, nleb→lt, eqb→eq}
use lib.Pow.{pow-add, pow_pos}
use lib.Ieee.{binary64, size, nearest}
use lib.Ieee.Digits.{size_reaches}
use lib.Ieee.Nearest.{closest}
use lib.Ieee.Scale.{grid}

-- ---- what `compare` says

abbrev pub Cmp : Ordering → ℕ → ℕ → Type 0
Cmp Ordering.lt a b = a < b
Cmp Ordering.eq a b = a ≡ b
Cmp Ordering.gt a b = b < a

pub cmp : (a b : ℕ) → Cmp (compare a b) a b
cmp a b = go (compare a b) (leb→le a b) (nleb→lt a b) (eqb→eq a b) (λ e. subst (λ (x : ℕ). T (eqb a x)) e (eqb_refl a))
  where
    go : (o : Ordering) → (T (is_le o) → a ≤ b) → (T (not (is_le o)) → b < a) → (T (compare_is_eq o) → a ≡ b) → (a ≡ b → T (compare_is_eq o)) → Cmp o a b
    go Ordering.lt h k e n = lt_of_le-ne (h tt) n
    go Ordering.eq h k e n = e tt
    go Ordering.gt h k e n = k tt

-- ---- to the nearest whole number: by at most a half

pub closest_near : (n u : ℕ) → 0 < u → (2 * (closest n u * u) ≤ 2 * n + u) × (2 * n ≤ 2 * (closest n u * u) + u)
closest_near n u U = go (n / u) (n % u) (compare (n % u * 2) u) (div-add-mod' n u) (mod-lt n U) (cmp (n % u * 2) u)
  where
    more : (w : ℕ) → suc w * u ≡ w * u + u
    more w = suc-mul w u

    tie : (w : ℕ) → (w * u ≤ (w + w % 2) * u) × ((w + w % 2) * u ≤ w * u + u)
    tie w =
        let e : (w + w % 2) * u ≡ w * u + w % 2 * u = add-mul w (w % 2) u in
        let l : w % 2 * u ≤ 1 * u = mul-le-mul_right u (omega arith) in
        (omega arith, omega arith)

    go : (w r : ℕ) (o : Ordering) → w * u + r ≡ n → r < u → Cmp o (r * 2) u → (2 * (nearest w o * u) ≤ 2 * n + u) × (2 * n ≤ 2 * (nearest w o * u) + u)
    go w r Ordering.lt e l c = (omega arith, omega arith)
    go w r Ordering.eq e l c = let t = tie w in (omega arith, omega arith)
    go w r Ordering.gt e l c = let m = more w in (omega arith, omega arith)

-- ---- at most one part in g more

pub record Rel (g x y : ℕ) : Type 0 where
  pub says : x * g ≤ y * (g + 1)

pub rel_of_le : (g : ℕ) {x y : ℕ} → x ≤ y → Rel g x y
rel_of_le g h = record { says = mul-le-mul h (le-add_right g 1) }

past : (X y n : ℕ) → X + y ≡ n → y * 2 ^ 52 ≤ X → Rel (2 ^ 52) n X
past X y n e h = record { says = omega arith }

-- the last place kept, of n / c units
last_place : (n c : ℕ) → 0 < c → c * 2 ^ (size (n / c) - 53) * 2 ^ 52 ≤ n + c * 2 ^ 52
last_place n c C = go (size (n / c) - 53) refl
  where
    go : (k : ℕ) → size (n / c) - 53 ≡ k → c * 2 ^ k * 2 ^ 52 ≤ n + c * 2 ^ 52
    go zero e = omega arith
    go (suc k) e =
        let r : 2 ^ (52 + suc k) ≤ n / c = size_reaches (n / c) (52 + suc k) (omega arith) in
        let m : 2 ^ (52 + suc k) * c ≤ n = (le-div_iff_mul-le C).0 r in
        let s : 2 ^ (52 + suc k) * c ≡ c * 2 ^ suc k * 2 ^ 52 = ap (λ (x : ℕ). x * c) (pow-add 2 52 (suc k)) ∙ mul_comm (2 ^ 52 * 2 ^ suc k) c ∙ mul_left_comm c (2 ^ 52) (2 ^ suc k) ∙ mul_comm (2 ^ 52) (c * 2 ^ suc k) in
        omega arith

-- n / c rounded to g: off by at most one part in 2 ^ 53 and half a unit
pub record Sharp (n c g : ℕ) : Type 0 where
  pub most : g * c * 2 ^ 53 ≤ n * (2 ^ 53 + 1) + c * 2 ^ 52
  pub least : n * 2 ^ 53 ≤ g * c * 2 ^ 53 + n + c * 2 ^ 52

-- a / c is n / c units, and `round` gives `grid` of them
pub sharp : (a c : ℕ) → 0 < c → Sharp (a * 2 ^ 1074) c (grid binary64 a c)
sharp a c C = go (a * 2 ^ 1074) (size (a * 2 ^ 1074 / c) - 53) (last_place (a * 2 ^ 1074) c C)
  where
    go : (n k : ℕ) → c * 2 ^ k * 2 ^ 52 ≤ n + c * 2 ^ 52 → Sharp n c (closest n (c * 2 ^ k) * 2 ^ k)
    go n k l =
        let u = c * 2 ^ k in
        let w = closest n u in
        let h = closest_near n u (mul-pos C (pow_pos k)) in
        let e : w * 2 ^ k * c ≡ w * u = mul_assoc w (2 ^ k) c ∙ ap (λ (x : ℕ). w * x) (mul_comm (2 ^ k) c) in
        record { most = omega arith; least = omega arith }

-- the same with a whole unit, and one part in 2 ^ 52
pub record Rounded (n c g : ℕ) : Type 0 where
  pub most : Rel (2 ^ 52) (g * c) (n + c)
  pub least : Rel (2 ^ 52) n (g * c + c)

rounded_of : (n c g : ℕ) → Sharp n c g → Rounded n c g
rounded_of n c g r = record { most = record { says = above n c (g * c) r.most }; least = from (leb n (g * c + c)) (leb→le n (g * c + c)) (nleb→lt n (g * c + c)) }
  where
    above : (n c x : ℕ) → x * 2 ^ 53 ≤ n * (2 ^ 53 + 1) + c * 2 ^ 52 → x * 2 ^ 52 ≤ (n + c) * (2 ^ 52 + 1)
    above n c x h = omega arith

    over : (x y : ℕ) → (x + c + y) * 2 ^ 53 ≤ x * 2 ^ 53 + (x + c + y) + c * 2 ^ 52 → y * 2 ^ 52 ≤ x + c
    over x y h = omega arith

    rest : (n x : ℕ) → x + c < n → x + c + (n - (x + c)) ≡ n
    rest n x h = omega arith

    from : (b : Bool) → (T b → n ≤ g * c + c) → (T (not b) → g * c + c < n) → Rel (2 ^ 52) n (g * c + c)
    from true f h = rel_of_le (2 ^ 52) (f tt)
    from false f h =
        let e = rest n (g * c) (h tt) in
        past (g * c + c) (n - (g * c + c)) n e (over (g * c) (n - (g * c + c)) (subst (λ (k : ℕ). k * 2 ^ 53 ≤ g * c * 2 ^ 53 + k + c * 2 ^ 52) (sym e) r.least))

pub rounded : (a c : ℕ) → 0 < c → Rounded (a * 2 ^ 1074) c (grid binary64 a c)
rounded a c C = rounded_of (a * 2 ^ 1074) c (grid binary64 a c) (sharp a c C)

-- ---- the laws of `Rel`

-- one part in a and one in b are less than one in g: a test on numbers
abbrev pub Joins : ℕ → ℕ → ℕ → Type 0
Joins a b g = T (leb ((a + 1) * (b + 1) * g) (a * b * (g + 1)))

joined : (a b g x z : ℕ) → 0 < a * b → Joins a b g → x * (a * b) ≤ z * ((a + 1) * (b + 1)) → Rel g x z
joined a b g x z P j h = record {
  says =
      le_of_mul-le-mul_right
      (le_trans (le_of_eq (mul_right_comm x g (a * b)))
      (le_trans (mul-le-mul_right g h)
      (le_trans (le_of_eq (mul_assoc z ((a + 1) * (b + 1)) g))
      (le_trans (mul-le-mul_left z (leb→le ((a + 1) * (b + 1) * g) (a * b * (g + 1)) j))
      (le_of_eq (mul_left_comm z (a * b) (g + 1) ∙ mul_comm (a * b) (z * (g + 1))))))))
      P;
}

-- where y is at most z and one part in b, and x at most y and one part in a
pub rel_trans : {a b x y z : ℕ} (g : ℕ) → Rel a x y → Rel b y z → T (ltb 0 (a * b)) → Joins a b g → Rel g x z
rel_trans {a} {b} {x} {y} {z} g h k p j =
    joined a b g x z (ltb→lt 0 (a * b) p) j
    (le_trans (le_of_eq (sym (mul_assoc x a b)))
    (le_trans (mul-le-mul_right b h.says)
    (le_trans (le_of_eq (mul_right_comm y (a + 1) b))
    (le_trans (mul-le-mul_right (a + 1) k.says) (le_of_eq (mul_assoc z (b + 1) (a + 1) ∙ ap (λ (n : ℕ). z * n) (mul_comm (b + 1) (a + 1))))))))

pub rel_mul : {a b x y z w : ℕ} (g : ℕ) → Rel a x y → Rel b z w → T (ltb 0 (a * b)) → Joins a b g → Rel g (x * z) (y * w)
rel_mul {a} {b} {x} {y} {z} {w} g h k p j =
    joined a b g (x * z) (y * w) (ltb→lt 0 (a * b) p) j
    (le_trans (le_of_eq (mul-mul-mul_comm x z a b)) (le_trans (mul-le-mul h.says k.says) (le_of_eq (mul-mul-mul_comm y (a + 1) w (b + 1)))))

pub rel_scale : {g x y : ℕ} (c : ℕ) → Rel g x y → Rel g (x * c) (y * c)
rel_scale {g} {x} {y} c h = record { says = le_trans (le_of_eq (mul_right_comm x c g)) (le_trans (mul-le-mul_right c h.says) (le_of_eq (mul_right_comm y (g + 1) c))) }

pub rel_cancel : {g : ℕ} (x y c : ℕ) → 0 < c → Rel g (x * c) (y * c) → Rel g x y
rel_cancel {g} x y c C h = record { says = le_of_mul-le-mul_right (le_trans (le_of_eq (mul_right_comm x g c)) (le_trans h.says (le_of_eq (mul_right_comm y c (g + 1))))) C }

pub rel_add : {g x y z w : ℕ} → Rel g x y → Rel g z w → Rel g (x + z) (y + w)
rel_add {g} {x} {y} {z} {w} h k = record { says = le_trans (le_of_eq (add-mul x z g)) (le_trans (add-le-add h.says k.says) (le_of_eq (sym (add-mul y w (g + 1))))) }

pub rel_le : {g x y z w : ℕ} → x ≤ y → Rel g y z → z ≤ w → Rel g x w
rel_le {g} h k l = record { says = le_trans (mul-le-mul_right g h) (le_trans k.says (mul-le-mul_right (g + 1) l)) }
