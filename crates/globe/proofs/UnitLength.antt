-- A vector divided by its length has length one, to one part in 2^40: over whole numbers, in units of which L make 1. Each operation is given by what rounding
-- leaves of it. Assumes nothing.
use mathlib.Core.Path.{◌≡◌, sym, ap, ◌∙◌}
use Prim.Native.Nat.{ℕ, ◌+◌, ◌-◌, ◌*◌, ◌^◌, ◌≤◌, ◌<◌}
use native.Mathlib.Decide.{dec_le}
use native.Mathlib.Nat.{le_trans, le_of_eq, le_refl, mul-le-mul, mul-le-mul_left, mul-le-mul_right, mul-mul-mul_comm, mul_assoc, mul_comm, mul_left_comm, mul_right_comm, mul-sub, add-mul, add-le-add, le_of_mul-le-mul_right}
use native.Mathlib.Omega.{arith}
use Rattle.double.proofs.Near.{Rel, rel_of_le, rel_trans, rel_mul, rel_scale, rel_cancel, rel_add, rel_le}
use Rattle.double.proofs.Units.{Times, Plus, Over}
use Rattle.root.proofs.Squares.{square_more, root_le}
use Rattle.root.proofs.Near.{Root}

-- ---- one part of a vector

-- a part whose square is p, and whose quotient by the length l has the square d
pub record Part (L l p d : ℕ) : Type 0 where
  pub part : ℕ
  pub quotient : ℕ
  pub square : Times L part part p
  pub over : Over L part l quotient
  pub again : Times L quotient quotient d

-- without two units, b is at most the quotient
less : (b l y : ℕ) → Rel (2 ^ 52) (b * l) (y + l) → Rel (2 ^ 52) ((b - 2) * l) y
less b l y h = record { says = go (b * l) ((b - 2) * l) (mul_comm (b - 2) l ∙ mul-sub l b 2 ∙ ap (λ (k : ℕ). k - l * 2) (mul_comm l b)) h.says }
  where
    go : (x z : ℕ) → z ≡ x - l * 2 → x * 2 ^ 52 ≤ (y + l) * (2 ^ 52 + 1) → z * 2 ^ 52 ≤ y * (2 ^ 52 + 1)
    go x z e k = omega arith

module _ (L q l : ℕ) (S : Root L q l) (some : 0 < L) where
  module _ (A p b : ℕ) (P : Times L A A p) (B : Over L A l b) where
    abbrev β : ℕ
    β = b - 2

    -- β · β · q is at most (p + 1) · L · L
    squared : Rel (2 ^ 47) (β * β * q) ((p + 1) * L * L)
    squared =
        let f : Rel (2 ^ 52) (β * l) (A * L) = less b l (A * L) B.most in
        let s : Rel (2 ^ 50) (β * l * (β * l)) (A * L * (A * L)) = rel_mul (2 ^ 50) f f tt tt in
        let r : Rel (2 ^ 50) (β * β * (q * L)) (β * β * (l * l)) = rel_le (le_of_eq (mul_comm (β * β) (q * L))) (rel_scale (β * β) S.least) (le_of_eq (mul_comm (l * l) (β * β))) in
        let t : Rel (2 ^ 48) (β * β * (q * L)) (A * A * (L * L)) = rel_trans (2 ^ 48) r (rel_le (le_of_eq (mul-mul-mul_comm β β l l)) s (le_of_eq (mul-mul-mul_comm A L A L))) tt tt in
        let u : Rel (2 ^ 52) (A * A * (L * L)) ((p * L + L) * (L * L)) = rel_scale (L * L) P.least in
        let v : Rel (2 ^ 47) (β * β * (q * L)) ((p * L + L) * (L * L)) = rel_trans (2 ^ 47) t u tt tt in
        rel_cancel (β * β * q) ((p + 1) * L * L) L some (rel_le (le_of_eq (mul_assoc (β * β) q L)) v (le_of_eq (ap (λ (k : ℕ). k * (L * L)) e ∙ sym (mul_assoc ((p + 1) * L) L L))))
      where
        e : p * L + L ≡ (p + 1) * L
        e = omega (arith, add-mul p 1 L)

    -- where p is not far above q, b is bounded
    pub bounded : p + 1 ≤ 4 * q → 0 < q → b ≤ 4 * L + 2
    bounded h Q = omega (arith, root)
      where
        below : (x y : ℕ) → x * 2 ^ 47 ≤ 4 * y * (2 ^ 47 + 1) → x ≤ 8 * y
        below x y k = omega arith

        w : β * β * q ≤ 8 * (L * L) * q
        w =
            let m : (p + 1) * L * L ≤ 4 * (q * (L * L)) = le_trans (le_of_eq (mul_assoc (p + 1) L L)) (le_trans (mul-le-mul_right (L * L) h) (le_of_eq (mul_assoc 4 q (L * L)))) in
            le_trans (below (β * β * q) (q * (L * L)) (le_trans squared.says (mul-le-mul_right (2 ^ 47 + 1) m))) (le_of_eq (ap (λ (k : ℕ). 8 * k) (mul_comm q (L * L)) ∙ sym (mul_assoc 8 (L * L) q)))

        root : β ≤ 4 * L
        root =
            let x : β * β ≤ 8 * (L * L) = le_of_mul-le-mul_right w Q in
            let y : 4 * L * (4 * L) ≡ 16 * (L * L) = mul-mul-mul_comm 4 L 4 L in
            root_le β (4 * L) (omega (arith, square_more (4 * L)))

    module _ (d : ℕ) (D : Times L b b d) (fits : b ≤ 4 * L + 2) (many : 16 ≤ L) where
      -- d · q is at most (p + 1) · L and a few
      part_most : Rel (2 ^ 46) (d * q) ((p + 1) * L + 23 * q)
      part_most =
          let a : Rel (2 ^ 52) (d * L * q) ((β * β + 23 * L) * q) = rel_scale q (rel_le (le_refl (d * L)) D.most square) in
          let c : Rel (2 ^ 47) ((β * β + 23 * L) * q) ((p + 1) * L * L + 23 * L * q) = rel_le (le_of_eq (add-mul (β * β) (23 * L) q)) (rel_add squared (rel_of_le (2 ^ 47) (le_refl (23 * L * q)))) (le_refl _) in
          let e : (p + 1) * L * L + 23 * L * q ≡ ((p + 1) * L + 23 * q) * L = ap (λ (k : ℕ). (p + 1) * L * L + k) (mul_right_comm 23 L q) ∙ sym (add-mul ((p + 1) * L) (23 * q) L) in
          rel_cancel (d * q) ((p + 1) * L + 23 * q) L some (rel_le (le_of_eq (mul_right_comm d q L)) (rel_trans (2 ^ 46) a c tt tt) (le_of_eq e))
        where
          -- b is at most β + 2, and β at most 4 · L
          square : b * b + L ≤ β * β + 23 * L
          square =
              let m : b * b ≤ (β + 2) * (β + 2) = mul-le-mul (omega arith) (omega arith) in
              let e : (β + 2) * (β + 2) ≡ β * β + 4 * β + 4 = omega (arith, square_more (β + 1), square_more β) in
              omega arith

      -- and p · L at most d · q and a few, where L is at most 4 · q
      part_least : L ≤ 4 * q → Rel (2 ^ 46) (p * L) ((d + 18) * q)
      part_least h =
          let s : Rel (2 ^ 50) (A * L * (A * L)) ((b * l + l) * (b * l + l)) = rel_mul (2 ^ 50) B.least B.least tt tt in
          let c : b * l + l ≡ (b + 1) * l = omega (arith, add-mul b 1 l) in
          let K = (b + 1) * (b + 1) in
          let r : Rel (2 ^ 50) (K * (l * l)) (K * (q * L)) = rel_le (le_of_eq (mul_comm K (l * l))) (rel_scale K S.most) (le_of_eq (mul_comm (q * L) K)) in
          let t : Rel (2 ^ 48) (A * A * (L * L)) (K * (q * L)) = rel_trans (2 ^ 48) (rel_le (le_of_eq (mul-mul-mul_comm A A L L)) s (le_of_eq (ap (λ (k : ℕ). k * k) c ∙ mul-mul-mul_comm (b + 1) l (b + 1) l))) r tt tt in
          let u : Rel (2 ^ 52) (p * L * (L * L)) (A * A * (L * L) + L * (L * L)) = rel_le (le_refl _) (rel_scale (L * L) P.most) (le_of_eq (add-mul (A * A) L (L * L))) in
          let v : Rel (2 ^ 48) (A * A * (L * L) + L * (L * L)) (K * (q * L) + L * (L * L)) = rel_add t (rel_of_le (2 ^ 48) (le_refl _)) in
          let w : Rel (2 ^ 47) (p * L * (L * L)) (K * (q * L) + L * (L * L)) = rel_trans (2 ^ 47) u v tt tt in
          let x : Rel (2 ^ 47) (p * L * L) ((b * b + 17 * L) * q) = rel_cancel (p * L * L) ((b * b + 17 * L) * q) L some (rel_le (le_of_eq (mul_assoc (p * L) L L)) w gather) in
          let y : Rel (2 ^ 52) ((b * b + 17 * L) * q) ((d + 18) * q * L) = rel_le (le_refl _) (rel_scale q (rel_add D.least (rel_of_le (2 ^ 52) (le_refl (17 * L))))) (le_of_eq last) in
          rel_cancel (p * L) ((d + 18) * q) L some (rel_trans (2 ^ 46) x y tt tt)
        where
          last : (d * L + L + 17 * L) * q ≡ (d + 18) * q * L
          last = ap (λ (k : ℕ). k * q) (omega (arith, add-mul d 18 L)) ∙ mul_right_comm (d + 18) L q

          -- (b + 1)^2 · q · L + L^3 with L at most 4 · q
          gather : (b + 1) * (b + 1) * (q * L) + L * (L * L) ≤ (b * b + 17 * L) * q * L
          gather =
              let k : (b + 1) * (b + 1) ≤ b * b + 13 * L = omega (arith, square_more b) in
              let m : (b + 1) * (b + 1) * (q * L) ≤ (b * b + 13 * L) * (q * L) = mul-le-mul_right (q * L) k in
              let n : L * (L * L) ≤ 4 * L * (q * L) = le_trans (le_of_eq (mul_left_comm L L L)) (le_trans (mul-le-mul_left L (mul-le-mul_right L h)) (le_of_eq (ap (λ (z : ℕ). L * z) (mul_assoc 4 q L) ∙ mul_left_comm L 4 (q * L) ∙ sym (mul_assoc 4 L (q * L))))) in
              let o : (b * b + 17 * L) * (q * L) ≡ (b * b + 13 * L) * (q * L) + 4 * L * (q * L) = ap (λ (z : ℕ). z * (q * L)) (omega arith) ∙ add-mul (b * b + 13 * L) (4 * L) (q * L) in
              le_trans (add-le-add m n) (le_of_eq (sym o ∙ sym (mul_assoc (b * b + 17 * L) q L)))

  -- the same of a part
  module _ (p d : ℕ) (C : Part L l p d) (h : p + 1 ≤ 4 * q) (near : L ≤ 4 * q) (many : 16 ≤ L) where
    pub small : C.quotient ≤ 4 * L + 2
    small = bounded C.part p C.quotient C.square C.over h (omega arith)

    most : Rel (2 ^ 46) (d * q) ((p + 1) * L + 23 * q)
    most = part_most C.part p C.quotient C.square C.over d C.again small many

    least : Rel (2 ^ 46) (p * L) ((d + 18) * q)
    least = part_least C.part p C.quotient C.square C.over d C.again small many near

-- ---- the sum of three squares

ninth : {x y : ℕ} → Rel (2 ^ 52) x y → 8 * x ≤ 9 * y
ninth h = omega (arith, h.says)

-- both sums, as they are rounded
pub record Sums (x y z t s : ℕ) : Type 0 where
  pub inner : Plus y z t
  pub outer : Plus x t s

module _ (x y z t s : ℕ) (S : Sums x y z t s) where
  sums_most : Rel (2 ^ 50) s (x + (y + z) + 2)
  sums_most = rel_trans (2 ^ 50) S.outer.most (rel_le (le_of_eq (regroup x t)) (rel_add (rel_of_le (2 ^ 52) (le_refl (x + 1))) S.inner.most) (le_of_eq (last x (y + z)))) tt tt
    where
      regroup : (x t : ℕ) → x + t + 1 ≡ x + 1 + t
      regroup x t = omega arith

      last : (x w : ℕ) → x + 1 + (w + 1) ≡ x + w + 2
      last x w = omega arith

  sums_least : Rel (2 ^ 50) (x + (y + z)) (s + 2)
  sums_least = rel_trans (2 ^ 50) (rel_add (rel_of_le (2 ^ 52) (le_refl x)) S.inner.least) (rel_le (le_of_eq (group x t)) (rel_add S.outer.least (rel_of_le (2 ^ 52) (le_refl 1))) (le_of_eq (last s))) tt tt
    where
      group : (x t : ℕ) → x + (t + 1) ≡ x + t + 1
      group x t = omega arith

      last : (s : ℕ) → s + 1 + 1 ≡ s + 2
      last s = omega arith

  -- each part is not far above the sum
  pub parts_under : 8 ≤ s → (x + 1 ≤ 4 * s) × (y + 1 ≤ 4 * s) × (z + 1 ≤ 4 * s)
  parts_under h = let a = ninth S.inner.least in let b = ninth S.outer.least in (omega arith, omega arith, omega arith)

spread : (x y z q : ℕ) → (x + (y + z)) * q ≡ x * q + (y * q + z * q)
spread x y z q = add-mul x (y + z) q ∙ ap (λ (k : ℕ). x * q + k) (add-mul y z q)

-- ---- the whole

done_most : (D L : ℕ) → 2 ^ 60 ≤ L → D * 2 ^ 44 ≤ (L + 91) * (2 ^ 44 + 1) → D * 2 ^ 40 ≤ L * (2 ^ 40 + 1)
done_most D L h k = omega arith

done_least : (D L : ℕ) → 2 ^ 60 ≤ L → L * 2 ^ 44 ≤ (D + 64) * (2 ^ 44 + 1) → L * 2 ^ 40 ≤ D * 2 ^ 40 + L
done_least D L h k =
    elim (dec_le L D) [
      | yes a ↦ meet D L a
      | no a ↦ let e = split D L a in join D L (L - D) e (short D (L - D) (rw (← e) h) (rw (← e) k))
    ]
  where
    meet : (D L : ℕ) → L ≤ D → L * 2 ^ 40 ≤ D * 2 ^ 40 + L
    meet D L h = omega arith

    split : (D L : ℕ) → (L ≤ D → ⊥) → L ≡ D + (L - D)
    split D L h = omega arith

    join : (D L y : ℕ) → L ≡ D + y → y * 2 ^ 40 ≤ D + y → L * 2 ^ 40 ≤ D * 2 ^ 40 + L
    join D L y e h = omega arith

    short : (D y : ℕ) → 2 ^ 60 ≤ D + y → (D + y) * 2 ^ 44 ≤ (D + 64) * (2 ^ 44 + 1) → y * 2 ^ 40 ≤ D + y
    short D y h k = omega arith

-- p are the squares of a vector's parts and q is their sum; d are those of the parts divided by the length l, and D is theirs
module _ (L q l p₁ d₁ p₂ d₂ p₃ d₃ t v D : ℕ) (S : Root L q l) (C₁ : Part L l p₁ d₁) (C₂ : Part L l p₂ d₂) (C₃ : Part L l p₃ d₃) (P : Sums p₁ p₂ p₃ t q) (E : Sums d₁ d₂ d₃ v D) (large : 2 ^ 60 ≤ L) (near : L ≤ 4 * q) where
  some : 0 < L
  some = omega arith

  many : 16 ≤ L
  many = omega arith

  Q : 0 < q
  Q = omega arith

  under : (p₁ + 1 ≤ 4 * q) × (p₂ + 1 ≤ 4 * q) × (p₃ + 1 ≤ 4 * q)
  under = parts_under p₁ p₂ p₃ t q P (omega arith)

  pub sphere_most : D * 2 ^ 40 ≤ L * (2 ^ 40 + 1)
  sphere_most =
      let x₁ = most L q l S some p₁ d₁ C₁ under.0 near many in
      let x₂ = most L q l S some p₂ d₂ C₂ under.1 near many in
      let x₃ = most L q l S some p₃ d₃ C₃ under.2 near many in
      let a : Rel (2 ^ 46) ((d₁ + (d₂ + d₃)) * q) ((p₁ + (p₂ + p₃)) * L + (3 * L + 69 * q)) = rel_le (le_of_eq (spread d₁ d₂ d₃ q)) (rel_add x₁ (rel_add x₂ x₃)) (le_of_eq collect) in
      let b : Rel (2 ^ 50) ((p₁ + (p₂ + p₃)) * L + (3 * L + 69 * q)) ((L + 89) * q) = rel_le (le_refl _) (rel_add (rel_scale L (sums_least p₁ p₂ p₃ t q P)) (rel_of_le (2 ^ 50) (le_refl (3 * L + 69 * q)))) few in
      let c : Rel (2 ^ 45) (d₁ + (d₂ + d₃)) (L + 89) = rel_cancel (d₁ + (d₂ + d₃)) (L + 89) q Q (rel_trans (2 ^ 45) a b tt tt) in
      let e : Rel (2 ^ 44) D (L + 91) = rel_trans (2 ^ 44) (sums_most d₁ d₂ d₃ v D E) (rel_le (le_refl _) (rel_add c (rel_of_le (2 ^ 45) (le_refl 2))) (le_of_eq (two L))) tt tt in
      done_most D L large e.says
    where
      two : (L : ℕ) → L + 89 + 2 ≡ L + 91
      two L = omega arith

      collect : (p₁ + 1) * L + 23 * q + ((p₂ + 1) * L + 23 * q + ((p₃ + 1) * L + 23 * q)) ≡ (p₁ + (p₂ + p₃)) * L + (3 * L + 69 * q)
      collect = omega (arith, add-mul p₁ 1 L, add-mul p₂ 1 L, add-mul p₃ 1 L, spread p₁ p₂ p₃ L)

      few : (q + 2) * L + (3 * L + 69 * q) ≤ (L + 89) * q
      few = omega (arith, add-mul q 2 L, add-mul L 89 q, mul_comm q L)

  pub sphere_least : L * 2 ^ 40 ≤ D * 2 ^ 40 + L
  sphere_least =
      let x₁ = least L q l S some p₁ d₁ C₁ under.0 near many in
      let x₂ = least L q l S some p₂ d₂ C₂ under.1 near many in
      let x₃ = least L q l S some p₃ d₃ C₃ under.2 near many in
      let a : Rel (2 ^ 46) ((p₁ + (p₂ + p₃)) * L + 2 * L) ((d₁ + (d₂ + d₃) + 62) * q) = rel_le (le_of_eq (ap (λ (k : ℕ). k + 2 * L) (spread p₁ p₂ p₃ L))) (rel_add (rel_add x₁ (rel_add x₂ x₃)) (rel_of_le (2 ^ 46) (le_refl (2 * L)))) few in
      let b : Rel (2 ^ 50) (L * q) ((p₁ + (p₂ + p₃)) * L + 2 * L) = rel_le (le_of_eq (mul_comm L q)) (rel_scale L (sums_most p₁ p₂ p₃ t q P)) (le_of_eq (add-mul (p₁ + (p₂ + p₃)) 2 L)) in
      let c : Rel (2 ^ 45) L (d₁ + (d₂ + d₃) + 62) = rel_cancel L (d₁ + (d₂ + d₃) + 62) q Q (rel_trans (2 ^ 45) b a tt tt) in
      let e : Rel (2 ^ 44) L (D + 64) = rel_trans (2 ^ 44) c (rel_le (le_refl _) (rel_add (sums_least d₁ d₂ d₃ v D E) (rel_of_le (2 ^ 50) (le_refl 62))) (le_of_eq (two D))) tt tt in
      done_least D L large e.says
    where
      two : (D : ℕ) → D + 2 + 62 ≡ D + 64
      two D = omega arith

      few : (d₁ + 18) * q + ((d₂ + 18) * q + (d₃ + 18) * q) + 2 * L ≤ (d₁ + (d₂ + d₃) + 62) * q
      few = omega (arith, add-mul d₁ 18 q, add-mul d₂ 18 q, add-mul d₃ 18 q, spread d₁ d₂ d₃ q, add-mul (d₁ + (d₂ + d₃)) 62 q)
