-- The order of places as the order of one number, and their equality as its equality. Assumes nothing.
use mathlib.Core.Path.{◌≡◌, refl, ◌∙◌}
use mathlib.Core.Bool.{Bool, true, false, ◌&&◌}
use mathlib.Core.Logic.{◌⊎◌, inl, inr}
use Prim.Native.Nat.{ℕ, ◌+◌, ◌*◌, ◌≤◌, ◌<◌}
use native.Mathlib.Nat.{mul-le-mul_right, suc-mul}
use native.Mathlib.Omega.{arith}
use lib.Dec.{ltb, eqb}
use borrow.Author.Tests.{lt-ltb, le-ltb, ltb-true, ltb-false, eq-eqb, ne_eqb, eqb-true}
use Rattle.faceijk.specs.declared.Place.{Place}
use Rattle.faceijk.specs.Places.{same_place, Okay}
use Rattle.region.specs.Places.{below_or, before}
use Rattle.region.proofs.Every.{alike}

-- numbers of two digits in the base w
digits_low : (w a b x y : ℕ) → x < w → a < b → a * w + x < b * w + y
digits_low w a b x y h l = omega (arith, mul-le-mul_right w l, suc-mul a w)

module _ (w a b x y : ℕ) (hx : x < w) (hy : y < w) where
  -- which of two numbers is the lower, or that they are equal
  split : (t : Bool) → ltb a b ≡ t → (u : Bool) → ltb b a ≡ u → (a < b) ⊎ ((a ≡ b) ⊎ (b < a))
  split true e u f = inl (ltb-true a b e)
  split false e true f = inr (inr (ltb-true b a f))
  split false e false f = let l = ltb-false a b e in let m = ltb-false b a f in inr (inl (omega arith))

  below_by : (rest : Bool) → rest ≡ ltb x y → (a < b) ⊎ ((a ≡ b) ⊎ (b < a)) → below_or a b rest ≡ ltb (a * w + x) (b * w + y)
  below_by rest e (inl l) = rw (ne_eqb a b (λ q. omega arith), lt-ltb a b l, lt-ltb (a * w + x) (b * w + y) (digits_low w a b x y hx l))
  below_by rest e (inr (inl q)) =
      rw (eq-eqb a b q, e, q)
      (alike (ltb x y) (ltb (b * w + x) (b * w + y)) (λ t. lt-ltb (b * w + x) (b * w + y) (omega (arith, ltb-true x y t))) (λ t. lt-ltb x y (omega (arith, ltb-true (b * w + x) (b * w + y) t))))
  below_by rest e (inr (inr l)) =
      let d = digits_low w b a y x hy l in
      rw (ne_eqb a b (λ q. omega arith), le-ltb a b (omega arith), le-ltb (a * w + x) (b * w + y) (omega arith))

  equal_by : (rest : Bool) → rest ≡ eqb x y → (a < b) ⊎ ((a ≡ b) ⊎ (b < a)) → (eqb a b && rest) ≡ eqb (a * w + x) (b * w + y)
  equal_by rest e (inl l) =
      let d = digits_low w a b x y hx l in
      rw (ne_eqb a b (λ q. omega arith), ne_eqb (a * w + x) (b * w + y) (λ q. omega arith))
  equal_by rest e (inr (inl q)) =
      rw (eq-eqb a b q, e, q)
      (alike (eqb x y) (eqb (b * w + x) (b * w + y)) (λ t. eq-eqb (b * w + x) (b * w + y) (omega (arith, eqb-true x y t))) (λ t. eq-eqb x y (omega (arith, eqb-true (b * w + x) (b * w + y) t))))
  equal_by rest e (inr (inr l)) =
      let d = digits_low w b a y x hy l in
      rw (ne_eqb a b (λ q. omega arith), ne_eqb (a * w + x) (b * w + y) (λ q. omega arith))

  digits_below : (rest : Bool) → rest ≡ ltb x y → below_or a b rest ≡ ltb (a * w + x) (b * w + y)
  digits_below rest e = below_by rest e (split (ltb a b) refl (ltb b a) refl)

  digits_equal : (rest : Bool) → rest ≡ eqb x y → (eqb a b && rest) ≡ eqb (a * w + x) (b * w + y)
  digits_equal rest e = equal_by rest e (split (ltb a b) refl (ltb b a) refl)

from_left : (a b c d : Bool) → (a && b && c && d) ≡ (a && (b && (c && d)))
from_left true b c d = go b
  where
    go : (b : Bool) → (b && c && d) ≡ (b && (c && d))
    go true = refl
    go false = refl
from_left false b c d = refl

-- a place's four numbers as the digits of one
unfoldable pub key_of : Place → ℕ
key_of p = p.face * 2417851639229258349412352 + (p.i * 18014398509481984 + (p.j * 134217728 + p.k))

pub record Small (p : Place) : Type 0 where
  pub face : p.face < 20
  pub i : p.i ≤ 67108864
  pub j : p.j ≤ 67108864
  pub k : p.k ≤ 67108864

pub small : (p : Place) → Okay p → Small p
small p o =
    let low = o.taken.low in
    let on = o.on in
    record { face = omega arith; i = omega arith; j = omega arith; k = omega arith }

module _ (p q : Place) (a : Small p) (b : Small q) where
  pub before_key : before p q ≡ ltb (key_of p) (key_of q)
  unfolding before key_of
  before_key =
      digits_below 2417851639229258349412352 p.face q.face (p.i * 18014398509481984 + (p.j * 134217728 + p.k)) (q.i * 18014398509481984 + (q.j * 134217728 + q.k)) (omega arith) (omega arith) _
      (digits_below 18014398509481984 p.i q.i (p.j * 134217728 + p.k) (q.j * 134217728 + q.k) (omega arith) (omega arith) _
      (digits_below 134217728 p.j q.j p.k q.k (omega arith) (omega arith) _ refl))

  pub same_key : same_place p q ≡ eqb (key_of p) (key_of q)
  unfolding key_of
  same_key =
      from_left (eqb p.face q.face) (eqb p.i q.i) (eqb p.j q.j) (eqb p.k q.k)
      ∙ digits_equal 2417851639229258349412352 p.face q.face (p.i * 18014398509481984 + (p.j * 134217728 + p.k)) (q.i * 18014398509481984 + (q.j * 134217728 + q.k)) (omega arith) (omega arith) _
      (digits_equal 18014398509481984 p.i q.i (p.j * 134217728 + p.k) (q.j * 134217728 + q.k) (omega arith) (omega arith) _
      (digits_equal 134217728 p.j q.j p.k q.k (omega arith) (omega arith) _ refl))

  -- a lower key has no higher face
  pub key_face : key_of p ≤ key_of q → p.face ≤ q.face
  unfolding key_of
  key_face h = omega arith
