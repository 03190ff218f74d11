-- One test of each face finds what document 01's tests find: a number that is not finite makes its axis loose or its centre off the sphere. Assumes nothing.
use mathlib.Core.Path.{◌≡◌, refl, sym, ap, subst, ◌∙◌}
use mathlib.Core.Bool.{Bool, true, false, not, ◌&&◌, ◌||◌, true≢false, false≢true}
use mathlib.Core.List.{List}
use Prim.Native.Nat.{ℕ, zero, suc, ◌+◌, ◌*◌, ◌/◌, ◌≤◌, ◌<◌}
use native.Mathlib.Decide.{ℕ_discrete, dec_le}
use native.Mathlib.Nat.{le_trans, le_of_eq, mul-one}
use native.Mathlib.Omega.{arith}
use lib.Dec.{lit<}
use lib.ListN.{length, get_or}
use lib.Ieee.{Float, nan, inf, fin, of_bits, up, down, lt, eq, le}
use lib.Ieee.Bits.{is_true}
use lib.Ieee.Fits.{down_pos}
use lib.Ieee.Order.{le_of_values}
use borrow.Author.Tests.{eq-eqb, not-false}
use Rattle.reply.proofs.Entries.{neither, both}
use Rattle.double.specs.Double.{finite, size_of, mul_add_of, three, sphere_low, sphere_high}
use Rattle.double.specs.Sizes.{Under}
use Rattle.double.proofs.Finite.{add_finite, mul_finite}
use Rattle.double.proofs.Sizes.{size_finite}
use Rattle.double.proofs.Tests.{lt_not_le, between_le, le_between, three_value}
use Rattle.vec3d.specs.declared.Vec3d.{Vec3d}
use Rattle.vec3d.specs.Vectors.{dot_of, bad_number, off_sphere, wide}
use Rattle.vec3d.specs.Frame.{vec_at, some_below, non_finite, bad_axes, bad_frame}
use Rattle.vec3d.specs.AsAsked.{narrow, loose, unfit}
use Rattle.vec3d.proofs.Passing.{none_at}

-- what is at most a number is a number
le_finite : (x y : Float) → finite y ≡ true → le (size_of x) y ≡ true → finite x ≡ true
unfolding le lt eq
le_finite nan y f e = absurd (false≢true e)
le_finite (inf s) nan f e = absurd (false≢true f)
le_finite (inf s) (inf t) f e = absurd (false≢true f)
le_finite (inf s) (fin t n d) f e = absurd (false≢true e)
le_finite (fin s m k) y f e = refl

three_finite : finite three ≡ true
unfolding of_bits
three_finite = refl

-- a part within 3 is finite and not above 3, and the other way round
narrow_size : (x : Float) → narrow x ≡ true → le (size_of x) three ≡ true
unfolding narrow of_bits
narrow_size x e = let b = both _ _ e in between_le _ _ x b.0 b.1

size_narrow : (x : Float) → finite x ≡ true → le (size_of x) three ≡ true → narrow x ≡ true
unfolding narrow of_bits
size_narrow x f e = let b = le_between _ _ x f e in rw (b.0, b.1)

within : (x : Float) → narrow x ≡ true → (finite x ≡ true) × (lt three (size_of x) ≡ false)
within x e =
    let f = le_finite x three three_finite (narrow_size x e) in
    (f, lt_not_le three (size_of x) three_finite (size_finite x f) ∙ ap not (narrow_size x e))

not_above : (x : Float) → finite x ≡ true → lt three (size_of x) ≡ false → narrow x ≡ true
not_above x f e = size_narrow x f (not-false _ (sym (lt_not_le three (size_of x) three_finite (size_finite x f)) ∙ e))

pub under_narrow : (x : Float) → Under 3 x → narrow x ≡ true
under_narrow nan p = absurd (false≢true p.number)
under_narrow (inf s) p = absurd (false≢true p.number)
under_narrow (fin s m e) p =
    size_narrow (fin s m e) refl
    (is_true _ (le_of_values (fin false m e) three (m * up e) (down e) 3 1 (down_pos e) (lit< tt) (refl, refl) three_value (le_trans (le_of_eq (mul-one (m * up e))) p.size)))

-- an axis that is not loose
tight : (v : Vec3d) → loose v ≡ false → (bad_number v ≡ false) × (wide v ≡ false)
unfolding loose bad_number wide
tight v e =
    let t = both _ _ (not-false _ e) in
    let q = both _ _ t.0 in
    let x = within v.x q.0 in
    let y = within v.y q.1 in
    let z = within v.z t.1 in
    (rw (x.0, y.0, z.0), rw (x.1, y.1, z.1))

finite_parts : (v : Vec3d) → bad_number v ≡ false → (finite v.x ≡ true) × (finite v.y ≡ true) × (finite v.z ≡ true)
unfolding bad_number
finite_parts v e =
    let a = neither (not (finite v.x) || not (finite v.y)) (not (finite v.z)) e in
    let b = neither (not (finite v.x)) (not (finite v.y)) a.0 in
    (not-false _ b.0, not-false _ b.1, not-false _ a.1)

not_loose : (v : Vec3d) → bad_number v ≡ false → wide v ≡ false → loose v ≡ false
unfolding loose wide
not_loose v g e =
    let f = finite_parts v g in
    let a = neither (lt three (size_of v.x) || lt three (size_of v.y)) (lt three (size_of v.z)) e in
    let b = neither (lt three (size_of v.x)) (lt three (size_of v.y)) a.0 in
    rw (not_above v.x f.0 b.0, not_above v.y f.1 b.1, not_above v.z f.2 a.1)

between_finite : (lo d hi : Float) → finite lo ≡ true → finite hi ≡ true → (le lo d && le d hi) ≡ true → finite d ≡ true
unfolding le lt eq
between_finite nan d hi f g e = absurd (false≢true f)
between_finite (inf s) d hi f g e = absurd (false≢true f)
between_finite (fin s m k) d nan f g e = absurd (false≢true g)
between_finite (fin s m k) d (inf t) f g e = absurd (false≢true g)
between_finite (fin s m k) nan (fin t n j) f g e = absurd (false≢true e)
between_finite (fin s m k) (inf true) (fin t n j) f g e = absurd (false≢true e)
between_finite (fin s m k) (inf false) (fin t n j) f g e = absurd (false≢true e)
between_finite (fin s m k) (fin u l i) (fin t n j) f g e = refl

low_finite : finite sphere_low ≡ true
unfolding of_bits
low_finite = refl

high_finite : finite sphere_high ≡ true
unfolding of_bits
high_finite = refl

-- a vector whose square is a number has finite parts; so has one on the sphere
pub parts_finite : (v : Vec3d) → finite (dot_of v v) ≡ true → (finite v.x ≡ true) × (finite v.y ≡ true) × (finite v.z ≡ true)
unfolding dot_of mul_add_of
parts_finite v d =
    let xs = add_finite _ _ d in
    let ys = add_finite _ _ xs.1 in
    ((mul_finite _ _ xs.0).0, (mul_finite _ _ ys.0).0, (mul_finite _ _ ys.1).0)

pub on_sphere : (v : Vec3d) → off_sphere v ≡ false → bad_number v ≡ false
unfolding off_sphere bad_number
on_sphere v e =
    let f = parts_finite v (between_finite sphere_low _ sphere_high low_finite high_finite (not-false _ e)) in
    rw (f.0, f.1, f.2)

-- where a test fails at each number below n, it finds none
pub none_below : (test : ℕ → Bool) (n : ℕ) → ((k : ℕ) → k < n → test k ≡ false) → some_below test n ≡ false
unfolding some_below
none_below test zero h = refl
none_below test (suc n) h = rw (none_below test n (λ k l. h k (omega arith)), h n (omega arith))

same_false : (a b : Bool) → (a ≡ false → b ≡ false) → (b ≡ false → a ≡ false) → a ≡ b
same_false true true p q = refl
same_false true false p q = absurd (true≢false (q refl))
same_false false true p q = absurd (true≢false (p refl))
same_false false false p q = refl

module _ (s : List Float) where
  -- each number of a vector
  in_three : (at k : ℕ) → at ≤ k → k < at + 3 → bad_number (vec_at s at) ≡ false → finite (get_or s k nan) ≡ true
  unfolding vec_at
  in_three at k low high e =
      let f = finite_parts (vec_at s at) e in
      let P : ℕ → Type 0 = λ (i : ℕ). finite (get_or s i nan) ≡ true in
      elim (ℕ_discrete k at) [
        | yes q ↦ subst P (sym q) f.0
        | no q ↦ elim (ℕ_discrete k (at + 1)) [
          | yes r ↦ subst P (sym r) f.1
          | no r ↦ let t : k ≡ at + 2 = omega arith in subst P (sym t) f.2
        ]
      ]

  -- a face that will do
  pub fit : (f : ℕ) → unfit s f ≡ false → (bad_number (vec_at s (9 * f)) ≡ false) × (bad_number (vec_at s (9 * f + 3)) ≡ false) × (bad_number (vec_at s (9 * f + 6)) ≡ false) × (bad_axes s f ≡ false)
  unfolding unfit bad_axes
  fit f e =
      let a = neither (loose (vec_at s (9 * f + 3)) || loose (vec_at s (9 * f + 6))) (off_sphere (vec_at s (9 * f))) e in
      let b = neither (loose (vec_at s (9 * f + 3))) (loose (vec_at s (9 * f + 6))) a.0 in
      let u = tight (vec_at s (9 * f + 3)) b.0 in
      let v = tight (vec_at s (9 * f + 6)) b.1 in
      (on_sphere (vec_at s (9 * f)) a.1, u.0, v.0, rw (u.1, v.1, a.1))

  number_fit : (k : ℕ) → unfit s (k / 9) ≡ false → finite (get_or s k nan) ≡ true
  number_fit k e =
      let q = fit (k / 9) e in
      elim (dec_le (9 * (k / 9) + 3) k) [
        | no l ↦ in_three (9 * (k / 9)) k (omega arith) (omega arith) q.0
        | yes l ↦ elim (dec_le (9 * (k / 9) + 6) k) [
          | no m ↦ in_three (9 * (k / 9) + 3) k (omega arith) (omega arith) q.1
          | yes m ↦ in_three (9 * (k / 9) + 6) k (omega arith) (omega arith) q.2
        ]
      ]

  vector_finite : ((k : ℕ) → k < 180 → finite (get_or s k nan) ≡ true) → (at : ℕ) → at + 2 < 180 → bad_number (vec_at s at) ≡ false
  unfolding bad_number vec_at
  vector_finite h at l = rw (h at (omega arith), h (at + 1) (omega arith), h (at + 2) (omega arith))

  -- the other way round
  unfit_none : ((k : ℕ) → k < 180 → finite (get_or s k nan) ≡ true) → (f : ℕ) → f < 20 → bad_axes s f ≡ false → unfit s f ≡ false
  unfolding unfit bad_axes
  unfit_none h f l e =
      let a = neither (wide (vec_at s (9 * f + 3)) || wide (vec_at s (9 * f + 6))) (off_sphere (vec_at s (9 * f))) e in
      let b = neither (wide (vec_at s (9 * f + 3))) (wide (vec_at s (9 * f + 6))) a.0 in
      let u = not_loose (vec_at s (9 * f + 3)) (vector_finite h (9 * f + 3) (omega arith)) b.0 in
      let v = not_loose (vec_at s (9 * f + 6)) (vector_finite h (9 * f + 6) (omega arith)) b.1 in
      rw (u, v, a.1)

  -- One pass over the faces finds what the two tests find.
  one_pass : length s ≡ 180 → (non_finite s || some_below (bad_axes s) 20) ≡ some_below (unfit s) 20
  unfolding non_finite
  one_pass long =
      same_false _ _
      (λ e.
      let q = neither (non_finite s) (some_below (bad_axes s) 20) e in
      let h : (k : ℕ) → k < 180 → finite (get_or s k nan) ≡ true = λ k l. not-false _ (none_at (λ (n : ℕ). not (finite (get_or s n nan))) (length s) k q.0 (omega (arith, long))) in
      none_below (unfit s) 20 (λ f l. unfit_none h f l (none_at (bad_axes s) 20 f q.1 l)))
      (λ e.
      let numbers = none_below (λ (n : ℕ). not (finite (get_or s n nan))) (length s) (λ k l. ap not (number_fit k (none_at (unfit s) 20 (k / 9) e (omega (arith, long))))) in
      let faces = none_below (bad_axes s) 20 (λ f l. (fit f (none_at (unfit s) 20 f e l)).3) in
      rw (numbers, faces))

  -- So a frame of 180 numbers is refused where one of its faces is unfit.
  pub by_faces : length s ≡ 180 → bad_frame s ≡ some_below (unfit s) 20
  unfolding bad_frame
  by_faces long = rw (eq-eqb _ _ long) (one_pass long)
