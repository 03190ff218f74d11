-- One test does for a bad point: where x or y is no number, or u has length zero, no squared length is finite. Assumes nothing.
use mathlib.Core.Path.{◌≡◌, refl, ap, ◌∙◌}
use mathlib.Core.Bool.{Bool, true, false, not, or-true}
use Prim.Native.Nat.{ℕ}
use native.Mathlib.Omega.{arith}
use lib.Ieee.{Float, of_bits, eq, lt}
use Rattle.reply.specs.declared.Refusal.{Refusal}
use Rattle.reply.specs.Replies.{Verdict, fine}
use Rattle.std.specs.Prelude.{Ok, Err, Result}
use Rattle.reply.specs.Choice.{pick}
use Rattle.reply.specs.declared.Refusal.TheVariants.{BadNumber, Behind}
use Rattle.double.specs.Double.{nought, quarter, finite}
use Rattle.double.proofs.Finite.{add_finite, mul_finite, div_finite, div_nonzero}
use Rattle.vec2d.specs.declared.Vec2d.{Vec2d}
use Rattle.vec2d.specs.Points.{is_point}
use Rattle.vec3d.specs.declared.Vec3d.{Vec3d}
use Rattle.vec3d.specs.declared.FaceAxes.{FaceAxes}
use Rattle.vec3d.specs.Vectors.{dot_of}
use Rattle.vec3d.proofs.Comparing.{below_all}
use Rattle.vec3d.proofs.OnePass.{parts_finite}
use Rattle.root.specs.Root.{root_of}
use Rattle.root.specs.AsWorked.{Positive}
use Rattle.globe.specs.Points.{share_of, along_of, reached_of, divided_by, square_of, bad_point, behind, lift_verdict}
use Rattle.globe.specs.AsWorked.{length_of, lifted_by, lifted_of}

-- a number above a quarter is positive
nought_finite : finite nought ≡ true
unfolding of_bits
nought_finite = refl

quarter_finite : finite quarter ≡ true
unfolding of_bits
quarter_finite = refl

nought_below : lt nought quarter ≡ true
unfolding of_bits lt
nought_below = refl

pub positive : (q : Float) → finite q ≡ true → lt q quarter ≡ false → Positive q
positive q f h = record { number = f; above = below_all nought quarter q nought_finite quarter_finite f nought_below h }

-- what is said of a point, by its length
abbrev pub verdict_by : Result Float Refusal → Verdict
verdict_by (Ok l) = fine
verdict_by (Err r) = Err r

module _ (a : FaceAxes) (scale : Float) (p : Vec2d) where
  -- a part that is a number comes from a number, divided by a u·u that is not zero
  share_finite : (x : Float) → finite (share_of a scale x) ≡ true → (finite x ≡ true) × (eq (dot_of a.u a.u) nought ≡ false)
  unfolding share_of
  share_finite x h = (div_finite x scale (div_finite _ _ h), div_nonzero _ _ h)

  along_finite : (c x u y v : Float) → finite (along_of c x u y v) ≡ true → (finite x ≡ true) × (finite y ≡ true)
  unfolding along_of
  along_finite c x u y v h =
      let s = add_finite _ _ h in
      ((mul_finite x u (add_finite _ _ s.0).1).0, (mul_finite y v s.1).0)

  bad_of : (q : Bool) → finite (square_of a scale p) ≡ q → bad_point a scale p ≡ not q
  unfolding bad_point is_point reached_of
  bad_of true h =
      let s = along_finite _ _ _ _ _ (parts_finite (reached_of a scale p) h).0 in
      let x = share_finite p.x s.0 in
      let y = share_finite p.y s.1 in
      rw (x.0, y.0, x.1, h)
  bad_of false h = rw (h, or-true, or-true)

  -- BadNumber is that the squared length is not finite.
  pub one_test : bad_point a scale p ≡ not (finite (square_of a scale p))
  one_test = bad_of (finite (square_of a scale p)) refl

  pub verdict_by_lem : verdict_by (length_of (square_of a scale p)) ≡ lift_verdict a scale p
  unfolding length_of behind
  verdict_by_lem = rw one_test (go (finite (square_of a scale p)) (lt (square_of a scale p) quarter))
    where
      go : (f b : Bool) → verdict_by (pick f (pick b (Err Behind) (Ok (root_of (square_of a scale p)))) (Err BadNumber)) ≡ pick (not f) (Err BadNumber) (pick b (Err Behind) fine)
      go true true = refl
      go true false = refl
      go false b = refl

  abbrev pub by_length : Result Float Refusal → Result Vec3d Refusal
  by_length (Ok l) = Ok (divided_by l (reached_of a scale p))
  by_length (Err r) = Err r

  pub length_is : (v : Vec3d) (q : Float) (l : Result Float Refusal) → v ≡ reached_of a scale p → q ≡ dot_of v v → l ≡ length_of q → l ≡ length_of (square_of a scale p)
  length_is v q l e f g = g ∙ ap length_of (f ∙ (λ n. dot_of (e n) (e n)))

  -- the rule of one point, by the length
  pub lifted_by_lem : by_length (length_of (square_of a scale p)) ≡ lifted_of a scale p
  unfolding length_of behind
  lifted_by_lem = rw one_test (go (finite (square_of a scale p)) (lt (square_of a scale p) quarter))
    where
      go : (f b : Bool) → by_length (pick f (pick b (Err Behind) (Ok (root_of (square_of a scale p)))) (Err BadNumber)) ≡ lifted_by (pick (not f) (Err BadNumber) (pick b (Err Behind) fine)) (divided_by (root_of (square_of a scale p)) (reached_of a scale p))
      go true true = refl
      go true false = refl
      go false b = refl

-- the length that is given is the root
pub done_is : (q l : Float) → length_of q ≡ Ok l → l ≡ root_of q
unfolding length_of
done_is q l e = go (finite q) (lt q quarter) e
  where
    go : (f b : Bool) → pick f (pick b (Err Behind) (Ok (root_of q))) (Err BadNumber) ≡ Ok l → l ≡ root_of q
    go true true h = let z : ◌≡◌ {A = ℕ} 0 1 = cc in absurd (omega arith)
    go true false h = cc
    go false b h = let z : ◌≡◌ {A = ℕ} 0 1 = cc in absurd (omega arith)
