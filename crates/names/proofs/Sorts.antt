-- The three kinds of points with s at most m: inner points, points between the corners of an edge, and face corners. Assumes nothing.
use mathlib.Core.Path.{◌≡◌, refl, sym, ap, ◌∙◌, subst}
use mathlib.Core.Bool.{Bool, true, false}
use Prim.Native.Nat.{ℕ, ◌+◌, ◌≤◌, ◌<◌}
use native.Mathlib.Decide.{dec_lt}
use native.Mathlib.Omega.{arith}
use lib.Dec.{eqb}
use borrow.Author.Tests.{eq-eqb, ne_eqb}
use Rattle.reply.specs.Choice.{pick}
use Rattle.level.specs.declared.Grid.{Grid}
use Rattle.level.specs.Levels.{Sound}
use Rattle.coordijk.specs.Coordinates.{least}
use Rattle.faceijk.specs.declared.Place.{Place}
use Rattle.faceijk.specs.Places.{sum_at}
use Rattle.faceijk.specs.Faces.{face_over}
use Rattle.faceijk.specs.Steps.{step_of}
use Rattle.faceijk.proofs.Faces.{back_over}
use Rattle.faceijk.proofs.Edges.{Edge, ij, ki, jk, edge_low, at, point, point_sum, exchanged}
use Rattle.names.specs.Names.{across, LiesOn}
use Rattle.names.specs.Row.{edge_at, next_name, others}
use Rattle.names.specs.Entries.{Inside}
use Rattle.names.proofs.Corners.{after, before}

-- the edge after an edge, and the one before it, are edges
pub edge_after : {e : ℕ} → Edge e → Edge (after e)
edge_after ij = jk
edge_after ki = ij
edge_after jk = ki

pub edge_before : {e : ℕ} → Edge e → Edge (before e)
edge_before ij = ki
edge_before ki = jk
edge_before jk = ij

-- the edge over which the next name lies is one of the three
pub edge_range : (p : Place) → (1 ≤ edge_at p) × (edge_at p ≤ 3)
edge_range p = go (eqb p.k 0) (eqb p.i 0) (eqb p.j 0)
  where
    go : (a b c : Bool) → (1 ≤ pick a (pick b 3 1) (pick c 2 3)) × (pick a (pick b 3 1) (pick c 2 3) ≤ 3)
    go true true c = omega arith
    go true false c = omega arith
    go false b true = omega arith
    go false b false = omega arith

-- the edge before an edge is another
pub before_other : {e : ℕ} → Edge e → before e ≡ e → ⊥
before_other ij q = omega arith
before_other ki q = omega arith
before_other jk q = omega arith

-- where an edge ends, the next begins
module _ (f m : ℕ) where
  pub end_is : {e : ℕ} → Edge e → point f e 0 m ≡ point f (after e) m 0
  end_is ij = refl
  end_is ki = refl
  end_is jk = refl

  pub begin_is : {e : ℕ} → Edge e → point f e m 0 ≡ point f (before e) 0 m
  begin_is ij = refl
  begin_is ki = refl
  begin_is jk = refl

-- its coordinate across the edge, and the edge over which its next name lies
module _ (f x y : ℕ) where
  pub point_none : {e : ℕ} → Edge e → across (point f e x y) e ≡ 0
  point_none ij = refl
  point_none ki = refl
  point_none jk = refl

  pub point_edge : {e : ℕ} → Edge e → 0 < x → edge_at (point f e x y) ≡ e
  point_edge ij h = simp (ne_eqb x 0 (λ z. omega arith))
  point_edge ki h = simp (ne_eqb x 0 (λ z. omega arith))
  point_edge jk h = simp (ne_eqb x 0 (λ z. omega arith)) (go (eqb y 0))
    where
      go : (b : Bool) → ◌≡◌ {A = ℕ} (pick b 3 3) 3
      go true = refl
      go false = refl

-- the edges on which a point lies: the one it is named by, and at a corner the one that ends there
pub data Which (e y : ℕ) : ℕ → Type 0 where
  this : Which e y e
  other : y ≡ 0 → Which e y (before e)

pub which : (f x y : ℕ) {e d : ℕ} → Edge e → Edge d → 0 < x → across (point f e x y) d ≡ 0 → Which e y d
which f x y ij ij h z = this
which f x y ij ki h z = other z
which f x y ij jk h z = absurd (omega arith)
which f x y ki ij h z = absurd (omega arith)
which f x y ki ki h z = this
which f x y ki jk h z = other z
which f x y jk ij h z = other z
which f x y jk ki h z = absurd (omega arith)
which f x y jk jk h z = this

-- away from the corners only the one
pub only_this : {e y d : ℕ} → Which e y d → 0 < y → d ≡ e
only_this this h = refl
only_this (other z) h = absurd (omega arith)

module _ (g : Grid) where
  -- a point lies on the edge that it is named by, and at a corner on the one before
  pub lies_on : (f x y : ℕ) {e : ℕ} → Edge e → x + y ≡ g.limit → LiesOn g (point f e x y) e
  lies_on f x y d s = let l = edge_low d in record { low = l.0; high = l.1; at_limit = point_sum f x y d ∙ s; none = point_none f x y d }

  pub lies_before : (f : ℕ) {e : ℕ} → Edge e → LiesOn g (point f e g.limit 0) (before e)
  lies_before f {e} d =
      subst (λ (p : Place). LiesOn g p (before e)) (sym (begin_is f g.limit d)) (lies_on f 0 g.limit (edge_before d) (omega arith))

-- a point's kind
pub data Kind (g : Grid) : Place → Type 0 where
  inner : {p : Place} → sum_at p < g.limit → Kind g p
  between : (f e x y : ℕ) → f < 20 → Edge e → 0 < x → 0 < y → x + y ≡ g.limit → Kind g (point f e x y)
  corner : (f e : ℕ) → f < 20 → Edge e → Kind g (point f e g.limit 0)

module _ (g : Grid) (f : ℕ) (on : f < 20) where
  to : (a b c i j k : ℕ) → a ≡ i → b ≡ j → c ≡ k → Kind g (at f i j k) → Kind g (at f a b c)
  to a b c i j k p q r = subst (λ (x : Place). Kind g x) (λ n. at f (sym p n) (sym q n) (sym r n))

  kind_at : (i j k : ℕ) → least i j k ≡ 0 → i + j + k ≤ g.limit → Kind g (at f i j k)
  kind_at i j k flat low =
      elim (dec_lt (i + j + k) g.limit) [
        | yes h ↦ inner h
        | no h ↦ elim (dec_lt 0 k) [
          | yes a ↦ elim (dec_lt 0 j) [
            | yes b ↦ to i j k 0 j k (omega arith) refl refl (between f 3 j k on jk b a (omega arith))
            | no b ↦ elim (dec_lt 0 i) [
              | yes c ↦ to i j k i 0 k refl (omega arith) refl (between f 2 k i on ki a c (omega arith))
              | no c ↦ to i j k 0 0 g.limit (omega arith) (omega arith) (omega arith) (corner f 2 on ki)
            ]
          ]
          | no a ↦ elim (dec_lt 0 i) [
            | yes b ↦ elim (dec_lt 0 j) [
              | yes c ↦ to i j k i j 0 refl refl (omega arith) (between f 1 i j on ij b c (omega arith))
              | no c ↦ to i j k g.limit 0 0 (omega arith) (omega arith) (omega arith) (corner f 1 on ij)
            ]
            | no b ↦ to i j k 0 g.limit 0 (omega arith) (omega arith) (omega arith) (corner f 3 on jk)
          ]
        ]
      ]

pub kind_of : (g : Grid) (p : Place) → Inside g p → Kind g p
kind_of g p h = kind_at g p.face h.okay.on p.i p.j p.k h.okay.taken.flat h.inside

module _ (g : Grid) where
  -- an inner point is its own next name
  pub next_inner : (p : Place) → sum_at p < g.limit → next_name g p ≡ p
  unfolding next_name
  next_inner p h = simp (ne_eqb (sum_at p) g.limit (λ e. omega arith))

  -- the next name of a point that is named by an edge lies beyond that edge
  pub next_point : (sound : Sound g) (f x y : ℕ) {e : ℕ} → Edge e → 0 < x → x + y ≡ g.limit → next_name g (point f e x y) ≡ point (face_over f e) (back_over f e) y x
  unfolding next_name
  next_point sound f x y {e} d h s =
      simp (eq-eqb (sum_at (point f e x y)) g.limit (point_sum f x y d ∙ s))
      (ap (λ (a : ℕ). step_of (point f e x y) a g.unit) (point_edge f x y d h) ∙ exchanged f x y g.unit d (s ∙ sound.twice))

  -- how many other names
  pub others_inner : (p : Place) → sum_at p < g.limit → others g p ≡ 0
  unfolding others
  others_inner p h = simp (ne_eqb (sum_at p) g.limit (λ e. omega arith))

  pub others_between : (f x y : ℕ) {e : ℕ} → Edge e → 0 < x → 0 < y → x + y ≡ g.limit → others g (point f e x y) ≡ 1
  unfolding others
  others_between f x y ij h k s =
      simp (eq-eqb (x + y + 0) g.limit (omega arith), ne_eqb x g.limit (λ e. omega arith), ne_eqb y g.limit (λ e. omega arith), ne_eqb 0 g.limit (λ e. omega arith))
  others_between f x y ki h k s =
      simp (eq-eqb (y + 0 + x) g.limit (omega arith), ne_eqb x g.limit (λ e. omega arith), ne_eqb y g.limit (λ e. omega arith), ne_eqb 0 g.limit (λ e. omega arith))
  others_between f x y jk h k s =
      simp (eq-eqb (0 + x + y) g.limit (omega arith), ne_eqb x g.limit (λ e. omega arith), ne_eqb y g.limit (λ e. omega arith), ne_eqb 0 g.limit (λ e. omega arith))

  pub others_corner : 0 < g.limit → (f : ℕ) {e : ℕ} → Edge e → others g (point f e g.limit 0) ≡ 4
  unfolding others
  others_corner s f ij =
      simp (eq-eqb (g.limit + 0 + 0) g.limit (omega arith), eq-eqb g.limit g.limit refl)
  others_corner s f ki =
      simp (eq-eqb (0 + 0 + g.limit) g.limit (omega arith), ne_eqb 0 g.limit (λ e. omega arith), eq-eqb g.limit g.limit refl)
  others_corner s f jk =
      simp (eq-eqb (0 + g.limit + 0) g.limit (omega arith), ne_eqb 0 g.limit (λ e. omega arith), eq-eqb g.limit g.limit refl)
