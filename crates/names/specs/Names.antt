-- Document 02, §3: a substrate point with s = m lies on an edge and has another name on the face beyond; a face corner has five names.
use Rattle.std.specs.Prelude.{◌≡◌, ℕ, ◌≤◌, ◌<◌, eqb}
use Rattle.reply.specs.Choice.{pick}
use Rattle.level.specs.declared.Grid.{Grid}
use Rattle.faceijk.specs.declared.Place.{Place}
use Rattle.faceijk.specs.Places.{sum_at}
use Rattle.faceijk.specs.Steps.{step_of}

-- the coordinate that is 0 on an edge: k on IJ, j on KI, i on JK
abbrev pub across : Place → ℕ → ℕ
across p e = pick (eqb e 1) p.k (pick (eqb e 2) p.j p.i)

-- the point p lies on edge e
pub record LiesOn (g : Grid) (p : Place) (e : ℕ) : Type 0 where
  pub low : 1 ≤ e
  pub high : e ≤ 3
  pub at_limit : sum_at p ≡ g.limit
  pub none : across p e ≡ 0

-- q is a name of the point p: it can be reached from p by steps over edges on which the point lies
pub data Reached (g : Grid) : Place → Place → Type 0 where
  here : {p : Place} → Reached g p p
  beyond : {p q : Place} (e : ℕ) → LiesOn g p e → Reached g (step_of p e g.unit) q → Reached g p q

-- q is the first name of the point p: a name, and none has a lower face
pub record FirstName (g : Grid) (p q : Place) : Type 0 where
  pub reached : Reached g p q
  pub lowest : (r : Place) → Reached g p r → q.face ≤ r.face

-- the point p has n names: each can be reached, all that can be reached are among them, and each has another face
pub record Names (g : Grid) (p : Place) (n : ℕ) : Type 0 where
  pub name : ℕ → Place
  pub reached : (i : ℕ) → i < n → Reached g p (name i)
  pub all : (q : Place) → Reached g p q → (i : ℕ) × (i < n) × (q ≡ name i)
  pub apart : (i j : ℕ) → i < j → j < n → (name i).face ≡ (name j).face → ⊥
