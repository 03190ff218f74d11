-- Document 02, §3, of every corner that lies inside its face: its names, how many they are, the first of them, and that same is an equivalence. Assumes nothing.
use mathlib.Core.Path.{◌≡◌, sym, ◌∙◌, subst}
use Prim.Native.Nat.{ℕ, suc, ◌<◌}
use native.Mathlib.Omega.{arith}
use Rattle.level.specs.declared.Grid.{Grid}
use Rattle.level.specs.Levels.{Sound}
use Rattle.faceijk.specs.declared.Place.{Place}
use Rattle.faceijk.specs.Places.{sum_at}
use Rattle.faceijk.proofs.Edges.{edge_of}
use Rattle.names.specs.Names.{LiesOn, Reached, here, beyond, FirstName, Names}
use Rattle.names.specs.Row.{others, first_of}
use Rattle.names.specs.Entries.{Inside}
use Rattle.names.proofs.Corners.{before}
use Rattle.names.proofs.Sorts.{before_other, lies_on, lies_before, which, only_this, Kind, inner, between, corner, kind_of, others_inner, others_between, others_corner}
use Rattle.names.proofs.Rows.{name_at, along_at, along_inside, along_sum, some, in_row, differ, reached_along, along_reached}
use Rattle.names.proofs.First.{reached_back, first_lowest, one_name_a_face, first_reached}

-- same is an equivalence: a name is a name of itself, and of those that it names, and names of names are names
pub same_self : (g : Grid) (p : Place) → Reached g p p
same_self g p = here

pub same_through : {g : Grid} {p q r : Place} → Reached g p q → Reached g q r → Reached g p r
same_through here b = b
same_through (beyond e h a) b = beyond e h (same_through a b)

-- how many other names, by the edges on which the point lies
on_one : (g : Grid) (e : ℕ) {p : Place} → Kind g p → LiesOn g p e → ((d : ℕ) → LiesOn g p d → d ≡ e) → others g p ≡ 1
on_one g e (inner h) o only = absurd (omega (arith, o.at_limit))
on_one g e (between f c x y h d a b s) o only = others_between g f x y d a b s
on_one g e (corner f c h d) o only =
    absurd (before_other d (only (before c) (lies_before g f d) ∙ sym (only c (lies_on g f g.limit 0 d (omega arith)))))

on_two : (g : Grid) → Sound g → (d e : ℕ) {p : Place} → Kind g p → LiesOn g p d → LiesOn g p e → (d ≡ e → ⊥) → others g p ≡ 4
on_two g sound d e (inner h) o u apart = absurd (omega (arith, o.at_limit))
on_two g sound d e (between f c x y h w a b s) o u apart =
    let here = only_this (which f x y w (edge_of d o.low o.high) a o.none) b in
    let there = only_this (which f x y w (edge_of e u.low u.high) a u.none) b in
    absurd (apart (here ∙ sym there))
on_two g sound d e (corner f c h w) o u apart = others_corner g (some g sound) f w

module _ (g : Grid) (sound : Sound g) (p : Place) (h : Inside g p) where
  k : Kind g p
  k = kind_of g p h

  pub same_back : {q : Place} → Reached g p q → Reached g q p
  same_back r = reached_back g sound k r

  -- every name lies inside its face, and has the s that the first had: on an edge all are, or none
  pub name_inside : {q : Place} → Reached g p q → Inside g q
  name_inside r = along_inside g sound h (reached_along g sound k r)

  pub name_sum : {q : Place} → Reached g p q → sum_at q ≡ sum_at p
  name_sum r = along_sum g sound k (reached_along g sound k r)

  -- the first name is the one found, and no other
  pub first_is : FirstName g p (first_of g p)
  first_is = record { reached = first_reached g sound k; lowest = λ r. first_lowest g sound k }

  pub first_only : {q : Place} → FirstName g p q → q ≡ first_of g p
  first_only {q} f =
      let low = f.lowest (first_of g p) first_is.reached in
      let lower = first_is.lowest q f.reached in
      one_name_a_face g sound k (first_of g p) f.reached first_is.reached (omega arith)

  -- the names are those of the row
  has_names : Names g p (suc (others g p))
  has_names =
      record {
        name = λ n. name_at n g p;
        reached = λ i l. along_reached g sound k (along_at i g p);
        all = λ q r. let w = in_row g sound k (reached_along g sound k r) in (w.0, omega (arith, w.1), w.2);
        apart = λ i j l u. differ g sound k i j l (omega arith);
      }

  counted : (n : ℕ) → others g p ≡ n → Names g p (suc n)
  counted n e = subst (λ (x : ℕ). Names g p (suc x)) e has_names

  -- a point inside has one name
  pub inner_one : sum_at p < g.limit → Names g p 1
  inner_one l = counted 0 (others_inner g p l)

  -- one that lies on one edge two
  pub edge_two : (e : ℕ) → LiesOn g p e → ((d : ℕ) → LiesOn g p d → d ≡ e) → Names g p 2
  edge_two e o only = counted 1 (on_one g e k o only)

  -- and one that lies on two edges, a face corner, five
  pub corner_five : (d e : ℕ) → LiesOn g p d → LiesOn g p e → (d ≡ e → ⊥) → Names g p 5
  corner_five d e a b apart = counted 4 (on_two g sound d e k a b apart)
