-- Document 02, §3, at the entries: what the first name's answer is, when two corners are the same, and that the answers are an equivalence. Assumes nothing.
use mathlib.Core.Path.{◌≡◌, refl, sym, ap, ◌∙◌}
use mathlib.Core.Bool.{Bool, true, false}
use mathlib.Core.List.{[], ◌∷◌}
use Prim.Native.Nat.{ℕ}
use native.Mathlib.Omega.{arith}
use borrow.Author.Tests.{le-ltb}
use Rattle.reply.specs.Choice.{pick}
use Rattle.reply.specs.Replies.{answer, fine}
use Rattle.reply.proofs.Entries.{values, answered}
use Rattle.level.specs.declared.Grid.{Grid}
use Rattle.level.specs.Levels.{bad_grid, grid_of}
use Rattle.coordijk.proofs.Taking.{passes}
use Rattle.faceijk.specs.declared.Place.{Place}
use Rattle.faceijk.specs.Places.{coord_of, place_values, sum_at}
use Rattle.faceijk.proofs.Unique.{same_place_lem}
use Rattle.names.specs.Names.{Reached, FirstName}
use Rattle.names.specs.Row.{same_of, first_of}
use Rattle.names.specs.Entries.{Inside, names_verdict, first_reply, same_reply}
use Rattle.names.proofs.Sorts.{kind_of}
use Rattle.names.proofs.First.{yes_reached, reached_yes, reached_first, first_same, named_twice}
use Rattle.names.proofs.Taking.{Accepted, accepted}
use Rattle.names.proofs.Unique.{no_yes}
use Rattle.names.proofs.Laws.{same_self, same_back, same_through, name_inside, first_is}

abbrev grid_at : ℕ → Grid
grid_at l = grid_of l true

-- corners that lie inside their faces are taken
pub inside_fine : (p q : Place) (l : ℕ) → bad_grid l ≡ false → Inside (grid_at l) p → Inside (grid_at l) q → names_verdict p q l ≡ fine
inside_fine p q l b x y =
    let f = le-ltb 19 p.face (omega (arith, x.okay.on)) in
    let h = le-ltb 19 q.face (omega (arith, y.okay.on)) in
    simp (f, h, b, passes (coord_of p) x.okay.taken, passes (coord_of q) y.okay.taken, le-ltb (grid_at l).limit (sum_at p) x.inside, le-ltb (grid_at l).limit (sum_at q) y.inside)

pub named : (p : Place) (l : ℕ) → bad_grid l ≡ false → Inside (grid_at l) p → first_reply p l ≡ answer (place_values (first_of (grid_at l) p))
named p l b i = simp (inside_fine p p l b i i)

-- the first name's answer: it is the first name, and naming it again answers itself
pub record Named (p q : Place) (l : ℕ) : Type 0 where
  pub answered : first_reply p l ≡ answer (place_values q)
  pub first : FirstName (grid_at l) p q
  pub again : first_reply q l ≡ answer (place_values q)

pub first_name_is : (p : Place) (l : ℕ) → names_verdict p p l ≡ fine → Named p (first_of (grid_at l) p) l
first_name_is p l clear =
    let g = grid_at l in
    let a = accepted p p l clear in
    let first = first_is g a.sound p a.here in
    let i = name_inside g a.sound p a.here first.reached in
    record {
      answered = named p l a.level a.here;
      first = first;
      again = named (first_of g p) l a.level i ∙ ap (λ (x : Place). answer (place_values x)) (named_twice g a.sound (kind_of g p a.here));
    }

-- the answer on two corners: yes exactly when one name can be reached from the other, and exactly when the first names are equal; else no
pub record Compared (p q : Place) (l : ℕ) : Type 0 where
  pub yes_reached : same_reply p q l ≡ answer (1 ∷ []) → Reached (grid_at l) p q
  pub reached_yes : Reached (grid_at l) p q → same_reply p q l ≡ answer (1 ∷ [])
  pub else_no : (Reached (grid_at l) p q → ⊥) → same_reply p q l ≡ answer (0 ∷ [])
  pub yes_first : same_reply p q l ≡ answer (1 ∷ []) → first_reply p l ≡ first_reply q l
  pub first_yes : first_reply p l ≡ first_reply q l → same_reply p q l ≡ answer (1 ∷ [])

module _ (p q : Place) (l : ℕ) (clear : names_verdict p q l ≡ fine) where
  abbrev g : Grid
  g = grid_at l

  a : Accepted p q l
  a = accepted p q l clear

  said : (b : Bool) → same_of g p q ≡ b → same_reply p q l ≡ answer (pick b 1 0 ∷ [])
  said b e = simp (clear, e)

  yes_is : same_reply p q l ≡ answer (1 ∷ []) → same_of g p q ≡ true
  yes_is e = go (same_of g p q) refl
    where
      go : (b : Bool) → same_of g p q ≡ b → same_of g p q ≡ true
      go true h = h
      go false h = no_yes (sym (said false h) ∙ e)

  firsts : (r : Place) → Inside g r → first_reply r l ≡ answer (place_values (first_of g r))
  firsts r i = named r l a.level i

  pub same_corner_is : Compared p q l
  same_corner_is =
      let k = kind_of g p a.here in
      let j = kind_of g q a.there in
      record {
        yes_reached = λ e. yes_reached g a.sound k (yes_is e);
        reached_yes = λ r. said true (reached_yes g a.sound k r);
        else_no = λ n. no_else n (same_of g p q) refl;
        yes_first = λ e. firsts p a.here ∙ (ap (λ (x : Place). answer (place_values x)) (reached_first g a.sound k (yes_reached g a.sound k (yes_is e))) ∙ sym (firsts q a.there));
        first_yes = λ e. said true (reached_yes g a.sound k (first_same g a.sound k j (same_place_lem _ _ (values (sym (firsts p a.here) ∙ (e ∙ firsts q a.there))))));
      }
    where
      no_else : (Reached g p q → ⊥) → (b : Bool) → same_of g p q ≡ b → same_reply p q l ≡ answer (0 ∷ [])
      no_else n true h = absurd (n (yes_reached g a.sound (kind_of g p a.here) h))
      no_else n false h = said false h

-- the answers are an equivalence: each corner is the same as itself, and yes holds the other way round and from one to the next
module _ (l : ℕ) where
  yes_fine : (p q : Place) → same_reply p q l ≡ answer (1 ∷ []) → names_verdict p q l ≡ fine
  yes_fine p q e = (answered 1 (names_verdict p q l) (1 ∷ []) _ (sym e)).0

  pub yes_self : (p : Place) → names_verdict p p l ≡ fine → same_reply p p l ≡ answer (1 ∷ [])
  yes_self p clear = (same_corner_is p p l clear).reached_yes (same_self (grid_at l) p)

  pub yes_back : (p q : Place) → same_reply p q l ≡ answer (1 ∷ []) → same_reply q p l ≡ answer (1 ∷ [])
  yes_back p q e =
      let clear = yes_fine p q e in
      let a = accepted p q l clear in
      let r = (same_corner_is p q l clear).yes_reached e in
      (same_corner_is q p l (inside_fine q p l a.level a.there a.here)).reached_yes (same_back (grid_at l) a.sound p a.here r)

  pub yes_through : (p q r : Place) → same_reply p q l ≡ answer (1 ∷ []) → same_reply q r l ≡ answer (1 ∷ []) → same_reply p r l ≡ answer (1 ∷ [])
  yes_through p q r e f =
      let x = yes_fine p q e in
      let y = yes_fine q r f in
      let a = accepted p q l x in
      let b = accepted q r l y in
      (same_corner_is p r l (inside_fine p r l a.level a.here b.there)).reached_yes (same_through ((same_corner_is p q l x).yes_reached e) ((same_corner_is q r l y).yes_reached f))
