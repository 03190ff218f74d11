-- The fields of a question one by one. Assumes nothing.
use mathlib.Core.Path.{◌≡◌, refl, ap, ◌∙◌}
use mathlib.Core.Bool.{Bool, true, false, false≢true, ◌&&◌}
use mathlib.Core.List.{List, [], ◌∷◌}
use Prim.Native.Nat.{ℕ, suc, ◌+◌, ◌≤◌, ◌<◌}
use native.Mathlib.Numerals.{add-one}
use lib.ListN.{length, get_or, take, drop, drop_of_length-le}
use lib.Seq.{drop-cons}
use Rattle.reply.specs.Choice.{pick}
use Rattle.reply.proofs.Entries.{both}
use Rattle.std.specs.Prelude.{Option, Some, None, MatchOption, IsSomeAnd, option_map}
use Rattle.std.specs.Option.{is_some}
use Rattle.ask_read.specs.declared.Field.{Field}
use Rattle.ask_read.specs.declared.Field.TheVariants.{Number, Double}
use Rattle.ask_read.specs.declared.Kind.{Kind}
use Rattle.ask_read.specs.declared.Asked.{Asked}
use Rattle.ask_read.specs.declared.Asked.TheVariants.{Unreadable}
use Rattle.ask_read.specs.declared.Question.{Question}
use Rattle.ask_read.specs.Words.{same}
use Rattle.ask_read.specs.Questions.{Row, row, filled_in, words, rows, row_of, row_at, field_of, put, unreadable, first_field, others, with_field, filled, readable, filled_by, question_of, words_from}

-- what `map` promises of a variant, as `option_map` says it
pub mapped : {A B : Type 0} (o : Option A) (r : Option B) (f : A → B) → MatchOption o (r ≡ None) (λ x. IsSomeAnd r (λ y. y ≡ f x)) → r ≡ option_map f o
mapped None r f h = h
mapped (Some x) None f h = absurd h
mapped (Some x) (Some y) f h = ap Some h

module _ (kinds : List Kind) (d : Kind) (k : ℕ) (ws : List (List ℕ)) (q z : Question) where
  pub next_field : (f : Field) → k < length kinds → first_field (get_or kinds k d) ws ≡ Some f → filled k (drop k kinds) ws q ≡ z → filled (k + 1) (drop (k + 1) kinds) (others ws) (put k f q) ≡ z
  unfolding filled
  next_field f h e m = rw (add-one k) (rw (drop-cons kinds k d h, e) at m)

  pub no_field : k < length kinds → first_field (get_or kinds k d) ws ≡ None → filled k (drop k kinds) ws q ≡ z → unreadable ≡ z
  unfolding filled
  no_field h e m = rw (drop-cons kinds k d h, e) at m

  pub one_too_many : (w : List ℕ) (more : List (List ℕ)) → length kinds ≤ k → ws ≡ w ∷ more → filled k (drop k kinds) ws q ≡ z → unreadable ≡ z
  unfolding filled
  one_too_many w more h e m = rw (drop_of_length-le kinds h, e) at m

  pub all_there : length kinds ≤ k → ws ≡ [] → filled k (drop k kinds) ws q ≡ z → q ≡ z
  unfolding filled
  all_there h e m = rw (drop_of_length-le kinds h, e) at m

put_asked : (k : ℕ) (f : Field) (q : Question) → (put k f q).asked ≡ q.asked
put_asked k (Number n) q = refl
put_asked k (Double x) q = refl

-- what is asked stays where the words are fields of their kinds, and else the line is unreadable
pub asked_filled : (k : ℕ) (kinds : List Kind) (ws : List (List ℕ)) (q : Question) → (filled k kinds ws q).asked ≡ pick (readable kinds ws) q.asked Unreadable
unfolding filled readable
asked_filled k [] [] q = refl
asked_filled k [] (w ∷ ws) q = refl
asked_filled k (kind ∷ kinds) ws q =
    go (first_field kind ws) (readable kinds (others ws)) (λ f. filled (suc k) kinds (others ws) (put k f q))
    (λ f. asked_filled (suc k) kinds (others ws) (put k f q) ∙ ap (λ (a : Asked). pick (readable kinds (others ws)) a Unreadable) (put_asked k f q))
  where
    go : (o : Option Field) (b : Bool) (on : Field → Question) → ((f : Field) → (on f).asked ≡ pick b q.asked Unreadable) → (with_field o on).asked ≡ pick (is_some o && b) q.asked Unreadable
    go None b on e = refl
    go (Some f) b on e = e f

-- where the words are fields there is a first word, which is one of its kind
pub record First (kind : Kind) (kinds : List Kind) (ws : List (List ℕ)) : Type 0 where
  pub word : List ℕ
  pub more : List (List ℕ)
  pub is : ws ≡ word ∷ more
  pub good : is_some (field_of kind word) ≡ true
  pub on : readable kinds more ≡ true

pub first : (kind : Kind) (kinds : List Kind) (ws : List (List ℕ)) → readable (kind ∷ kinds) ws ≡ true → First kind kinds ws
unfolding readable
first kind kinds [] e = absurd (false≢true e)
first kind kinds (w ∷ ws) e =
    let g = both (is_some (field_of kind w)) (readable kinds ws) e in
    record { word = w; more = ws; is = refl; good = g.0; on = g.1 }

pub no_more : (ws : List (List ℕ)) → readable [] ws ≡ true → ws ≡ []
unfolding readable
no_more [] e = refl
no_more (w ∷ ws) e = absurd (false≢true e)

-- the fields of the row that a word names, row after row
named : (w : List ℕ) (rs : List Row) (ws : List (List ℕ)) → filled_in w rs ws ≡ filled_by (get_or rs (row_of w rs) (row "" Unreadable "")) ws
unfolding row_of filled
named w [] [] = refl
named w [] (v ∷ ws) = refl
named w (r ∷ rs) ws = go (same w r.name) (named w rs ws)
  where
    go : (t : Bool) → filled_in w rs ws ≡ filled_by (get_or rs (row_of w rs) (row "" Unreadable "")) ws → pick t (filled_by r ws) (filled_in w rs ws) ≡ filled_by (get_or (r ∷ rs) (pick t 0 (suc (row_of w rs))) (row "" Unreadable "")) ws
    go true e = refl
    go false e = e

-- the whole line: its first word names a row, and the words behind it are the row's fields
pub whole_line : (line : List ℕ) (end : ℕ) (r : Question) → words line ≡ take end line ∷ words_from line (end + 1) → r ≡ filled_in (take end line) rows (words_from line (end + 1)) → r ≡ question_of line
unfolding question_of row_at
whole_line line end r e h = rw e (h ∙ named (take end line) rows (words_from line (end + 1)))
