-- A line is read as a question exactly when it is that question's text, a line has one reading, and 64 bytes decide it. Assumes nothing.
use mathlib.Core.Path.{◌≡◌, refl, sym, ap, subst, ◌∙◌}
use mathlib.Core.Bool.{Bool, true, false, false≢true}
use mathlib.Core.List.{List, [], ◌∷◌, map, ◌++◌, append_assoc, append-nil}
use mathlib.Core.Logic.{◌↔◌}
use Prim.Native.String.{String}
use Prim.Native.Nat.{ℕ, ◌^◌, ◌≤◌, ◌<◌}
use native.Mathlib.Decide.{dec_lt}
use native.Mathlib.Omega.{arith}
use lib.Dec.{ltb, eqb, lit≤}
use lib.ListN.{length, get_or, drop, take, length-append, length-take}
use lib.Seq.{take_all}
use borrow.Author.Tests.{lt-ltb, ltb-true}
use Rattle.std.specs.Prelude.{Option, Some, None}
use Rattle.reply.specs.Choice.{pick}
use Rattle.reply.specs.Text.{text}
use Rattle.reply.proofs.Entries.{both}
use Rattle.text.specs.Numbers.{decimal, field}
use Rattle.text.proofs.Decimals.{short}
use Rattle.faceijk.specs.declared.Place.{Place}
use Rattle.std.specs.Prelude.{Option, Some, None, option_map}
use Rattle.std.specs.Option.{is_some}
use Rattle.std.proofs.lemmas.Option.{none-some, same_Some}
use Rattle.ask_read.specs.declared.Field.TheVariants.{Number}
use Rattle.ask_read.specs.declared.Kind.{Kind}
use Rattle.ask_read.specs.declared.Asked.{Asked}
use Rattle.ask_read.specs.declared.Asked.TheVariants.{Settle, Unreadable}
use Rattle.ask_read.specs.declared.Question.{Question as Fields}
use Rattle.ask_read.specs.Words.{number_field, same, flag_field}
use Rattle.ask_read.specs.Questions.{words, kind_of, row_at, field_of, filled, readable, filled_by, blank, settle_of}
use Rattle.ask_read.proofs.Numerals.{number_read, number_is, digits_hold}
use Rattle.ask_read.proofs.Splitting.{spaced, joined, one_byte, decimal_whole, before_space, at_end as alone}
use Rattle.ask_read.proofs.Filling.{asked_filled, first, no_more}
use Rattle.ask_read.proofs.Rows.{same_is}
use Rattle.walk_question.specs.declared.Question.{Question}
use Rattle.walk_question.specs.Reading.{letter, fields_of, Short, Asks, Read, Ends, at_end, at_newline}
use Rattle.walk_question.specs.Fields.{line_of, question_of, is_short, of_numbers, reading_of}
use Rattle.walk_question.proofs.Ending.{cut, after_number}

-- ---- p or s

abbrev kind : List ℕ → Option ℕ
kind w = flag_field (text "p") (text "s") w

kind_read : (s : Bool) → kind (letter s ∷ []) ≡ Some (pick s 1 0)
unfolding flag_field same
kind_read true = refl
kind_read false = refl

kind_value : (s : Bool) → eqb (pick s 1 0) 1 ≡ s
kind_value true = refl
kind_value false = refl

kind_is : (w : List ℕ) (n : ℕ) → kind w ≡ Some n → w ≡ letter (eqb n 1) ∷ []
unfolding flag_field
kind_is w n e = go (same w (text "p")) (same w (text "s")) refl refl e
  where
    go : (p s : Bool) → same w (text "p") ≡ p → same w (text "s") ≡ s → pick p (Some 0) (pick s (Some 1) None) ≡ Some n → w ≡ letter (eqb n 1) ∷ []
    go true s e f g = same_is w (text "p") e ∙ ap (λ (n : ℕ). letter (eqb n 1) ∷ []) (same_Some 0 n g)
    go false true e f g = same_is w (text "s") f ∙ ap (λ (n : ℕ). letter (eqb n 1) ∷ []) (same_Some 1 n g)
    go false false e f g = absurd (none-some n g)

-- the number of a word that is one
record Numbered (o : Option ℕ) : Type 0 where
  n : ℕ
  is : o ≡ Some n

numbered : (o : Option ℕ) → is_some (option_map Number o) ≡ true → Numbered o
numbered None e = absurd (false≢true e)
numbered (Some n) e = record { n = n; is = refl }

-- ---- the words of a question

abbrev words_of : Question → List (List ℕ)
words_of q = decimal q.place.face ∷ decimal q.level.0 ∷ (letter q.substrate ∷ []) ∷ decimal q.place.i ∷ decimal q.place.j ∷ decimal q.place.k ∷ []

words_joined : (q : Question) → spaced (words_of q) ≡ 32 ∷ fields_of q
unfolding fields_of field
words_joined q = rw (append-nil (decimal q.place.k)) refl

not_space : (s : Bool) → letter s ≡ 32 → ⊥
not_space true e = omega arith
not_space false e = omega arith

words_split : (q : Question) → words (fields_of q) ≡ words_of q
unfolding fields_of field
words_split q =
    let coordinates = before_space (decimal_whole q.place.i) _ (before_space (decimal_whole q.place.j) _ (alone (decimal_whole q.place.k))) in
    before_space (decimal_whole q.place.face) _ (before_space (decimal_whole q.level.0) _ (before_space (one_byte (letter q.substrate) (not_space q.substrate)) _ coordinates))

line_is : (q : Question) (bs : List ℕ) → Asks q bs → line_of bs ≡ fields_of q
unfolding fields_of field
line_is q bs a =
    let before = decimal q.place.face ++ (32 ∷ (decimal q.level.0 ++ (32 ∷ letter q.substrate ∷ 32 ∷ (decimal q.place.i ++ (32 ∷ (decimal q.place.j ++ (32 ∷ []))))))) in
    let is : before ++ decimal q.place.k ≡ fields_of q = simp append_assoc refl in
    ap line_of (a.text ∙ ap (λ (x : List ℕ). x ++ a.after) (sym is)) ∙ (after_number before q.place.k a.ends ∙ is)

-- words that are the fields of `settle` are those of the question that they give
abbrev Own : List (List ℕ) → Type 0
Own ws = ws ≡ words_of (question_of (filled_by (row_at 6) ws).numbers)

own : (ws : List (List ℕ)) (f l s i j k : List ℕ) → ws ≡ f ∷ l ∷ s ∷ i ∷ j ∷ k ∷ [] → Numbered (number_field f) → Numbered (number_field l) → Numbered (kind s) → Numbered (number_field i) → Numbered (number_field j) → Numbered (number_field k) → Own ws
unfolding row_at field_of filled
own ws f l s i j k e gf gl gs gi gj gk =
    rw (e, gf.is, gl.is, gs.is, gi.is, gj.is, gk.is) (λ d. number_is f gf.n gf.is d ∷ number_is l gl.n gl.is d ∷ kind_is s gs.n gs.is d ∷ number_is i gi.n gi.is d ∷ number_is j gj.n gj.is d ∷ number_is k gk.n gk.is d ∷ [])

abbrev kinds : String → List Kind
kinds letters = map kind_of (text letters)

words_are : (ws : List (List ℕ)) → readable (row_at 6).kinds ws ≡ true → Own ws
unfolding row_at field_of
words_are ws e =
    let f = first Kind.Number (kinds "npnnn") ws e in
    let l = first Kind.Number (kinds "pnnn") f.more f.on in
    let s = first Kind.Grid (kinds "nnn") l.more l.on in
    let i = first Kind.Number (kinds "nn") s.more s.on in
    let j = first Kind.Number (kinds "n") i.more i.on in
    let k = first Kind.Number [] j.more j.on in
    let none = no_more k.more k.on in
    let is : ws ≡ f.word ∷ l.word ∷ s.word ∷ i.word ∷ j.word ∷ k.word ∷ [] = rw (← none, ← k.is, ← j.is, ← i.is, ← s.is, ← l.is) f.is in
    own ws f.word l.word s.word i.word j.word k.word is (numbered _ f.good) (numbered _ l.good) (numbered _ s.good) (numbered _ i.good) (numbered _ j.good) (numbered _ k.good)

-- a number of few digits, as a field
few : (k n top : ℕ) → 10 ^ k ≡ top → top ≤ 10000 → length (decimal n) ≤ k → (number_field (decimal n) ≡ Some n) × (ltb n top ≡ true)
few k n top e t h = let l = digits_hold k n h in (number_read n (omega arith), lt-ltb n top (omega arith))

-- the words of a question with few digits are read, and give its numbers
words_read : (q : Question) → Short q → (readable (row_at 6).kinds (words_of q) ≡ true) × (of_numbers (filled_by (row_at 6) (words_of q)).numbers ≡ Some q)
unfolding readable filled field_of row_at of_numbers
words_read q h =
    let f = few 2 q.place.face 100 refl (lit≤ tt) h.face in
    let l = few 2 q.level.0 100 refl (lit≤ tt) h.level in
    let i = few 4 q.place.i 10000 refl (lit≤ tt) h.i in
    let j = few 4 q.place.j 10000 refl (lit≤ tt) h.j in
    let k = few 4 q.place.k 10000 refl (lit≤ tt) h.k in
    let s = kind_read q.substrate in (
      rw (f.0, l.0, s, i.0, j.0, k.0) refl,
      rw (f.0, l.0, s, i.0, j.0, k.0, f.1, l.1, i.1, j.1, k.1, kind_value q.substrate) refl,
    )

module _ (bs : List ℕ) where
  abbrev ws : List (List ℕ)
  ws = words (line_of bs)

  abbrev numbers : List ℕ
  numbers = (settle_of (line_of bs)).numbers

  -- good fields with few digits are the text of their question
  asked : readable (row_at 6).kinds ws ≡ true → is_short numbers ≡ true → Asks (question_of numbers) bs
  asked r t =
      let q = question_of numbers in
      let g4 = both _ (ltb q.place.k 10000) t in
      let g3 = both _ (ltb q.place.j 10000) g4.0 in
      let g2 = both _ (ltb q.place.i 10000) g3.0 in
      let g1 = both (ltb q.place.face 100) (ltb q.level.0 100) g2.0 in
      let line : line_of bs ≡ fields_of q = ap (drop 1) (joined (line_of bs) ∙ (ap spaced (words_are ws r) ∙ words_joined q)) in
      let c = cut bs in
      record {
        short = record {
          face = short 1 q.place.face (ltb-true q.place.face 100 g1.0);
          level = short 1 q.level.0 (ltb-true q.level.0 100 g1.1);
          i = short 3 q.place.i (ltb-true q.place.i 10000 g2.1);
          j = short 3 q.place.j (ltb-true q.place.j 10000 g3.1);
          k = short 3 q.place.k (ltb-true q.place.k 10000 g4.1);
        };
        after = c.after;
        text = c.text ∙ ap (λ (x : List ℕ). x ++ c.after) line;
        ends = c.ends;
      }

  to_text : (q : Question) → reading_of bs ≡ Some q → Asks q bs
  unfolding reading_of of_numbers
  to_text q e = go (readable (row_at 6).kinds ws) (is_short numbers) refl refl e
    where
      go : (t u : Bool) → t ≡ readable (row_at 6).kinds ws → u ≡ is_short numbers → pick t (pick u (Some (question_of numbers)) None) None ≡ Some q → Asks q bs
      go true true t u e =
          let is : question_of numbers ≡ q = cc in
          subst (λ (q : Question). Asks q bs) is (asked (sym t) (sym u))
      go true false t u e = let z : ◌≡◌ {A = ℕ} 0 1 = cc in absurd (omega arith)
      go false u t v e = let z : ◌≡◌ {A = ℕ} 0 1 = cc in absurd (omega arith)

  of_text : (q : Question) → Asks q bs → reading_of bs ≡ Some q
  unfolding reading_of
  of_text q a =
      let w : ws ≡ words_of q = ap words (line_is q bs a) ∙ words_split q in
      let r = words_read q a.short in
      rw (w, r.0) r.1

  -- a line is read as q exactly when it is q's text
  pub reads : (q : Question) → (reading_of bs ≡ Some q) ↔ Asks q bs
  reads q = (to_text q, of_text q)

  -- and it is malformed exactly when it is no question's text
  pub malformed : (reading_of bs ≡ None) ↔ ((q : Question) → Asks q bs → ⊥)
  malformed = (none, go (reading_of bs) refl)
    where
      none : reading_of bs ≡ None → (q : Question) → Asks q bs → ⊥
      none e q a = let f = of_text q a in let z : ◌≡◌ {A = ℕ} 0 1 = cc in omega arith

      go : (r : Option Question) → r ≡ reading_of bs → ((q : Question) → Asks q bs → ⊥) → reading_of bs ≡ None
      go (Some q) e h = absurd (h q (to_text q (sym e)))
      go None e h = sym e

  -- no line is the text of two questions
  pub one_question : (p q : Question) → Asks p bs → Asks q bs → p ≡ q
  one_question p q a b = let e = of_text p a in let f = of_text q b in cc

  -- what the words say is how the line is read
  pub is_read : (r : Option Question) → r ≡ reading_of bs → Read bs r
  is_read (Some q) e = to_text q (sym e)
  is_read None e = malformed.0 (sym e)

  pub as_read : (r : Option Question) → Read bs r → r ≡ reading_of bs
  as_read (Some q) a = sym (of_text q a)
  as_read None h = sym (malformed.1 h)

  -- two readings of one line coincide
  pub one_reading : (a b : Option Question) → Read bs a → Read bs b → a ≡ b
  one_reading a b x y = as_read a x ∙ sym (as_read b y)

-- ---- what the code finds

module _ (bs : List ℕ) (q : Fields) (is : q ≡ settle_of (line_of bs)) where
  asked_is : q.asked ≡ pick (readable (row_at 6).kinds (words (line_of bs))) Settle Unreadable
  unfolding row_at
  asked_is = ap (λ (x : Fields). x.asked) is ∙ asked_filled 0 (row_at 6).kinds (words (line_of bs)) (blank Settle)

  pub settled : (r : Option Question) → q.asked ≡ Settle → r ≡ of_numbers q.numbers → Read bs r
  unfolding reading_of
  settled r h e = is_read bs r (go (readable (row_at 6).kinds (words (line_of bs))) (sym asked_is ∙ h))
    where
      go : (t : Bool) → pick t Settle Unreadable ≡ Settle → r ≡ pick t (of_numbers (settle_of (line_of bs)).numbers) None
      go true f = e ∙ ap (λ (x : Fields). of_numbers x.numbers) is
      go false f = let z : ◌≡◌ {A = ℕ} 0 1 = cc in absurd (omega arith)

  -- something holds of what is asked that does not hold of `Settle`
  pub unsettled : (P : Asked → Type 0) → P q.asked → (P Settle → ⊥) → Read bs None
  unfolding reading_of
  unsettled P h other = is_read bs None (go (readable (row_at 6).kinds (words (line_of bs))) (subst P asked_is h))
    where
      go : (t : Bool) → P (pick t Settle Unreadable) → None ≡ pick t (of_numbers (settle_of (line_of bs)).numbers) None
      go true h = absurd (other h)
      go false h = refl

-- short numbers are a question
pub good : (ns : List ℕ) (p : Place) → p ≡ (question_of ns).place → is_short ns ≡ true → Some (record { place = p; level = record { 0 = get_or ns 1 0 }; substrate = eqb (get_or ns 2 0) 1 }) ≡ of_numbers ns
unfolding of_numbers
good ns p e t = rw (e, t) refl

-- ---- how much of a line decides: no question's text has more than 23 bytes

one_more : {after : List ℕ} → Ends after → length after ≤ 1
one_more at_end = omega arith
one_more at_newline = omega arith

text_short : (q : Question) (bs : List ℕ) → Asks q bs → length bs ≤ 23
unfolding fields_of field
text_short q bs a =
    let e = simp length-append at (ap length a.text) in
    let s = a.short in
    let o = one_more a.ends in
    omega arith

-- a line longer than any text is malformed
pub too_long : (bs : List ℕ) → 23 < length bs → reading_of bs ≡ None
too_long bs h = (malformed bs).1 (λ q a. omega (arith, text_short q bs a))

-- so the first 64 bytes of an input say what the whole input says
pub first_bytes : (bs : List ℕ) → reading_of (take 64 bs) ≡ reading_of bs
first_bytes bs =
    elim (dec_lt 64 (length bs)) [
      | yes h ↦ too_long (take 64 bs) (omega (arith, length-take 64 bs)) ∙ sym (too_long bs (omega arith))
      | no h ↦ ap reading_of (take_all 64 bs (omega arith))
    ]
