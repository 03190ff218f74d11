-- How a call that is lent two slices ends: one of them is too short, an answer, a refusal. Where no frame is lent, none is bad. Assumes nothing.
use mathlib.Core.Path.{◌≡◌, refl, sym, ap, ◌∙◌, subst}
use mathlib.Core.Bool.{Bool, true, false, ◌||◌}
use mathlib.Core.List.{List, ◌++◌}
use Prim.Native.Nat.{ℕ, ◌≤◌, ◌<◌}
use lib.Dec.{ltb}
use lib.Ieee.{Float, binary64, to_bits}
use lib.ListN.{length, take, drop, length-map}
use borrow.Author.Tests.{lt-ltb, le-ltb}
use Rattle.reply.specs.Choice.{pick}
use Rattle.reply.specs.declared.Refusal.{Refusal}
use Rattle.reply.specs.declared.Refusal.TheVariants.{BadFrame, BadRows}
use Rattle.reply.specs.Replies.{number_of, Reply, answer, refusal}
use Rattle.lent.specs.Lent.{framed_number, GivesBoth, GivesParts, bits_of}
use Rattle.lent.proofs.Lent.{kept, bits_written}

short_number : (bad : Bool) (r : Reply) → number_of (pick bad BadFrame BadRows) ≡ framed_number bad true r
short_number true r = refl
short_number false r = refl

number_1_2 : (bad : Bool) → pick bad 1 2 ≡ number_of (pick bad BadFrame BadRows)
number_1_2 true = refl
number_1_2 false = refl

or_true : (b : Bool) → (b || true) ≡ true
or_true true = refl
or_true false = refl

-- n numbers vs for the one slice, m doubles, whose bits are ws, for the other
module _ (bad : Bool) (r : Reply) (n : ℕ) (vs one : List ℕ) (m : ℕ) (ws : List ℕ) (other : List Float) where
  abbrev few : Bool
  few = ltb (length one) n || ltb (length (bits_of other)) m

  abbrev Ends : List ℕ → List ℕ → ℕ → Type 0
  Ends one₂ other₂ k = GivesBoth (framed_number bad few r) n vs one one₂ m ws (bits_of other) other₂ k

  stays : (b : Bool) (x : Refusal) → few ≡ b → number_of x ≡ framed_number bad b r → Ends one (bits_of other) (number_of x)
  stays b x t e = record {
    number = e ∙ ap (λ (y : Bool). framed_number bad y r) (sym t);
    one = kept x _ n vs one refl;
    other = kept x _ m ws (bits_of other) refl;
  }

  -- the test on the doubles themselves is that on their bits
  tested : (b : Bool) → (ltb (length one) n || ltb (length other) m) ≡ b → few ≡ b
  tested b t = rw (length-map other (to_bits binary64)) t

  -- any number that is 1 of a bad frame and else 2
  pub both_short : (k : ℕ) → (ltb (length one) n || ltb (length other) m) ≡ true → k ≡ pick bad 1 2 → Ends one (bits_of other) k
  both_short k t e =
      subst (Ends one (bits_of other)) (sym (e ∙ number_1_2 bad)) (stays true (pick bad BadFrame BadRows) (tested true t) (short_number bad r))

  pub other_short : length other < m → Ends one (bits_of other) (number_of (pick bad BadFrame BadRows))
  other_short h =
      let t : few ≡ true = rw (length-map other (to_bits binary64), lt-ltb (length other) m h) (or_true (ltb (length one) n)) in
      stays true (pick bad BadFrame BadRows) t (short_number bad r)

  -- past the lengths the number is the reply's, which tells a bad frame itself
  module _ (said : framed_number bad false r ≡ r.number) (room : n ≤ length one) (space : m ≤ length other) where
    enough : few ≡ false
    enough = rw (length-map other (to_bits binary64), le-ltb (length one) n room, le-ltb (length other) m space)

    pub both_refuses : (x : Refusal) → number_of x ≡ r.number → Ends one (bits_of other) (number_of x)
    both_refuses x e = stays false x enough (e ∙ sym said)

    pub both_answers : (one₂ other₂ : List ℕ) → 0 ≡ r.number → one₂ ≡ vs ++ drop n one → other₂ ≡ ws ++ drop m (bits_of other) → Ends one₂ other₂ 0
    both_answers one₂ other₂ e v w = record {
      number = (e ∙ sym said) ∙ ap (λ (y : Bool). framed_number bad y r) (sym enough);
      one = v;
      other = w;
    }

-- The same where the two slices take the two parts of one reply: its first n values as numbers, the m after them as doubles.
module _ (bad : Bool) (r : Reply) (n m : ℕ) (one : List ℕ) (other : List Float) where
  abbrev numbers : List ℕ
  numbers = take n r.values

  abbrev bits : List ℕ
  bits = drop n r.values

  pub parts_short : (k : ℕ) → (ltb (length one) n || ltb (length other) m) ≡ true → k ≡ pick bad 1 2 → GivesParts bad n m r one one (bits_of other) (bits_of other) k
  parts_short = both_short bad r n numbers one m bits other

  module _ (said : framed_number bad false r ≡ r.number) (enough : (ltb (length one) n || ltb (length other) m) ≡ false) where
    pub parts_refuses : (all k : ℕ) (x : Refusal) → refusal all x ≡ r → k ≡ number_of x → GivesParts bad n m r one one (bits_of other) (bits_of other) k
    parts_refuses all k x e w =
        subst (GivesParts bad n m r one one (bits_of other) (bits_of other)) (sym w)
        (stays bad r n numbers one m bits other false x (tested bad r n numbers one m bits other false enough) (ap (λ (y : Reply). y.number) e ∙ sym said))

    pub parts_answers : (vs : List ℕ) (us one₂ : List ℕ) (ds other₂ : List Float) → answer vs ≡ r → take n vs ≡ us → drop n vs ≡ bits_of ds
        → one₂ ≡ us ++ drop n one → other₂ ≡ ds ++ drop m other → GivesParts bad n m r one one₂ (bits_of other) (bits_of other₂) 0
    parts_answers vs us one₂ ds other₂ e t d v w = record {
      number = (ap (λ (y : Reply). y.number) e ∙ sym said) ∙ ap (λ (y : Bool). framed_number bad y r) (sym (tested bad r n numbers one m bits other false enough));
      one = v ∙ ap (λ (l : List ℕ). l ++ drop n one) (sym t ∙ ap (λ (y : Reply). take n y.values) e);
      other = bits_written m ds other other₂ w ∙ ap (λ (l : List ℕ). l ++ drop m (bits_of other)) (sym d ∙ ap (λ (y : Reply). drop n y.values) e);
    }
