-- Two outcomes of a C call that meet one promise coincide: the number it returns, and what every lent slice then holds. Assumes nothing.
use mathlib.Core.Path.{◌≡◌, refl, sym, ap, ◌∙◌}
use mathlib.Core.Bool.{Bool, ◌||◌}
use mathlib.Core.List.{List, [], ◌∷◌, map}
use Prim.Native.Nat.{ℕ}
use lib.Dec.{T, ltb}
use lib.Ieee.{Float, binary64, fits, of_bits}
use lib.Ieee.Bits.{of_bits-to_bits}
use lib.ListN.{length, take, drop}
use Rattle.reply.specs.Replies.{Reply}
use Rattle.lent.specs.Lent.{held, framed_number, Gives, GivesFramed, GivesBoth, GivesParts, bits_of}

-- one number returned means one content of a slice
pub one_held : (n : ℕ) (vs before : List ℕ) {a b : List ℕ} {k l : ℕ} → k ≡ l → a ≡ held k n vs before → b ≡ held l n vs before → a ≡ b
one_held n vs before same e f = e ∙ (ap (λ (m : ℕ). held m n vs before) same ∙ sym f)

module _ (n : ℕ) (r : Reply) (before : List ℕ) {a b : List ℕ} {k l : ℕ} where
  pub one_gives : Gives n r before a k → Gives n r before b l → (k ≡ l) × (a ≡ b)
  one_gives g h =
      let same = g.number ∙ sym h.number in
      (same, one_held n r.values before same g.values h.values)

  pub one_gives_framed : (bad : Bool) → GivesFramed bad n r before a k → GivesFramed bad n r before b l → (k ≡ l) × (a ≡ b)
  one_gives_framed bad g h =
      let same = g.number ∙ sym h.number in
      (same, one_held n r.values before same g.values h.values)

pub one_gives_both : (owed n : ℕ) (vs before : List ℕ) (m : ℕ) (ws before₂ : List ℕ) {a b a₂ b₂ : List ℕ} {k l : ℕ}
    → GivesBoth owed n vs before a m ws before₂ a₂ k → GivesBoth owed n vs before b m ws before₂ b₂ l → (k ≡ l) × (a ≡ b) × (a₂ ≡ b₂)
one_gives_both owed n vs before m ws before₂ g h =
    let same = g.number ∙ sym h.number in
    (same, one_held n vs before same g.one h.one, one_held m ws before₂ same g.other h.other)

pub one_gives_parts : (bad : Bool) (n m : ℕ) (r : Reply) (before before₂ : List ℕ) {a b a₂ b₂ : List ℕ} {k l : ℕ}
    → GivesParts bad n m r before a before₂ a₂ k → GivesParts bad n m r before b before₂ b₂ l → (k ≡ l) × (a ≡ b) × (a₂ ≡ b₂)
one_gives_parts bad n m r before before₂ =
    one_gives_both (framed_number bad (ltb (length before) n || ltb (length before₂) m) r) n (take n r.values) before m (drop n r.values) before₂

-- Doubles that a program holds: each is a value of the format, as every f64 is.
abbrev pub AllHeld : List Float → Type 0
AllHeld [] = Unit {0}
AllHeld (x ∷ xs) = T (fits binary64 x) × AllHeld xs

-- they are read back from their bits
read_back : (xs : List Float) → AllHeld xs → map (of_bits binary64) (bits_of xs) ≡ xs
read_back [] f = refl
read_back (x ∷ xs) f =
    let first = of_bits-to_bits binary64 x f.0 in
    let rest = read_back xs f.1 in
    λ i. first i ∷ rest i

-- A promise speaks of a slice of doubles by their bits. Two slices that a program holds with the same bits are one.
pub one_doubles : (xs ys : List Float) → AllHeld xs → AllHeld ys → bits_of xs ≡ bits_of ys → xs ≡ ys
one_doubles xs ys f g e = sym (read_back xs f) ∙ (ap (map (of_bits binary64)) e ∙ read_back ys g)

-- so two outcomes of a call that is lent a slice of doubles are one, double by double
pub one_gives_doubles : (n : ℕ) (r : Reply) (before a b : List Float) {k l : ℕ} → AllHeld a → AllHeld b
    → Gives n r (bits_of before) (bits_of a) k → Gives n r (bits_of before) (bits_of b) l → (k ≡ l) × (a ≡ b)
one_gives_doubles n r before a b f g p q =
    let same = one_gives n r (bits_of before) p q in
    (same.0, one_doubles a b f g same.1)
