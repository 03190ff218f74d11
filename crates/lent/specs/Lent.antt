-- What a C function returns, and what its lent slices hold afterwards.
use Rattle.std.specs.Prelude.{◌≡◌, Bool, ◌||◌, List, ◌++◌, map, ℕ, ◌+◌, ltb, eqb, Float, length, take, drop}
use Rattle.std.specs.Float.{binary64}
use Rattle.std.specs.Float.Ieee.{to_bits}
use Rattle.reply.specs.Choice.{pick}
use Rattle.reply.specs.declared.Refusal.TheVariants.{BadFrame, BadRows}
use Rattle.reply.specs.Replies.{number_of, Reply}
use Rattle.faceijk.specs.declared.Place.{Place}

-- what a slice that held `old` holds after values were stored in it from an index on
abbrev pub stored : {A : Type 0} → List A → ℕ → List A → List A
stored old at vs = take at old ++ vs ++ drop (at + length vs) old

-- a slice that holds `out` after a call that returns k and has n values for it: the values and, past them, what it held; a refusal writes nothing
abbrev pub held : ℕ → ℕ → List ℕ → List ℕ → List ℕ
held k n vs out = pick (eqb k 0) (vs ++ drop n out) out

-- the number: 2 where a lent slice is too short for its values, else the reply's
abbrev pub number_for : Bool → Reply → ℕ
number_for short r = pick short (number_of BadRows) r.number

-- the same where a frame is lent: a bad frame comes first, 1
abbrev pub framed_number : Bool → Bool → Reply → ℕ
framed_number bad short r = pick bad (number_of BadFrame) (number_for short r)

-- a call that is lent a slice for n values, which holds `before` and then `after`, and returns k
pub record Gives (n : ℕ) (r : Reply) (before after : List ℕ) (k : ℕ) : Type 0 where
  pub number : k ≡ number_for (ltb (length before) n) r
  pub values : after ≡ held k n r.values before

-- the same where a frame is lent, which is bad or not
pub record GivesFramed (bad : Bool) (n : ℕ) (r : Reply) (before after : List ℕ) (k : ℕ) : Type 0 where
  pub number : k ≡ framed_number bad (ltb (length before) n) r
  pub values : after ≡ held k n r.values before

-- a call that is lent two slices, the values vs for the one and ws for the other, and owes this number
pub record GivesBoth (owed n : ℕ) (vs before after : List ℕ) (m : ℕ) (ws before₂ after₂ : List ℕ) (k : ℕ) : Type 0 where
  pub number : k ≡ owed
  pub one : after ≡ held k n vs before
  pub other : after₂ ≡ held k m ws before₂

-- a call whose reply has n numbers and then m doubles, by their bits, and a slice for each; a frame is lent that is bad or not, and where none is lent none is bad
abbrev pub GivesParts : Bool → ℕ → ℕ → Reply → List ℕ → List ℕ → List ℕ → List ℕ → ℕ → Type 0
GivesParts bad n m r before after before₂ after₂ k =
    GivesBoth (framed_number bad (ltb (length before) n || ltb (length before₂) m) r) n (take n r.values) before after m (drop n r.values) before₂ after₂ k

-- a place by its four numbers
abbrev pub at : ℕ → ℕ → ℕ → ℕ → Place
at f i j k = record { face = f; i = i; j = j; k = k }

-- a slice of doubles, by their bits
abbrev pub bits_of : List Float → List ℕ
bits_of = map (to_bits binary64)
