-- How the values that the C face gives lie in an answer: parted into numbers and doubles as the question's kinds say. Assumes nothing.
use mathlib.Core.Path.{◌≡◌, refl, sym, ap, ◌∙◌}
use mathlib.Core.Bool.{Bool, true, false}
use mathlib.Core.List.{List, [], ◌∷◌, ◌++◌}
use Prim.Native.Nat.{ℕ, zero, suc, ◌-◌, ◌≤◌}
use native.Mathlib.Nat.{suc_inj}
use native.Mathlib.Omega.{arith}
use lib.Dec.{eqb}
use lib.ListN.{length, get_or, take, drop}
use lib.Seq.{drop_at}
use borrow.Author.Tests.{ne_eqb, le-ltb}
use Rattle.std.specs.Prelude.{Ok, Err}
use Rattle.reply.specs.Choice.{pick}
use Rattle.reply.specs.declared.Refusal.{Refusal}
use Rattle.reply.specs.declared.Refusal.TheVariants.{BadFrame}
use Rattle.reply.specs.Replies.{number_of, refusal, reply, zeros, Verdict, fine}
use Rattle.reply.proofs.Numbers.{number_pos}
use Rattle.lent.specs.Lent.{held, framed_number, Gives, GivesParts}
use Rattle.ask_read.specs.declared.Asked.{Asked}
use Rattle.ask_call.specs.Replies.{kinds_of, is_double, values_in, doubles_in, numbers_in, Holds}

-- ---- zeros

pub drop_zeros : (k n : ℕ) → drop k (zeros n) ≡ zeros (n - k)
drop_zeros zero n = let e : n ≡ n - 0 = omega arith in ap zeros e
drop_zeros (suc k) zero = let e : 0 ≡ 0 - suc k = omega arith in ap zeros e
drop_zeros (suc k) (suc n) = let e : n - k ≡ suc n - suc k = omega arith in drop_zeros k n ∙ ap zeros e

first_zero : (n : ℕ) → get_or (zeros n) 0 0 ≡ 0
first_zero zero = refl
first_zero (suc n) = refl

zeros_in : (ks : List ℕ) (a b : ℕ) → values_in ks (zeros a) (zeros b) ≡ zeros (length ks)
unfolding values_in
zeros_in [] a b = refl
zeros_in (k ∷ ks) a b = go (is_double k) (zeros_in ks a (b - 1)) (zeros_in ks (a - 1) b)
  where
    go : (t : Bool) → values_in ks (zeros a) (zeros (b - 1)) ≡ zeros (length ks) → values_in ks (zeros (a - 1)) (zeros b) ≡ zeros (length ks) → pick t (get_or (zeros b) 0 0 ∷ values_in ks (zeros a) (drop 1 (zeros b))) (get_or (zeros a) 0 0 ∷ values_in ks (drop 1 (zeros a)) (zeros b)) ≡ zeros (suc (length ks))
    go true x y = rw (first_zero b, drop_zeros 1 b, x)
    go false x y = rw (first_zero a, drop_zeros 1 a, y)

-- ---- a refusal leaves all zero

pub refused : (asked : Asked) (n : ℕ) (r : Refusal) {k : ℕ} {ns ds : List ℕ} → length (kinds_of asked) ≡ n → k ≡ number_of r → ns ≡ zeros 25 → ds ≡ zeros 36 → Holds asked (refusal n r) k ns ds
refused asked n r l e f g =
    record {
      number = e;
      values = rw (f, g) (zeros_in (kinds_of asked) 25 36 ∙ ap zeros l);
      other_numbers = rw f (drop_zeros (numbers_in (kinds_of asked)) 25);
      other_doubles = rw g (drop_zeros (doubles_in (kinds_of asked)) 36);
    }

pub kept : (r : Refusal) (k n : ℕ) (vs out : List ℕ) {after : List ℕ} → k ≡ number_of r → after ≡ held k n vs out → after ≡ out
kept r k n vs out e h =
    let some : eqb k 0 ≡ false = ne_eqb k 0 (λ z. omega (arith, number_pos r)) in
    rw some at h

-- ---- values parted

-- numbers and doubles that make the values again by their kinds, whatever stands past them
pub record Parted (ks vs ns ds : List ℕ) : Type 0 where
  pub numbers : length ns ≡ numbers_in ks
  pub doubles : length ds ≡ doubles_in ks
  pub values : (more past : List ℕ) → values_in ks (ns ++ more) (ds ++ past) ≡ vs

pub nothing : Parted [] [] [] []
unfolding values_in numbers_in doubles_in
nothing = record { numbers = refl; doubles = refl; values = λ more past. refl }

-- one value more in front, a number or a double
module _ {ks vs ns ds : List ℕ} (k v : ℕ) where
  pub number : is_double k ≡ false → Parted ks vs ns ds → Parted (k ∷ ks) (v ∷ vs) (v ∷ ns) ds
  unfolding values_in numbers_in doubles_in
  number e p =
      record {
        numbers = rw e (ap suc p.numbers);
        doubles = rw e p.doubles;
        values = λ more past. rw e (ap (λ (x : List ℕ). v ∷ x) (p.values more past));
      }

  pub double : is_double k ≡ true → Parted ks vs ns ds → Parted (k ∷ ks) (v ∷ vs) ns (v ∷ ds)
  unfolding values_in numbers_in doubles_in
  double e p =
      record {
        numbers = rw e p.numbers;
        doubles = rw e (ap suc p.doubles);
        values = λ more past. rw e (ap (λ (x : List ℕ). v ∷ x) (p.values more past));
      }

-- numbers alone, and doubles alone
all_numbers : (ks vs : List ℕ) → doubles_in ks ≡ 0 → length ks ≡ length vs → Parted ks vs vs []
unfolding doubles_in
all_numbers [] [] d l = nothing
all_numbers [] (v ∷ vs) d l = absurd (omega arith)
all_numbers (k ∷ ks) [] d l = absurd (omega arith)
all_numbers (k ∷ ks) (v ∷ vs) d l = go (is_double k) refl (λ e. all_numbers ks vs e (suc_inj l)) d
  where
    go : (t : Bool) → is_double k ≡ t → (doubles_in ks ≡ 0 → Parted ks vs vs []) → pick t (suc (doubles_in ks)) (doubles_in ks) ≡ 0 → Parted (k ∷ ks) (v ∷ vs) (v ∷ vs) []
    go true t next e = absurd (omega arith)
    go false t next e = number k v t (next e)

all_doubles : (ks vs : List ℕ) → numbers_in ks ≡ 0 → length ks ≡ length vs → Parted ks vs [] vs
unfolding numbers_in
all_doubles [] [] d l = nothing
all_doubles [] (v ∷ vs) d l = absurd (omega arith)
all_doubles (k ∷ ks) [] d l = absurd (omega arith)
all_doubles (k ∷ ks) (v ∷ vs) d l = go (is_double k) refl (λ e. all_doubles ks vs e (suc_inj l)) d
  where
    go : (t : Bool) → is_double k ≡ t → (numbers_in ks ≡ 0 → Parted ks vs [] vs) → pick t (numbers_in ks) (suc (numbers_in ks)) ≡ 0 → Parted (k ∷ ks) (v ∷ vs) [] (v ∷ vs)
    go true t next e = double k v t (next e)
    go false t next e = absurd (omega arith)

-- ---- a reply in an answer

-- a call that was lent room for m numbers and d doubles, none of which is set, and gives one part of its values as numbers and the other as doubles
pub holds : (asked : Asked) (n m d : ℕ) (v : Verdict) (vs : List ℕ) (one other : List ℕ → List ℕ) {k : ℕ} {ns ds : List ℕ}
    → length (kinds_of asked) ≡ n → numbers_in (kinds_of asked) ≡ m → doubles_in (kinds_of asked) ≡ d → (v ≡ fine → Parted (kinds_of asked) vs (one vs) (other vs))
    → k ≡ (reply n v vs).number → ns ≡ held k m (one (reply n v vs).values) (zeros 25) → ds ≡ held k d (other (reply n v vs).values) (zeros 36) → Holds asked (reply n v vs) k ns ds
holds asked n m d (Ok _) vs one other {ns = ns} {ds = ds} l some more p e f g =
    let part = p refl in
    let here : ns ≡ one vs ++ drop m (zeros 25) = rw e at f in
    let there : ds ≡ other vs ++ drop d (zeros 36) = rw e at g in
    record {
      number = e;
      values = rw (here, there) (part.values (drop m (zeros 25)) (drop d (zeros 36)));
      other_numbers = rw (here, some) (drop_at (one vs) (drop m (zeros 25)) m (part.numbers ∙ some) ∙ drop_zeros m 25);
      other_doubles = rw (there, more) (drop_at (other vs) (drop d (zeros 36)) d (part.doubles ∙ more) ∙ drop_zeros d 36);
    }
holds asked n m d (Err r) vs one other {k = k} l some more p e f g =
    refused asked n r l e (kept r k m (one (zeros n)) (zeros 25) e f) (kept r k d (other (zeros n)) (zeros 36) e g)

-- no value for a slice leaves it as it was
unset : (k : ℕ) (out : List ℕ) → held k 0 [] out ≡ out
unset k out = go (eqb k 0)
  where
    go : (t : Bool) → pick t out out ≡ out
    go true = refl
    go false = refl

module _ (asked : Asked) (n : ℕ) (v : Verdict) (vs : List ℕ) {k : ℕ} {ns ds : List ℕ} (l : length (kinds_of asked) ≡ n) (m : length vs ≡ n) where
  pub numbers : numbers_in (kinds_of asked) ≡ n → doubles_in (kinds_of asked) ≡ 0 → k ≡ (reply n v vs).number → ns ≡ held k n (reply n v vs).values (zeros 25) → ds ≡ zeros 36 → Holds asked (reply n v vs) k ns ds
  numbers a b e f g =
      holds asked n n 0 v vs (λ (x : List ℕ). x) (λ (x : List ℕ). []) l a b (λ fine. all_numbers (kinds_of asked) vs b (l ∙ sym m)) e f (g ∙ sym (unset k (zeros 36)))

  pub doubles : numbers_in (kinds_of asked) ≡ 0 → doubles_in (kinds_of asked) ≡ n → k ≡ (reply n v vs).number → ds ≡ held k n (reply n v vs).values (zeros 36) → ns ≡ zeros 25 → Holds asked (reply n v vs) k ns ds
  doubles a b e f g =
      holds asked n 0 n v vs (λ (x : List ℕ). []) (λ (x : List ℕ). x) l a b (λ fine. all_doubles (kinds_of asked) vs a (l ∙ sym m)) e (g ∙ sym (unset k (zeros 25))) f

  -- the same of a call that is lent a slice of numbers, or one of doubles, none of which is set
  pub gives : {out : List ℕ} → numbers_in (kinds_of asked) ≡ n → doubles_in (kinds_of asked) ≡ 0 → n ≤ 25 → out ≡ zeros 25 → ds ≡ zeros 36 → Gives n (reply n v vs) out ns k → Holds asked (reply n v vs) k ns ds
  gives a b room e f g = numbers a b (rw (e, le-ltb 25 n room) at g.number) (rw e at g.values) f

  pub gives_doubles : {out : List ℕ} → numbers_in (kinds_of asked) ≡ 0 → doubles_in (kinds_of asked) ≡ n → n ≤ 36 → ns ≡ zeros 25 → out ≡ zeros 36 → Gives n (reply n v vs) out ds k → Holds asked (reply n v vs) k ns ds
  gives_doubles a b room e f g = doubles a b (rw (f, le-ltb 36 n room) at g.number) (rw f at g.values) e

-- the same of a call that is lent a slice for its n numbers and one for the m doubles after them, none of which is set
pub gives_parts : (asked : Asked) (bad : Bool) (all n m : ℕ) (v : Verdict) (vs : List ℕ) {k : ℕ} {ns ds out other : List ℕ}
    → length (kinds_of asked) ≡ all → numbers_in (kinds_of asked) ≡ n → doubles_in (kinds_of asked) ≡ m → n ≤ 25 → m ≤ 36 → Parted (kinds_of asked) vs (take n vs) (drop n vs)
    → framed_number bad false (reply all v vs) ≡ (reply all v vs).number → out ≡ zeros 25 → other ≡ zeros 36 → GivesParts bad n m (reply all v vs) out ns other ds k → Holds asked (reply all v vs) k ns ds
gives_parts asked bad all n m v vs l a b room space p said e f g =
    holds asked all n m v vs (take n) (drop n) l a b (λ fine. p) ((rw (e, f, le-ltb 25 n room, le-ltb 36 m space) at g.number) ∙ said) (rw e at g.one) (rw f at g.other)

-- ---- a lent frame: a bad one is refused first, so that its number is the reply's

pub framed : (bad : Bool) (n : ℕ) (v : Verdict) (vs : List ℕ) → pick bad 1 (reply n (pick bad (Err BadFrame) v) vs).number ≡ (reply n (pick bad (Err BadFrame) v) vs).number
framed true n v vs = refl
framed false n v vs = refl
