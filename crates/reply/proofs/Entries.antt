-- How an entry's answer meets its reply: the answer where its tests found nothing, the refusal that they found else. Assumes nothing.
use mathlib.Core.Path.{◌≡◌, refl, sym, ap, ◌∙◌}
use mathlib.Core.Bool.{Bool, true, false, true≢false, false≢true, ◌&&◌, ◌||◌}
use mathlib.Core.List.{List}
use Prim.Native.Nat.{ℕ}
use native.Mathlib.Omega.{arith}
use Rattle.std.specs.Prelude.{Result, Ok, Err}
use Rattle.reply.specs.Choice.{pick}
use Rattle.reply.specs.declared.Refusal.{Refusal}
use Rattle.reply.specs.Replies.{number_of, Reply, answer, refusal, reply, Verdict, fine, said, yes_or_no}
use Rattle.reply.proofs.Numbers.{number_pos, same_number}

-- reasons that find nothing: the first does not apply, and the others find nothing
pub passed : (b : Bool) (r : Refusal) (v : Verdict) → pick b (Err r) v ≡ fine → (b ≡ false) × (v ≡ fine)
passed true r v e = let z : ◌≡◌ {A = ℕ} 0 1 = cc in absurd (omega arith)
passed false r v e = (refl, e)

-- a verdict by one reason that refuses: the reason applies, and is the one found
pub found : (b : Bool) (r s : Refusal) → pick b (Err r) fine ≡ Err s → (b ≡ true) × (r ≡ s)
found true r s e = (refl, cc)
found false r s e = let z : ◌≡◌ {A = ℕ} 0 1 = cc in absurd (omega arith)

-- a test of two parts that fails
pub neither : (a b : Bool) → (a || b) ≡ false → (a ≡ false) × (b ≡ false)
neither true b e = absurd (true≢false e)
neither false b e = (refl, e)

-- and one that passes
pub both : (a b : Bool) → (a && b) ≡ true → (a ≡ true) × (b ≡ true)
both true b e = (refl, e)
both false b e = absurd (false≢true e)

pub answers : (n : ℕ) (v : Verdict) (vs : List ℕ) (x : Reply) → v ≡ fine → x ≡ answer vs → x ≡ reply n v vs
answers n v vs x f e = e ∙ ap (λ (w : Verdict). reply n w vs) (sym f)

pub refuses : (n : ℕ) (v : Verdict) (vs : List ℕ) (r : Refusal) → v ≡ Err r → refusal n r ≡ reply n v vs
refuses n v vs r f = ap (λ (w : Verdict). reply n w vs) (sym f)

-- what two replies that are one hold
pub values : {a b : Reply} → a ≡ b → a.values ≡ b.values
values e = ap (λ (x : Reply). x.values) e

-- no answer says what a refusal says, and two refusals that say the same are one
pub answer_or_refusal : {A : Type 0} (n : ℕ) (vs : List ℕ) (r : Refusal) → answer vs ≡ refusal n r → A
answer_or_refusal n vs r e = let z : 0 ≡ number_of r = ap (λ (x : Reply). x.number) e in absurd (omega (arith, number_pos r))

pub same_refusal : (n : ℕ) (a b : Refusal) → refusal n a ≡ refusal n b → a ≡ b
same_refusal n a b e = same_number a b (ap (λ (x : Reply). x.number) e)

-- what a caller learns: an answer means that nothing was found and has the values, a refusal is the one that was found
pub answered : (n : ℕ) (v : Verdict) (vs ws : List ℕ) → answer vs ≡ reply n v ws → (v ≡ fine) × (vs ≡ ws)
answered n (Ok _) vs ws e = (refl, values e)
answered n (Err r) vs ws e = answer_or_refusal n vs r e

pub refused : (n : ℕ) (v : Verdict) (r : Refusal) (ws : List ℕ) → refusal n r ≡ reply n v ws → v ≡ Err r
refused n (Ok _) r ws e = answer_or_refusal n ws r (sym e)
refused n (Err s) r ws e = ap Err (same_refusal n s r (sym e))

-- two outcomes of an entry that say the same are one, where answers with the same values are
pub one_said : {A : Type 0} (n : ℕ) (values : A → List ℕ) → ((a b : A) → values a ≡ values b → a ≡ b) → (x y : Result A Refusal) → said n values x ≡ said n values y → x ≡ y
one_said n values one (Ok a) (Ok b) e = ap Ok (one a b (ap (λ (x : Reply). x.values) e))
one_said n values one (Ok a) (Err r) e = answer_or_refusal n _ r e
one_said n values one (Err r) (Ok a) e = answer_or_refusal n _ r (sym e)
one_said n values one (Err r) (Err s) e = ap Err (same_refusal n r s e)

pub one_bit : (a b : Bool) → yes_or_no a ≡ yes_or_no b → a ≡ b
one_bit true true e = refl
one_bit true false e = let z : ◌≡◌ {A = ℕ} 1 0 = cc in absurd (omega arith)
one_bit false true e = let z : ◌≡◌ {A = ℕ} 0 1 = cc in absurd (omega arith)
one_bit false false e = refl

-- .. and so two outcomes of a question of yes or no
pub one_said_bit : (x y : Result Bool Refusal) → said 1 yes_or_no x ≡ said 1 yes_or_no y → x ≡ y
one_said_bit x y e = one_said 1 yes_or_no one_bit x y e

-- P of an answer that is given; of a refusal nothing
abbrev pub WhereGiven : {A : Type 0} → (A → Type 0) → Result A Refusal → Type 0
WhereGiven P (Ok a) = P a
WhereGiven P (Err r) = Unit {0}

-- two outcomes that say the same are one, where answers of which P holds and that have the same values are
pub one_said_where : {A : Type 0} (P : A → Type 0) (n : ℕ) (values : A → List ℕ) → ((a b : A) → P a → P b → values a ≡ values b → a ≡ b)
    → (x y : Result A Refusal) → WhereGiven P x → WhereGiven P y → said n values x ≡ said n values y → x ≡ y
one_said_where P n values one (Ok a) (Ok b) p q e = ap Ok (one a b p q (ap (λ (x : Reply). x.values) e))
one_said_where P n values one (Ok a) (Err r) p q e = answer_or_refusal n _ r e
one_said_where P n values one (Err r) (Ok a) p q e = answer_or_refusal n _ r (sym e)
one_said_where P n values one (Err r) (Err s) p q e = ap Err (same_refusal n r s e)

-- what a caller learns of an outcome that meets its promise: an answer means that nothing was found, and has the promised values; a refusal is the one that was found
pub told : {A : Type 0} (n : ℕ) (values : A → List ℕ) (v : Verdict) (ws : List ℕ) {x : Result A Refusal} {a : A} → x ≡ Ok a → said n values x ≡ reply n v ws → (v ≡ fine) × (values a ≡ ws)
told n values v ws {x} {a} is e = answered n v (values a) ws (ap (said n values) (sym is) ∙ e)

pub told_refusal : {A : Type 0} (n : ℕ) (values : A → List ℕ) (v : Verdict) (ws : List ℕ) {x : Result A Refusal} {r : Refusal} → x ≡ Err r → said n values x ≡ reply n v ws → v ≡ Err r
told_refusal n values v ws {x} {r} is e = refused n v r ws (ap (said n values) (sym is) ∙ e)
