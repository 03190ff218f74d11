-- The first reason that applies, in a list that stands in the order, is the foremost; and the order sets any two refusals apart. Assumes nothing.
use mathlib.Core.Path.{◌≡◌, refl, sym, ap, subst, ◌∙◌}
use mathlib.Core.Bool.{Bool, true, false, true≢false}
use mathlib.Core.List.{List, [], ◌∷◌}
use Prim.Native.Nat.{ℕ, zero, suc, ◌≤◌}
use native.Mathlib.Omega.{arith}
use Rattle.std.specs.Prelude.{Ok, Err}
use Rattle.reply.specs.declared.Refusal.{Refusal}
use Rattle.reply.specs.declared.Refusal.TheVariants.{BadFrame, BadRows, BadFace, BadLevel, BadRange, BadNumber, OffSphere, Behind, TooFar, NotReduced, OutOfFace, NotAdjacent, NoCrossing, BadLine, BadList}
use Rattle.reply.specs.Choice.{pick}
use Rattle.reply.specs.Replies.{number_of, Verdict, Reason, first}
use Rattle.reply.specs.Order.{order, rank_of, Each, Found, here, later, Foremost, Ascending}
use Rattle.reply.proofs.Numbers.{same_number}

-- in a list that stands in the order, none is below the bound
none_below : (n m : ℕ) (rs : List Reason) → m ≤ n → Ascending n rs → Each (λ (x : Reason). x.applies ≡ true → m ≤ rank_of x.refusal) rs
none_below n m [] l a = tt
none_below n m (x ∷ rs) l a = (λ t. omega arith, none_below (rank_of x.refusal) m rs (omega arith) a.1)

module _ (x : Reason) (rs : List Reason) where
  rest : (v : Verdict) → Foremost rs v → x.applies ≡ false → Foremost (x ∷ rs) v
  rest (Ok _) s f = (f, s)
  rest (Err r) s f = (later s.0, (λ t. absurd (true≢false (sym t ∙ f)), s.1))

  chosen : (b : Bool) → x.applies ≡ b → Ascending (rank_of x.refusal) rs → Foremost rs (first rs) → Foremost (x ∷ rs) (pick b (Err x.refusal) (first rs))
  chosen true e a s = (here e refl, (λ t. omega arith, none_below (rank_of x.refusal) (rank_of x.refusal) rs (omega arith) a))
  chosen false e a s = rest (first rs) s e

pub foremost : (n : ℕ) (rs : List Reason) → Ascending n rs → Foremost rs (first rs)
foremost n [] a = tt
foremost n (x ∷ rs) a = chosen x rs x.applies refl a.1 (foremost (rank_of x.refusal) rs a.1)

-- an entry with one reason gives it where it applies
pub alone : (x : Reason) → Foremost (x ∷ []) (first (x ∷ []))
alone x = foremost 0 (x ∷ []) (omega arith, tt)

-- ---- one foremost refusal

ranked : List ℕ → ℕ → ℕ
ranked [] n = 0
ranked (m ∷ ms) zero = m
ranked (m ∷ ms) (suc n) = ranked ms n

-- each refusal stands in the order
stands : (r : Refusal) → ranked order (rank_of r) ≡ number_of r
unfolding ranked
stands BadFrame = refl
stands BadRows = refl
stands BadFace = refl
stands BadLevel = refl
stands BadRange = refl
stands BadNumber = refl
stands OffSphere = refl
stands Behind = refl
stands TooFar = refl
stands NotReduced = refl
stands OutOfFace = refl
stands NotAdjacent = refl
stands NoCrossing = refl
stands BadLine = refl
stands BadList = refl

-- .. and no two at one place
pub same_rank : (r s : Refusal) → rank_of r ≡ rank_of s → r ≡ s
same_rank r s e = same_number r s (sym (stands r) ∙ (ap (ranked order) e ∙ stands s))

found_at : (P : Refusal → Type 0) (r : Refusal) (rs : List Reason) → Found r rs → Each (λ (x : Reason). x.applies ≡ true → P x.refusal) rs → P r
found_at P r [] f h = elim f [ ]
found_at P r (x ∷ rs) (here t e) h = subst P e (h.0 t)
found_at P r (x ∷ rs) (later f) h = found_at P r rs f h.1

none_found : (r : Refusal) (rs : List Reason) → Found r rs → Each (λ (x : Reason). x.applies ≡ false) rs → ⊥
none_found r [] f h = elim f [ ]
none_found r (x ∷ rs) (here t e) h = true≢false (sym t ∙ h.0)
none_found r (x ∷ rs) (later f) h = none_found r rs f h.1

-- What is foremost among reasons, however they are listed, is one.
pub one_foremost : (rs : List Reason) (v w : Verdict) → Foremost rs v → Foremost rs w → v ≡ w
one_foremost rs (Ok _) (Ok _) f g = refl
one_foremost rs (Ok _) (Err s) f g = absurd (none_found s rs g.0 f)
one_foremost rs (Err r) (Ok _) f g = absurd (none_found r rs f.0 g)
one_foremost rs (Err r) (Err s) f g =
    let low = found_at (λ t. rank_of r ≤ rank_of t) s rs g.0 f.1 in
    let high = found_at (λ t. rank_of s ≤ rank_of t) r rs f.0 g.1 in
    ap Err (same_rank r s (omega arith))
