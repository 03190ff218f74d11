-- Two outcomes of `same_corner` that meet one promise coincide (of `first_name`: `faceijk`'s `one-moved`), and the foremost refusal is given. Assumes nothing.
use mathlib.Core.Path.{◌≡◌}
use mathlib.Core.List.{[], ◌∷◌}
use Prim.Native.Nat.{ℕ}
use native.Mathlib.Omega.{arith}
use Rattle.reply.specs.declared.Refusal.{Refusal}
use Rattle.std.specs.Prelude.{Result, Bool}
use Rattle.reply.specs.Replies.{answer}
use Rattle.reply.specs.Order.{Foremost}
use Rattle.reply.proofs.Entries.{values, one_said_bit}
use Rattle.reply.proofs.Foremost.{foremost}
use Rattle.faceijk.specs.declared.Place.{Place}
use Rattle.names.specs.Entries.{names_reasons, names_verdict, said_same}

pub no_yes : {A : Type 0} → answer (0 ∷ []) ≡ answer (1 ∷ []) → A
no_yes e =
    let v = values e in
    let z : ◌≡◌ {A = ℕ} 0 1 = cc in
    absurd (omega arith)

pub one_same : (a b : Result Bool Refusal) → said_same a ≡ said_same b → a ≡ b
one_same = one_said_bit

pub names_foremost : (p q : Place) (l : ℕ) → Foremost (names_reasons p q l) (names_verdict p q l)
names_foremost p q l = foremost 0 (names_reasons p q l) (omega arith, (omega arith, (omega arith, (omega arith, tt))))
