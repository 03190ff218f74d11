-- Two outcomes of an entry that meet one promise coincide, and the refusal given is the foremost. Assumes nothing.
use mathlib.Core.Path.{◌≡◌}
use mathlib.Core.List.{List}
use Prim.Native.Nat.{ℕ}
use native.Mathlib.Omega.{arith}
use Rattle.reply.specs.declared.Refusal.{Refusal}
use Rattle.std.specs.Prelude.{Result, Bool}
use Rattle.reply.specs.Order.{Foremost}
use Rattle.reply.proofs.Entries.{one_said, one_said_bit}
use Rattle.reply.proofs.Foremost.{foremost}
use Rattle.faceijk.specs.declared.Place.{Place}
use Rattle.faceijk.specs.Places.{place_values}
use Rattle.faceijk.proofs.Unique.{same_place_lem}
use Rattle.region.specs.Entries.{read_reasons, read_verdict, said_recorded, has_reasons, has_verdict, said_listed}

pub one_recorded : (a b : Result Place Refusal) → said_recorded a ≡ said_recorded b → a ≡ b
one_recorded = one_said 4 place_values same_place_lem

pub one_listed : (a b : Result Bool Refusal) → said_listed a ≡ said_listed b → a ≡ b
one_listed = one_said_bit

pub read_foremost : (s : List ℕ) (n : ℕ) → Foremost (read_reasons s n) (read_verdict s n)
read_foremost s n = foremost 0 (read_reasons s n) (omega arith, (omega arith, tt))

pub has_foremost : (s : List ℕ) (p : Place) → Foremost (has_reasons s p) (has_verdict s p)
has_foremost s p = foremost 0 (has_reasons s p) (omega arith, (omega arith, (omega arith, tt)))
