-- `are_same` meets its contract. The loop's invariant: what was found, or what is left of the row to compare, gives the answer. Assumes nothing.
use mathlib.Core.Bool.{◌||◌}
use mathlib.Core.Path.{◌≡◌}
use Prim.Native.Nat.{◌-◌}
use Rattle.level.specs.Levels.{Sound}
use Rattle.names.specs.Row.{among, same_of}
use Rattle.names.specs.Entries.{Inside}
use Rattle.names.proofs.are_same.Given as goal

abbrev pub invariant-loop : goal.invariant-loop
invariant-loop l = Inside l.grid l.name × Sound l.grid × ((l.same || among (l.others - l.counter) l.grid l.name l.q) ≡ same_of l.grid l.initial.name l.q)
