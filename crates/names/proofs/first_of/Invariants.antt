-- `first_of` meets its contract. The loop's invariant: what is left of the row, with the lowest name so far, gives the first name. Assumes nothing.
use mathlib.Core.Path.{◌≡◌}
use Prim.Native.Nat.{◌-◌}
use Rattle.level.specs.Levels.{Sound}
use Rattle.names.specs.Row.{lowest, first_of}
use Rattle.names.specs.Entries.{Inside}
use Rattle.names.proofs.first_of.Given as goal

abbrev pub invariant-loop : goal.invariant-loop
invariant-loop l = Inside l.grid l.at × Sound l.grid × (lowest (l.others - l.counter) l.grid l.best l.at ≡ first_of l.grid l.initial.at)
