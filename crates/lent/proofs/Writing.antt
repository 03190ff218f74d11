-- Values stored into a slice, one after the other. Assumes nothing.
use mathlib.Core.Path.{◌≡◌}
use mathlib.Core.List.{List, ◌++◌}
use Prim.Native.Nat.{ℕ, ◌+◌, ◌≤◌}
use native.Mathlib.Omega.{arith}
use lib.ListN.{length, drop, length-append, length-drop}
use lib.Seq.{take_at, drop_at, drop-drop}
use Rattle.lent.specs.Lent.{stored}

module _ {A : Type 0} where
  -- what is stored right after p, over what a list has there, stands after p
  pub put_more : (p o vs : List A) (n : ℕ) → length (p ++ drop n o) ≡ length o → n + length vs ≤ length o
      → stored (p ++ drop n o) n vs ≡ (p ++ vs) ++ drop (n + length vs) o
  put_more p o vs n e h =
      let long : length p ≡ n = omega (arith, simp (length-append, length-drop) at e) in
      rw (take_at p (drop n o) n long, ← drop-drop (length vs) n (p ++ drop n o), drop_at p (drop n o) n long, drop-drop (length vs) n o)
