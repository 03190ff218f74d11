-- The questions that need neither frame nor cell: told by their numbers, and asked of any frame alike. Assumes nothing.
use mathlib.Core.Path.{◌≡◌, refl}
use mathlib.Core.Bool.{true, false≢true}
use mathlib.Core.List.{List, [], ◌∷◌}
use Prim.Native.Nat.{ℕ}
use types.Run.{OneOf, miss}
use denote.Enum.Declared.{tag_of}
use lib.Ieee.{Float}
use Rattle.ask_read.specs.contracts.Asked.{the_type}
use Rattle.ask_read.specs.declared.Asked.{Asked}
use Rattle.ask_read.specs.declared.Asked.TheVariants.{Round, Centre, Meet, Turn, Step, Cross, Settle, Direction, Same, Nearest, Place, Corners, Hexagon, Pentagon, Root, Sphere, Globe6, Globe5, First, Help, Unreadable}
use Rattle.ask_read.specs.declared.Question.{Question}
use Rattle.ask_call.specs.Replies.{reply_of, reply_to, on_grid, Holds}

-- by their numbers: these, and the others
abbrev pub these : List ℕ
these = 0 ∷ 1 ∷ 2 ∷ 3 ∷ 4 ∷ 5 ∷ 7 ∷ 8 ∷ 18 ∷ []

abbrev pub others : List ℕ
others = 6 ∷ 9 ∷ 10 ∷ 11 ∷ 12 ∷ 13 ∷ 14 ∷ 15 ∷ 16 ∷ 17 ∷ 19 ∷ 20 ∷ []

pub is_grid : (a : Asked) → OneOf these (tag_of the_type a) → on_grid a ≡ true
is_grid Round h = refl
is_grid Centre h = refl
is_grid Meet h = refl
is_grid Turn h = refl
is_grid Step h = refl
is_grid Cross h = refl
is_grid Settle h = absurd (miss these 6 tt h)
is_grid Direction h = refl
is_grid Same h = refl
is_grid Nearest h = absurd (miss these 9 tt h)
is_grid Place h = absurd (miss these 10 tt h)
is_grid Corners h = absurd (miss these 11 tt h)
is_grid Hexagon h = absurd (miss these 12 tt h)
is_grid Pentagon h = absurd (miss these 13 tt h)
is_grid Root h = absurd (miss these 14 tt h)
is_grid Sphere h = absurd (miss these 15 tt h)
is_grid Globe6 h = absurd (miss these 16 tt h)
is_grid Globe5 h = absurd (miss these 17 tt h)
is_grid First h = refl
is_grid Help h = absurd (miss these 19 tt h)
is_grid Unreadable h = absurd (miss these 20 tt h)

pub not_grid : (a : Asked) → OneOf others (tag_of the_type a) → on_grid a ≡ true → ⊥
not_grid Round h e = miss others 0 tt h
not_grid Centre h e = miss others 1 tt h
not_grid Meet h e = miss others 2 tt h
not_grid Turn h e = miss others 3 tt h
not_grid Step h e = miss others 4 tt h
not_grid Cross h e = miss others 5 tt h
not_grid Settle h e = false≢true e
not_grid Direction h e = miss others 7 tt h
not_grid Same h e = miss others 8 tt h
not_grid Nearest h e = false≢true e
not_grid Place h e = false≢true e
not_grid Corners h e = false≢true e
not_grid Hexagon h e = false≢true e
not_grid Pentagon h e = false≢true e
not_grid Root h e = false≢true e
not_grid Sphere h e = false≢true e
not_grid Globe6 h e = false≢true e
not_grid Globe5 h e = false≢true e
not_grid First h e = miss others 18 tt h
not_grid Help h e = false≢true e
not_grid Unreadable h e = false≢true e

-- their replies do not depend on the frame
any_frame : (a : Asked) (frame : List Float) (ns : List ℕ) (ds : List Float) → on_grid a ≡ true → reply_of a [] ns ds ≡ reply_of a frame ns ds
unfolding reply_of
any_frame Round frame ns ds e = refl
any_frame Centre frame ns ds e = refl
any_frame Meet frame ns ds e = refl
any_frame Turn frame ns ds e = refl
any_frame Step frame ns ds e = refl
any_frame Cross frame ns ds e = refl
any_frame Settle frame ns ds e = absurd (false≢true e)
any_frame Direction frame ns ds e = refl
any_frame Same frame ns ds e = refl
any_frame Nearest frame ns ds e = absurd (false≢true e)
any_frame Place frame ns ds e = absurd (false≢true e)
any_frame Corners frame ns ds e = absurd (false≢true e)
any_frame Hexagon frame ns ds e = absurd (false≢true e)
any_frame Pentagon frame ns ds e = absurd (false≢true e)
any_frame Root frame ns ds e = absurd (false≢true e)
any_frame Sphere frame ns ds e = absurd (false≢true e)
any_frame Globe6 frame ns ds e = absurd (false≢true e)
any_frame Globe5 frame ns ds e = absurd (false≢true e)
any_frame First frame ns ds e = refl
any_frame Help frame ns ds e = absurd (false≢true e)
any_frame Unreadable frame ns ds e = absurd (false≢true e)

pub on_any_frame : (q : Question) (frame : List Float) → on_grid q.asked ≡ true → {k : ℕ} {ns ds : List ℕ} → Holds q.asked (reply_to [] q) k ns ds → Holds q.asked (reply_to frame q) k ns ds
on_any_frame q frame e h = rw (← (any_frame q.asked frame q.numbers q.doubles e)) h
