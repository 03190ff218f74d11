-- Settling on a lent place: what the place then holds, and what is said of it.
use Rattle.reply.specs.declared.Refusal.{Refusal}
use Rattle.std.specs.Prelude.{Bool, [], ◌∷◌, ℕ, Ok, Err, Result}
use Rattle.reply.specs.Replies.{Reply, reply, Verdict, said}
use Rattle.level.specs.Levels.{grid_of}
use Rattle.faceijk.specs.declared.Place.{Place}
use Rattle.faceijk.specs.declared.Rested.{Rested}
use Rattle.faceijk.specs.Places.{QAt, on_grid_verdict}
use Rattle.faceijk.specs.Crossing.{settle_from}

-- where settling by value ends, and after how many steps
abbrev pub rest_of : Place → ℕ → Bool → Rested
rest_of p l substrate = settle_from (QAt p) (grid_of l substrate) p 0

-- a place is stored where the tests found nothing; a refused place stays unchanged
abbrev pub stored : Verdict → Place → Place → Place
stored (Ok _) q p = q
stored (Err r) q p = p

-- what a lent place holds afterwards
unfoldable pub place_after : Place → ℕ → Bool → Place
place_after p l substrate = stored (on_grid_verdict p l) (rest_of p l substrate).place p

-- what is said: the number of steps over an edge, or the refusal
abbrev pub said_stepped : Result ℕ Refusal → Reply
said_stepped = said 1 (λ n. n ∷ [])

unfoldable pub steps_reply : Place → ℕ → Bool → Reply
steps_reply p l substrate = reply 1 (on_grid_verdict p l) ((rest_of p l substrate).steps ∷ [])
