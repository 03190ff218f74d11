-- The full check, and what reading every record says of a place.
use Rattle.region_check.specs.declared.Facts.{Facts}
use Rattle.reply.specs.declared.Refusal.{Refusal}
use Rattle.std.specs.Prelude.{Bool, ◌&&◌, not, List, [], ◌∷◌, ℕ, eqb, Result}
use Rattle.reply.specs.declared.Refusal.TheVariants.{BadList}
use Rattle.reply.specs.Replies.{Reply, when, first, reply, Verdict, said, bit}
use Rattle.level.specs.Levels.{bad_cell}
use Rattle.faceijk.specs.declared.Place.{Place}
use Rattle.faceijk.specs.Places.{same_place, place_verdict}
use Rattle.region.specs.Places.{all_to, any_to}
use Rattle.region.specs.Lists.{record_at, start_of, level_of, count_of, wrong_length}
use Rattle.region_check.specs.Sound.{faces_of, sound_to}
use Rattle.region_check.specs.Starts.{begins, splits}

abbrev pub face_at : List ℕ → ℕ → ℕ
face_at s = faces_of (record_at s)

abbrev pub start_right : List ℕ → ℕ → Bool
start_right s f = eqb (start_of s f) (begins (face_at s) (count_of s) f)

unfoldable pub starts_right : List ℕ → Bool
starts_right s = all_to (start_right s) 20

-- what the code tests of the starts; the same where the records stand in order
unfoldable pub starts_split : List ℕ → Bool
starts_split s = all_to (λ f. splits (face_at s) (count_of s) f (start_of s f)) 20

unfoldable pub passes : List ℕ → Bool
passes s = not (wrong_length s) && (sound_to (record_at s) (count_of s) && (starts_right s && not (bad_cell (level_of s))))

abbrev pub check_verdict : List ℕ → Verdict
check_verdict s = first (when (not (passes s)) BadList ∷ [])

abbrev pub said_checked : Result Facts Refusal → Reply
said_checked = said 2 (λ f. f.level ∷ f.count ∷ [])

abbrev pub check_reply : List ℕ → Reply
check_reply s = reply 2 (check_verdict s) (level_of s ∷ count_of s ∷ [])

-- the place is one of all the records
unfoldable pub listed : List ℕ → Place → Bool
listed s p = any_to (λ n. same_place (record_at s n) p) (count_of s)

abbrev pub listed_reply : List ℕ → Place → Reply
listed_reply s p = reply 1 (place_verdict p) (bit (listed s p) ∷ [])
