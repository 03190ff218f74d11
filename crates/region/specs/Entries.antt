-- Reading a record, and whether a place is in a list.
use Rattle.reply.specs.declared.Refusal.{Refusal}
use Rattle.std.specs.Prelude.{Bool, ◌&&◌, ◌||◌, not, List, [], ◌∷◌, ℕ, zero, suc, ◌+◌, ◌-◌, ◌/◌, ltb, leb, Result}
use Rattle.reply.specs.Choice.{pick}
use Rattle.reply.specs.declared.Refusal.TheVariants.{BadList, BadRange}
use Rattle.reply.specs.Replies.{Reply, Reason, when, first, reply, Verdict, said, yes_or_no, bit}
use Rattle.faceijk.specs.declared.Place.{Place}
use Rattle.faceijk.specs.Places.{place_values, same_place, bad_face, place_reasons}
use Rattle.region.specs.Places.{before}
use Rattle.region.specs.Lists.{record_at, start_of, end_of, count_of, wrong_length, bad_span}

-- ---- the reader

-- "BadRange for a record number not below the count"
abbrev pub read_reasons : List ℕ → ℕ → List Reason
read_reasons s n = when (wrong_length s) BadList ∷ when (leb (count_of s) n) BadRange ∷ []

abbrev pub read_verdict : List ℕ → ℕ → Verdict
read_verdict s n = first (read_reasons s n)

abbrev pub said_recorded : Result Place Refusal → Reply
said_recorded = said 4 place_values

abbrev pub read_reply : List ℕ → ℕ → Reply
read_reply s n = reply 4 (read_verdict s n) (place_values (record_at s n))

-- ---- membership

abbrev pub middle : ℕ → ℕ → ℕ
middle lo hi = lo + (hi - lo) / 2

-- from lo up to hi by halves: where the numbers that lie low end, if all that do stand before all others. At most so many turns are made
unfoldable pub halved : (ℕ → Bool) → ℕ → ℕ → ℕ → ℕ
halved low zero lo hi = lo
halved low (suc turns) lo hi =
    let above = halved low turns (middle lo hi + 1) hi in
    let below = halved low turns lo (middle lo hi) in
    pick (ltb lo hi) (pick (low (middle lo hi)) above below) lo

-- where a place would stand: after the records of its face that come before it
unfoldable pub stands_at : List ℕ → Place → ℕ
stands_at s p =
    let start = start_of s p.face in
    let end = end_of s p.face in
    halved (λ n. before (record_at s n) p) (end - start) start end

-- "membership that looks only between one face's start and the next"
unfoldable pub sought_in : List ℕ → Place → Bool
sought_in s p = ltb (stands_at s p) (end_of s p.face) && same_place (record_at s (stands_at s p)) p

-- "BadList exactly if the length is wrong or the two starts it reads are out of order or past the count"; of a face above 19 no starts are read
abbrev pub bad_for : List ℕ → ℕ → Bool
bad_for s f = wrong_length s || (not (bad_face f) && bad_span s f)

abbrev pub has_reasons : List ℕ → Place → List Reason
has_reasons s p = when (bad_for s p.face) BadList ∷ place_reasons p

abbrev pub has_verdict : List ℕ → Place → Verdict
has_verdict s p = first (has_reasons s p)

abbrev pub said_listed : Result Bool Refusal → Reply
said_listed = said 1 yes_or_no

abbrev pub has_reply : List ℕ → Place → Reply
has_reply s p = reply 1 (has_verdict s p) (bit (sought_in s p) ∷ [])
