-- One small list, byte for byte: three places on faces 0 and 3 at level 2, what is found in it, and what is not. Assumes nothing.
use mathlib.Core.Path.{◌≡◌, refl}
use mathlib.Core.Bool.{true}
use mathlib.Core.List.{List, [], ◌∷◌, ◌++◌}
use Prim.Native.Nat.{ℕ}
use lib.IntN.{ℤ, pos, negsuc}
use lib.ListN.{take, replicate}
use Rattle.faceijk.specs.declared.Place.{Place}
use Rattle.words.specs.Words.{word_at, word_bytes}
use Rattle.words.specs.Rows.{rows_to}
use Rattle.region.specs.Places.{before, all_to}
use Rattle.region.specs.Lists.{record_at, start_of, end_of, level_of, count_of, wrong_length, bad_span}
use Rattle.region.specs.Entries.{halved, stands_at, sought_in, has_reply}
use Rattle.reply.specs.Replies.{answer, refusal}
use Rattle.reply.specs.declared.Refusal.TheVariants.{BadList}
use Rattle.region_check.specs.Sound.{follows, sound_at}
use Rattle.region_check.specs.Starts.{first_to, begins_back}
use Rattle.region_check.specs.Checks.{starts_right, passes}
use Rattle.region_write.specs.Signed.{place_in}
use Rattle.region_write.specs.Files.{place_bytes, tail_bytes, file_of}
use Rattle.region_write.specs.Writing.{bad_room, bad_records, write_outcome}

abbrev pub rows : List ℤ
rows = pos 0 ∷ pos 0 ∷ pos 0 ∷ pos 1 ∷ pos 0 ∷ pos 0 ∷ pos 300 ∷ pos 0 ∷ pos 3 ∷ pos 2 ∷ pos 0 ∷ pos 0 ∷ []

abbrev word : ℕ → ℕ → List ℕ
word a b = a ∷ b ∷ 0 ∷ 0 ∷ []

abbrev pub bytes : List ℕ
bytes =
    word 0 0 ++ word 0 0 ++ word 0 0 ++ word 1 0
    ++ word 0 0 ++ word 0 0 ++ word 44 1 ++ word 0 0
    ++ word 3 0 ++ word 2 0 ++ word 0 0 ++ word 0 0
    ++ word 0 0 ++ word 2 0 ++ word 2 0 ++ word 2 0
    ++ word 3 0 ++ word 3 0 ++ word 3 0 ++ word 3 0 ++ word 3 0 ++ word 3 0 ++ word 3 0 ++ word 3 0
    ++ word 3 0 ++ word 3 0 ++ word 3 0 ++ word 3 0 ++ word 3 0 ++ word 3 0 ++ word 3 0 ++ word 3 0
    ++ word 2 0 ++ word 3 0

pub written_so : write_outcome 2 rows (replicate 136 7) ≡ record { said = answer []; bytes = bytes }
unfolding word_bytes word_at rows_to before all_to follows sound_at first_to begins_back place_in place_bytes tail_bytes file_of bad_room bad_records
written_so = refl

pub passes_so : passes bytes ≡ true
unfolding word_at before all_to follows sound_at first_to begins_back record_at start_of level_of count_of wrong_length starts_right passes
passes_so = refl

abbrev there : Place
there = record { face = 0; i = 0; j = 300; k = 0 }

pub found_so : has_reply bytes there ≡ answer (1 ∷ [])
unfolding word_at before record_at start_of end_of count_of wrong_length bad_span halved stands_at sought_in
found_so = refl

pub not_found_so : has_reply bytes (record { face = 0; i = 0; j = 299; k = 0 }) ≡ answer (0 ∷ [])
unfolding word_at before record_at start_of end_of count_of wrong_length bad_span halved stands_at sought_in
not_found_so = refl

-- an old refused row of a batch among the rows, and a list that lacks its last byte
pub refused_row_so : write_outcome 2 (negsuc 5 ∷ pos 0 ∷ pos 0 ∷ pos 0 ∷ []) (replicate 104 7) ≡ record { said = refusal 0 BadList; bytes = replicate 104 7 }
unfolding before all_to follows sound_at place_in bad_room bad_records
refused_row_so = refl

pub short_so : has_reply (take 135 bytes) there ≡ refusal 1 BadList
unfolding word_at count_of wrong_length
short_so = refl
