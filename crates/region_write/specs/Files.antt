-- The bytes of a list: the records, where each face begins, the level, the count.
use Rattle.std.specs.Prelude.{List, ◌++◌, ℕ}
use Rattle.faceijk.specs.declared.Place.{Place}
use Rattle.words.specs.Words.{word_bytes}
use Rattle.words.specs.Rows.{rows_to}
use Rattle.region_check.specs.Sound.{faces_of}
use Rattle.region_check.specs.Starts.{begins}

unfoldable pub place_bytes : Place → List ℕ
place_bytes p = word_bytes p.face ++ (word_bytes p.i ++ (word_bytes p.j ++ word_bytes p.k))

abbrev pub start_bytes : (ℕ → Place) → ℕ → ℕ → List ℕ
start_bytes at count f = word_bytes (begins (faces_of at) count f)

-- the last 88 bytes
unfoldable pub tail_bytes : (ℕ → Place) → ℕ → ℕ → List ℕ
tail_bytes at count level = rows_to (start_bytes at count) 20 ++ (word_bytes level ++ word_bytes count)

unfoldable pub file_of : (ℕ → Place) → ℕ → ℕ → List ℕ
file_of at count level = rows_to (λ n. place_bytes (at n)) count ++ tail_bytes at count level
