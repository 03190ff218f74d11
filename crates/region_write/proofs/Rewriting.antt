-- The check and the writer determine each other: what is written passes (`RoundTrip`), and what passes is what the writer makes of its records and level. Assumes nothing.
use mathlib.Core.Path.{◌≡◌, refl, sym, ap, ◌∙◌}
use mathlib.Core.Bool.{true, false}
use mathlib.Core.List.{List, [], ◌∷◌}
use Prim.Native.Nat.{ℕ, ◌+◌, ◌*◌, ◌/◌, ◌%◌, ◌<◌}
use native.Mathlib.Omega.{arith}
use lib.IntN.{ℤ, pos}
use lib.ListN.{length, get_or, drop}
use lib.Seq.{get_or-drop, get_or-take}
use borrow.Author.Tests.{le-ltb, eq-eqb}
use Rattle.reply.specs.Replies.{answer, fine}
use Rattle.faceijk.specs.declared.Place.{Place}
use Rattle.words.specs.Words.{word_bytes}
use Rattle.words.specs.Rows.{rows_to}
use Rattle.words.proofs.Placing.{rows_length, rows_at, rows_same}
use Rattle.region.specs.Lists.{record_at, level_of, count_of}
use Rattle.region_check.specs.Sound.{faces_of, sound_to}
use Rattle.region_check.specs.Checks.{passes}
use Rattle.region_check.proofs.Sorted.{sound_same}
use Rattle.region_check.proofs.Begins.{begins_same}
use Rattle.region_check.proofs.Checking.{Passed, passed_all}
use Rattle.region_write.specs.Signed.{place_in}
use Rattle.region_write.specs.Files.{place_bytes, start_bytes, tail_bytes, file_of}
use Rattle.region_write.specs.Writing.{row_count, bad_room, bad_records, write_verdict, write_outcome}
use Rattle.region_write.proofs.Ready.{write_answers}
use Rattle.region_write.proofs.Canonical.{canonical}

-- a place as a row, and the rows of a list
abbrev pub row_of : Place → List ℤ
row_of p = pos p.face ∷ pos p.i ∷ pos p.j ∷ pos p.k ∷ []

abbrev pub rows_of : List ℕ → List ℤ
rows_of s = rows_to (λ n. row_of (record_at s n)) (count_of s)

module _ (row : ℕ → Place) (count : ℕ) where
  abbrev rows : List ℤ
  rows = rows_to (λ n. row_of (row n)) count

  rows_long : length rows ≡ 4 * count
  rows_long = rows_length 4 (λ n. row_of (row n)) (λ n. refl) count

  -- number b of row n
  in_row : (n b : ℕ) → n < count → b < 4 → get_or rows (4 * n + b) (pos 0) ≡ get_or (row_of (row n)) b (pos 0)
  in_row n b h l =
      sym (get_or-drop (4 * n) rows b (pos 0))
      ∙ (sym (get_or-take 4 (drop (4 * n) rows) b (pos 0) l) ∙ ap (λ (r : List ℤ). get_or r b (pos 0)) (rows_at 4 (λ k. row_of (row k)) (λ k. refl) count n h))

  row_back : (n : ℕ) → n < count → place_in rows n ≡ row n
  unfolding place_in
  row_back n h =
      let none : 4 * n + 0 ≡ 4 * n = omega arith in
      let face : get_or rows (4 * n) (pos 0) ≡ pos (row n).face = rw none at (in_row n 0 h (omega arith)) in
      rw (face, in_row n 1 h (omega arith), in_row n 2 h (omega arith), in_row n 3 h (omega arith))

-- places that agree make one file
file_same : (f g : ℕ → Place) (count level : ℕ) → ((n : ℕ) → n < count → f n ≡ g n) → file_of f count level ≡ file_of g count level
unfolding file_of tail_bytes
file_same f g count level h =
    let starts : (k : ℕ) → k < 20 → start_bytes f count k ≡ start_bytes g count k =
    λ k l. ap word_bytes (begins_same (faces_of f) (faces_of g) count k (λ n m. ap (λ (p : Place). p.face) (h n m))) in
    rw (rows_same (λ n. place_bytes (f n)) (λ n. place_bytes (g n)) count (λ n l. ap place_bytes (h n l)), rows_same (start_bytes f count) (start_bytes g count) 20 starts)

module _ (s : List ℕ) (low : (k : ℕ) → get_or s k 0 < 256) (pass : passes s ≡ true) where
  p : Passed s
  p = passed_all s pass

  counted : row_count (rows_of s) ≡ count_of s
  counted = let l = rows_long (record_at s) (count_of s) in omega arith

  sound : sound_to (place_in (rows_of s)) (row_count (rows_of s)) ≡ true
  sound = rw counted (sound_same (place_in (rows_of s)) (record_at s) (count_of s) (row_back (record_at s) (count_of s)) ∙ p.sound)

  room_right : (outs : ℕ) → outs ≡ length s → bad_room (length (rows_of s)) outs ≡ false
  unfolding bad_room
  room_right outs e =
      let l = rows_long (record_at s) (count_of s) in
      let long = p.is_long.fits in
      let whole : length (rows_of s) % 4 ≡ 0 = omega arith in
      rw (eq-eqb (length (rows_of s) % 4) 0 whole, eq-eqb outs (88 + 16 * (length (rows_of s) / 4)) (omega (arith, counted)))

  records_right : bad_records (rows_of s) ≡ false
  unfolding bad_records
  records_right = rw (le-ltb 2147483647 (row_count (rows_of s)) (omega (arith, counted, p.is_long.few)), sound)

  written : (out : List ℕ) → length out ≡ length s → write_verdict (level_of s) (rows_of s) (length out) ≡ fine
  written out e = rw (room_right (length out) e, records_right, le-ltb 15 (level_of s) p.level)

  -- A list that passes is what the writer makes of its records and its level, in any output of its length.
  pub rewritten : (out : List ℕ) → length out ≡ length s → write_outcome (level_of s) (rows_of s) out ≡ record { said = answer []; bytes = s }
  rewritten out e =
      sym
      (write_answers (level_of s) (rows_of s) out s (written out e)
      (sym (canonical s low pass)
      ∙ rw counted (file_same (record_at s) (place_in (rows_of s)) (count_of s) (level_of s) (λ n l. sym (row_back (record_at s) (count_of s) n l)))))
