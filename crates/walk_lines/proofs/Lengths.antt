-- How long the lines get: none has more than 70 bytes, and none is empty. Assumes nothing.
use mathlib.Core.Path.{◌≡◌}
use mathlib.Core.List.{List, [], ◌∷◌, ◌++◌}
use Prim.Native.Nat.{ℕ, ◌+◌, ◌≤◌, ◌<◌}
use native.Mathlib.Omega.{arith}
use lib.ListN.{length, length-append}
use Rattle.reply.specs.declared.Refusal.{Refusal}
use Rattle.reply.proofs.Numbers.{number_low}
use Rattle.reply.specs.Replies.{number_of}
use Rattle.text.specs.Numbers.{field, newline}
use Rattle.text.proofs.Decimals.{field_length, short10, short20}
use Rattle.walk_lines.specs.declared.Line.{Line}
use Rattle.faceijk.specs.declared.Place.{Place}
use Rattle.faceijk.specs.declared.Rested.{Rested}
use Rattle.walk_lines.specs.Lines.{from_word, over_word, line_text, place_fields, place_line, rest_line, refused_line}

pub place_length : (p : Place) → length (place_fields p) ≡ length (field p.face) + length (field p.i) + length (field p.j) + length (field p.k)
unfolding place_fields
place_length p =
    let a = length-append (field p.face) (field p.i ++ (field p.j ++ field p.k)) in
    let b = length-append (field p.i) (field p.j ++ field p.k) in
    let c = length-append (field p.j) (field p.k) in
    omega arith

-- a place whose numbers fit their types
pub record Fits (p : Place) : Type 0 where
  pub face : p.face < 4294967296
  pub i : p.i < 4294967296
  pub j : p.j < 4294967296
  pub k : p.k < 4294967296

pub place_short : (p : Place) → Fits p → length (place_fields p) ≤ 44
place_short p f =
    let a = short10 p.face f.face in
    let b = short10 p.i f.i in
    let c = short10 p.j f.j in
    let d = short10 p.k f.k in
    omega (arith, place_length p, field_length p.face, field_length p.i, field_length p.j, field_length p.k)

pub place_line_length : (w : List ℕ) (p : Place) → length (place_line w p) ≡ length w + length (place_fields p) + 1
unfolding place_line
place_line_length w p =
    let a = length-append w (place_fields p ++ newline ∷ []) in
    let b = length-append (place_fields p) (newline ∷ []) in
    omega arith

pub rest_line_length : (s : Rested) → length (rest_line s) ≡ 4 + length (place_fields s.place) + length (field s.steps) + 1
unfolding rest_line
rest_line_length s =
    let a = length-append (place_fields s.place) (field s.steps ++ newline ∷ []) in
    let b = length-append (field s.steps) (newline ∷ []) in
    omega arith

pub refused_line_length : (r : Refusal) → length (refused_line r) ≡ 7 + length (field (number_of r)) + 1
unfolding refused_line
refused_line_length r = let b = length-append (field (number_of r)) (newline ∷ []) in omega arith

-- a line whose numbers fit their types
abbrev pub FitsLine : Line → Type 0
FitsLine (Line.From p) = Fits p
FitsLine (Line.Over p) = Fits p
FitsLine (Line.Rest s) = Fits s.place × (s.steps < 18446744073709551616)
FitsLine (Line.Refused r) = Unit {0}

few : (r : Refusal) → number_of r < 4294967296
few r = omega (arith, number_low r)

-- no line has more than 70 bytes
pub longest : (line : Line) → FitsLine line → length (line_text line) ≤ 70
longest (Line.From p) f = omega (arith, place_line_length from_word p, place_short p f)
longest (Line.Over p) f = omega (arith, place_line_length over_word p, place_short p f)
longest (Line.Rest s) f = omega (arith, rest_line_length s, place_short s.place f.0, field_length s.steps, short20 s.steps f.1)
longest (Line.Refused r) f = omega (arith, refused_line_length r, field_length (number_of r), short10 (number_of r) (few r))
