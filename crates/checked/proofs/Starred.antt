-- The cases that document 01 marks with * hold of the definitions, all of them together, by computation. Assumes nothing.
use mathlib.Core.Path.{◌≡◌, refl}
use mathlib.Core.List.{map}
use lib.Ieee.{round, add, sub, mul, div, lt, le, of_bits, of_int, to_unsigned}
use Rattle.level.specs.Levels.{unit_of, limit_of}
use Rattle.coordijk.specs.Coordinates.{reduced, Q}
use Rattle.coordijk.specs.Maps.{map_of, turns_of}
use Rattle.faceijk.specs.Steps.{move_over, step_of}
use Rattle.faceijk.specs.Crossing.{about_corner, step_out, crossing_of, settle_from}
use Rattle.vec2d.specs.Points.{is_point}
use Rattle.vec2d.specs.Rounding.{too_far, quantized_of, steps_of, fold_of, nearest_of}
use Rattle.boundary.specs.Corners.{through_apertures, corner_of, six_corners}
use Rattle.text.specs.Numbers.{digits_to, decimal, field}
use Rattle.walk_lines.specs.Lines.{place_fields, place_line, rest_line, refused_line}
use Rattle.ask_read.specs.Words.{digit_of, with_digit, spelt, plain, number_from, number_field, same, flag_field}
use Rattle.ask_read.specs.Questions.{words, row_at, field_of, filled, readable, bare}
use Rattle.walk_question.specs.Fields.{of_numbers, reading_of}
use Rattle.walk.specs.Texts.{path_from, path, question_text}
use Rattle.checked.specs.Starred.{Case, said, starred}

pub starred_right : map (λ (c : Case). said c.asked) starred ≡ map (λ (c : Case). c.given) starred
unfolding unit_of limit_of reduced Q map_of turns_of move_over step_of about_corner step_out crossing_of settle_from through_apertures corner_of six_corners is_point too_far nearest_of quantized_of steps_of fold_of digits_to decimal field place_fields place_line rest_line refused_line digit_of with_digit spelt plain number_from number_field same flag_field words row_at field_of filled readable bare of_numbers reading_of path_from path question_text round add sub mul div lt le of_bits of_int to_unsigned
starred_right = refl
