-- The reply to a question: that of the entry which the question names, its arguments taken from the question's fields. And how numbers and doubles hold it.
use Rattle.std.specs.Prelude.{◌≡◌, Bool, true, false, List, [], ◌∷◌, ℕ, suc, ◌+◌, ◌-◌, eqb, Float, get_or, drop}
use Rattle.std.specs.Float.{nan}
use Rattle.reply.specs.Choice.{pick}
use Rattle.reply.specs.Text.{text}
use Rattle.reply.specs.declared.Refusal.TheVariants.{BadLine}
use Rattle.reply.specs.Replies.{Reply, answer, refusal, zeros}
use Rattle.coordijk.specs.declared.CoordIJK.{CoordIJK}
use Rattle.coordijk.specs.Coordinates.{coord}
use Rattle.faceijk.specs.declared.Place.{Place}
use Rattle.faceijk.specs.Entries.{turn_reply, step_reply, cross_reply, settle_reply, direction_reply}
use Rattle.names.specs.Entries.{first_reply, same_reply}
use Rattle.vec2d.specs.Points.{point_at}
use Rattle.vec2d.specs.Rounding.{round_reply}
use Rattle.vec2d.specs.Centre.{centre_reply}
use Rattle.vec2d.specs.Meeting.{line_at, meet_reply}
use Rattle.vec3d.specs.Frame.{vec_at}
use Rattle.vec3d.specs.Nearest.{nearest_reply}
use Rattle.locate.specs.Locating.{locate_reply}
use Rattle.boundary.specs.Corners.{corners_reply}
use Rattle.boundary.specs.Boundaries.{boundary_reply}
use Rattle.root.specs.Root.{root_reply}
use Rattle.globe.specs.Points.{sphere_reply}
use Rattle.globe.specs.Boundaries.{globe_reply}
use Rattle.ask_read.specs.declared.Asked.{Asked}
use Rattle.ask_read.specs.declared.Question.{Question}

-- ---- the reply

-- a field that is a number, and one that is a flag: set exactly when its number is 1
abbrev pub number_at : List ℕ → ℕ → ℕ
number_at ns n = get_or ns n 0

abbrev pub flag_at : List ℕ → ℕ → Bool
flag_at ns n = eqb (number_at ns n) 1

-- coordinates, whose i, j, k stand from a field on
abbrev pub coord_at : List ℕ → ℕ → CoordIJK
coord_at ns n = coord (number_at ns n) (number_at ns (n + 1)) (number_at ns (n + 2))

-- a place: the field of its face, and that of its i, from which j and k follow
abbrev pub place_at : List ℕ → ℕ → ℕ → Place
place_at ns f n =
    record { face = number_at ns f; i = number_at ns n; j = number_at ns (n + 1); k = number_at ns (n + 2) }

-- the reply of the entry that is asked, over the frame, the numbers and the doubles. A line that cannot be read gets 14, and the help has no values
unfoldable pub reply_of : Asked → List Float → List ℕ → List Float → Reply
reply_of Asked.Round frame ns ds = round_reply (point_at ds 0)
reply_of Asked.Centre frame ns ds = centre_reply (coord_at ns 0)
reply_of Asked.Meet frame ns ds = meet_reply (line_at ds 0) (line_at ds 4)
reply_of Asked.Turn frame ns ds = turn_reply (place_at ns 0 1) (flag_at ns 4)
reply_of Asked.Step frame ns ds = step_reply (place_at ns 0 3) (number_at ns 1) (flag_at ns 2) (number_at ns 6)
reply_of Asked.Cross frame ns ds = cross_reply (place_at ns 0 3) (number_at ns 1) (flag_at ns 2) (flag_at ns 6)
reply_of Asked.Settle frame ns ds = settle_reply (place_at ns 0 3) (number_at ns 1) (flag_at ns 2)
reply_of Asked.Direction frame ns ds = direction_reply (number_at ns 0) (number_at ns 1)
reply_of Asked.Same frame ns ds = same_reply (place_at ns 1 2) (place_at ns 5 6) (number_at ns 0)
reply_of Asked.Nearest frame ns ds = nearest_reply frame (vec_at ds 0)
reply_of Asked.Place frame ns ds = locate_reply frame (number_at ns 0) (vec_at ds 1)
reply_of Asked.Corners frame ns ds = corners_reply (place_at ns 0 2) (number_at ns 1)
reply_of Asked.Hexagon frame ns ds = boundary_reply 6 (place_at ns 0 2) (number_at ns 1) (number_at ns 5) (number_at ns 6)
reply_of Asked.Pentagon frame ns ds = boundary_reply 5 (place_at ns 0 2) (number_at ns 1) (number_at ns 5) (number_at ns 6)
reply_of Asked.Root frame ns ds = root_reply (get_or ds 0 nan)
reply_of Asked.Sphere frame ns ds = sphere_reply frame (number_at ns 0) (number_at ns 1) (point_at ds 2)
reply_of Asked.Globe6 frame ns ds = globe_reply 6 frame (place_at ns 0 2) (number_at ns 1) (number_at ns 5) (number_at ns 6)
reply_of Asked.Globe5 frame ns ds = globe_reply 5 frame (place_at ns 0 2) (number_at ns 1) (number_at ns 5) (number_at ns 6)
reply_of Asked.First frame ns ds = first_reply (place_at ns 0 2) (number_at ns 1)
reply_of Asked.Help frame ns ds = answer []
reply_of Asked.Unreadable frame ns ds = refusal 0 BadLine

abbrev pub reply_to : List Float → Question → Reply
reply_to frame q = reply_of q.asked frame q.numbers q.doubles

-- the questions that need neither frame nor cell
abbrev pub on_grid : Asked → Bool
on_grid Asked.Round = true
on_grid Asked.Centre = true
on_grid Asked.Meet = true
on_grid Asked.Turn = true
on_grid Asked.Step = true
on_grid Asked.Cross = true
on_grid Asked.Settle = false
on_grid Asked.Direction = true
on_grid Asked.Same = true
on_grid Asked.Nearest = false
on_grid Asked.Place = false
on_grid Asked.Corners = false
on_grid Asked.Hexagon = false
on_grid Asked.Pentagon = false
on_grid Asked.Root = false
on_grid Asked.Sphere = false
on_grid Asked.Globe6 = false
on_grid Asked.Globe5 = false
on_grid Asked.First = true
on_grid Asked.Help = false
on_grid Asked.Unreadable = false

-- ---- its values

-- the kinds of an answer's values, a letter for each: n a number, x a double, o how a crossing ended, a whether two corners agree, m what a point is
abbrev pub kinds_of : Asked → List ℕ
kinds_of Asked.Round = text "nnnxx"
kinds_of Asked.Centre = text "xx"
kinds_of Asked.Meet = text "xx"
kinds_of Asked.Turn = text "nnnn"
kinds_of Asked.Step = text "nnnn"
kinds_of Asked.Cross = text "nnnno"
kinds_of Asked.Settle = text "nnnnn"
kinds_of Asked.Direction = text "n"
kinds_of Asked.Same = text "a"
kinds_of Asked.Nearest = text "nx"
kinds_of Asked.Place = text "nnnnxx"
kinds_of Asked.Corners = text "nnnnnnnnnnnnnnnnnnn"
kinds_of Asked.Hexagon = text "nnxxmnxxmnxxmnxxmnxxmnxxmnxxmnxxmnxxmnxxmnxxmnxxm"
kinds_of Asked.Pentagon = text "nnxxmnxxmnxxmnxxmnxxmnxxmnxxmnxxmnxxmnxxmnxxmnxxm"
kinds_of Asked.Root = text "x"
kinds_of Asked.Sphere = text "xxx"
kinds_of Asked.Globe6 = text "nnxxxmnxxxmnxxxmnxxxmnxxxmnxxxmnxxxmnxxxmnxxxmnxxxmnxxxmnxxxm"
kinds_of Asked.Globe5 = text "nnxxxmnxxxmnxxxmnxxxmnxxxmnxxxmnxxxmnxxxmnxxxmnxxxmnxxxmnxxxm"
kinds_of Asked.First = text "nnnn"
kinds_of Asked.Help = text ""
kinds_of Asked.Unreadable = text ""

-- a double's letter, x
abbrev pub is_double : ℕ → Bool
is_double kind = eqb kind 120

-- numbers and doubles, each in their order, put together as the kinds say
unfoldable pub values_in : List ℕ → List ℕ → List ℕ → List ℕ
values_in [] ns ds = []
values_in (k ∷ ks) ns ds =
    pick (is_double k) (get_or ds 0 0 ∷ values_in ks ns (drop 1 ds)) (get_or ns 0 0 ∷ values_in ks (drop 1 ns) ds)

-- how many of the kinds are doubles, and how many are not
unfoldable pub doubles_in : List ℕ → ℕ
doubles_in [] = 0
doubles_in (k ∷ ks) = pick (is_double k) (suc (doubles_in ks)) (doubles_in ks)

unfoldable pub numbers_in : List ℕ → ℕ
numbers_in [] = 0
numbers_in (k ∷ ks) = pick (is_double k) (numbers_in ks) (suc (numbers_in ks))

-- a number, numbers and doubles (by their bits) that hold a reply and nothing else: past its values all is zero
pub record Holds (asked : Asked) (r : Reply) (k : ℕ) (ns ds : List ℕ) : Type 0 where
  pub number : k ≡ r.number
  pub values : values_in (kinds_of asked) ns ds ≡ r.values
  pub other_numbers : drop (numbers_in (kinds_of asked)) ns ≡ zeros (25 - numbers_in (kinds_of asked))
  pub other_doubles : drop (doubles_in (kinds_of asked)) ds ≡ zeros (36 - doubles_in (kinds_of asked))
