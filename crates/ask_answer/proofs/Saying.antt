-- One answer: what it says and that all else is zero fix its number, its numbers and its doubles. Assumes nothing.
use mathlib.Core.Path.{◌≡◌, sym, ap, ◌∙◌}
use mathlib.Core.Bool.{Bool, true, false}
use mathlib.Core.List.{List, [], ◌∷◌}
use Prim.Native.Nat.{ℕ, suc, ◌≤◌}
use native.Mathlib.Omega.{arith}
use lib.ListN.{length, get_or, drop}
use Rattle.reply.specs.Choice.{pick}
use Rattle.reply.specs.Replies.{Reply}
use Rattle.ask_read.specs.declared.Asked.{Asked}
use Rattle.ask_read.specs.declared.Asked.TheVariants.{Round, Centre, Meet, Turn, Step, Cross, Settle, Direction, Same, Nearest, Place, Corners, Hexagon, Pentagon, Root, Sphere, Globe6, Globe5, First, Help, Unreadable}
use Rattle.ask_answer.specs.declared.Answer.{Answer}
use Rattle.ask_call.specs.Replies.{kinds_of, is_double, values_in, numbers_in, doubles_in, Holds}
use Rattle.ask_answer.specs.Answers.{said_answer, Says}

-- an answer that holds a reply says it
pub says : (asked : Asked) (r : Reply) (a : Answer) → Says asked r a → said_answer asked a ≡ r
says asked r a h = λ i. record { number = h.number i; values = h.values i }

-- two pairs of lists with the same values by the kinds, and the same past them, are one
abbrev One : List ℕ → Type 0
One ks =
    (ns ms ds es : List ℕ) → numbers_in ks ≤ length ns → numbers_in ks ≤ length ms → doubles_in ks ≤ length ds → doubles_in ks ≤ length es
    → values_in ks ns ds ≡ values_in ks ms es → drop (numbers_in ks) ns ≡ drop (numbers_in ks) ms → drop (doubles_in ks) ds ≡ drop (doubles_in ks) es → (ns ≡ ms) × (ds ≡ es)

front : {x y : List ℕ} → x ≡ y → get_or x 0 0 ≡ get_or y 0 0
front e = ap (λ (l : List ℕ). get_or l 0 0) e

back : {x y : List ℕ} → x ≡ y → drop 1 x ≡ drop 1 y
back e = ap (λ (l : List ℕ). drop 1 l) e

one_more : (ks : List ℕ) (t : Bool) (ns ms ds es : List ℕ) → One ks
    → pick t (numbers_in ks) (suc (numbers_in ks)) ≤ length ns → pick t (numbers_in ks) (suc (numbers_in ks)) ≤ length ms
    → pick t (suc (doubles_in ks)) (doubles_in ks) ≤ length ds → pick t (suc (doubles_in ks)) (doubles_in ks) ≤ length es
    → pick t (get_or ds 0 0 ∷ values_in ks ns (drop 1 ds)) (get_or ns 0 0 ∷ values_in ks (drop 1 ns) ds) ≡ pick t (get_or es 0 0 ∷ values_in ks ms (drop 1 es)) (get_or ms 0 0 ∷ values_in ks (drop 1 ms) es)
    → drop (pick t (numbers_in ks) (suc (numbers_in ks))) ns ≡ drop (pick t (numbers_in ks) (suc (numbers_in ks))) ms
    → drop (pick t (suc (doubles_in ks)) (doubles_in ks)) ds ≡ drop (pick t (suc (doubles_in ks)) (doubles_in ks)) es
    → (ns ≡ ms) × (ds ≡ es)
one_more ks true ns ms [] es next a b c d v m w = absurd (omega arith)
one_more ks true ns ms (x ∷ ds) [] next a b c d v m w = absurd (omega arith)
one_more ks true ns ms (x ∷ ds) (y ∷ es) next a b c d v m w =
    let r = next ns ms ds es a b (omega arith) (omega arith) (back v) m w in
    (r.0, λ i. front v i ∷ r.1 i)
one_more ks false [] ms ds es next a b c d v m w = absurd (omega arith)
one_more ks false (x ∷ ns) [] ds es next a b c d v m w = absurd (omega arith)
one_more ks false (x ∷ ns) (y ∷ ms) ds es next a b c d v m w =
    let r = next ns ms ds es (omega arith) (omega arith) c d (back v) m w in
    (λ i. front v i ∷ r.0 i, r.1)

one : (ks : List ℕ) → One ks
unfolding values_in numbers_in doubles_in
one [] ns ms ds es a b c d v m w = (m, w)
one (k ∷ ks) ns ms ds es a b c d v m w = one_more ks (is_double k) ns ms ds es (one ks) a b c d v m w

-- no question has more than 25 numbers or 36 doubles
room : (asked : Asked) → (numbers_in (kinds_of asked) ≤ 25) × (doubles_in (kinds_of asked) ≤ 36)
unfolding numbers_in doubles_in
room Round = omega arith
room Centre = omega arith
room Meet = omega arith
room Turn = omega arith
room Step = omega arith
room Cross = omega arith
room Settle = omega arith
room Direction = omega arith
room Same = omega arith
room Nearest = omega arith
room Place = omega arith
room Corners = omega arith
room Hexagon = omega arith
room Pentagon = omega arith
room Root = omega arith
room Sphere = omega arith
room Globe6 = omega arith
room Globe5 = omega arith
room First = omega arith
room Help = omega arith
room Unreadable = omega arith

-- So an answer with its room of 25 numbers and 36 doubles that says a reply is the only one, doubles by their bits.
pub one_answer : (asked : Asked) (r : Reply) {k l : ℕ} (ns ms ds es : List ℕ) → length ns ≡ 25 → length ms ≡ 25 → length ds ≡ 36 → length es ≡ 36
    → Holds asked r k ns ds → Holds asked r l ms es → (k ≡ l) × (ns ≡ ms) × (ds ≡ es)
one_answer asked r ns ms ds es a b c d g h =
    let f = room asked in
    let n = f.0 in
    let x = f.1 in
    let rest = one (kinds_of asked) ns ms ds es (omega arith) (omega arith) (omega arith) (omega arith) (g.values ∙ sym h.values) (g.other_numbers ∙ sym h.other_numbers) (g.other_doubles ∙ sym h.other_doubles) in
    (g.number ∙ sym h.number, rest.0, rest.1)
