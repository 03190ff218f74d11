-- Bytes put at an index of a lent buffer: what was put, one after the other, stands one after the other; and how writing ends. Assumes nothing.
use mathlib.Core.Path.{◌≡◌, refl, sym, ap, ◌∙◌}
use mathlib.Core.List.{List, [], ◌∷◌, ◌++◌}
use Prim.Native.Nat.{ℕ, suc, ◌+◌, ◌≤◌, ◌<◌}
use native.Mathlib.Omega.{arith}
use lib.ListN.{length, take, drop, set, length-append}
use lib.Seq.{sets, length-sets, sets-eq, paste, take-length, take-append_seam}
use borrow.Author.Tests.{lt-ltb, le-ltb}
use Rattle.text.specs.Writing.{PutAt, Wrote}

-- stores one after the other are one run of stores
pub sets_append : (x y l : List ℕ) (i : ℕ) → sets (sets l i x) (i + length x) y ≡ sets l i (x ++ y)
sets_append [] y l i = let e : i + 0 ≡ i = omega arith in ap (λ (n : ℕ). sets l n y) e
sets_append (a ∷ x) y l i =
    let e : i + suc (length x) ≡ suc i + length x = omega arith in
    ap (λ (n : ℕ). sets (sets (set l i a) (suc i) x) n y) e ∙ sets_append x y (set l i a) (suc i)

pub put_nothing : (l : List ℕ) (at : ℕ) → PutAt [] l l at at
put_nothing l at = record { end = omega arith; bytes = refl }

pub put_then : {x y old mid new : List ℕ} {at r s : ℕ} → PutAt x old mid at r → PutAt y mid new r s → PutAt (x ++ y) old new at s
put_then {x} {y} {old} {mid} {new} {at} {r} {s} p q =
    record {
      end = omega (arith, p.end, q.end, length-append x y);
      bytes =
          q.bytes ∙
          (ap (λ (l : List ℕ). sets l r y) p.bytes ∙ (ap (λ (n : ℕ). sets (sets old at x) n y) p.end ∙ sets_append x y old at));
    }

-- the buffer keeps its length
pub put_length : {x old new : List ℕ} {at r : ℕ} → PutAt x old new at r → length new ≡ length old
put_length {x} {old} {new} {at} p = ap length p.bytes ∙ length-sets old at x

-- a word that was copied byte by byte
pub pasted : (x old new : List ℕ) (at : ℕ) → at + length x ≤ length old → new ≡ paste old at x (length x) → PutAt x old new at (at + length x)
pasted x old new at h e =
    record {
      end = refl;
      bytes = e ∙ (ap (λ (l : List ℕ). take at old ++ l ++ drop (at + length x) old) (take-length x) ∙ sym (sets-eq x old at h));
    }

-- what was put at the start is followed by what the buffer held there
pub from_start : {x old new : List ℕ} {r : ℕ} → PutAt x old new 0 r → length x ≤ length old → new ≡ x ++ drop (length x) old
from_start {x} {old} {new} {r} p h =
    let e : 0 + length x ≡ length x = omega arith in
    p.bytes ∙ (sets-eq x old 0 (omega arith) ∙ ap (λ (n : ℕ). x ++ drop n old) e)

-- the two ways in which writing ends: a buffer that is too short, a whole line
pub left_alone : (longest : ℕ) (x old : List ℕ) → length old < longest → Wrote longest x old old 0
left_alone longest x old h = record { count = rw (lt-ltb (length old) longest h); bytes = rw (lt-ltb (length old) longest h) }

pub wrote_line : (longest : ℕ) {x old new : List ℕ} {r : ℕ} → longest ≤ length old → length x ≤ longest → PutAt x old new 0 r → Wrote longest x old new r
wrote_line longest {x} {old} {new} {r} h l p =
    record {
      count = rw (le-ltb (length old) longest h) (omega (arith, p.end));
      bytes = rw (le-ltb (length old) longest h) (from_start p (omega arith));
    }

-- a buffer that is long enough holds the line at its start
pub whole : {longest : ℕ} {x old new : List ℕ} {r : ℕ} → longest ≤ length old → Wrote longest x old new r → (r ≡ length x) × (take r new ≡ x) × (r ≤ length new)
whole {longest} {x} {old} {new} {r} h w =
    let long = le-ltb (length old) longest h in
    let count : r ≡ length x = rw long at w.count in
    let bytes : new ≡ x ++ drop (length x) old = rw long at w.bytes in
    (count, (λ n. take (count n) (bytes n)) ∙ take-append_seam x (drop (length x) old), omega (arith, ap length bytes, length-append x (drop (length x) old)))
