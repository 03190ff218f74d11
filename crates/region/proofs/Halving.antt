-- Halving: one turn at a time; what it ends at where all that lie low stand first; how many turns are enough; and that it looks at nothing outside its two ends. Assumes nothing.
use mathlib.Core.Path.{◌≡◌, refl, sym, ◌∙◌}
use mathlib.Core.Bool.{Bool, true, false, true≢false}
use Prim.Native.Nat.{ℕ, zero, suc, ◌+◌, ◌≤◌, ◌<◌, ◌^◌}
use native.Mathlib.Nat.{pow-zero, pow-succ'}
use native.Mathlib.Decide.{dec_lt}
use native.Mathlib.Omega.{arith}
use lib.Dec.{ltb}
use borrow.Author.Tests.{lt-ltb, le-ltb}
use Rattle.reply.specs.Choice.{pick}
use Rattle.region.specs.Entries.{middle, halved}

module _ (low : ℕ → Bool) where
  open_more : (d lo hi : ℕ) → lo < hi → halved low (suc d) lo hi ≡ pick (low (middle lo hi)) (halved low d (middle lo hi + 1) hi) (halved low d lo (middle lo hi))
  unfolding halved
  open_more d lo hi h = rw (lt-ltb lo hi h)

  none_left : (d lo hi : ℕ) → hi ≤ lo → halved low d lo hi ≡ lo
  unfolding halved
  none_left zero lo hi h = refl
  none_left (suc d) lo hi h = rw (le-ltb lo hi h)

  -- ---- the loop: what is left to look through ends where it was asked to

  pub record Going (answer lo hi : ℕ) : Type 0 where
    pub turns : ℕ
    pub enough : hi ≤ lo + turns
    pub goes_on : halved low turns lo hi ≡ answer

  record Opened (answer lo hi : ℕ) : Type 0 where
    turns : ℕ
    enough : hi ≤ lo + suc turns
    goes_on : pick (low (middle lo hi)) (halved low turns (middle lo hi + 1) hi) (halved low turns lo (middle lo hi)) ≡ answer

  opened : (answer lo hi turns : ℕ) → lo < hi → hi ≤ lo + turns → halved low turns lo hi ≡ answer → Opened answer lo hi
  opened answer lo hi zero h e g = absurd (omega arith)
  opened answer lo hi (suc d) h e g = record { turns = d; enough = e; goes_on = sym (open_more d lo hi h) ∙ g }

  module _ (answer lo hi : ℕ) (h : lo < hi) (g : Going answer lo hi) where
    turn : Opened answer lo hi
    turn = opened answer lo hi g.turns h g.enough g.goes_on

    pub upper : low (middle lo hi) ≡ true → Going answer (middle lo hi + 1) hi
    upper l = record { turns = turn.turns; enough = omega (arith, turn.enough); goes_on = rw l at turn.goes_on }

    pub lower : low (middle lo hi) ≡ false → Going answer lo (middle lo hi)
    lower l = record { turns = turn.turns; enough = omega (arith, turn.enough); goes_on = rw l at turn.goes_on }

  pub ended : (answer lo hi : ℕ) → hi ≤ lo → Going answer lo hi → lo ≡ answer
  ended answer lo hi h g = sym (none_left g.turns lo hi h) ∙ g.goes_on

  -- ---- where all that lie low stand first

  pub record Ends (lo hi at : ℕ) : Type 0 where
    pub from : lo ≤ at
    pub to : at ≤ hi
    pub low_before : (n : ℕ) → lo ≤ n → n < at → low n ≡ true
    pub high_after : (n : ℕ) → at ≤ n → n < hi → low n ≡ false

  module _ (end : ℕ) (first : (m n : ℕ) → m ≤ n → n < end → low n ≡ true → low m ≡ true) where
    by_middle : (lo hi mid : ℕ) → lo ≤ mid → mid < hi → hi ≤ end → (b : Bool) → low mid ≡ b → (up down : ℕ) → Ends (mid + 1) hi up → Ends lo mid down
        → Ends lo hi (pick b up down)
    by_middle lo hi mid h k l true e up down u d = record {
      from = omega (arith, u.from);
      to = u.to;
      low_before = λ n a b.
          elim (dec_lt mid n) [
            | yes later ↦ u.low_before n (omega arith) b
            | no earlier ↦ first n mid (omega arith) (omega arith) e
          ];
      high_after = u.high_after;
    }
    by_middle lo hi mid h k l false e up down u d = record {
      from = d.from;
      to = omega (arith, d.to);
      low_before = d.low_before;
      high_after = λ n a b.
          elim (dec_lt n mid) [
            | yes earlier ↦ d.high_after n a earlier
            | no later ↦ still (low n) refl (first mid n (omega arith) (omega arith))
          ];
    }
      where
        still : (t : Bool) {n : ℕ} → low n ≡ t → (low n ≡ true → low mid ≡ true) → low n ≡ false
        still true q f = absurd (true≢false (sym (f q) ∙ e))
        still false q f = q

    -- Halving ends where those that lie low end.
    pub ends : (d lo hi : ℕ) → lo ≤ hi → hi ≤ lo + d → hi ≤ end → Ends lo hi (halved low d lo hi)
    unfolding halved
    ends zero lo hi h e l = record {
      from = omega arith;
      to = h;
      low_before = λ n a b. absurd (omega arith);
      high_after = λ n a b. absurd (omega arith);
    }
    ends (suc d) lo hi h e l =
        elim (dec_lt lo hi) [
          | yes more ↦ rw (lt-ltb lo hi more)
              (by_middle lo hi (middle lo hi) (omega arith) (omega arith) l (low (middle lo hi)) refl _ _
              (ends d (middle lo hi + 1) hi (omega arith) (omega arith) l) (ends d lo (middle lo hi) (omega arith) (omega arith) (omega arith)))
          | no none ↦ rw (le-ltb lo hi (omega arith))
              (record { from = omega arith; to = h; low_before = λ n a b. absurd (omega arith); high_after = λ n a b. absurd (omega arith) })
        ]

-- Fewer than 2^d numbers are looked through in d turns: more change nothing.
pub few_turns : (low : ℕ → Bool) (d e lo hi : ℕ) → hi < lo + 2 ^ d → hi ≤ lo + e → halved low d lo hi ≡ halved low e lo hi
few_turns low zero e lo hi h l = none_left low 0 lo hi (omega (arith, pow-zero 2)) ∙ sym (none_left low e lo hi (omega (arith, pow-zero 2)))
few_turns low (suc d) zero lo hi h l = none_left low (suc d) lo hi (omega arith) ∙ sym (none_left low 0 lo hi (omega arith))
few_turns low (suc d) (suc e) lo hi h l =
    elim (dec_lt lo hi) [
      | yes more ↦
          let p = pow-succ' 2 d in
          open_more low d lo hi more
          ∙ rw (few_turns low d e (middle lo hi + 1) hi (omega arith) (omega arith), few_turns low d e lo (middle lo hi) (omega arith) (omega arith))
          (sym (open_more low e lo hi more))
      | no none ↦ none_left low (suc d) lo hi (omega arith) ∙ sym (none_left low (suc e) lo hi (omega arith))
    ]

-- It ends at no number below lo.
pub from_low : (low : ℕ → Bool) (d lo hi : ℕ) → lo ≤ halved low d lo hi
unfolding halved
from_low low zero lo hi = omega arith
from_low low (suc d) lo hi = go (ltb lo hi) (low (middle lo hi)) (from_low low d (middle lo hi + 1) hi) (from_low low d lo (middle lo hi))
  where
    go : (b c : Bool) → middle lo hi + 1 ≤ halved low d (middle lo hi + 1) hi → lo ≤ halved low d lo (middle lo hi)
        → lo ≤ pick b (pick c (halved low d (middle lo hi + 1) hi) (halved low d lo (middle lo hi))) lo
    go true true u l = omega arith
    go true false u l = l
    go false c u l = omega arith

-- Tests that agree from lo up to hi end at the same number: halving looks at no other.
pub same_end : (f g : ℕ → Bool) (d lo hi : ℕ) → ((n : ℕ) → lo ≤ n → n < hi → f n ≡ g n) → halved f d lo hi ≡ halved g d lo hi
unfolding halved
same_end f g zero lo hi h = refl
same_end f g (suc d) lo hi h =
    elim (dec_lt lo hi) [
      | yes more ↦
          rw (
            lt-ltb lo hi more,
            h (middle lo hi) (omega arith) (omega arith),
            same_end f g d (middle lo hi + 1) hi (λ n a b. h n (omega arith) b),
            same_end f g d lo (middle lo hi) (λ n a b. h n a (omega arith)),
          )
      | no none ↦ rw (le-ltb lo hi (omega arith))
    ]
