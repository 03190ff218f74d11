-- Tests in series: where the first reasons find nothing, the others decide; what the first reasons find is what is given. Assumes nothing.
use mathlib.Core.Path.{◌≡◌, refl}
use mathlib.Core.Bool.{Bool, true, false}
use mathlib.Core.List.{List, [], ◌∷◌, ◌++◌}
use Rattle.std.specs.Prelude.{Err}
use Rattle.reply.specs.Choice.{pick}
use Rattle.reply.specs.declared.Refusal.{Refusal}
use Rattle.reply.specs.Replies.{Reason, first, fine}
use Rattle.reply.proofs.Entries.{passed}

pub series_fine : (xs ys : List Reason) → first xs ≡ fine → first (xs ++ ys) ≡ first ys
series_fine [] ys e = refl
series_fine (x ∷ xs) ys e =
    let p = passed x.applies x.refusal (first xs) e in
    rw p.0 (series_fine xs ys p.1)

pub series_refused : (xs ys : List Reason) (r : Refusal) → first xs ≡ Err r → first (xs ++ ys) ≡ Err r
series_refused [] ys r e = cc
series_refused (x ∷ xs) ys r e = go x.applies (series_refused xs ys r) e
  where
    go : (b : Bool) → (first xs ≡ Err r → first (xs ++ ys) ≡ Err r) → pick b (Err x.refusal) (first xs) ≡ Err r
        → pick b (Err x.refusal) (first (xs ++ ys)) ≡ Err r
    go true ih f = f
    go false ih f = ih f
