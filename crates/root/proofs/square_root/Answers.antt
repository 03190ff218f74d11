-- `square_root` meets its contract: a zero is its own root, a number above zero has one, and no other has. Assumes nothing.
use mathlib.Core.Path.{◌≡◌, sym, ap, ◌∙◌}
use mathlib.Core.Bool.{Bool, false, ◌&&◌}
use mathlib.Core.List.{[], ◌∷◌}
use lib.Ieee.{Float, binary64, to_bits, lt}
use Rattle.std.specs.Prelude.{Err}
use Rattle.reply.specs.Choice.{pick}
use Rattle.reply.specs.declared.Refusal.TheVariants.{BadNumber}
use Rattle.reply.specs.Replies.{answer, fine}
use Rattle.reply.proofs.Entries.{answers, refuses}
use Rattle.double.specs.Double.{nought, finite}
use Rattle.root.specs.Root.{root_of, no_root, root_verdict, root_reply}
use Rattle.root.proofs.Rules.{zero_root, has_root, has_none}
use Rattle.root.proofs.square_root.Goals as goal

rooted : (x : Float) → no_root x ≡ false → root_verdict x ≡ fine
rooted x e = ap (λ (b : Bool). pick b (Err BadNumber) fine) e

said : (x r : Float) → no_root x ≡ false → r ≡ root_of x → answer (to_bits binary64 r ∷ []) ≡ root_reply x
said x r e f = answers 1 (root_verdict x) (to_bits binary64 (root_of x) ∷ []) _ (rooted x e) (ap (λ (y : Float). answer (to_bits binary64 y ∷ [])) f)

pub returns-then-x : goal.returns-then-x
returns-then-x c = let z = zero_root c.args.x c.if-x.true in said _ _ z.0 (sym z.1)

pub returns-then-x-is_finite : goal.returns-then-x-is_finite
returns-then-x-is_finite c =
    let tested : (lt nought c.args.x && c.is_finite.result) ≡ (lt nought c.args.x && finite c.args.x) = ap (λ (b : Bool). lt nought c.args.x && b) c.is_finite.ensures in
    said _ _ (has_root _ (sym tested ∙ c.if-x-is_finite.true)).1 c.positive_root.ensures

pub returns : goal.returns
returns c =
    let tested : (lt nought c.args.x && c.is_finite.result) ≡ (lt nought c.args.x && finite c.args.x) = ap (λ (b : Bool). lt nought c.args.x && b) c.is_finite.ensures in
    let x = c.args.x in
    refuses 1 (root_verdict x) (to_bits binary64 (root_of x) ∷ []) BadNumber
    (ap (λ (b : Bool). pick b (Err BadNumber) fine) (has_none x c.if-x.false (sym tested ∙ c.if-x-is_finite.false)))
