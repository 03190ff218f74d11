-- `locate` meets its contract: frame and level are tested before the vector is looked at. Assumes nothing.
use mathlib.Core.Path.{◌≡◌, sym, ◌∙◌}
use mathlib.Core.Bool.{false}
use Rattle.vec3d.specs.Frame.{bad_frame}
use Rattle.reply.specs.Replies.{fine}
use Rattle.reply.specs.declared.Refusal.TheVariants.{BadLevel}
use Rattle.reply.proofs.Entries.{passed}
use Rattle.level.specs.Levels.{bad_cell}
use Rattle.locate.proofs.locate.Goals as goal

pub returns : goal.returns
returns c =
    let framed : bad_frame c.args.frame.now ≡ false = sym c.bad_frame.ensures ∙ c.if-bad_frame.false in
    rw (framed, (passed (bad_cell c.args.level.0) BadLevel fine (sym c.verdict.ensures ∙ c.in_ok-verdict.was)).0) c.place_of.ensures
