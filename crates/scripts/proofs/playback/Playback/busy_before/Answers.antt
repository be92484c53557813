use Rattle.std.proofs.Common.{sym, ap, ◌∙◌, false}
use Rattle.std.proofs.Math.Facts.{to_z-of_z}
use Rattle.scripts.specs.Playing.{is_quiet}
use Rattle.scripts.proofs.Playbacks.{was_busy}
use Rattle.scripts.proofs.playback.Playback.busy_before.Goals as goal

pub returns-then-not-is_quiet-clause-busy : goal.returns-then-not-is_quiet-clause-busy
returns-then-not-is_quiet-clause-busy c = was_busy _ _ c.args.step c.args.busy c.requires.tick (ap (λ z. is_quiet false z c.args.busy) (sym (to_z-of_z c.ranges.step)) ∙ sym c.is_quiet.ensures ∙ c.if-not-is_quiet.true)
