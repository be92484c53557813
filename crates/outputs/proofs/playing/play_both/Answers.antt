use Rattle.std.proofs.Common.{pos, ◌+ℤ◌, length, take, sym, ap, ◌∙◌}
use Rattle.steps.specs.Wrap.{wrapped24}
use Rattle.steps.proofs.Wrap.{wrapped_modulo, wrapped_step}
use Rattle.outputs.specs.DryRuns.{dry_meaning}
use Rattle.outputs.specs.Requests.{displacement}
use Rattle.outputs.proofs.Numbers.{number_of_place}
use Rattle.outputs.proofs.playing.play_both.Goals as goal

pub returns-clause-number : goal.returns-clause-number
returns-clause-number c =
    let old = c.args.dry.now in
    let new = c.play.new.output in
    let d = displacement c.args.requests.now (take (length c.args.requests.now) c.play.new.room) in
    number_of_place new.number new.at_least new.at_most
    ∙ (ap wrapped24 c.play.ensures.place
    ∙ (wrapped_modulo _
    ∙ (sym (wrapped_step (pos (dry_meaning old).place) d)
    ∙ ap (λ n. wrapped24 (n +ℤ d)) (sym (number_of_place old.number old.at_least old.at_most)))))
