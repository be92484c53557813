use Rattle.std.proofs.Common.{◌-◌, ◌≤◌, ap, arith}
use Rattle.scripts.proofs.Playbacks.{ticks_told_at}
use Rattle.scripts.proofs.Sections.{reaches_le}
use Rattle.scripts.proofs.playback.Playback.tell_under.Goals as goal

pub returns-in_ok-after-in-Ticks-clause-transcript : goal.returns-in_ok-after-in-Ticks-clause-transcript
returns-in_ok-after-in-Ticks-clause-transcript c =
    let r : c.args.self.now.told ≤ c.args.reached = reaches_le c.args.kind c.args.self.now.told c.args.reached c.requires.reached in
    ticks_told_at c.args.self.now.section.now c.tell_answers-in-Ticks.new.self.section.now c.args.kind c.args.self.now.told c.tell_answers-in-Ticks.new.self.told (c.args.reached - c.args.self.now.told) c.in_ok-busy-in-Ticks.busy _ _ _
    c.in-Ticks.is (ap (λ b. b.now) c.in_ok-tell_answers-in-Ticks.ensures.section) c.in_ok-tell_answers-in-Ticks.ensures.told (omega (arith, c.requires.more)) c.in_ok-tell_answers-in-Ticks.ensures.transcript c.in_ok-busy-in-Ticks.ensures.busy c.in_ok-after-in-Ticks.ensures
