-- So far the module, the phase memory and the answers are those of the calls gone by.
use Rattle.std.proofs.Common.{◌≡◌, ◌≤◌, map, length, take, drop}
use Rattle.law.specs.Events.{event}
use Rattle.law.specs.History.{after, answers}
use Rattle.module.specs.Machine.{module_device}
use Rattle.module.specs.Views.{state_in}
use Rattle.history.specs.Histories.{shown}
use Rattle.history.proofs.play.history.Given as goal

abbrev pub invariant-loop-i : goal.invariant-loop-i
invariant-loop-i g l =
    (length l.calls ≤ length l.answers)
    × (length l.memory ≡ 414)
    × (state_in g.O.StepOutput.CYCLE l.device l.memory
    ≡ after (module_device g.O.StepOutput.CYCLE) (state_in g.O.StepOutput.CYCLE l.initial.device l.initial.memory) (map event (take l.i l.calls)))
    × (map shown (take l.i l.answers)
    ≡ answers (module_device g.O.StepOutput.CYCLE) (state_in g.O.StepOutput.CYCLE l.initial.device l.initial.memory) (map event (take l.i l.calls)))
    × (drop (length l.calls) l.answers ≡ drop (length l.calls) l.initial.answers)
