-- What is left of the list leads to the place and the power after the whole list, and its answers complete those so far to all of them.
use Rattle.std.proofs.Common.{◌≡◌, ◌++◌, length, take, drop}
use Rattle.outputs.specs.Requests.{after, answers}
use Rattle.outputs.proofs.playing.play.Given as goal

abbrev pub invariant-loop-i : goal.invariant-loop-i
invariant-loop-i g l = record {
  meaning : after (drop l.i l.requests) (g.O.StepOutput.meaning l.output) ≡ after l.requests (g.O.StepOutput.meaning l.initial.output);
  told : take l.i l.room ++ answers g.O.StepOutput.CYCLE (drop l.i l.requests) (g.O.StepOutput.meaning l.output) ≡ answers g.O.StepOutput.CYCLE l.requests (g.O.StepOutput.meaning l.initial.output);
  beyond : drop (length l.requests) l.room ≡ drop (length l.requests) l.initial.room;
}
