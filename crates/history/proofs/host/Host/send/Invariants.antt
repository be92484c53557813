-- What is left of the line makes of the module what the whole line does.
use Rattle.std.proofs.Common.{◌≡◌, drop}
use Rattle.history.specs.Hosts.{state_of, after_text}
use Rattle.history.proofs.host.Host.send.Given as goal

abbrev pub invariant-loop-byte : goal.invariant-loop-byte
invariant-loop-byte g l =
    after_text g.O.StepOutput.CYCLE (drop l.byte-index l.text) (state_of g.O.StepOutput.CYCLE l.self)
    ≡ after_text g.O.StepOutput.CYCLE l.text (state_of g.O.StepOutput.CYCLE l.initial.self)
