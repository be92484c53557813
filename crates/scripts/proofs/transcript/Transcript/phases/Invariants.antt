use Rattle.std.proofs.Common.{vec_items}
use Rattle.scripts.specs.Told.{Extends}
use Rattle.scripts.proofs.transcript.Transcript.phases.Given as goal

abbrev pub invariant-loop-phase : goal.invariant-loop-phase
invariant-loop-phase l = Extends (vec_items l.initial.self.bytes) (vec_items l.self.bytes)
