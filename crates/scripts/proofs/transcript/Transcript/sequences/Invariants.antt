use Rattle.std.proofs.Common.{vec_items}
use Rattle.scripts.specs.Told.{Extends}
use Rattle.scripts.proofs.transcript.Transcript.sequences.Given as goal

abbrev pub invariant-loop-block : goal.invariant-loop-block
invariant-loop-block l = Extends (vec_items l.initial.self.bytes) (vec_items l.self.bytes)
