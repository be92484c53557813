use Rattle.std.proofs.Common.{◌≡◌, ◌+◌}
use Rattle.replies.specs.Replies.{Wrote}
use Rattle.texts.specs.Texts.{marks}
use Rattle.texts.proofs.phase_text.write_marks.Given as goal

abbrev pub invariant-loop-bit : goal.invariant-loop-bit
invariant-loop-bit l = record { wrote : Wrote l.initial.reply l.reply (marks l.bit l.named l.levels); len : l.reply.len ≡ l.initial.reply.len + l.bit }
