use Rattle.std.proofs.Common.{◌≡◌, ◌++◌, drop, vec_items}
use Rattle.scripts.specs.Replies.{escaped_all}
use Rattle.scripts.proofs.transcript.Transcript.add_reply.Given as goal

abbrev pub invariant-loop-byte : goal.invariant-loop-byte
invariant-loop-byte l = vec_items l.self.bytes ++ escaped_all (drop l.byte-index l.reply) ≡ vec_items l.initial.self.bytes ++ escaped_all l.reply
