use Rattle.std.proofs.Common.{[], ◌∷◌, ap, arith}
use Rattle.replies.proofs.Writes.{wrote_none, wrote_then, wrote_as}
use Rattle.texts.specs.Texts.{marks}
use Rattle.texts.proofs.Joined.{marks_push}
use Rattle.texts.proofs.phase_text.write_marks.Goals as goal

pub loop-bit-init : goal.loop-bit-init
unfolding marks
loop-bit-init c = record { wrote = wrote_none _; len = omega arith }

pub loop-bit-preserved : goal.loop-bit-preserved
loop-bit-preserved c =
    record {
      wrote = wrote_as (wrote_then c.loop-bit.invariant.wrote (wrote_as c.put.ensures (ap (λ b. b ∷ []) c.mark.ensures))) (marks_push c.loop-bit.bit c.args.inputs.named c.args.inputs.levels);
      len = omega (arith, c.put.ensures.len, c.loop-bit.invariant.len);
    }
