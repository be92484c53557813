use Rattle.std.proofs.Common.{ap, ◌∙◌, subst, arith}
use Rattle.scripts.specs.declared.section.Section.{Section}
use Rattle.scripts.specs.Playbacks.{IsPlayback}
use Rattle.scripts.proofs.Playbacks.{told_more_at}
use Rattle.scripts.proofs.playback.Playback.tell_answers.Goals as goal

pub loop-i-preserved : goal.loop-i-preserved
loop-i-preserved c =
    let e = ap (λ s. s.now) c.loop-i.invariant.section in
    record {
      section = c.in_ok-tell_answer.ensures.section ∙ c.loop-i.invariant.section;
      told = omega (arith, c.in_ok-tell_answer.ensures.told);
      playback = subst (λ (s : Section). IsPlayback s c.tell_answer.new.self) e c.in_ok-tell_answer.ensures.playback;
      transcript = told_more_at c.args.self.now.section.now c.loop-i.self.section.now c.args.self.now.told c.loop-i.self.told c.loop-i.i _ _ _ e c.loop-i.invariant.told (omega arith) c.loop-i.invariant.transcript c.in_ok-tell_answer.ensures.transcript;
    }
