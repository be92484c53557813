-- The next answer is that of the next call.
use Rattle.law.specs.Events.{event}
use Rattle.scripts.proofs.Playbacks.{call_at, next_answer, told_one, advanced}
use Rattle.scripts.proofs.playback.Playback.tell_answer.Goals as goal

pub tell_one-requires-clause-answer : goal.tell_one-requires-clause-answer
tell_one-requires-clause-answer c = (event (call_at c.args.self.now.section.now c.args.self.now.told), next_answer c.args.self.now.section.now c.args.self.now c.index.result.now c.requires.playback c.requires.more c.index.ensures)

pub returns-clause-playback : goal.returns-clause-playback
returns-clause-playback c =
    let t = next_answer c.args.self.now.section.now c.args.self.now c.index.result.now c.requires.playback c.requires.more c.index.ensures in
    advanced c.args.self.now.section.now c.args.self.now c.tell_one.new.self c.in_ok-self.field-0 c.requires.playback c.requires.more c.in_ok-self.ensures.rest c.in_ok-self.ensures.playback (c.in_ok-self.ensures.busy (event (call_at c.args.self.now.section.now c.args.self.now.told)) t)

pub returns-clause-transcript : goal.returns-clause-transcript
returns-clause-transcript c = told_one c.args.self.now.section.now c.args.self.now c.index.result.now c.args.number _ _ c.requires.playback c.requires.more c.index.ensures c.in_ok-self.ensures.transcript
