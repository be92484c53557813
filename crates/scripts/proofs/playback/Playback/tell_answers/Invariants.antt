use Rattle.std.proofs.Common.{◌≡◌, ◌+◌, map, take, drop, vec_items}
use Rattle.law.specs.Events.{event}
use Rattle.scripts.specs.Playbacks.{IsPlayback}
use Rattle.scripts.specs.Playing.{cycle_of, calls_told}
use Rattle.scripts.specs.Sections.{after_first}
use Rattle.scripts.specs.Told.{Adds}
use Rattle.scripts.proofs.playback.Playback.tell_answers.Given as goal

abbrev pub invariant-loop-i : goal.invariant-loop-i
invariant-loop-i l = record {
  section : l.self.section ≡ l.initial.self.section;
  told : l.self.told ≡ l.initial.self.told + l.i;
  playback : IsPlayback l.initial.self.section.now l.self;
  transcript : Adds (calls_told (cycle_of l.initial.self.section.now.output) 1 (after_first l.initial.self.section.now l.initial.self.told) (map event (take l.i (drop l.initial.self.told (vec_items l.initial.self.section.now.calls))))) (vec_items l.initial.transcript.bytes) (vec_items l.transcript.bytes);
}
