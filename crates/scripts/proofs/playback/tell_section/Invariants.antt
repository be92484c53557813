use Rattle.std.proofs.Common.{◌≡◌, ◌++◌, List, map, drop, length, vec_items}
use Rattle.scripts.specs.Playbacks.{IsPlayback}
use Rattle.scripts.specs.Playing.{cycle_of}
use Rattle.scripts.specs.Sections.{Rises, after_first, gathered, gathered_told, section_told}
use Rattle.scripts.specs.Told.{Told, Adds}
use Rattle.scripts.proofs.playback.tell_section.Given as goal

abbrev pub invariant-loop-entry : goal.invariant-loop-entry
invariant-loop-entry l = record {
  section : l.playback.section.now ≡ l.section;
  playback : IsPlayback l.section l.playback;
  rises : Rises l.playback.told (map gathered (drop l.entry-index (vec_items l.section.entries))) (length (vec_items l.section.calls));
  transcript : (told : List Told) × (section_told l.section ≡ told ++ gathered_told (cycle_of l.section.output) l.playback.told (after_first l.section l.playback.told) (map gathered (drop l.entry-index (vec_items l.section.entries))) (drop l.playback.told (vec_items l.section.calls))) × Adds told (vec_items l.initial.transcript.bytes) (vec_items l.transcript.bytes);
}
