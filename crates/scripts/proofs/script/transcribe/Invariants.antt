use Rattle.std.proofs.Common.{◌+◌, map, drop, vec_items}
use Rattle.scripts.specs.Playing.{script_told}
use Rattle.scripts.specs.Scripts.{IsSound}
use Rattle.scripts.proofs.Scripts.{SoFar}
use Rattle.scripts.proofs.script.transcribe.Given as goal

abbrev pub invariant-loop-i : goal.invariant-loop-i
invariant-loop-i l = record {
  sound : IsSound l.script.section;
  transcript : SoFar (script_told l.text) (l.i + 1) l.script.section (map (λ b. b.now) (drop l.i l.line-items)) (vec_items l.initial.transcript.bytes) (vec_items l.transcript.bytes);
}
