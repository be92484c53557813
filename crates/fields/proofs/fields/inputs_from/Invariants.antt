use Rattle.std.proofs.Common.{◌≡◌, ◌-◌, ◌≤◌, true, length, drop}
use Rattle.fields.specs.Fields.{named_of, levels_of, are_marks}
use Rattle.fields.proofs.fields.inputs_from.Given as goal

abbrev pub invariant-loop-mark : goal.invariant-loop-mark
invariant-loop-mark l = record {
  can : goal.iterator-loop-mark.can_next l.mark-iterator;
  finite : goal.iterator-loop-mark.is_finite l.mark-iterator;
  few : length l.yielded ≤ 8;
  named : l.inputs.named ≡ named_of (drop (8 - length l.yielded) l.marks);
  levels : l.inputs.levels ≡ levels_of (drop (8 - length l.yielded) l.marks);
  marks : are_marks (drop (8 - length l.yielded) l.marks) ≡ true;
}
