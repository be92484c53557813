-- The address so far is one that a module has, and the words that are left ask, after those so far, for what all of them do.
use Rattle.std.proofs.Common.{◌≡◌, ◌≤◌}
use Rattle.std.specs.Option.{option_copied}
use Rattle.std.specs.Slice.Iter.{iter_rest}
use Rattle.programs.specs.SheetWords.{any, asked, asked_by, texts}
use Rattle.programs.proofs.sheet_arguments.sheet_request.Given as goal

abbrev pub invariant-loop-word : goal.invariant-loop-word
invariant-loop-word l =
    (l.address ≤ 63)
    × (asked any (record { address = l.address; output = l.output; file = option_copied l.file }) (texts (iter_rest l.words)) ≡ asked_by (texts l.fn.words))
