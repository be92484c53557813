-- The verdict on a phase of the shelf.
use Rattle.std.specs.Prelude.{◌≡◌, Bool, true, false, Some, None, Option, ◌≢◌}
use Rattle.phases.specs.declared.phase.Phase.{Phase}
use Rattle.sheet.specs.declared.verdict.Verdict.{Verdict}
use Rattle.sheet.specs.declared.verdict.Verdict.TheVariants.{Stored, Otherwise, Missing}

abbrev pub is_stored : Verdict → Bool
is_stored (Stored p) = true
is_stored _ = false

-- the verdict where a line means one record and the module reads back another
abbrev pub Judged : Option Phase → Option Phase → Verdict → Type 0
Judged _ None v = v ≡ Missing
Judged None (Some s) v = v ≡ Otherwise s
Judged (Some m) (Some s) v = (m ≡ s → v ≡ Stored s) × ((m ≢ s) → v ≡ Otherwise s)
