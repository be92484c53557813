-- How a program ends.
use Rattle.std.specs.Prelude.{ℕ, Ok, Err, Result}
use Rattle.programs.specs.declared.failed.Failed.{Failed}

-- 0 where the work was done, else 1
abbrev pub status_of : Result (Unit {0}) Failed → ℕ
status_of (Ok u) = 0
status_of (Err e) = 1
