-- Where a run goes on.
use Rattle.std.specs.Prelude.{ℕ, ◌+◌, min, cond, Some, None, Option, ◌==◌}
use Rattle.phases.specs.declared.phase.Position.{Position}

abbrev pub first_of : ℕ → Position
first_of n = record { sequence = n; phase = 1 }

-- the number is held in a byte; a sequence has at most 50 phases
abbrev pub following : Position → Position
following q = record { sequence = q.sequence; phase = min (q.phase + 1) 255 }

-- where a run goes on, none being its end: NS, where 54 is the end; without it the following phase
abbrev pub next_of : Position → Option ℕ → Option Position
next_of q None = Some (following q)
next_of q (Some n) = cond (n == 54) None (Some (record { sequence = q.sequence; phase = n }))
