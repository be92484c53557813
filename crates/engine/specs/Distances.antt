-- How far NP and NV go.
use Rattle.std.specs.Prelude.{unsigned_abs}
use Rattle.phases.specs.declared.phase.Phase.{Phase}
use Rattle.motion.specs.declared.distance.Distance.{Distance}

-- the set point's steps, in the direction of S+ or S-
abbrev pub distance_of : Phase → Distance
distance_of p = record { direction = p.direction; steps = unsigned_abs p.set_point }
