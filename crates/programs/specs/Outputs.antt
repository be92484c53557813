-- The step outputs, by name.
use Rattle.std.specs.Prelude.{ℕ, cond, codes, List, Some, None, Option}
use Rattle.std.specs.Str.{bytes_eq}
use Rattle.programs.specs.declared.output.Output.{Output}
use Rattle.programs.specs.declared.output.Output.TheVariants.{Full, Half, Pulse, Dry}

abbrev pub output_named : List ℕ → Option Output
output_named n =
    cond (bytes_eq n (codes "full")) (Some Full)
    (cond (bytes_eq n (codes "half")) (Some Half) (cond (bytes_eq n (codes "pulse")) (Some Pulse) (cond (bytes_eq n (codes "dry")) (Some Dry) None)))
