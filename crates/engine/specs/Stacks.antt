-- The open sub-sequences, the latest first: where each returns to.
use Rattle.std.specs.Prelude.{List, [], ◌∷◌, reverse, take, Some, None, Option}
use Rattle.phases.specs.declared.phase.Position.{Position}
use Rattle.engine.specs.declared.returns.Returns.{Returns}

abbrev pub opened : Returns → List (Option Position)
opened r = reverse (take r.depth r.places)

abbrev pub latest : List (Option Position) → Option (Option Position)
latest [] = None
latest (p ∷ ps) = Some p

abbrev pub earlier : List (Option Position) → List (Option Position)
earlier [] = []
earlier (p ∷ ps) = ps
