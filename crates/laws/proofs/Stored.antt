-- RS tells what SP stored.
use Rattle.std.proofs.Common.{◌<◌, length, refl, arith}
use Rattle.std.proofs.lemmas.List.{get_or-set_same}
use Rattle.store.proofs.Located.{located_within}
use Rattle.module.specs.States.{obeyed_state}
use Rattle.laws.specs.Stored.{TellsWhatWasStored}

pub tells_what_was_stored : TellsWhatWasStored
unfolding obeyed_state
tells_what_was_stored cycle r at p index f w e =
    let i : index < 414 = located_within r.control.blocks at.sequence at.phase index f.1 e in
    let k : index < length r.records = omega (arith, i, f.2) in
    (rw (e, get_or-set_same), refl)
