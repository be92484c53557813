-- What sets the counter, and to what.
use Rattle.std.specs.Prelude.{Bool, true, false, ℤ, pos, Some, None, Ok, Option}
use Rattle.std.specs.Option.{option_and_then}
use Rattle.phases.specs.declared.phase.Phase.{Phase}
use Rattle.phases.specs.declared.phase.Nature.{Nature}
use Rattle.phases.specs.declared.phase.Nature.TheVariants.{ZeroCounter as Nz}
use Rattle.store.specs.Records.{phase_at}
use Rattle.orders.specs.declared.order.Order.{Order}
use Rattle.orders.specs.declared.order.Order.TheVariants.{ZeroCounter, SetCounter, Restart}
use Rattle.orders.specs.declared.order.Judgement.{Judgement}
use Rattle.orders.specs.declared.order.Judgement.TheVariants.{Own, Broadcast}
use Rattle.control.specs.States.{upcoming_in}
use Rattle.module.specs.States.{ModuleState}

-- DI and MR set it to 0, DP to its number; no other order sets it
abbrev pub set_by : Order → Option ℤ
set_by ZeroCounter = Some (pos 0)
set_by (SetCounter z) = Some z
set_by Restart = Some (pos 0)
set_by _ = None

-- of the lines an accepted one alone
abbrev pub counter_set : Judgement → Option ℤ
counter_set (Own (Ok o)) = set_by o
counter_set (Broadcast (Ok o)) = set_by o
counter_set _ = None

-- the written phase that the next tick enters, if it enters one
abbrev pub entered_next : ModuleState → Option Phase
entered_next r = option_and_then (phase_at r.control.blocks r.records) (upcoming_in r.control.activity)

abbrev pub is_nz : Nature → Bool
is_nz Nz = true
is_nz _ = false

-- entering a phase sets it to 0 where its nature is NZ
abbrev pub zeroing : Option Phase → Bool
zeroing None = false
zeroing (Some p) = is_nz p.nature
