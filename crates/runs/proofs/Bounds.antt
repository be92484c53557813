-- Nothing that is noted of a run comes to more than there were ticks.
use Rattle.std.proofs.Common.{ℕ, suc, ◌+◌, ◌≤◌, Bool, true, false, ltb, List, [], ◌∷◌, ◌++◌, length, ℤ, pos, neg_ℤ, ◌≤ℤ◌, Some, None, Option, arith}
use Rattle.std.specs.Prelude.{unwrap_or}
use Rattle.std.proofs.lemmas.Int.{ints}
use Rattle.std.proofs.lemmas.Bool.{cond_both}
use Rattle.steps.specs.declared.direction.Direction.{Direction}
use Rattle.steps.specs.declared.direction.Direction.TheVariants.{Forward, Back}
use Rattle.steps.specs.Directions.{one_step}
use Rattle.phases.specs.declared.phase.Phase.{Phase}
use Rattle.phases.specs.declared.phase.Position.{Position}
use Rattle.axis.specs.Axes.{AxisState}
use Rattle.law.specs.Events.Event.{tick}
use Rattle.law.specs.History.{State, next}
use Rattle.module.specs.States.{step_made, powered, effects_of}
use Rattle.module.specs.Machine.{module_device}
use Rattle.history.specs.Hosts.{phase_in}
use Rattle.runs.specs.declared.row.Row.{Row}
use Rattle.runs.specs.Rows.{entered_in, step_in, same_place}
use Rattle.runs.specs.Notes.{Noted, completed, begun_row, once_more, entering, with_tick, entered_by, ticked, times_of, ticks_of, steps_of, Within}

-- a tick makes one step at most
abbrev Small : ℤ → Type 0
Small z = (neg_ℤ (pos 1) ≤ℤ z) × (z ≤ℤ pos 1)

one_small : (d : Direction) → Small (one_step d)
one_small Forward = (omega (arith, ints), omega (arith, ints))
one_small Back = (omega (arith, ints), omega (arith, ints))

made_small : (o : Option Direction) (a : AxisState) → Small (step_made o a)
made_small None a = (omega (arith, ints), omega (arith, ints))
made_small (Some d) a = cond_both a.power (one_step d) (pos 0) Small (λ t. one_small d) (λ f. (omega (arith, ints), omega (arith, ints)))

step_small : (y : ℕ) (s : State (module_device y)) → Small (step_in y s)
step_small y s = let r = s.core.rest in made_small (effects_of r).step (powered (effects_of r).power r.axis)

-- where the tick of this number has entered a place, but is not counted yet
pub record Entered (n : Noted) (t : ℕ) : Type 0 where
  pub times : n.left_out + times_of n.last ≤ suc t
  pub ticks_last : ticks_of n.last ≤ t
  pub back : neg_ℤ (pos t) ≤ℤ steps_of n.last
  pub forward : steps_of n.last ≤ℤ pos t

entered_none : (n : Noted) (t : ℕ) → Within n t → Entered n t
entered_none n t w = record { times = omega (arith, w.times); ticks_last = w.ticks_last; back = w.back; forward = w.forward }

fits_entering : (rows : List Row) (lo : ℕ) (last : Option Row) (going : Bool) (t : ℕ) (at : Position) (o : Option Phase) (outputs : ℕ) →
    let n : Noted = record { rows = rows; left_out = lo; last = last; going = going } in
    Within n t → Entered (entering n (suc t) at o outputs) t
fits_entering rows lo last going t at None outputs w = record { times = omega (arith, w.times); ticks_last = w.ticks_last; back = w.back; forward = w.forward }
fits_entering rows lo None going t at (Some p) outputs w = record { times = omega (arith, w.times); ticks_last = omega arith; back = omega (arith, ints); forward = omega (arith, ints) }
fits_entering rows lo (Some r) going t at (Some p) outputs w =
    let n : Noted = record { rows = rows; left_out = lo; last = Some r; going = going } in
    let new = begun_row at (suc t) (unwrap_or p.outputs outputs) in
    cond_both (same_place r.at at) (record n { last = Some (once_more r); going = true }) (record (completed n (Some r)) { last = Some new; going = true }) (λ (m : Noted). Entered m t)
    (λ h. record { times = omega (arith, w.times); ticks_last = w.ticks_last; back = w.back; forward = w.forward })
    (λ h. cond_both (ltb (length rows) 1000) (record n { rows = rows ++ r ∷ []; last = None }) (record n { left_out = lo + r.times; last = None }) (λ (m : Noted). Entered (record m { last = Some new; going = true }) t)
    (λ f. record { times = omega (arith, w.times); ticks_last = omega arith; back = omega (arith, ints); forward = omega (arith, ints) })
    (λ f. record { times = omega (arith, w.times); ticks_last = omega arith; back = omega (arith, ints); forward = omega (arith, ints) }))

fits_entered : (y : ℕ) (s : State (module_device y)) (n : Noted) (t : ℕ) (o : Option Position) → Within n t → Entered (entered_by y s n (suc t) o) t
fits_entered y s n t None w = entered_none n t w
fits_entered y s n t (Some at) w = fits_entering n.rows n.left_out n.last n.going t at (phase_in y s at) s.core.rest.control.outputs w

fits_tick : (rows : List Row) (lo : ℕ) (last : Option Row) (going : Bool) (t : ℕ) (step counter : ℤ) →
    let n : Noted = record { rows = rows; left_out = lo; last = last; going = going } in
    Small step → Entered n t → Within (with_tick n step counter) (suc t)
fits_tick rows lo None true t step counter m e = record { times = e.times; ticks_last = omega arith; back = omega (arith, ints); forward = omega (arith, ints) }
fits_tick rows lo None false t step counter m e = record { times = e.times; ticks_last = omega arith; back = omega (arith, ints); forward = omega (arith, ints) }
fits_tick rows lo (Some r) true t step counter m e = record { times = e.times; ticks_last = omega (arith, e.ticks_last); back = omega (arith, ints, e.back, m.0); forward = omega (arith, ints, e.forward, m.1) }
fits_tick rows lo (Some r) false t step counter m e = record { times = e.times; ticks_last = omega (arith, e.ticks_last); back = omega (arith, ints, e.back); forward = omega (arith, ints, e.forward) }

pub fits_ticked : (y : ℕ) (s : State (module_device y)) (t : ℕ) (n : Noted) → Within n t → Within (ticked y s (suc t) n) (suc t)
fits_ticked y s t n w =
    let m = entered_by y s n (suc t) (entered_in y s) in
    fits_tick m.rows m.left_out m.last m.going t (step_in y s) (next (module_device y) s tick).core.rest.axis.counter (step_small y s) (fits_entered y s n t (entered_in y s) w)
