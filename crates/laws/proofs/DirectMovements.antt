-- The movements that GO, GH and GA begin.
use Rattle.std.proofs.Common.{◌≡◌, false, ℤ, pos, Some, None, Option, inl, inr, refl, ap, ◌∙◌, subst, sym}
use Rattle.motion.specs.Distances.{distance_to}
use Rattle.motion.specs.Motions.{Motion, begun}
use Rattle.orders.specs.declared.order.Order.{Order}
use Rattle.orders.specs.declared.order.Order.TheVariants.{Move, MoveToOrigin, MoveTo}
use Rattle.orders.specs.declared.order.Judgement.{Judgement}
use Rattle.control.specs.States.{State, moves_on}
use Rattle.control.specs.Obeyed.{moves_to}
use Rattle.law.specs.Machine.{done_by}
use Rattle.module.specs.States.{ModuleState, obeyed_state}
use Rattle.module.specs.Lines.{outcome_of, judged_line, line_outcome}
use Rattle.module.specs.Machine.{machine}
use Rattle.laws.specs.DirectMovements.{leads_directly, GoesOn, MovesDirectly, LeadsDirectly}
use Rattle.laws.proofs.Accepted.{accepted_of}
use Rattle.laws.proofs.Entering.{way_to}

-- what is begun goes on
begins : (s : State) (o : Option Motion) (r : ModuleState) → r.control ≡ moves_on s o → GoesOn o r
begins s None r e = (ap (λ (x : State). x.activity) e, ap (λ (x : State). x.outputs) e)
begins s (Some m) r e = ap (λ (x : State). x.activity) e

obeys : (r : ModuleState) (o : Order) (z : ℤ) → leads_directly o r.control.settings r.axis.counter ≡ Some z → MovesDirectly z r (obeyed_state r o)
unfolding obeyed_state moves_to
obeys r Move z e =
    let s = r.control.settings in
    record { direction = s.direction; steps = s.distance; leads = cc e; power = refl; movement = begins r.control (begun s.values None s.direction s.distance false) (obeyed_state r Move) refl }
obeys r MoveToOrigin z e =
    let d = distance_to (pos 0) r.axis.counter in
    record { direction = d.direction; steps = d.steps; leads = way_to (pos 0) r.axis.counter ∙ cc e; power = refl; movement = begins r.control (begun r.control.settings.values None d.direction d.steps false) (obeyed_state r MoveToOrigin) refl }
obeys r (MoveTo n) z e =
    let d = distance_to n r.axis.counter in
    record { direction = d.direction; steps = d.steps; leads = way_to n r.axis.counter ∙ cc e; power = refl; movement = begins r.control (begun r.control.settings.values None d.direction d.steps false) (obeyed_state r (MoveTo n)) refl }
obeys r _ z e = absurd (cc e)

pub leads_as_ordered : LeadsDirectly
unfolding line_outcome
leads_as_ordered cycle s o z a e =
    let r = s.core.rest in
    elim (accepted_of (judged_line r s.line) o a) [
      | inl k ↦ subst (λ (j : Judgement). MovesDirectly z r (done_by (machine cycle) s.core (outcome_of cycle r j)).0.rest) (sym k) (obeys r o z e)
      | inr k ↦ subst (λ (j : Judgement). MovesDirectly z r (done_by (machine cycle) s.core (outcome_of cycle r j)).0.rest) (sym k) (obeys r o z e)
    ]
