use Rattle.std.proofs.Common.{◌≡◌, ◌<◌, false, [], ◌∷◌, ◌++◌, map, length, get_or, take, sym, ap, ◌∙◌, ap₂, arith, rules}
use Rattle.std.proofs.lemmas.List.{take_all, take_more_set, map_push, drop-set-lt}
use Rattle.law.specs.Events.{event}
use Rattle.law.specs.History.{State, next, answer, after, answers}
use Rattle.law.specs.declared.Call.{Call}
use Rattle.law.specs.declared.Action.TheVariants.{Character}
use Rattle.law.proofs.Steps.{after_more, answers_more}
use Rattle.module.specs.Machine.{module_device}
use Rattle.module.specs.Views.{state_in}
use Rattle.history.specs.Histories.{shown}
use Rattle.history.proofs.Lawful.{module_law}
use Rattle.history.proofs.play.history.Goals as goal

pub returns-then-not-accepts-clause-law : goal.returns-then-not-accepts-clause-law
returns-then-not-accepts-clause-law g c = module_law g.O.StepOutput.CYCLE c.args.address (g.O.StepOutput.meaning c.args.output) c.args.memory.now _ (g.met.O.StepOutput.bounded c.args.output)

pub loop-i-preserved : goal.loop-i-preserved
loop-i-preserved g c =
    let y = g.O.StepOutput.CYCLE in
    let calls = c.args.calls.now in
    let i = c.loop-i.i in
    let d : Call = record { lent = 0; action = Character (record { byte = 0; damaged = false }) 0 } in
    let start : State (module_device y) = state_in y c.begin-device.result c.args.memory.now in
    let more : i < length calls = c.loop-i-test.true in
    let room : i < length c.loop-i.answers = omega arith in (
      search rules,
      search rules,
      c.perform.ensures.state ∙ (ap (λ s. next (module_device y) s (event (get_or calls i d))) c.loop-i.invariant.2 ∙ sym (after_more (module_device y) start calls i d more)),
      ap (map shown) (take_more_set c.loop-i.answers i c.perform.result room)
          ∙ (map_push shown (take i c.loop-i.answers) c.perform.result
          ∙ (ap₂ (λ xs z. xs ++ (z ∷ [])) c.loop-i.invariant.3
          (c.perform.ensures.shown ∙ ap (λ s. answer (module_device y) s (event (get_or calls i d))) c.loop-i.invariant.2)
          ∙ sym (answers_more (module_device y) start calls i d more))),
      drop-set-lt (length calls) c.loop-i.answers i c.perform.result more ∙ c.loop-i.invariant.4,
    )

pub returns-clause-state : goal.returns-clause-state
returns-clause-state g c =
    c.loop-i.invariant.2
    ∙ ap₂ (λ s cs. after (module_device g.O.StepOutput.CYCLE) s (map event cs)) (c.begin-device.ensures c.args.memory.now) (take_all c.loop-i.i c.args.calls.now c.loop-i-test.false)

pub returns-clause-answers : goal.returns-clause-answers
returns-clause-answers g c =
    let all_done : c.loop-i.i ≡ length c.args.calls.now = omega arith in
    ap (λ n. map shown (take n c.loop-i.answers)) (sym all_done)
    ∙ c.loop-i.invariant.3
    ∙ ap₂ (λ s cs. answers (module_device g.O.StepOutput.CYCLE) s (map event cs)) (c.begin-device.ensures c.args.memory.now) (take_all c.loop-i.i c.args.calls.now c.loop-i-test.false)

pub returns-clause-law : goal.returns-clause-law
returns-clause-law g c = module_law g.O.StepOutput.CYCLE c.args.address (g.O.StepOutput.meaning c.args.output) c.args.memory.now _ (g.met.O.StepOutput.bounded c.args.output)
