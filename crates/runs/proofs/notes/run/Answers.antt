use Rattle.std.proofs.Common.{rules, ◌≡◌, ℕ, ◌+◌, suc, true, false, None, refl, ap, sym, subst, ◌∙◌, arith}
use Rattle.law.specs.Events.Event.{tick}
use Rattle.law.specs.History.{State, next}
use Rattle.module.specs.Machine.{module_device}
use Rattle.history.specs.Hosts.{state_of}
use Rattle.runs.specs.Ticks.{run_for}
use Rattle.runs.specs.Endings.{is_started}
use Rattle.runs.specs.Notes.{Noted, noted, nothing, completed, ticked, Within}
use Rattle.runs.specs.Runs.{called, busy_in, missing_in, ended_by, is_endless, fault_in, EndsAs, WasRun}
use Rattle.runs.specs.Rows.{rows_of, listed, left_out_of}
use Rattle.runs.proofs.Bounds.{fits_ticked}
use Rattle.runs.proofs.Ended.{run_ruled}
use Rattle.runs.proofs.RowLemmas.{in_the_end, tick_kept, rows_noted}
use Rattle.runs.proofs.notes.run.Goals as goal

pub loop-init : goal.loop-init
loop-init g c =
    let y = g.O.StepOutput.CYCLE in
    let start = state_of y c.send_own-5.new.self in
    let sum = λ (left : ℕ). (let e : left ≡ 0 + left = omega arith in e) in (
      c.new-notes.ensures.ticks,
      refl,
      λ k e. absurd (omega (arith, e)),
      λ k e. absurd (omega (arith, e)),
      subst (Within (noted c.new-notes.result)) (sym c.new-notes.ensures.ticks) c.new-notes.ensures.within,
      λ left. ap (in_the_end y left 1 start) c.new-notes.ensures.noted ∙ ap (λ k. in_the_end y k 1 start nothing) (sum left),
    )

pub loop-preserved : goal.loop-preserved
loop-preserved g c =
    let y = g.O.StepOutput.CYCLE in
    let n = c.loop.counter in
    let start = state_of y c.send_own-5.new.self in
    let s = state_of y c.loop.host in
    let before = c.loop.notes in
    let after = c.tick.new.self in
    let more : suc n ≡ n + 1 = omega arith in
    let busy : busy_in y (run_for y n start) ≡ true = sym (ap (busy_in y) c.loop.invariant.1) ∙ search rules in
    let ticks : after.ticks ≡ suc before.ticks = c.in_ok-tick.ensures.ticks in
    let notes : noted after ≡ ticked y s (suc before.ticks) (noted before) = c.in_ok-tick.ensures.noted in (
      ticks ∙ (ap suc c.loop.invariant.0 ∙ more),
      c.tick.ensures.state ∙ (ap (λ s. next (module_device y) s tick) c.loop.invariant.1 ∙ ap (λ k. run_for y k start) more),
      λ k e. subst (λ m. busy_in y (run_for y m start) ≡ true) (omega arith) busy,
      λ k e. let P : ℕ → Type 0 = λ m. c.tick.new.self.missing ≡ missing_in y (run_for y m start) in
          subst P (omega arith) (c.in_ok-tick.ensures.missing ∙ ap (missing_in y) c.loop.invariant.1),
      let P : Noted → Type 0 = λ m. Within m after.ticks in
          let Q : ℕ → Type 0 = λ k. Within (ticked y s (suc before.ticks) (noted before)) k in
          subst P (sym notes) (subst Q (sym ticks) (fits_ticked y s before.ticks (noted before) c.loop.invariant.4)),
      λ left.
          let now : state_of y c.tick.new.host ≡ next (module_device y) s tick = c.tick.ensures.state in
          let number : suc before.ticks ≡ suc n = ap suc c.loop.invariant.0 in
          let sum : n + suc left ≡ n + 1 + left = omega arith in
          ap (λ k. in_the_end y left (suc k) (state_of y c.tick.new.host) (noted after)) (sym more)
          ∙ ap (λ h. in_the_end y left (suc (suc n)) h (noted after)) now
          ∙ ap (in_the_end y left (suc (suc n)) (next (module_device y) s tick)) (notes ∙ ap (λ k. ticked y s k (noted before)) number)
          ∙ tick_kept y left (suc n) s (noted before)
          ∙ c.loop.invariant.5 (suc left)
          ∙ ap (λ k. in_the_end y k 1 start nothing) sum,
    )

pub tick-requires-clause-within : goal.tick-requires-clause-within
tick-requires-clause-within g c = c.loop.invariant.4

pub complete-requires : goal.complete-requires
complete-requires g c = omega (arith, c.loop.invariant.4.times)

pub returns-clause-run : goal.returns-clause-run
returns-clause-run g c =
    let y = g.O.StepOutput.CYCLE in
    let start = state_of y c.send_own-5.new.self in
    let r = c.report.result in
    let told = rows_noted y c.loop.counter start (state_of y c.loop.host) (noted c.loop.notes) (c.loop.invariant.5 0) in
    let ticks : r.ticks ≡ c.loop.counter = c.report.ensures.ticks ∙ c.complete.ensures.ticks ∙ c.loop.invariant.0 in
    let notes : noted c.complete.new.self ≡ completed (noted c.loop.notes) c.loop.notes.last = c.in_ok-complete.ensures.noted in
    let begun : start ≡ called y c.args.sequence (state_of y c.args.host.now) = search rules in
    let P : State (module_device y) → Type 0 = λ s. WasRun y s r in
    let ended : EndsAs y (run_for y r.ticks start) r = subst (λ n. EndsAs y (run_for y n start) r) (sym ticks) (subst (λ s. EndsAs y s r) c.loop.invariant.1 c.report.ensures.ended) in
    let last : (k : ℕ) → r.ticks ≡ suc k → busy_in y (run_for y k start) ≡ true = λ k e. c.loop.invariant.2 k (sym ticks ∙ e) in
    let place : (k : ℕ) → r.ticks ≡ suc k → is_endless r.ending ≡ false → fault_in r.ending ≡ None → r.ending ≡ ended_by (missing_in y (run_for y k start)) =
    λ k e a b. c.report.ensures.place a b ∙ ap ended_by (c.complete.ensures.missing ∙ c.loop.invariant.3 k (sym ticks ∙ e)) in
    let cut : is_endless r.ending ≡ true → r.ticks ≡ 24000000 = search rules in
    let started : r.started ≡ is_started y start = c.report.ensures.started ∙ search rules in
    subst P begun (record {
      ended = ended;
      last = last;
      place = place;
      cut = cut;
      most = omega (arith, ticks, c.loop.auto.counter-end);
      rows = c.report.ensures.rows ∙ ap (λ (n : Noted). n.rows) notes ∙ told.0 ∙ ap (λ n. listed (rows_of y n start)) (sym ticks);
      left_out = c.report.ensures.left_out ∙ ap (λ (n : Noted). n.left_out) notes ∙ told.1 ∙ ap (λ n. left_out_of (rows_of y n start)) (sym ticks);
      started = started;
      rules = λ e. run_ruled y start r ended last place cut (sym started ∙ e);
    })
