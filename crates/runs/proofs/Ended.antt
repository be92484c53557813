-- The end that is told of a run is the one that the rules give.
use Rattle.std.proofs.Common.{◌≡◌, ℕ, zero, suc, Bool, true, false, cond, eqb, leb, List, [], ◌∷◌, length, ℤ, is_some, Some, None, Option, refl, sym, ap, ◌∙◌, subst, arith}
use Rattle.std.specs.Prelude.{◌&&◌, ◌↔◌, is_none, unwrap_or}
use Rattle.std.proofs.Math.Dec.{eqb-suc-zero}
use Rattle.std.proofs.lemmas.Bool.{and_parts}
use Rattle.faults.specs.declared.Fault.{Fault}
use Rattle.phases.specs.declared.phase.Phase.{Phase}
use Rattle.phases.specs.declared.phase.Position.{Position}
use Rattle.motion.specs.Motions.{Motion, tick_rest}
use Rattle.engine.specs.Progress.{Progress, PhaseState, entering, moving, waiting, to_enter, upcoming}
use Rattle.engine.specs.Leaving.{returns_from}
use Rattle.engine.specs.Ticks.{tick as run_tick}
use Rattle.engine.specs.Rules.{Event, continues, over, unwritten, ended_by_ge, ends_entering, entry_event, movement_event, state_event}
use Rattle.control.specs.States.{State as Control, Activity, resting, moving as going, running, is_busy, runs_on, upcoming_in, open_in}
use Rattle.control.specs.Ticks.{run_outcome, ticked, tick_effects}
use Rattle.law.specs.Events.Event.{tick}
use Rattle.law.specs.History.{State, next}
use Rattle.law.specs.Machine.{latest}
use Rattle.module.specs.States.{ticked_state}
use Rattle.module.specs.Machine.{module_device, fault_kept}
use Rattle.history.specs.Hosts.{phase_in}
use Rattle.runs.specs.Ticks.{run_for}
use Rattle.runs.specs.Endings.{program_in, moment_in, event_in, ComesToStop, at_phase, at_return, ComesToNoPhase, is_started, EndsByTheRules}
use Rattle.runs.specs.Runs.{busy_in, missing_at, missing_in, is_endless, fault_in, ended_by, EndsAs}
use Rattle.runs.specs.declared.report.Report.{Report}
use Rattle.runs.specs.declared.report.Ending.{Ending}
use Rattle.runs.specs.declared.report.Ending.TheVariants.{Stop, NoPhase}
use Rattle.runs.proofs.EndingLemmas.{Clean, never, kind_of, kind_by, tick_kind, over_stop, stop_kind, NotStopped, NotGe, not_ge, Kept, kept_tick}

-- ---- what a tick of a run does to the module

abbrev left : Option Progress → Activity
left None = resting
left (Some r) = running r

runs_left : (s : Control) (r : Option Progress) → (runs_on s r).activity ≡ left r
runs_left s None = refl
runs_left s (Some r) = refl

ticked_left : (s : Control) (m : List Phase) (z : ℤ) (c : Progress) →
    (ticked s m z (running c)).activity ≡ left (run_tick (record { blocks = s.blocks; records = m; values = s.settings.values }) (record { counter = z; levels = s.levels }) c).rest
unfolding run_outcome
ticked_left s m z c =
    let o = run_outcome s m z c in runs_left (record s { outputs = unwrap_or o.effects.outputs s.outputs }) o.rest

effects_running : (s : Control) (m : List Phase) (z : ℤ) (c : Progress) →
    (tick_effects s m z (running c)).fault ≡ (run_tick (record { blocks = s.blocks; records = m; values = s.settings.values }) (record { counter = z; levels = s.levels }) c).effects.fault
unfolding run_outcome
effects_running s m z c = refl

module _ (y : ℕ) (s : State (module_device y)) where
  abbrev doing : Activity
  doing = s.core.rest.control.activity

  abbrev later : State (module_device y)
  later = next (module_device y) s tick

  activity_later : later.core.rest.control.activity ≡ (ticked s.core.rest.control s.core.rest.records s.core.rest.axis.counter doing).activity
  unfolding ticked_state
  activity_later = refl

  -- the module was busy before a tick after which it is busy
  busy_at : (d : Activity) → doing ≡ d → is_busy (ticked s.core.rest.control s.core.rest.records s.core.rest.axis.counter d).activity ≡ true → is_busy doing ≡ true
  busy_at resting e h = h
  busy_at (going m) e h = ap is_busy e
  busy_at (running c) e h = ap is_busy e

  busy_before : is_busy later.core.rest.control.activity ≡ true → is_busy doing ≡ true
  busy_before h = busy_at doing refl (sym (ap is_busy activity_later) ∙ h)

  module _ (c : Progress) (runs : doing ≡ running c) where
    abbrev outcome_rest : Option Progress
    outcome_rest = (run_tick (program_in y s) (moment_in y s) c).rest

    abbrev outcome_fault : Option Fault
    outcome_fault = (run_tick (program_in y s) (moment_in y s) c).effects.fault

    run_later : later.core.rest.control.activity ≡ left outcome_rest
    run_later =
        activity_later
        ∙ ap (λ d. (ticked s.core.rest.control s.core.rest.records s.core.rest.axis.counter d).activity) runs
        ∙ ticked_left s.core.rest.control s.core.rest.records s.core.rest.axis.counter c

    fault_later : later.core.fault ≡ latest s.core.fault (fault_kept outcome_fault)
    fault_later =
        ap (λ d. latest s.core.fault (fault_kept (tick_effects s.core.rest.control s.core.rest.records s.core.rest.axis.counter d).fault)) runs
        ∙ ap (λ f. latest s.core.fault (fault_kept f)) (effects_running s.core.rest.control s.core.rest.records s.core.rest.axis.counter c)

    -- ---- the place without a phase

    abbrev found : ℕ → Option Position → Option Position
    found n None = None
    found n (Some at) = cond (eqb n 0 && is_none (phase_in y s at)) (Some at) None

    found_is : (o : Option Position) → missing_at y s o ≡ found (open_in doing) o
    found_is None = refl
    found_is (Some at) = refl

    missing_is : missing_in y s ≡ found (length c.returns) (upcoming c)
    missing_is = found_is (upcoming_in doing) ∙ ap (λ d. found (open_in d) (upcoming_in d)) runs

    abbrev IsOver : Event → Type 0
    IsOver (over p) = Unit {0}
    IsOver _ = ⊥

    abbrev IsUnwritten : Event → Type 0
    IsUnwritten unwritten = Unit {0}
    IsUnwritten _ = ⊥

    either_written : {A : Type 0} (b : Bool) (p : Phase) → IsUnwritten (cond b (over p) continues) → A
    either_written true p h = absurd h
    either_written false p h = absurd h

    movement_written : {A : Type 0} (p : Phase) (b : Bool) (r : Option Motion) → IsUnwritten (movement_event p b r) → A
    movement_written p b (Some m) h = absurd h
    movement_written p true None h = absurd h
    movement_written p false None h = absurd h

    no_more : (b : Bool) (x : Option Position) → cond (b && false) x None ≡ None
    no_more true x = refl
    no_more false x = refl

    entry_over : (n : ℕ) (o : Option Phase) → IsOver (entry_event s.core.rest.axis.counter o) → cond (eqb n 0 && is_none o) (Some c.at) None ≡ None
    entry_over n None h = absurd h
    entry_over n (Some p) h = no_more (eqb n 0) (Some c.at)

    -- where a phase ends, none is missing
    over_found : (n : ℕ) (a : PhaseState) → IsOver (state_event (program_in y s) (moment_in y s) c.at a) → found n (to_enter a c.at) ≡ None
    over_found n entering h = entry_over n (phase_in y s c.at) h
    over_found n (moving p m) h = refl
    over_found n (waiting p k) h = refl

    opened_found : (q : Option Position) (qs : List (Option Position)) (o : Option Position) → found (length (q ∷ qs)) o ≡ None
    opened_found q qs None = refl
    opened_found q qs (Some at) = ap (λ b. cond (b && is_none (phase_in y s at)) (Some at) None) (eqb-suc-zero (length qs))

    stop_found : ComesToStop y s c → found (length c.returns) (upcoming c) ≡ None
    stop_found (at_phase p o l n) = over_found (length c.returns) c.state (subst IsOver (sym o.0) tt)
    stop_found (at_return earlier e k) = ap (λ qs. found (length qs) (upcoming c)) k ∙ opened_found None earlier (upcoming c)

    entry_unwritten : (o : Option Phase) → IsUnwritten (entry_event s.core.rest.axis.counter o) → cond (is_none o) (Some c.at) None ≡ Some c.at
    entry_unwritten None h = refl
    entry_unwritten (Some p) h = either_written (ends_entering s.core.rest.axis.counter p p.nature) p h

    unwritten_found : (a : PhaseState) → IsUnwritten (state_event (program_in y s) (moment_in y s) c.at a) → found 0 (to_enter a c.at) ≡ Some c.at
    unwritten_found entering h = entry_unwritten (phase_in y s c.at) h
    unwritten_found (moving p m) h = movement_written p m.stopping (tick_rest m) h
    unwritten_found (waiting p k) h = either_written (leb k 1) p h

    no_phase_found : (at : Position) → ComesToNoPhase y s c at → found (length c.returns) (upcoming c) ≡ Some at
    no_phase_found at h =
        ap (λ qs. found (length qs) (upcoming c)) h.none_open ∙ unwritten_found c.state (subst IsUnwritten (sym h.missing) tt) ∙ ap Some h.place

    none_some : {A : Type 0} (at : Position) → ◌≡◌ {A = Option Position} None (Some at) → A
    none_some at e = let P : Option Position → Type 0 = λ o. elim o [ None ↦ Unit {0} | Some q ↦ ⊥ ] in absurd (subst P e tt)

    -- where none is written, one may be missing
    abbrev Missing : Position → List (Option Position) → PhaseState → Type 0
    Missing at qs a = (c.at ≡ at) × (state_event (program_in y s) (moment_in y s) c.at a ≡ unwritten) × (qs ≡ [])

    entry_found : (at : Position) (qs : List (Option Position)) (o : Option Phase) → cond (eqb (length qs) 0 && is_none o) (Some c.at) None ≡ Some at →
        (c.at ≡ at) × (entry_event s.core.rest.axis.counter o ≡ unwritten) × (qs ≡ [])
    entry_found at [] None e = (ap (λ q. unwrap_or q c.at) e, refl, refl)
    entry_found at [] (Some p) e = none_some at e
    entry_found at (q ∷ qs) o e = none_some at (sym (ap (λ b. cond (b && is_none o) (Some c.at) None) (eqb-suc-zero (length qs))) ∙ e)

    state_found : (at : Position) (a : PhaseState) → found (length c.returns) (to_enter a c.at) ≡ Some at → Missing at c.returns a
    state_found at entering e = entry_found at c.returns (phase_in y s c.at) e
    state_found at (moving p m) e = none_some at e
    state_found at (waiting p k) e = none_some at e

    found_no_phase : (at : Position) → found (length c.returns) (upcoming c) ≡ Some at → ComesToNoPhase y s c at
    found_no_phase at e = let m = state_found at c.state e in record { place = m.0; missing = m.1; none_open = m.2 }

    -- ---- the stop

    abbrev Ending_by : Event → Type 0
    Ending_by e = Clean (kind_by (program_in y s) (moment_in y s) c e)

    returning : (qs : List (Option Position)) → c.returns ≡ qs → event_in y s c ≡ unwritten → (c.returns ≡ [] → ⊥) → Clean (kind_of (returns_from c qs) None) → ComesToStop y s c
    returning [] k e none h = absurd (none k)
    returning (None ∷ qs) k e none h = at_return qs e k
    returning (Some q ∷ qs) k e none h = absurd h

    stopping : (e : Event) → event_in y s c ≡ e → NotGe e → (e ≡ unwritten → c.returns ≡ [] → ⊥) → Ending_by e → ComesToStop y s c
    stopping continues k n none h = absurd h
    stopping (over p) k n none h = let stops = over_stop (program_in y s) (moment_in y s) c p h in at_phase p (k, stops.0) stops.1 stops.2
    stopping unwritten k n none h = returning c.returns refl k (none refl) h
    stopping ended_by_ge k n none h = absurd n

    stops : NotStopped c.state → found (length c.returns) (upcoming c) ≡ None → Clean (kind_of outcome_rest outcome_fault) → ComesToStop y s c
    stops h none clean =
        stopping (event_in y s c) refl (not_ge (program_in y s) (moment_in y s) c.at c.state h)
        (λ e k. none_some c.at (sym none ∙ no_phase_found c.at (record { place = refl; missing = e; none_open = k })))
        (subst Clean (tick_kind (program_in y s) (moment_in y s) c) clean)

    stop_clean : ComesToStop y s c → Ending_by (event_in y s c)
    stop_clean (at_phase p o l n) =
        subst Clean (sym (ap (kind_by (program_in y s) (moment_in y s) c) o.0 ∙ stop_kind (program_in y s) (moment_in y s) c p (o.1, l, n))) tt
    stop_clean (at_return earlier e k) =
        subst Clean (sym (ap (kind_by (program_in y s) (moment_in y s) c) e ∙ ap (λ qs. kind_of (returns_from c qs) None) k)) tt

    no_phase_clean : (at : Position) → ComesToNoPhase y s c at → Ending_by (event_in y s c)
    no_phase_clean at h =
        subst Clean (sym (ap (kind_by (program_in y s) (moment_in y s) c) h.missing ∙ ap (λ qs. kind_of (returns_from c qs) None) h.none_open)) tt

    clean_parts : (r : Option Progress) (f : Option Fault) → Clean (kind_of r f) → (left r ≡ resting) × (f ≡ None)
    clean_parts None None h = (refl, refl)
    clean_parts None (Some f) h = absurd h
    clean_parts (Some r) f h = absurd h

    -- a tick that ends the run without a fault
    ends_clean : s.core.fault ≡ None → Ending_by (event_in y s c) → (is_busy later.core.rest.control.activity ≡ false) × (later.core.fault ≡ None)
    ends_clean none h =
        let parts = clean_parts outcome_rest outcome_fault (subst Clean (sym (tick_kind (program_in y s) (moment_in y s) c)) h) in
        (ap is_busy (run_later ∙ parts.0), fault_later ∙ ap (λ f. latest s.core.fault (fault_kept f)) parts.1 ∙ none)

    clean_at : (r : Option Progress) (f : Option Fault) → is_busy (left r) ≡ false → latest s.core.fault (fault_kept f) ≡ None → Clean (kind_of r f)
    clean_at None None h k = tt
    clean_at None (Some f) h k = let P : Option Fault → Type 0 = λ o. elim o [ None ↦ ⊥ | Some q ↦ Unit {0} ] in subst P k tt
    clean_at (Some r) f h k = never h refl

    clean_end : is_busy later.core.rest.control.activity ≡ false → later.core.fault ≡ None → Clean (kind_of outcome_rest outcome_fault)
    clean_end h k = clean_at outcome_rest outcome_fault (sym (ap is_busy run_later) ∙ h) (sym fault_later ∙ k)

    goes_on_at : (r : Option Progress) → outcome_rest ≡ r → NotStopped c.state → is_busy (left r) ≡ true →
        (d : Progress) × (later.core.rest.control.activity ≡ running d) × NotStopped d.state × (later.core.fault ≡ s.core.fault)
    goes_on_at None e h busy = never refl busy
    goes_on_at (Some d) e h busy =
        let kept = subst (λ r. Kept r outcome_fault) e (kept_tick (program_in y s) (moment_in y s) c h) in
        (d, run_later ∙ ap left e, kept.0, fault_later ∙ ap (λ f. latest s.core.fault (fault_kept f)) kept.1)

    goes_on : NotStopped c.state → is_busy later.core.rest.control.activity ≡ true →
        (d : Progress) × (later.core.rest.control.activity ≡ running d) × NotStopped d.state × (later.core.fault ≡ s.core.fault)
    goes_on h busy = goes_on_at outcome_rest refl h (sym (ap is_busy run_later) ∙ busy)

-- ---- a run that has been started

module _ (y : ℕ) where
  abbrev Going : State (module_device y) → Type 0
  Going s = (c : Progress) × (s.core.rest.control.activity ≡ running c) × NotStopped c.state × (s.core.fault ≡ None)

  abbrev Started : State (module_device y) → Type 0
  Started s = (c : Progress) × (s.core.rest.control.activity ≡ running c) × NotStopped c.state × (s.core.fault ≡ None)

  none_recorded : (f : Option Fault) → is_none f ≡ true → f ≡ None
  none_recorded None e = refl
  none_recorded (Some f) e = absurd (cc e)

  at_entry : (s : State (module_device y)) (c : Progress) (a : PhaseState) → s.core.rest.control.activity ≡ running c → c.state ≡ a → is_some (to_enter a c.at) ≡ true → s.core.fault ≡ None → Started s
  at_entry s c entering e h u none = (c, e, subst NotStopped (sym h) tt, none)
  at_entry s c (moving p m) e h u none = absurd (cc u)
  at_entry s c (waiting p n) e h u none = absurd (cc u)

  by_activity : (s : State (module_device y)) (d : Activity) → s.core.rest.control.activity ≡ d → is_some (upcoming_in d) ≡ true → s.core.fault ≡ None → Started s
  by_activity s resting e u none = absurd (cc u)
  by_activity s (going m) e u none = absurd (cc u)
  by_activity s (running c) e u none = at_entry s c c.state e refl u none

  as_started : (s : State (module_device y)) → is_started y s ≡ true → Started s
  as_started s e = let h = and_parts _ _ e in by_activity s s.core.rest.control.activity refl h.0 (none_recorded s.core.fault h.1)

  going_after : (begun : State (module_device y)) (k : ℕ) → Started begun → busy_in y (run_for y k begun) ≡ true → Going (run_for y k begun)
  going_after begun zero start busy = start
  going_after begun (suc k) start busy =
      let s = run_for y k begun in
      let (c, runs, h, none) = going_after begun k start (busy_before y s busy) in
      let (d, on, still, same) = goes_on y s c runs h busy in
      (d, on, still, same ∙ none)

  module _ (s : State (module_device y)) (r : Report) (c : Progress) (runs : s.core.rest.control.activity ≡ running c) (h : NotStopped c.state) (none : s.core.fault ≡ None)
      (ended : EndsAs y (next (module_device y) s tick) r) (place : is_endless r.ending ≡ false → fault_in r.ending ≡ None → r.ending ≡ ended_by (missing_in y s)) where
    by_none : (o : Option Position) → Stop ≡ ended_by o → o ≡ None
    by_none None e = refl
    by_none (Some at) e = let P : Ending → Type 0 = λ x. elim x [ Stop ↦ Unit {0} | _ ↦ ⊥ ] in absurd (subst P e tt)

    by_some : (at : Position) (o : Option Position) → NoPhase at ≡ ended_by o → o ≡ Some at
    by_some at None e = let P : Ending → Type 0 = λ x. elim x [ Stop ↦ ⊥ | _ ↦ Unit {0} ] in absurd (subst P e tt)
    by_some at (Some q) e = let place : Ending → Position = λ x. elim x [ NoPhase q ↦ q | _ ↦ at ] in ap (λ x. Some (place x)) (sym e)

    told_stop : r.ending ≡ Stop → ComesToStop y s c
    told_stop e =
        let rests = ap is_endless e in
        let clean = ap fault_in e in
        let missing = by_none (missing_in y s) (sym e ∙ place rests clean) in
        stops y s c runs h (sym (missing_is y s c runs) ∙ missing)
        (clean_end y s c runs (sym ended.endless ∙ rests) (sym (ended.fault rests) ∙ clean))

    told_no_phase : (at : Position) → r.ending ≡ NoPhase at → ComesToNoPhase y s c at
    told_no_phase at e =
        found_no_phase y s c runs at (sym (missing_is y s c runs) ∙ by_some at (missing_in y s) (sym e ∙ place (ap is_endless e) (ap fault_in e)))

    ended_as : (o : Option Position) → found y s c runs (length c.returns) (upcoming c) ≡ o → Clean (kind_by (program_in y s) (moment_in y s) c (event_in y s c)) → r.ending ≡ ended_by o
    ended_as o e clean =
        let end = ends_clean y s c runs none clean in
        let rests = ended.endless ∙ end.0 in
        place rests (ended.fault rests ∙ end.1) ∙ ap ended_by (missing_is y s c runs ∙ e)

    pub ends_by_the_rules : ((r.ending ≡ Stop) ↔ ComesToStop y s c) × ((at : Position) → (r.ending ≡ NoPhase at) ↔ ComesToNoPhase y s c at)
    ends_by_the_rules = (
      (told_stop, λ stop. ended_as None (stop_found y s c runs stop) (stop_clean y s c runs stop)),
      λ at. (told_no_phase at, λ missing. ended_as (Some at) (no_phase_found y s c runs at missing) (no_phase_clean y s c runs at missing)),
    )

  module _ (begun : State (module_device y)) (r : Report) (ended : EndsAs y (run_for y r.ticks begun) r)
      (last : (k : ℕ) → r.ticks ≡ suc k → busy_in y (run_for y k begun) ≡ true)
      (place : (k : ℕ) → r.ticks ≡ suc k → is_endless r.ending ≡ false → fault_in r.ending ≡ None → r.ending ≡ ended_by (missing_in y (run_for y k begun)))
      (cut : is_endless r.ending ≡ true → r.ticks ≡ 24000000) where
    -- a run that has been started has a tick
    ticks_not_none : Started begun → r.ticks ≡ 0 → ⊥
    ticks_not_none (n, runs, h, none) e =
        let endless : is_endless r.ending ≡ true = ended.endless ∙ ap (λ k. busy_in y (run_for y k begun)) e ∙ ap is_busy runs in
        let most = cut endless in
        absurd (omega (arith, e, most))

    ruled : (ticks : ℕ) → r.ticks ≡ ticks → Started begun → EndsByTheRules y begun r
    ruled zero e start = absurd (ticks_not_none start e)
    ruled (suc k) e start =
        let (c, runs, h, none) = going_after begun k start (last k e) in
        let told = ends_by_the_rules (run_for y k begun) r c runs h none (subst (λ n. EndsAs y (run_for y n begun) r) e ended) (place k e) in
        (k, c, e, runs, told.0, told.1)

    pub run_ruled : is_started y begun ≡ true → EndsByTheRules y begun r
    run_ruled start = ruled r.ticks refl (as_started begun start)
