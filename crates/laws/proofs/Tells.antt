-- RS tells at any later time what an SP line stored.
use Rattle.std.proofs.Common.{◌≡◌, ℕ, suc, arith, length, Bool, true, false, List, [], ◌∷◌, ◌++◌, Some, None, Ok, Err, Option, Result, slice_index_or, sym, refl, ap, ◌∙◌, subst, is_ok}
use Rattle.std.specs.List.{AllByRecursion}
use Rattle.std.specs.Option.{option_to_list}
use Rattle.std.proofs.lemmas.Bool.{cond_both}
use Rattle.std.proofs.lemmas.List.{length-append, length-take, length-drop, length-replicate}
use Rattle.faults.specs.declared.Fault.{Fault}
use Rattle.faults.proofs.Results.{then_ok}
use Rattle.words.specs.Words.{Ahead}
use Rattle.lines.specs.Lines.{Kept}
use Rattle.phases.specs.declared.phase.Phase.{Phase}
use Rattle.phases.specs.declared.phase.Position.{Position}
use Rattle.phases.specs.Phases.{Written, blank}
use Rattle.fields.specs.declared.fields.RawPhase.{RawPhase}
use Rattle.fields.specs.Fields.{sp_form}
use Rattle.fields.specs.Values.{position_values, block_values, erase_value, sp_values}
use Rattle.texts.specs.Texts.{rs_text}
use Rattle.texts.proofs.Taken.{values_written}
use Rattle.store.specs.declared.directory.Block.{Block}
use Rattle.store.specs.Blocks.{reserved}
use Rattle.store.specs.Records.{blanked, located, read_answer, shown}
use Rattle.store.specs.Stores.{Store}
use Rattle.store.specs.Keeps.{Command as Stored, SN, SE, SP, Fit, Spares, step, run, told}
use Rattle.store.proofs.Kept.{keeps, tells, reads_written, fit_step}
use Rattle.orders.specs.declared.command.Command.{Command}
use Rattle.orders.specs.declared.command.Command.TheVariants as c
use Rattle.orders.specs.declared.order.Order.{Order}
use Rattle.orders.specs.declared.order.Order.TheVariants as o
use Rattle.orders.specs.declared.order.Situation.{Situation}
use Rattle.orders.specs.declared.order.Judgement.{Judgement}
use Rattle.orders.specs.declared.order.Judgement.TheVariants.{Own, Broadcast, Stranger}
use Rattle.orders.specs.Reading.{command_after}
use Rattle.orders.specs.Values.{start_speed, plateau_speed, slope, distance, position, outputs, existing, creatable, with_value, order_of}
use Rattle.orders.proofs.Written.{from_line}
use Rattle.control.specs.States.{situation}
use Rattle.law.specs.Events.Event.{ending}
use Rattle.law.specs.Events.Answer.{reply}
use Rattle.law.specs.History.{State, next, answer, after}
use Rattle.law.specs.Machine.{done_by}
use Rattle.module.specs.States.{obeyed_state}
use Rattle.module.specs.Lines.{outcome_of, judged_line, line_outcome}
use Rattle.module.specs.Machine.{machine, module_device}
use Rattle.laws.specs.Memory.{store_in, with_values, to_store, given_by, given_in, stored_lines, StaysFit, TellsStoredPhase}
use Rattle.laws.proofs.Accepted.{own_reads, broadcast_reads}
use Rattle.laws.proofs.Memory.{stores_accepted_lines}

-- an accepted SP line has found its record, and its phase counts as written
record Found (s : Store) (at : Position) (p : Phase) : Type 0 where
  index : ℕ
  there : located s.blocks at.sequence at.phase ≡ Ok index
  whole : Written p ≡ true

no_sn : (r : Result Block Fault) (q : Position) (p : Phase) → with_values r (λ b. SN b.number b.reserve) ≡ Some (SP q.sequence q.phase p) → ⊥
no_sn (Ok b) q p e = cc e
no_sn (Err f) q p e = cc e

no_se : (r : Result (Option ℕ) Fault) (q : Position) (p : Phase) → with_values r SE ≡ Some (SP q.sequence q.phase p) → ⊥
no_se (Ok n) q p e = cc e
no_se (Err f) q p e = cc e

module _ (at : Situation) (s : Store) where
  writes : (raw : RawPhase) (o : Order) (q : Position) (p : Phase) → (a : Ahead) × (sp_form a ≡ Ok raw) → order_of at s (c.Write raw) ≡ Ok o →
      to_store (c.Write raw) ≡ Some (SP q.sequence q.phase p) → Found s q p
  writes raw o q p a e g =
      let u = then_ok (sp_values raw) _ o e in
      let v = then_ok (located s.blocks u.0.0.sequence u.0.0.phase) _ o u.1.1 in
      let k : Some (SP u.0.0.sequence u.0.0.phase u.0.1) ≡ Some (SP q.sequence q.phase p) = ap (λ (r : Result (Position × Phase) Fault). with_values r (λ x. SP x.0.sequence x.0.phase x.1)) (sym u.1.0) ∙ g in
      let n : u.0.0.sequence ≡ q.sequence = cc k in
      let f : u.0.0.phase ≡ q.phase = cc k in
      let r : u.0.1 ≡ p = cc k in
      record {
        index = v.0;
        there = ap (λ x. located s.blocks x q.phase) (sym n) ∙ (ap (λ x. located s.blocks u.0.0.sequence x) (sym f) ∙ v.1.0);
        whole = subst (λ (x : Phase). Written x ≡ true) r (values_written a.0 raw u.0.0 u.0.1 a.1 u.1.0);
      }

  by_command : (i : ℕ) (b : Bool) (k : Kept) (x : Command) (o : Order) (q : Position) (p : Phase) → command_after i b k ≡ Ok x → order_of at s x ≡ Ok o →
      to_store x ≡ Some (SP q.sequence q.phase p) → Found s q p
  by_command i b k (c.Write raw) o q p e f g = writes raw o q p (from_line i b k raw e) f g
  by_command i b k (c.Create a) o q p e f g = absurd (no_sn (block_values a) q p g)
  by_command i b k (c.Erase n) o q p e f g = absurd (no_se (erase_value n) q p g)
  by_command i b k _ o q p e f g = absurd (cc g)

module _ (cycle : ℕ) (s : State (module_device cycle)) (at : Position) (p : Phase) where
  line_found : (j : Judgement) → judged_line s.core.rest s.line ≡ j → given_in j s.line ≡ Some (SP at.sequence at.phase p) → Found (store_in cycle s) at p
  line_found (Own (Ok o)) e g =
      let t = own_reads (situation s.core.rest.control) (store_in cycle s) s.line o e in
      by_command (situation s.core.rest.control) (store_in cycle s) 2 false s.line t.command o at p t.read t.order (ap (given_by (Ok o)) (sym t.read) ∙ g)
  line_found (Broadcast (Ok o)) e g =
      let t = broadcast_reads (situation s.core.rest.control) (store_in cycle s) s.line o e in
      by_command (situation s.core.rest.control) (store_in cycle s) 0 true s.line t.command o at p t.read t.order (ap (given_by (Ok o)) (sym t.read) ∙ g)
  line_found (Own (Err f)) e g = absurd (cc g)
  line_found (Broadcast (Err f)) e g = absurd (cc g)
  line_found Stranger e g = absurd (cc g)

-- every command leaves a store that fits
fit_after : (x : Stored) (s : Store) → Fit s → Fit (step x s)
fit_after (SN n many) s f = fit_step (SN n many) s (suc n) f (λ e. absurd (omega (arith, e)))
fit_after (SE None) s f =
    let k : length (blanked 0 (reserved s.blocks) s.records) ≡ length s.records = simp (length-append, length-take, length-replicate, length-drop) (omega (arith, f.1, f.2)) in
    (refl, omega arith, k ∙ f.2)
fit_after (SE (Some n)) s f = fit_step (SE (Some n)) s (suc n) f (λ e. absurd (omega (arith, e)))
fit_after (SP n np p) s f = fit_step (SP n np p) s (suc n) f (λ e. absurd (omega (arith, e)))

fit_all : (cs : List Stored) (s : Store) → Fit s → Fit (run cs s)
fit_all [] s f = f
fit_all (x ∷ cs) s f = fit_all cs (step x s) (fit_after x s f)

pub stays_fit : StaysFit
stays_fit cycle s h f = subst Fit (sym (stores_accepted_lines cycle s h)) (fit_all (stored_lines cycle s h) (store_in cycle s) f)

-- what RS tells after them is what was written before them
module _ (s : Store) (at : Position) (p : Phase) (f : Fit s) (h : Found s at p) where
  abbrev once : Store
  once = step (SP at.sequence at.phase p) s

  fits_once : Fit once
  fits_once = fit_after (SP at.sequence at.phase p) s f

  read_later : (cs : List Stored) → AllByRecursion (Spares at.sequence) cs → read_answer (located (run cs once).blocks at.sequence at.phase) (run cs once).records ≡ Ok (Some p)
  read_later cs a =
      tells (run cs once) at.sequence at.phase (fit_all cs once fits_once)
      ∙ (ap (λ ps. told ps at.phase) (keeps cs once at.sequence fits_once a)
      ∙ (sym (tells once at.sequence at.phase fits_once)
      ∙ reads_written s at.sequence at.phase p f h.whole (ap is_ok h.there)))

other : {A : Type 0} (r : Result A Fault) (make : A → Order) (x : Order) → with_value r make ≡ Ok x → ((v : A) → make v ≡ x → ⊥) → ⊥
other r make x e n = let t = then_ok r (λ v. Ok (make v)) x e in n t.0 (cc t.1.1)

-- the record that an accepted RS line has found
record_read : (at : Situation) (s : Store) (x : Command) (q : Position) (found : Phase) → order_of at s x ≡ Ok (o.ReadPhase q found) → read_answer (located s.blocks q.sequence q.phase) s.records ≡ Ok (shown found)
record_read at s (c.ReadPhase raw) q found e =
    let u = then_ok (position_values raw) _ (o.ReadPhase q found) e in
    let v = then_ok (located s.blocks u.0.sequence u.0.phase) _ (o.ReadPhase q found) u.1.1 in
    let k : o.ReadPhase u.0 (slice_index_or s.records v.0 blank) ≡ o.ReadPhase q found = cc v.1.1 in
    let n : u.0 ≡ q = cc k in
    let r : slice_index_or s.records v.0 blank ≡ found = cc k in
    subst (λ (x : Position). read_answer (located s.blocks x.sequence x.phase) s.records ≡ Ok (shown found)) n
    (ap (λ l. read_answer l s.records) v.1.0 ∙ ap (λ (x : Phase). Ok (shown x)) r)
record_read at s (c.StartSpeed n) q found e = absurd (other (start_speed at.plateau_speed n) o.StartSpeed _ e (λ v h. cc h))
record_read at s (c.PlateauSpeed n) q found e = absurd (other (plateau_speed at.start_speed n) o.PlateauSpeed _ e (λ v h. cc h))
record_read at s (c.Slope n) q found e = absurd (other (slope n) o.Slope _ e (λ v h. cc h))
record_read at s (c.Distance n) q found e = absurd (other (distance n) o.Distance _ e (λ v h. cc h))
record_read at s (c.SetCounter z) q found e = absurd (other (position z) o.SetCounter _ e (λ v h. cc h))
record_read at s (c.MoveTo z) q found e = absurd (other (position z) o.MoveTo _ e (λ v h. cc h))
record_read at s (c.SetOutputs n) q found e = absurd (other (outputs n) o.SetOutputs _ e (λ v h. cc h))
record_read at s (c.Create a) q found e = absurd (other (creatable s.blocks a) o.Create _ e (λ v h. cc h))
record_read at s (c.Erase n) q found e = absurd (other (erase_value n) o.Erase _ e (λ v h. cc h))
record_read at s (c.Choose n) q found e = absurd (other (existing s.blocks n) o.Choose _ e (λ v h. cc h))
record_read at s (c.Start n) q found e = absurd (other (existing s.blocks n) o.Start _ e (λ v h. cc h))
record_read at s (c.Write raw) q found e =
    let u = then_ok (sp_values raw) _ (o.ReadPhase q found) e in
    absurd (other (located s.blocks u.0.0.sequence u.0.0.phase) (λ i. o.Write i u.0.1) _ u.1.1 (λ v h. cc h))
record_read at s _ q found e = absurd (cc e)

written_found : (found p : Phase) → shown found ≡ Some p → found ≡ p
written_found found p e =
    cond_both (Written found) (Some found) None (λ x. x ≡ Some p → found ≡ p)
    (λ _ q. cc q)
    (λ _ q. absurd (cc q))
    e

module _ (cycle : ℕ) (u : State (module_device cycle)) (at : Position) (found : Phase) (e : judged_line u.core.rest u.line ≡ Own (Ok (o.ReadPhase at found))) where
  answer_is : answer (module_device cycle) u ending ≡ reply (rs_text u.core.rest.control.address at.sequence at.phase found)
  unfolding line_outcome obeyed_state
  answer_is = ap (λ (j : Judgement). reply (done_by (machine cycle) u.core (outcome_of cycle u.core.rest j)).1) e

  answer_of : (p : Phase) → read_answer (located (store_in cycle u).blocks at.sequence at.phase) (store_in cycle u).records ≡ Ok (Some p) →
      answer (module_device cycle) u ending ≡ reply (rs_text u.core.rest.control.address at.sequence at.phase p)
  answer_of p h =
      let t = own_reads (situation u.core.rest.control) (store_in cycle u) u.line (o.ReadPhase at found) e in
      let k : shown found ≡ Some p = cc (sym (record_read (situation u.core.rest.control) (store_in cycle u) t.command at found t.order) ∙ h) in
      answer_is ∙ ap (λ (x : Phase). reply (rs_text u.core.rest.control.address at.sequence at.phase x)) (written_found found p k)

pub tells_stored_phase : TellsStoredPhase
tells_stored_phase cycle s h at p found f g a e =
    let first = next (module_device cycle) s ending in
    let later = after (module_device cycle) first h in
    let m = store_in cycle s in
    let once : store_in cycle first ≡ step (SP at.sequence at.phase p) m = stores_accepted_lines cycle s (ending ∷ []) ∙ ap (λ x. run (option_to_list x ++ []) m) g in
    let all : store_in cycle later ≡ run (stored_lines cycle first h) (step (SP at.sequence at.phase p) m) = stores_accepted_lines cycle first h ∙ ap (run (stored_lines cycle first h)) once in
    let there = line_found cycle s at p (judged_line s.core.rest s.line) refl g in
    answer_of cycle later at found e p
    (subst (λ (t : Store). read_answer (located t.blocks at.sequence at.phase) t.records ≡ Ok (Some p)) (sym all)
    (read_later m at p f there (stored_lines cycle first h) a))
