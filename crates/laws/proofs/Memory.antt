-- The phase memory over whole histories.
use Rattle.std.proofs.Common.{◌≡◌, ℕ, List, [], ◌∷◌, ◌++◌, Some, None, Ok, Err, Option, Result, inl, inr, slice_index_or, sym, refl, ap, ◌∙◌}
use Rattle.std.specs.Option.{option_to_list}
use Rattle.faults.specs.declared.Fault.{Fault}
use Rattle.faults.specs.Faults.{and_then}
use Rattle.faults.proofs.Results.{then_ok}
use Rattle.phases.specs.declared.phase.Phase.{Phase}
use Rattle.phases.specs.declared.phase.Position.{Position}
use Rattle.phases.specs.Phases.{blank}
use Rattle.fields.specs.declared.fields.RawPosition.{RawPosition}
use Rattle.fields.specs.declared.fields.RawPhase.{RawPhase}
use Rattle.fields.specs.Values.{position_values, block_values, erase_value, sp_values}
use Rattle.store.specs.declared.directory.Block.{Block}
use Rattle.store.specs.Records.{create_answer, located, rewritten}
use Rattle.store.specs.Stores.{Store}
use Rattle.store.specs.Keeps.{Command as Stored, SN, SE, SP, step, run}
use Rattle.orders.specs.declared.command.Command.{Command}
use Rattle.orders.specs.declared.command.Command.TheVariants.{StartSpeed, PlateauSpeed, Slope, Distance, SetCounter, MoveTo, SetOutputs, Create, Erase, Choose, Start, Write, ReadPhase}
use Rattle.orders.specs.declared.order.Order.{Order}
use Rattle.orders.specs.declared.order.Order.TheVariants as o
use Rattle.orders.specs.declared.order.Situation.{Situation}
use Rattle.orders.specs.declared.order.Judgement.{Judgement}
use Rattle.orders.specs.declared.order.Judgement.TheVariants.{Own, Broadcast, Stranger}
use Rattle.orders.specs.Values.{start_speed, plateau_speed, slope, distance, position, outputs, existing, creatable, with_value, read_phase, order_of}
use Rattle.control.specs.States.{situation, store_of}
use Rattle.control.proofs.Kept.{through_restart, through_tick}
use Rattle.law.specs.Events.{Event}
use Rattle.law.specs.Events.Event.{stopped, skipped, letter, ending, tick, levels, power_up}
use Rattle.law.specs.History.{State as Whole, next}
use Rattle.law.specs.Machine.{done_by}
use Rattle.module.specs.States.{ModuleState, ticked_state}
use Rattle.module.specs.Lines.{outcome_of, judged_line, line_outcome}
use Rattle.module.specs.Machine.{machine, module_device}
use Rattle.laws.specs.Done.{StoreAfter}
use Rattle.laws.specs.Memory.{store_in, with_values, to_store, given_by, given_in, stored_at, stored_lines, StoresAcceptedLines}
use Rattle.laws.proofs.Accepted.{own_reads, broadcast_reads, made, alone}
use Rattle.laws.proofs.Done.{accepted_is_done, same_blocks}

-- what an order does to the store is what its command says to it
module _ (at : Situation) (s t : Store) where
  abbrev By : Option Stored → Order → Type 0
  By c x = StoreAfter s x t → t ≡ run (option_to_list c) s

  -- writing at a record is writing at any position that lies there
  written : (a q : Position) (index : ℕ) (p : Phase) → located s.blocks a.sequence a.phase ≡ Ok index → located s.blocks q.sequence q.phase ≡ Ok index →
      step (SP q.sequence q.phase p) s ≡ step (SP a.sequence a.phase p) s
  written a q index p e f = ap (λ (r : Result ℕ Fault). record { blocks = s.blocks; records = rewritten r p s.records }) (f ∙ sym e)

  creates : (a : RawPosition) (b : Block) → creatable s.blocks a ≡ Ok b → with_values (block_values a) (λ x. SN x.number x.reserve) ≡ Some (SN b.number b.reserve)
  creates a b e =
      let u = then_ok (block_values a) _ b e in
      let v = then_ok (create_answer s.blocks u.0.number u.0.reserve) _ b u.1.1 in
      let k : u.0 ≡ b = cc v.1.1 in
      ap (λ (r : Result Block Fault). with_values r (λ x. SN x.number x.reserve)) u.1.0 ∙ ap (λ (x : Block). Some (SN x.number x.reserve)) k

  writes : (p : RawPhase) (x : Order) → and_then (sp_values p) (λ a. with_value (located s.blocks a.0.sequence a.0.phase) (λ i. o.Write i a.1)) ≡ Ok x → StoreAfter s x t →
      t ≡ run (option_to_list (with_values (sp_values p) (λ a. SP a.0.sequence a.0.phase a.1))) s
  writes p x e =
      let u = then_ok (sp_values p) (λ a. with_value (located s.blocks a.0.sequence a.0.phase) (λ i. o.Write i a.1)) x e in
      let a = u.0.0 in
      made (By (with_values (sp_values p) (λ a. SP a.0.sequence a.0.phase a.1))) (located s.blocks a.sequence a.phase) (λ i. o.Write i u.0.1) x u.1.1
      (λ i f h. h.2 ∙ (written a h.0 i u.0.1 f h.1 ∙ ap (λ (r : Result (Position × Phase) Fault). run (option_to_list (with_values r (λ a. SP a.0.sequence a.0.phase a.1))) s) (sym u.1.0)))

  by_command : (c : Command) (x : Order) → order_of at s c ≡ Ok x → StoreAfter s x t → t ≡ run (option_to_list (to_store c)) s
  by_command (Create a) x e = made (By (to_store (Create a))) (creatable s.blocks a) o.Create x e (λ b f h. h ∙ ap (λ c. run (option_to_list c) s) (sym (creates a b f)))
  by_command (Erase n) x e = made (By (to_store (Erase n))) (erase_value n) o.Erase x e (λ m f h. h ∙ ap (λ (r : Result (Option ℕ) Fault). run (option_to_list (with_values r SE)) s) (sym f))
  by_command (Write p) x e = writes p x e
  by_command (StartSpeed n) x e = made (By None) (start_speed at.plateau_speed n) o.StartSpeed x e (λ v f h. h)
  by_command (PlateauSpeed n) x e = made (By None) (plateau_speed at.start_speed n) o.PlateauSpeed x e (λ v f h. h)
  by_command (Slope n) x e = made (By None) (slope n) o.Slope x e (λ v f h. h)
  by_command (Distance n) x e = made (By None) (distance n) o.Distance x e (λ v f h. h)
  by_command (SetCounter z) x e = made (By None) (position z) o.SetCounter x e (λ v f h. h)
  by_command (MoveTo z) x e = made (By None) (position z) o.MoveTo x e (λ v f h. h)
  by_command (SetOutputs n) x e = made (By None) (outputs n) o.SetOutputs x e (λ v f h. h)
  by_command (Choose n) x e = made (By None) (existing s.blocks n) o.Choose x e (λ v f h. h)
  by_command (Start n) x e = made (By None) (existing s.blocks n) o.Start x e (λ v f h. h)
  by_command (ReadPhase a) x e =
      let u = then_ok (position_values a) (read_phase s) x e in
      made (By None) (located s.blocks u.0.sequence u.0.phase) (λ i. o.ReadPhase u.0 (slice_index_or s.records i blank)) x u.1.1 (λ i f h. h)
  by_command _ x e = alone (By None) _ x e (λ h. h)

run_more : (xs ys : List Stored) (s : Store) → run (xs ++ ys) s ≡ run ys (run xs s)
run_more [] ys s = refl
run_more (x ∷ xs) ys s = run_more xs ys (step x s)

module _ (cycle : ℕ) (s : Whole (module_device cycle)) where
  at : Situation
  at = situation s.core.rest.control

  refused_store : {j : Judgement} → judged_line s.core.rest s.line ≡ j → (done_by (machine cycle) s.core (outcome_of cycle s.core.rest j)).0.rest ≡ s.core.rest →
      store_in cycle (next (module_device cycle) s ending) ≡ store_in cycle s
  unfolding line_outcome
  refused_store e h = ap (λ (r : ModuleState). store_of r.control r.records) (ap (λ (j : Judgement). (done_by (machine cycle) s.core (outcome_of cycle s.core.rest j)).0.rest) e ∙ h)

  line_store : (j : Judgement) → judged_line s.core.rest s.line ≡ j →
      store_in cycle (next (module_device cycle) s ending) ≡ run (option_to_list (given_in j s.line)) (store_in cycle s)
  unfolding at
  line_store (Own (Ok x)) e =
      let t = own_reads at (store_in cycle s) s.line x e in
      by_command at (store_in cycle s) (store_in cycle (next (module_device cycle) s ending)) t.command x t.order (accepted_is_done cycle s x (inl e)).store
      ∙ ap (λ (c : Result Command Fault). run (option_to_list (given_by (Ok x) c)) (store_in cycle s)) (sym t.read)
  line_store (Broadcast (Ok x)) e =
      let t = broadcast_reads at (store_in cycle s) s.line x e in
      by_command at (store_in cycle s) (store_in cycle (next (module_device cycle) s ending)) t.command x t.order (accepted_is_done cycle s x (inr e)).store
      ∙ ap (λ (c : Result Command Fault). run (option_to_list (given_by (Ok x) c)) (store_in cycle s)) (sym t.read)
  line_store (Own (Err f)) e = refused_store e refl
  line_store (Broadcast (Err f)) e = refused_store e refl
  line_store Stranger e = refused_store e refl

  tick_store : store_in cycle (next (module_device cycle) s tick) ≡ store_in cycle s
  unfolding ticked_state
  tick_store =
      let r = s.core.rest in
      let b = through_tick (same_blocks r.control) r.records r.axis.counter r.control.activity in
      λ i. record { blocks = b i; records = r.records }

  restart_store : store_in cycle (next (module_device cycle) s power_up) ≡ store_in cycle s
  restart_store =
      let r = s.core.rest in
      let b = through_restart (same_blocks r.control) r.control.chosen in
      λ i. record { blocks = b i; records = r.records }

  call_store : (e : Event) → store_in cycle (next (module_device cycle) s e) ≡ run (stored_at cycle s e) (store_in cycle s)
  call_store (stopped fault) = refl
  call_store skipped = refl
  call_store (letter x) = refl
  call_store ending = line_store (judged_line s.core.rest s.line) refl
  call_store tick = tick_store
  call_store (levels v) = refl
  call_store power_up = restart_store

pub stores_accepted_lines : StoresAcceptedLines
stores_accepted_lines cycle s [] = refl
stores_accepted_lines cycle s (e ∷ h) =
    let t = next (module_device cycle) s e in
    stores_accepted_lines cycle t h
    ∙ (ap (run (stored_lines cycle t h)) (call_store cycle s e)
    ∙ sym (run_more (stored_at cycle s e) (stored_lines cycle t h) (store_in cycle s)))
