-- The module keeps what the law of histories asks of a device.
use Rattle.std.proofs.Common.{◌≡◌, ℕ, ◌<◌, Bool, true, false, cond, ◌||◌, List, [], ◌∷◌, ◌++◌, ℤ, pos, negsuc, ◌+ℤ◌, ◌≤ℤ◌, Some, None, Ok, Err, fold, Option, unwrap_or, sym, refl, ap, ◌∙◌, subst, arith, rules}
use borrow.Author.Differences.{ints}
use lib.IntN.{+ℤ_idr}
use lib.Signed.{le_z}
use Rattle.std.proofs.lemmas.List.{append-nil, append_assoc}
use Rattle.std.proofs.lemmas.Option.{none-some}
use Rattle.std.proofs.lemmas.Bool.{and_parts, false≢true}
use Rattle.faults.specs.declared.Fault.{Fault}
use Rattle.steps.specs.declared.direction.Direction.{Direction}
use Rattle.steps.specs.declared.direction.Direction.TheVariants.{Forward as Ahead, Back as Backward}
use Rattle.lines.specs.declared.line.Addressee.TheVariants as to
use Rattle.lines.specs.Characters.{Character, is_own, is_broadcast}
use Rattle.lines.specs.Lines.{Kept, kept_of, taken, addressee_in}
use Rattle.lines.proofs.KeptOf.{taken_of, kept_addressee}
use Rattle.replies.specs.Replies.{digits_of}
use Rattle.questions.specs.Questions.{fault_text}
use Rattle.outputs.specs.Meaning.{moved}
use Rattle.steps.specs.Wrap.{wrapped24, modulo24}
use Rattle.steps.specs.Directions.{one_step}
use Rattle.steps.specs.Limits.{is_position}
use Rattle.axis.specs.Axes.{AxisState}
use Rattle.steps.proofs.Wrap.{wrapped_fits, wrapped_twice}
use Rattle.axis.proofs.Alike.{moved_modulo}
use Rattle.engine.specs.declared.effects.Effects.{Effects}
use Rattle.steps.specs.declared.power.Power.{Power}
use Rattle.steps.specs.declared.power.Power.TheVariants.{On, Off}
use Rattle.orders.specs.declared.order.Order.{Order}
use Rattle.orders.specs.declared.order.Judgement.{Judgement}
use Rattle.orders.specs.declared.order.Judgement.TheVariants.{Own, Broadcast, Stranger}
use Rattle.orders.specs.Judged.{judged_to, Shown, Admitted}
use Rattle.orders.proofs.Accepted.{admitted}
use Rattle.control.specs.declared.change.Change.{Change}
use Rattle.control.specs.States.{situation, store_of}
use Rattle.control.specs.Obeyed.{restart_change}
use Rattle.control.proofs.Kept.{obeyed_address, ticked_address, restarted_address}
use Rattle.law.specs.Events.{for_module}
use Rattle.law.specs.Law.{besides_fault}
use Rattle.law.specs.Machine.Outcome.{ignored}
use Rattle.law.proofs.Machines.{MachineLawful, left}
use Rattle.module.specs.States.{ModuleState, powered, counted, changed, stepped, step_made, zeroed, step_of, order_done, obeyed_state, effects_of, ticked_state}
use Rattle.module.specs.Lines.{outcome_of, judged_line, line_outcome}
use Rattle.module.specs.Counter.{set_by, counter_set}
use Rattle.module.specs.Machine.{machine}
use Rattle.module.proofs.Zeroes.{tick_zeroes}

-- what is shown of an order that the module takes
abbrev ShownIn : ModuleState → Order → Type 0
ShownIn r o = Shown (situation r.control) (store_of r.control r.records) o

choose : {A : Type 0} (P : A → Type 0) (b : Bool) (x y : A) → P x → P y → P (cond b x y)
choose P true x y p q = p
choose P false x y p q = q

-- a refused or a stranger's line leaves all as it was; every other line leaves what its order leaves
module _ (cycle : ℕ) (r : ModuleState) (k : Kept) (P : ModuleState → Type 0) (stays : P r) (obeys : (o : Order) → ShownIn r o → P (obeyed_state r o)) where
  of_left : (j : Judgement) → Admitted (situation r.control) (store_of r.control r.records) j → P (left r (outcome_of cycle r j))
  of_left (Own (Ok o)) h = obeys o h
  of_left (Own (Err f)) h = stays
  of_left (Broadcast (Ok o)) h = obeys o h
  of_left (Broadcast (Err f)) h = stays
  of_left Stranger h = stays

  line_left : P (left r (line_outcome cycle r k))
  unfolding line_outcome
  line_left = of_left (judged_line r k) (admitted (situation r.control) (store_of r.control r.records) k)

-- what orders do to counter and place
powered_counter : (p : Option Power) (a : AxisState) → (powered p a).counter ≡ a.counter
powered_counter None a = refl
powered_counter (Some On) a = refl
powered_counter (Some Off) a = refl

powered_place : (p : Option Power) (a : AxisState) → (powered p a).place ≡ a.place
powered_place None a = refl
powered_place (Some On) a = refl
powered_place (Some Off) a = refl

counted_counter : (z : Option ℤ) (a : AxisState) → (counted z a).counter ≡ unwrap_or z a.counter
counted_counter None a = refl
counted_counter (Some z) a = refl

counted_place : (z : Option ℤ) (a : AxisState) → (counted z a).place ≡ a.place
counted_place None a = refl
counted_place (Some z) a = refl

changed_counter : (c : Change) (a : AxisState) → (changed c a).counter ≡ unwrap_or c.counter a.counter
changed_counter c a = powered_counter c.power (counted c.counter a) ∙ counted_counter c.counter a

changed_place : (c : Change) (a : AxisState) → (changed c a).place ≡ a.place
changed_place c a = powered_place c.power (counted c.counter a) ∙ counted_place c.counter a

restart_sets : (c : Option ℕ) → (restart_change c).counter ≡ Some (pos 0)
restart_sets None = refl
restart_sets (Some n) = refl

order_sets : (r : ModuleState) (o : Order) → (order_done r o).change.counter ≡ set_by o
order_sets r o = search (rules, restart_sets)

obeyed_counter : (r : ModuleState) (o : Order) → (obeyed_state r o).axis.counter ≡ unwrap_or (set_by o) r.axis.counter
unfolding obeyed_state
obeyed_counter r o = changed_counter (order_done r o).change r.axis ∙ ap (λ z. unwrap_or z r.axis.counter) (order_sets r o)

obeyed_place : (r : ModuleState) (o : Order) → (obeyed_state r o).axis.place ≡ r.axis.place
unfolding obeyed_state
obeyed_place r o = changed_place (order_done r o).change r.axis

state_address : (r : ModuleState) (o : Order) → (obeyed_state r o).control.address ≡ r.control.address
unfolding obeyed_state
state_address r o = obeyed_address r.control r.records r.axis.counter o

-- the counter has 24 bits, and so has the place
pub record Sound (r : ModuleState) : Type 0 where
  pub counter_fits : wrapped24 r.axis.counter ≡ r.axis.counter
  pub place_small : r.axis.place < 16777216

pub zero_fits : wrapped24 (pos 0) ≡ pos 0
unfolding wrapped24 modulo24
zero_fits = refl

le_true : (x y : ℤ) → le_z x y ≡ true → x ≤ℤ y
le_true x y e = grind (arith, ints)

within_fits : (z : ℤ) → is_position z ≡ true → wrapped24 z ≡ z
within_fits z w =
    let h = and_parts _ _ w in
    let l : negsuc 8388605 ≤ℤ z = le_true (negsuc 8388605) z h.0 in
    let m : z ≤ℤ pos 8388606 = le_true z (pos 8388606) h.1 in
    wrapped_fits z (omega (arith, ints)) (omega (arith, ints))

set_fits : (r : ModuleState) (o : Order) (v : ℤ) → ShownIn r o → set_by o ≡ Some v → wrapped24 v ≡ v
set_fits r o v f e = search (rules, zero_fits, within_fits)

-- a finished line
valued : (z : Option ℤ) (c : ℤ) → wrapped24 c ≡ c → ((v : ℤ) → z ≡ Some v → wrapped24 v ≡ v) → wrapped24 (unwrap_or z c) ≡ unwrap_or z c
valued None c h f = h
valued (Some v) c h f = f v refl

module _ (cycle : ℕ) (r : ModuleState) (k : Kept) where
  sound_left : Sound r → Sound (left r (line_outcome cycle r k))
  sound_left s =
      line_left cycle r k Sound s
      (λ o a. record {
        counter_fits = subst (λ z. wrapped24 z ≡ z) (sym (obeyed_counter r o)) (valued (set_by o) r.axis.counter s.counter_fits (λ v e. set_fits r o v a e));
        place_small = subst (λ p. p < 16777216) (sym (obeyed_place r o)) s.place_small;
      })

  address_left : (left r (line_outcome cycle r k)).control.address ≡ r.control.address
  address_left = line_left cycle r k (λ t. t.control.address ≡ r.control.address) refl (λ o a. state_address r o)

  place_left : (left r (line_outcome cycle r k)).axis.place ≡ r.axis.place
  place_left = line_left cycle r k (λ t. t.axis.place ≡ r.axis.place) refl (λ o a. obeyed_place r o)

  line_sets : (j : Judgement) → (left r (outcome_of cycle r j)).axis.counter ≡ unwrap_or (counter_set j) r.axis.counter
  line_sets (Own (Ok o)) = obeyed_counter r o
  line_sets (Own (Err f)) = refl
  line_sets (Broadcast (Ok o)) = obeyed_counter r o
  line_sets (Broadcast (Err f)) = refl
  line_sets Stranger = refl

  counter_left : (left r (line_outcome cycle r k)).axis.counter ≡ unwrap_or (counter_set (judged_line r k)) r.axis.counter
  unfolding line_outcome
  counter_left = line_sets (judged_line r k)

  fits_by : (j : Judgement) → Admitted (situation r.control) (store_of r.control r.records) j → (v : ℤ) → counter_set j ≡ Some v → wrapped24 v ≡ v
  fits_by (Own (Ok o)) h v e = set_fits r o v h e
  fits_by (Own (Err f)) h v e = absurd (none-some v e)
  fits_by (Broadcast (Ok o)) h v e = set_fits r o v h e
  fits_by (Broadcast (Err f)) h v e = absurd (none-some v e)
  fits_by Stranger h v e = absurd (none-some v e)

  line_fits : (v : ℤ) → counter_set (judged_line r k) ≡ Some v → wrapped24 v ≡ v
  line_fits v e = fits_by (judged_line r k) (admitted (situation r.control) (store_of r.control r.records) k) v e

-- a tick
stepped_counter : (s : Option Direction) (a : AxisState) → wrapped24 a.counter ≡ a.counter → (stepped s a).counter ≡ wrapped24 (a.counter +ℤ step_made s a)
stepped_counter None a h = sym (ap wrapped24 (+ℤ_idr a.counter) ∙ h)
stepped_counter (Some s) a h =
    elim a.power as (λ b. cond b (wrapped24 (a.counter +ℤ one_step s)) a.counter ≡ wrapped24 (a.counter +ℤ cond b (one_step s) (pos 0))) [
      | true ↦ refl
      | false ↦ sym (ap wrapped24 (+ℤ_idr a.counter) ∙ h)
    ]

small_modulo : (p : ℕ) → p < 16777216 → pos p ≡ modulo24 (pos p +ℤ pos 0)
unfolding modulo24
small_modulo p h = ap pos (omega arith)

stepped_place : (s : Option Direction) (a : AxisState) → a.place < 16777216 → pos (stepped s a).place ≡ modulo24 (pos a.place +ℤ step_made s a)
stepped_place None a h = small_modulo a.place h
stepped_place (Some s) a h =
    elim a.power as (λ b. pos (cond b (moved s a.place) a.place) ≡ modulo24 (pos a.place +ℤ cond b (one_step s) (pos 0))) [
      | true ↦ moved_modulo s a.place
      | false ↦ small_modulo a.place h
    ]

moved_small : (s : Direction) (p : ℕ) → moved s p < 16777216
moved_small Ahead p = omega arith
moved_small Backward p = omega arith

stepped_small : (s : Option Direction) (a : AxisState) → a.place < 16777216 → (stepped s a).place < 16777216
stepped_small None a h = h
stepped_small (Some s) a h = choose (λ p. p < 16777216) a.power (moved s a.place) a.place (moved_small s a.place) h

stepped_fits : (s : Option Direction) (a : AxisState) → wrapped24 a.counter ≡ a.counter → wrapped24 (stepped s a).counter ≡ (stepped s a).counter
stepped_fits None a h = h
stepped_fits (Some s) a h = choose (λ z. wrapped24 z ≡ z) a.power (wrapped24 (a.counter +ℤ one_step s)) a.counter (wrapped_twice (a.counter +ℤ one_step s)) h

module _ (r : ModuleState) where
  e : Effects
  e = effects_of r

  before : AxisState
  before = powered (effects_of r).power r.axis

  pub sound_tick : Sound r → Sound (ticked_state r)
  unfolding ticked_state e before
  sound_tick s =
      let f : wrapped24 before.counter ≡ before.counter = subst (λ z. wrapped24 z ≡ z) (sym (powered_counter e.power r.axis)) s.counter_fits in
      let g : before.place < 16777216 = subst (λ p. p < 16777216) (sym (powered_place e.power r.axis)) s.place_small in
      choose (λ (a : AxisState). Sound (record { control = (ticked_state r).control; axis = a; records = r.records })) e.zero_counter _ (stepped e.step before)
      (record { counter_fits = zero_fits; place_small = stepped_small e.step before g })
      (record { counter_fits = stepped_fits e.step before f; place_small = stepped_small e.step before g })

  zeroed_counter : (effects_of r).zero_counter ≡ true → (ticked_state r).axis.counter ≡ pos 0
  unfolding ticked_state
  zeroed_counter h = ap (λ b. (zeroed b (stepped (effects_of r).step (powered (effects_of r).power r.axis))).counter) h

  tick_counter : Sound r → (effects_of r).zero_counter ≡ false → (ticked_state r).axis.counter ≡ wrapped24 (r.axis.counter +ℤ step_of (effects_of r) r.axis)
  unfolding ticked_state before
  tick_counter s h =
      let q = powered_counter (effects_of r).power r.axis in
      let f : wrapped24 before.counter ≡ before.counter = subst (λ z. wrapped24 z ≡ z) (sym q) s.counter_fits in
      ap (λ b. (zeroed b (stepped (effects_of r).step before)).counter) h
      ∙ stepped_counter (effects_of r).step before f
      ∙ ap (λ z. wrapped24 (z +ℤ step_made (effects_of r).step before)) q

  tick_place : Sound r → (effects_of r).zero_counter ≡ false → pos (ticked_state r).axis.place ≡ modulo24 (pos r.axis.place +ℤ step_of (effects_of r) r.axis)
  unfolding ticked_state before
  tick_place s h =
      let q = powered_place (effects_of r).power r.axis in
      let g : before.place < 16777216 = subst (λ p. p < 16777216) (sym q) s.place_small in
      ap (λ b. pos (zeroed b (stepped (effects_of r).step before)).place) h
      ∙ stepped_place (effects_of r).step before g
      ∙ ap (λ p. modulo24 (pos p +ℤ step_made (effects_of r).step before)) q

  tick_address : (ticked_state r).control.address ≡ r.control.address
  unfolding ticked_state
  tick_address = ticked_address r.control r.records r.axis.counter r.control.activity

-- a stranger's line
folded_kept : (cs ds : List Character) → fold taken (kept_of cs) ds ≡ kept_of (cs ++ ds)
folded_kept cs [] = ap kept_of (sym (append-nil cs))
folded_kept cs (d ∷ ds) = ap (λ k. fold taken k ds) (taken_of cs d) ∙ folded_kept (cs ++ d ∷ []) ds ∙ ap kept_of (append_assoc cs (d ∷ []) ds)

stranger_of : (own broadcast : Bool) → (own || broadcast) ≡ false → cond own to.Own (cond broadcast to.Broadcast to.Stranger) ≡ to.Stranger
stranger_of true b e = absurd (false≢true (sym e))
stranger_of false true e = absurd (false≢true (sym e))
stranger_of false false e = refl

ignores : (cycle : ℕ) (r : ModuleState) (cs : List Character) → for_module r.control.address cs ≡ false → line_outcome cycle r (fold taken (kept_of []) cs) ≡ ignored
unfolding line_outcome
ignores cycle r cs h =
    let k = fold taken (kept_of []) cs in
    let t : addressee_in r.control.address k ≡ to.Stranger = kept_addressee r.control.address k cs (folded_kept [] cs) ∙ stranger_of (is_own r.control.address cs) (is_broadcast cs) h in
    ap (λ a. outcome_of cycle r (judged_to a (situation r.control) (store_of r.control r.records) k)) t

text_alike : (a : ℕ) (f g : Option Fault) → besides_fault (fault_text a f) ≡ besides_fault (fault_text a g)
unfolding fault_text digits_of
text_alike a f g = refl

restart_zero : (c : Option ℕ) (a : AxisState) → (changed (restart_change c) a).counter ≡ pos 0
restart_zero None a = refl
restart_zero (Some n) a = refl

restart_sound : (c : Option ℕ) (a : AxisState) → a.place < 16777216 → (wrapped24 (changed (restart_change c) a).counter ≡ (changed (restart_change c) a).counter) × ((changed (restart_change c) a).place < 16777216)
restart_sound None a h = (zero_fits, h)
restart_sound (Some n) a h = (zero_fits, h)

pub lawful : (cycle : ℕ) → MachineLawful (machine cycle) Sound
lawful cycle = record {
  sound_left = λ r k s. sound_left cycle r k s;
  sound_tick = λ r s. sound_tick r s;
  sound_levels = λ r v s. record { counter_fits = s.counter_fits; place_small = s.place_small };
  sound_restart = λ r s. let p = restart_sound r.control.chosen r.axis s.place_small in record { counter_fits = p.0; place_small = p.1 };
  ignores_strangers = λ r cs s h. ignores cycle r cs h;
  address_left = λ r k. address_left cycle r k;
  address_tick = λ r. tick_address r;
  address_levels = λ r v. refl;
  address_restart = λ r. restarted_address r.control r.control.chosen;
  text_alike = λ r f g. text_alike r.control.address f g;
  set_value = λ r k v s e. counter_left cycle r k ∙ ap (λ z. unwrap_or z r.axis.counter) e;
  set_fits = λ r k v s e. line_fits cycle r k v e;
  unset_counter = λ r k s e. counter_left cycle r k ∙ ap (λ z. unwrap_or z r.axis.counter) e;
  unset_place = λ r k s e. place_left cycle r k;
  zeroed = λ r s h. zeroed_counter r (tick_zeroes r ∙ h);
  step_counter = λ r s h. tick_counter r s (tick_zeroes r ∙ h);
  step_place = λ r s h. tick_place r s (tick_zeroes r ∙ h);
  levels_counter = λ r v. refl;
  levels_place = λ r v. refl;
  restart_counter = λ r. restart_zero r.control.chosen r.axis;
}
