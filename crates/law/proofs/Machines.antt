-- What is left to ask of a device whose fault record stands apart.
use Rattle.std.proofs.Common.{◌≡◌, ℕ, true, false, List, ℤ, pos, ◌+ℤ◌, Some, None, fold, sym, refl, ap, ◌∙◌, subst}
use mathlib.Core.Bool.{false≢true}
use Rattle.law.specs.Events.{for_module}
use Rattle.lines.specs.Characters.{Character}
use Rattle.law.specs.Law.{besides_fault}
use Rattle.steps.specs.Wrap.{modulo24, wrapped24}
use Rattle.law.specs.Machine.{Outcome, Machine, WithFault, done_by, is_refused, device}
use Rattle.law.specs.Machine.Outcome.{ignored, accepted, refused}
use Rattle.law.specs.Machine.Reply.{text, fault_record}
use Rattle.law.proofs.Lawful.{Lawful}

-- the rest that an outcome leaves
abbrev pub left : {Rest Fault : Type 0} → Rest → Outcome Rest Fault → Rest
left r ignored = r
left r (accepted r' clears reply) = r'
left r (refused f reply) = r

pub record MachineLawful (M : Machine) (Sound : M.Rest → Type 0) : Type 0 where
  pub sound_left : (r : M.Rest) (l : M.Line) → Sound r → Sound (left r (M.outcome r l))
  pub sound_tick : (r : M.Rest) → Sound r → Sound (M.tick r).0
  pub sound_levels : (r : M.Rest) (v : ℕ) → Sound r → Sound (M.set_levels r v)
  pub sound_restart : (r : M.Rest) → Sound r → Sound (M.restart r)
  pub ignores_strangers : (r : M.Rest) (line : List Character) → Sound r → for_module (M.address r) line ≡ false →
      M.outcome r (fold M.push M.empty line) ≡ ignored
  pub address_left : (r : M.Rest) (l : M.Line) → M.address (left r (M.outcome r l)) ≡ M.address r
  pub address_tick : (r : M.Rest) → M.address (M.tick r).0 ≡ M.address r
  pub address_levels : (r : M.Rest) (v : ℕ) → M.address (M.set_levels r v) ≡ M.address r
  pub address_restart : (r : M.Rest) → M.address (M.restart r) ≡ M.address r
  pub text_alike : (r : M.Rest) (f f' : M.Fault) → besides_fault (M.fault_text r f) ≡ besides_fault (M.fault_text r f')
  pub set_value : (r : M.Rest) (l : M.Line) (v : ℤ) → Sound r → M.sets r l ≡ Some v → M.counter (left r (M.outcome r l)) ≡ v
  pub set_fits : (r : M.Rest) (l : M.Line) (v : ℤ) → Sound r → M.sets r l ≡ Some v → wrapped24 v ≡ v
  pub unset_counter : (r : M.Rest) (l : M.Line) → Sound r → M.sets r l ≡ None → M.counter (left r (M.outcome r l)) ≡ M.counter r
  pub unset_place : (r : M.Rest) (l : M.Line) → Sound r → M.sets r l ≡ None → M.place (left r (M.outcome r l)) ≡ M.place r
  pub zeroed : (r : M.Rest) → Sound r → M.zeroes r ≡ true → M.counter (M.tick r).0 ≡ pos 0
  pub step_counter : (r : M.Rest) → Sound r → M.zeroes r ≡ false → M.counter (M.tick r).0 ≡ wrapped24 (M.counter r +ℤ (M.tick r).1)
  pub step_place : (r : M.Rest) → Sound r → M.zeroes r ≡ false → pos (M.place (M.tick r).0) ≡ modulo24 (pos (M.place r) +ℤ (M.tick r).1)
  pub levels_counter : (r : M.Rest) (v : ℕ) → M.counter (M.set_levels r v) ≡ M.counter r
  pub levels_place : (r : M.Rest) (v : ℕ) → M.place (M.set_levels r v) ≡ M.place r
  pub restart_counter : (r : M.Rest) → M.counter (M.restart r) ≡ pos 0

module _ (M : Machine) where
  rest_left : (c : WithFault M) (o : Outcome M.Rest M.Fault) → left c.rest o ≡ (done_by M c o).0.rest
  rest_left c ignored = refl
  rest_left c (accepted r clears reply) = refl
  rest_left c (refused f reply) = refl

  refused_left : (c : WithFault M) (o : Outcome M.Rest M.Fault) → is_refused o ≡ true → (done_by M c o).0.rest ≡ c.rest
  refused_left c ignored e = refl
  refused_left c (accepted r clears reply) e = absurd (false≢true e)
  refused_left c (refused f reply) e = refl

  replies : (c c' : WithFault M) → ((r : M.Rest) (f f' : M.Fault) → besides_fault (M.fault_text r f) ≡ besides_fault (M.fault_text r f')) →
      (o : Outcome M.Rest M.Fault) → besides_fault (done_by M c o).1 ≡ besides_fault (done_by M c' o).1
  replies c c' alike ignored = refl
  replies c c' alike (accepted r clears (text t)) = refl
  replies c c' alike (accepted r clears fault_record) = alike r c.fault c'.fault
  replies c c' alike (refused f reply) = refl

  module _ {Sound : M.Rest → Type 0} (L : MachineLawful M Sound) where
    pub lawful : Lawful (device M) (λ c. Sound c.rest)
    lawful = record {
      sound_finish = λ c l s. subst Sound (rest_left c (M.outcome c.rest l)) (L.sound_left c.rest l s);
      sound_tick = λ c s. L.sound_tick c.rest s;
      sound_levels = λ c v s. L.sound_levels c.rest v s;
      sound_restart = λ c s. L.sound_restart c.rest s;
      ignores_strangers = λ c xs s h. ap (done_by M c) (L.ignores_strangers c.rest xs s h);
      address_finish = λ c l. ap M.address (sym (rest_left c (M.outcome c.rest l))) ∙ L.address_left c.rest l;
      address_tick = λ c. L.address_tick c.rest;
      address_levels = λ c v. L.address_levels c.rest v;
      address_restart = λ c. L.address_restart c.rest;
      refused_keeps = λ c l s h. refused_left c (M.outcome c.rest l) h;
      rest_finish = λ c c' l e. sym (rest_left c (M.outcome c.rest l)) ∙ (ap (λ r. left r (M.outcome r l)) e ∙ rest_left c' (M.outcome c'.rest l));
      rest_reply = λ c c' l e. replies c c' L.text_alike (M.outcome c.rest l) ∙ ap (λ r. besides_fault (done_by M c' (M.outcome r l)).1) e;
      rest_tick = λ c c' e. ap (λ r. (M.tick r).0) e;
      rest_step = λ c c' e. ap (λ r. (M.tick r).1) e;
      rest_busy = λ c c' e. ap (λ r. (M.tick r).2) e;
      rest_levels = λ c c' v e. ap (λ r. M.set_levels r v) e;
      rest_restart = λ c c' e. ap M.restart e;
      set_value = λ c l v s e. ap M.counter (sym (rest_left c (M.outcome c.rest l))) ∙ L.set_value c.rest l v s e;
      set_fits = λ c l v s e. L.set_fits c.rest l v s e;
      unset_counter = λ c l s e. ap M.counter (sym (rest_left c (M.outcome c.rest l))) ∙ L.unset_counter c.rest l s e;
      unset_place = λ c l s e. ap M.place (sym (rest_left c (M.outcome c.rest l))) ∙ L.unset_place c.rest l s e;
      zeroed = λ c s e. L.zeroed c.rest s e;
      step_counter = λ c s e. L.step_counter c.rest s e;
      step_place = λ c s e. L.step_place c.rest s e;
      levels_counter = λ c v. L.levels_counter c.rest v;
      levels_place = λ c v. L.levels_place c.rest v;
      restart_counter = λ c. L.restart_counter c.rest;
    }
