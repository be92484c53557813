-- Part (c): the counter follows the step output's place from where it was last set.
use Rattle.std.proofs.Common.{◌≡◌, Bool, true, false, cond, List, [], ◌∷◌, ℤ, pos, ◌+ℤ◌, ◌-ℤ◌, Some, None, Option, sym, refl, ap, ◌∙◌, arith}
use borrow.Author.Differences.{ints}
use Rattle.law.specs.Events.{Event}
use Rattle.law.specs.Events.Event.{stopped, skipped, letter, ending, tick, levels, power_up}
use Rattle.law.specs.Device.{Device}
use Rattle.law.specs.History.{at, after, Setting, noted, last_set}
use Rattle.law.proofs.Lawful.{Lawful}
use Rattle.law.specs.Law.{at_end, latest_setting}
use Rattle.steps.specs.Wrap.{wrapped24, modulo24}
use Rattle.steps.proofs.Wrap.{wrapped_step, wrapped_place}

module _ (D : Device) where
  abbrev pub Follows : D.Core → Setting → Type 0
  Follows c set = D.counter c ≡ wrapped24 ((set.value +ℤ pos (D.place c)) -ℤ pos set.place_then)

  -- where it has just been set
  just_set : (c : D.Core) (v : ℤ) → D.counter c ≡ v → wrapped24 v ≡ v → Follows c (record { value = v; place_then = D.place c })
  just_set c v e fits =
      let back : (v +ℤ pos (D.place c)) -ℤ pos (D.place c) ≡ v = omega (arith, ints) in
      e ∙ (sym fits ∙ sym (ap wrapped24 back))

  -- where counter and place stay
  stands : (c d : D.Core) (set : Setting) → D.counter d ≡ D.counter c → D.place d ≡ D.place c → Follows c set → Follows d set
  stands c d set e p f = e ∙ (f ∙ ap (λ n. wrapped24 ((set.value +ℤ pos n) -ℤ pos set.place_then)) (sym p))

  -- where a step is made
  steps : (c d : D.Core) (set : Setting) (step : ℤ) → D.counter d ≡ wrapped24 (D.counter c +ℤ step) →
      pos (D.place d) ≡ modulo24 (pos (D.place c) +ℤ step) → Follows c set → Follows d set
  steps c d set step e p f =
      let v = set.value in let q = pos set.place_then in let n = pos (D.place c) in
      let moved : (v +ℤ n) -ℤ q +ℤ step ≡ (v +ℤ (n +ℤ step)) -ℤ q = omega (arith, ints) in
      e ∙ (ap (λ z. wrapped24 (z +ℤ step)) f
      ∙ (wrapped_step ((v +ℤ n) -ℤ q) step
      ∙ (ap wrapped24 moved
      ∙ (sym (wrapped_place v (n +ℤ step) q)
      ∙ ap (λ z. wrapped24 ((v +ℤ z) -ℤ q)) (sym p)))))

  module _ {Sound : D.Core → Type 0} (L : Lawful D Sound) where
    at_ending : (c : D.Core) (l : D.Line) (set : Setting) (o : Option ℤ) → Sound c → D.sets c l ≡ o → Follows c set →
        Follows (D.finish c l).0 (noted set (D.place (D.finish c l).0) o)
    at_ending c l set None sound e f = stands c (D.finish c l).0 set (L.unset_counter c l sound e) (L.unset_place c l sound e) f
    at_ending c l set (Some v) sound e f = just_set (D.finish c l).0 v (L.set_value c l v sound e) (L.set_fits c l v sound e)

    at_tick : (c : D.Core) (set : Setting) (b : Bool) → Sound c → D.zeroes c ≡ b → Follows c set →
        Follows (D.tick c).0 (noted set (D.place (D.tick c).0) (cond b (Some (pos 0)) None))
    at_tick c set true sound e f = just_set (D.tick c).0 (pos 0) (L.zeroed c sound e) (unfold wrapped24 modulo24 in refl)
    at_tick c set false sound e f = steps c (D.tick c).0 set (D.tick c).1 (L.step_counter c sound e) (L.step_place c sound e) f

    pub follows : (h : List Event) (c : D.Core) (l : D.Line) (set : Setting) → Sound c → Follows c set →
        Follows (after D (at D c l) h).core (last_set D (at D c l) set h)
    follows [] c l set sound f = f
    follows (stopped fault ∷ h) c l set sound f = follows h c l set sound f
    follows (skipped ∷ h) c l set sound f = follows h c l set sound f
    follows (letter x ∷ h) c l set sound f = follows h c (D.push l x) set sound f
    follows (ending ∷ h) c l set sound f = follows h (D.finish c l).0 D.empty _ (L.sound_finish c l sound) (at_ending c l set (D.sets c l) sound refl f)
    follows (tick ∷ h) c l set sound f = follows h (D.tick c).0 l _ (L.sound_tick c sound) (at_tick c set (D.zeroes c) sound refl f)
    follows (levels v ∷ h) c l set sound f =
        follows h (D.set_levels c v) l set (L.sound_levels c v sound)
        (stands c (D.set_levels c v) set (L.levels_counter c v) (L.levels_place c v) f)
    follows (power_up ∷ h) c l set sound f =
        follows h (D.restart c) D.empty _ (L.sound_restart c sound)
        (just_set (D.restart c) (pos 0) (L.restart_counter c) (unfold wrapped24 modulo24 in refl))

-- (c), from the start
pub counts : (D : Device) {Sound : D.Core → Type 0} (L : Lawful D Sound) (c : D.Core) → Sound c → D.counter c ≡ pos 0 → (h : List Event) →
    D.counter (at_end D c h)
    ≡ wrapped24 (((latest_setting D c h).value +ℤ pos (D.place (at_end D c h))) -ℤ pos (latest_setting D c h).place_then)
counts D L c sound e h =
    follows D L h c D.empty (record { value = pos 0; place_then = D.place c }) sound
    (just_set D c (pos 0) e (unfold wrapped24 modulo24 in refl))
