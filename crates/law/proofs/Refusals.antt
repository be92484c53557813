-- Part (b): a history runs as it does without the refused lines that are chosen, but for the fault record.
-- The shorter history's unfinished line is empty while the longer one's is to be struck out.
use Rattle.std.proofs.Common.{◌≡◌, ℕ, suc, Bool, true, false, cond, not, ◌&&◌, List, [], ◌∷◌, map, refl, ap, ◌∙◌, ap₂}
use Rattle.law.specs.Events.{Event}
use Rattle.lines.specs.Characters.{Character}
use Rattle.law.specs.Events.Event.{stopped, skipped, letter, ending, tick, levels, power_up}
use Rattle.law.specs.Events.Answer.{refused, reply, ticked, done}
use Rattle.law.specs.Device.{Device}
use Rattle.law.specs.History.{State, at, after, answers, those, will_be_refused, stay_without_refused}
use Rattle.law.proofs.Lawful.{Lawful}
use Rattle.law.specs.Law.{besides_rx, new, at_end, all_answers, no_refused}

module _ (D : Device) where
  -- the marked answers of the run of h from s are those of the run of hs from ss, apart from what RX tells, and so are the ends
  abbrev pub Alike : List Bool → State D → List Event → State D → List Event → Type 0
  Alike m s h ss hs =
      (map besides_rx (those m (answers D s h)) ≡ map besides_rx (answers D ss hs))
      × (D.rest (after D s h).core ≡ D.rest (after D ss hs).core)

  abbrev pub short : Bool → D.Line → D.Line
  short struck l = cond struck D.empty l

  at_letter : (c cs : D.Core) (l : D.Line) (x : Character) (h : List Event) (m : List Bool) (struck : Bool) →
      Alike m (at D c (D.push l x)) h (at D cs (short struck (D.push l x))) (those m h) →
      Alike (not struck ∷ m) (at D c l) (letter x ∷ h) (at D cs (short struck l)) (those (not struck ∷ m) (letter x ∷ h))
  at_letter c cs l x h m true ih = ih
  at_letter c cs l x h m false ih = (ap (λ rest. reply [] ∷ rest) ih.0, ih.1)

  -- at the start of a line both have none
  at_start : (struck : Bool) (m : List Bool) (c cs : D.Core) (h hs : List Event) →
      Alike m (at D c D.empty) h (at D cs (short struck D.empty)) hs → Alike m (at D c D.empty) h (at D cs D.empty) hs
  at_start true m c cs h hs ih = ih
  at_start false m c cs h hs ih = ih

  module _ {Sound : D.Core → Type 0} (L : Lawful D Sound) where
    at_ending : (c cs : D.Core) (l : D.Line) (h : List Event) (m : List Bool) (chosen stopped_here : Bool) →
        Sound c → D.refuses c l ≡ stopped_here → D.rest c ≡ D.rest cs →
        ((d : D.Core) → D.rest (D.finish c l).0 ≡ D.rest d →
        Alike m (at D (D.finish c l).0 D.empty) h (at D d D.empty) (those m h)) →
        Alike (not (chosen && stopped_here) ∷ m) (at D c l) (ending ∷ h) (at D cs (short (chosen && stopped_here) l))
        (those (not (chosen && stopped_here) ∷ m) (ending ∷ h))
    at_ending c cs l h m true true sound r e ih = ih cs (L.refused_keeps c l sound r ∙ e)
    at_ending c cs l h m true false sound r e ih =
        let here = ih (D.finish cs l).0 (L.rest_finish c cs l e) in
        (ap₂ (λ b rest. reply b ∷ rest) (L.rest_reply c cs l e) here.0, here.1)
    at_ending c cs l h m false stopped_here sound r e ih =
        let here = ih (D.finish cs l).0 (L.rest_finish c cs l e) in
        (ap₂ (λ b rest. reply b ∷ rest) (L.rest_reply c cs l e) here.0, here.1)

    module _ (chosen : ℕ → Bool) where
      pub alike : (h : List Event) (n : ℕ) (c cs : D.Core) (l : D.Line) → Sound c → D.rest c ≡ D.rest cs →
          Alike (stay_without_refused D chosen n (at D c l) h) (at D c l) h
          (at D cs (short (chosen n && will_be_refused D (at D c l) h) l)) (those (stay_without_refused D chosen n (at D c l) h) h)
      alike [] n c cs l sound e = (refl, e)
      alike (stopped fault ∷ h) n c cs l sound e =
          let ih = alike h n c cs l sound e in (ap (λ rest. refused fault ∷ rest) ih.0, ih.1)
      alike (skipped ∷ h) n c cs l sound e =
          let ih = alike h n c cs l sound e in (ap (λ rest. reply [] ∷ rest) ih.0, ih.1)
      alike (letter x ∷ h) n c cs l sound e =
          at_letter c cs l x h (stay_without_refused D chosen n (at D c (D.push l x)) h)
          (chosen n && will_be_refused D (at D c (D.push l x)) h) (alike h n c cs (D.push l x) sound e)
      alike (ending ∷ h) n c cs l sound e =
          let c' = (D.finish c l).0 in
          let m = stay_without_refused D chosen (suc n) (at D c' D.empty) h in
          at_ending c cs l h m (chosen n) (D.refuses c l) sound refl e
          (λ d same. at_start (chosen (suc n) && will_be_refused D (at D c' D.empty) h) m c' d h (those m h)
          (alike h (suc n) c' d D.empty (L.sound_finish c l sound) same))
      alike (tick ∷ h) n c cs l sound e =
          let ih = alike h n (D.tick c).0 (D.tick cs).0 l (L.sound_tick c sound) (L.rest_tick c cs e) in (
            ap₂ (λ first rest. first ∷ rest) (ap₂ ticked (L.rest_step c cs e) (L.rest_busy c cs e)) ih.0,
            ih.1,
          )
      alike (levels v ∷ h) n c cs l sound e =
          let ih = alike h n (D.set_levels c v) (D.set_levels cs v) l (L.sound_levels c v sound) (L.rest_levels c cs v e) in
          (ap (λ rest. done ∷ rest) ih.0, ih.1)
      alike (power_up ∷ h) n c cs l sound e =
          let m = stay_without_refused D chosen (suc n) (at D (D.restart c) D.empty) h in
          let ih = at_start (chosen (suc n) && will_be_refused D (at D (D.restart c) D.empty) h) m (D.restart c) (D.restart cs) h (those m h)
          (alike h (suc n) (D.restart c) (D.restart cs) D.empty (L.sound_restart c sound) (L.rest_restart c cs e)) in
          (ap (λ rest. done ∷ rest) ih.0, ih.1)

-- (b), from the start
pub refusals : (D : Device) {Sound : D.Core → Type 0} (L : Lawful D Sound) (c : D.Core) → Sound c → (h : List Event) (chosen : ℕ → Bool) →
    (map besides_rx (those (no_refused D c chosen h) (all_answers D c h))
    ≡ map besides_rx (all_answers D c (those (no_refused D c chosen h) h)))
    × (D.rest (at_end D c h) ≡ D.rest (at_end D c (those (no_refused D c chosen h) h)))
refusals D L c sound h chosen =
    at_start D (chosen 0 && will_be_refused D (new D c) h) (no_refused D c chosen h) c c h (those (no_refused D c chosen h) h)
    (alike D L chosen h 0 c c D.empty sound refl)
