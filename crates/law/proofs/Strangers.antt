-- Part (a): a history runs as it does without its strangers' lines.
-- The shorter history's unfinished line is empty while the longer one's is a stranger's.
use Rattle.std.proofs.Common.{◌≡◌, ℕ, Bool, true, false, cond, List, [], ◌∷◌, ◌++◌, sym, refl, ap, ◌∙◌, subst}
use Rattle.std.proofs.lemmas.List.Sums.{fold_push}
use Rattle.law.specs.Events.{Event, Answer, for_module}
use Rattle.lines.specs.Characters.{Character}
use Rattle.law.specs.Events.Event.{stopped, skipped, letter, ending, tick, levels, power_up}
use Rattle.law.specs.Events.Answer.{reply, ticked, done}
use Rattle.law.specs.Device.{Device}
use Rattle.law.specs.History.{State, at, after, answers, those, line_of, will_be_for_module, stay_without_strangers}
use Rattle.law.proofs.Lawful.{Lawful}
use Rattle.law.specs.Law.{told, tells, new, at_end, all_answers, no_strangers}

told_marked : (b : Bool) (m : List Bool) (x : Answer) (xs : List Answer) → (b ≡ false → tells x ≡ false) →
    told xs ≡ told (those m xs) → told (x ∷ xs) ≡ told (those (b ∷ m) (x ∷ xs))
told_marked true m x xs quiet e = ap (λ rest. cond (tells x) (x ∷ rest) rest) e
told_marked false m x xs quiet e = ap (λ b. cond b (x ∷ told xs) (told xs)) (quiet refl) ∙ e

module _ (D : Device) where
  -- the run of hs from the state ss gives the marked answers of the run of h from s, and ends with the same core
  abbrev pub Agrees : State D → List Event → List Bool → State D → List Event → Type 0
  Agrees ss hs m s h = (answers D ss hs ≡ those m (answers D s h)) × ((after D ss hs).core ≡ (after D s h).core)

  -- the shorter history's unfinished line is l while l is for_module, and empty while it is a stranger's
  abbrev pub short : Bool → D.Line → D.Line
  short b l = cond b l D.empty

  at_letter : (c : D.Core) (l : D.Line) (x : Character) (h : List Event) (m : List Bool) (b : Bool) →
      Agrees (at D c (short b (D.push l x))) (those m h) m (at D c (D.push l x)) h →
      Agrees (at D c (short b l)) (those (b ∷ m) (letter x ∷ h)) (b ∷ m) (at D c l) (letter x ∷ h)
  at_letter c l x h m true ih = (ap (λ rest. reply [] ∷ rest) ih.0, ih.1)
  at_letter c l x h m false ih = ih

  at_ending : (c : D.Core) (l : D.Line) (h : List Event) (m : List Bool) (b : Bool) →
      (b ≡ false → D.finish c l ≡ (c, [])) →
      Agrees (at D (D.finish c l).0 D.empty) (those m h) m (at D (D.finish c l).0 D.empty) h →
      Agrees (at D c (short b l)) (those (b ∷ m) (ending ∷ h)) (b ∷ m) (at D c l) (ending ∷ h)
  at_ending c l h m true ignores_strangers ih = (ap (λ rest. reply (D.finish c l).1 ∷ rest) ih.0, ih.1)
  at_ending c l h m false ignores_strangers ih =
      subst (λ d. Agrees (at D d D.empty) (those m h) m (at D (D.finish c l).0 D.empty) h) (ap (λ r. r.0) (ignores_strangers refl)) ih

  -- at the start of a line both have none
  at_start : (b : Bool) (c : D.Core) (hs : List Event) (m : List Bool) (h : List Event) →
      Agrees (at D c (short b D.empty)) hs m (at D c D.empty) h → Agrees (at D c D.empty) hs m (at D c D.empty) h
  at_start true c hs m h ih = ih
  at_start false c hs m h ih = ih

  module _ {Sound : D.Core → Type 0} (L : Lawful D Sound) (a : ℕ) where
    pub agrees : (h : List Event) (c : D.Core) (xs : List Character) → Sound c → D.address c ≡ a →
        Agrees (at D c (short (will_be_for_module a xs h) (line_of D xs))) (those (stay_without_strangers a xs h) h) (stay_without_strangers a xs h) (at D c (line_of D xs)) h
    agrees [] c xs sound e = (refl, refl)
    agrees (stopped fault ∷ h) c xs sound e = agrees h c xs sound e
    agrees (skipped ∷ h) c xs sound e = agrees h c xs sound e
    agrees (letter x ∷ h) c xs sound e =
        at_letter c (line_of D xs) x h (stay_without_strangers a (xs ++ (x ∷ [])) h) (will_be_for_module a (xs ++ (x ∷ [])) h)
        (subst (λ l. Agrees (at D c (short (will_be_for_module a (xs ++ (x ∷ [])) h) l)) (those (stay_without_strangers a (xs ++ (x ∷ [])) h) h)
        (stay_without_strangers a (xs ++ (x ∷ [])) h) (at D c l) h)
        (fold_push D.push D.empty xs x) (agrees h c (xs ++ (x ∷ [])) sound e))
    agrees (ending ∷ h) c xs sound e =
        at_ending c (line_of D xs) h (stay_without_strangers a [] h) (for_module a xs)
        (λ stranger. L.ignores_strangers c xs sound (ap (λ n. for_module n xs) e ∙ stranger))
        (at_start (will_be_for_module a [] h) (D.finish c (line_of D xs)).0 (those (stay_without_strangers a [] h) h) (stay_without_strangers a [] h) h
        (agrees h (D.finish c (line_of D xs)).0 [] (L.sound_finish c (line_of D xs) sound) (L.address_finish c (line_of D xs) ∙ e)))
    agrees (tick ∷ h) c xs sound e =
        let ih = agrees h (D.tick c).0 xs (L.sound_tick c sound) (L.address_tick c ∙ e) in
        (ap (λ rest. ticked (D.tick c).1 (D.tick c).2 ∷ rest) ih.0, ih.1)
    agrees (levels v ∷ h) c xs sound e =
        let ih = agrees h (D.set_levels c v) xs (L.sound_levels c v sound) (L.address_levels c v ∙ e) in (ap (λ rest. done ∷ rest) ih.0, ih.1)
    agrees (power_up ∷ h) c xs sound e =
        let ih = at_start (will_be_for_module a [] h) (D.restart c) (those (stay_without_strangers a [] h) h) (stay_without_strangers a [] h) h
        (agrees h (D.restart c) [] (L.sound_restart c sound) (L.address_restart c ∙ e)) in
        (ap (λ rest. done ∷ rest) ih.0, ih.1)

    -- what is told in all is told by the calls that stay
    pub same_told : (h : List Event) (c : D.Core) (xs : List Character) → Sound c → D.address c ≡ a →
        told (answers D (at D c (line_of D xs)) h) ≡ told (those (stay_without_strangers a xs h) (answers D (at D c (line_of D xs)) h))
    same_told [] c xs sound e = refl
    same_told (stopped fault ∷ h) c xs sound e = same_told h c xs sound e
    same_told (skipped ∷ h) c xs sound e = same_told h c xs sound e
    same_told (letter x ∷ h) c xs sound e =
        told_marked (will_be_for_module a (xs ++ (x ∷ [])) h) (stay_without_strangers a (xs ++ (x ∷ [])) h) (reply [])
        (answers D (at D c (D.push (line_of D xs) x)) h) (λ stranger. refl)
        (subst (λ l. told (answers D (at D c l) h) ≡ told (those (stay_without_strangers a (xs ++ (x ∷ [])) h) (answers D (at D c l) h)))
        (fold_push D.push D.empty xs x) (same_told h c (xs ++ (x ∷ [])) sound e))
    same_told (ending ∷ h) c xs sound e =
        told_marked (for_module a xs) (stay_without_strangers a [] h) (reply (D.finish c (line_of D xs)).1)
        (answers D (at D (D.finish c (line_of D xs)).0 D.empty) h)
        (λ stranger. ap (λ r. tells (reply r.1)) (L.ignores_strangers c xs sound (ap (λ n. for_module n xs) e ∙ stranger)))
        (same_told h (D.finish c (line_of D xs)).0 [] (L.sound_finish c (line_of D xs) sound) (L.address_finish c (line_of D xs) ∙ e))
    same_told (tick ∷ h) c xs sound e =
        ap (λ rest. ticked (D.tick c).1 (D.tick c).2 ∷ rest) (same_told h (D.tick c).0 xs (L.sound_tick c sound) (L.address_tick c ∙ e))
    same_told (levels v ∷ h) c xs sound e = same_told h (D.set_levels c v) xs (L.sound_levels c v sound) (L.address_levels c v ∙ e)
    same_told (power_up ∷ h) c xs sound e = same_told h (D.restart c) [] (L.sound_restart c sound) (L.address_restart c ∙ e)

-- (a), for two histories
pub strangers : (D : Device) {Sound : D.Core → Type 0} (L : Lawful D Sound) (c : D.Core) → Sound c → (h h' : List Event) →
    those (no_strangers D c h) h ≡ those (no_strangers D c h') h' →
    (those (no_strangers D c h) (all_answers D c h) ≡ those (no_strangers D c h') (all_answers D c h'))
    × (told (all_answers D c h) ≡ told (all_answers D c h'))
    × (at_end D c h ≡ at_end D c h')
strangers D L c sound h h' same =
    let short : Agrees D (new D c) (those (no_strangers D c h) h) (no_strangers D c h) (new D c) h =
    at_start D (will_be_for_module (D.address c) [] h) c _ _ h (agrees D L (D.address c) h c [] sound refl) in
    let short' : Agrees D (new D c) (those (no_strangers D c h') h') (no_strangers D c h') (new D c) h' =
    at_start D (will_be_for_module (D.address c) [] h') c _ _ h' (agrees D L (D.address c) h' c [] sound refl) in
    let left : those (no_strangers D c h) (all_answers D c h) ≡ those (no_strangers D c h') (all_answers D c h') =
    sym short.0 ∙ (ap (answers D (new D c)) same ∙ short'.0) in (
      left,
      same_told D L (D.address c) h c [] sound refl ∙ (ap told left ∙ sym (same_told D L (D.address c) h' c [] sound refl)),
      sym short.1 ∙ (ap (λ k. (after D (new D c) k).core) same ∙ short'.1),
    )
