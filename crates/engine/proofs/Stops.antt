-- After GE the run ends with its movement.
use Rattle.std.proofs.Common.{◌≡◌, ℕ, true, eqb, List, [], ◌∷◌, length, Some, None, Option, sym, refl, subst, arith}
use Rattle.std.proofs.lemmas.Bool.{cond_both}
use Rattle.phases.specs.declared.phase.Phase.{Phase}
use Rattle.motion.specs.Motions.{Motion, motion, ends_stopped, makes_step, tick_rest, stopped}
use Rattle.motion.specs.Ticks.{after as motion-after}
use Rattle.motion.proofs.Steps.{valid}
use Rattle.motion.proofs.Stops.{slow_stop_ends}
use Rattle.engine.specs.declared.run.PhaseState.{PhaseState as Declared}
use Rattle.engine.specs.declared.run.PhaseState.TheVariants.{Moving}
use Rattle.engine.specs.declared.run.Run.{Run}
use Rattle.engine.specs.Progress.{Progress, PhaseState, moving, state_of, progress, with_state}
use Rattle.engine.specs.Ticks.{moved, with_movement, stopped_run}
use Rattle.engine.specs.Surroundings.{Moment, Program}
use Rattle.engine.specs.Laws.{after, StopsAfterGe, StopsInTime, SlowingAt, EntersNoMore}

abbrev Stopping : Option Motion → Type 0
Stopping None = Unit {0}
Stopping (Some m) = m.stopping ≡ true

still_stopping : (m : Motion) → m.stopping ≡ true → Stopping (tick_rest m)
still_stopping m s =
    cond_both (ends_stopped m) _ _ Stopping (λ _. tt)
    (λ _. cond_both (makes_step m) _ _ Stopping (λ _. cond_both (eqb m.left 1) _ _ Stopping (λ _. tt) (λ _. s)) (λ _. s))

abbrev EndsWith : Program → List Moment → Progress → Phase → Type 0
EndsWith g ts c p = (o : Option Motion) → Stopping o → motion-after (length ts) o ≡ None → after g ts (with_movement c p o) ≡ None

one_tick : (g : Program) (t : Moment) (ts : List Moment) (c : Progress) (p : Phase) (m : Motion) → m.stopping ≡ true → EndsWith g ts c p → (o : Option Motion) → Stopping o → motion-after (length ts) o ≡ None → after g ts (moved g t (with_state c (moving p m)) p m o).rest ≡ None
one_tick g t ts c p m s rec None h e = rw s refl
one_tick g t ts c p m s rec (Some r) h e = rec (Some r) h e

ends_with : (g : Program) (ts : List Moment) (c : Progress) (p : Phase) → EndsWith g ts c p
ends_with g ts c p None s e = refl
ends_with g [] c p (Some m) s e = let z : ◌≡◌ {A = ℕ} 0 1 = cc in absurd (omega arith)
ends_with g (t ∷ ts) c p (Some m) s e = one_tick g t ts c p m s (ends_with g ts c p) (tick_rest m) (still_stopping m s) e

pub stops_after_ge : StopsAfterGe
stops_after_ge g ts c p m f e =
    ends_with g ts c p (stopped m) (cond_both (eqb m.ramp 0) _ _ Stopping (λ _. tt) (λ _. refl))
    (subst (λ n. motion-after n (stopped m) ≡ None) (sym e) (slow_stop_ends m f).0)

in_time : (c : Progress) (s : Declared) → StopsInTime (state_of s) (stopped_run c (state_of s))
in_time c (Moving p m) g ts e = stops_after_ge g ts c p (motion m) (valid m) e
in_time c _ g ts e = refl

pub stops_in_time : (r : Run) (o : Option Progress) → o ≡ stopped_run (progress r) (progress r).state → StopsInTime (progress r).state o
stops_in_time r o q = subst (StopsInTime (progress r).state) (sym q) (in_time (progress r) r.state)

abbrev SlowsWith : Program → List Moment → Progress → Phase → Type 0
SlowsWith g ts c p = (o : Option Motion) → Stopping o → SlowingAt c.at (after g ts (with_movement c p o))

slows_one_tick : (g : Program) (t : Moment) (ts : List Moment) (c : Progress) (p : Phase) (m : Motion) → m.stopping ≡ true → SlowsWith g ts c p → (o : Option Motion) → Stopping o → SlowingAt c.at (after g ts (moved g t (with_state c (moving p m)) p m o).rest)
slows_one_tick g t ts c p m s rec None h = rw s tt
slows_one_tick g t ts c p m s rec (Some r) h = rec (Some r) h

slows_with : (g : Program) (ts : List Moment) (c : Progress) (p : Phase) → SlowsWith g ts c p
slows_with g ts c p None s = tt
slows_with g [] c p (Some m) s = (refl, s)
slows_with g (t ∷ ts) c p (Some m) s = slows_one_tick g t ts c p m s (slows_with g ts c p) (tick_rest m) (still_stopping m s)

slows_at : (c : Progress) (a : PhaseState) → EntersNoMore c.at (stopped_run c a)
slows_at c (moving p m) g ts = slows_with g ts c p (stopped m) (cond_both (eqb m.ramp 0) _ _ Stopping (λ _. tt) (λ _. refl))
slows_at c _ g ts = tt

pub enters_no_more : (c : Progress) (o : Option Progress) → o ≡ stopped_run c c.state → EntersNoMore c.at o
enters_no_more c o q = subst (EntersNoMore c.at) (sym q) (slows_at c c.state)
