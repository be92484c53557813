-- The plateau set by NC lasts to the end of the run.
use Rattle.std.proofs.Common.{ℕ, Bool, true, false, ltb, leb, List, [], ◌∷◌, length, pos, Some, None, Ok, Err, Option, Result, refl}
use Rattle.std.proofs.lemmas.Bool.{cond_both}
use Rattle.faults.specs.declared.Fault.{Fault}
use Rattle.phases.specs.declared.phase.Phase.{Phase}
use Rattle.phases.specs.declared.phase.Link.{Link}
use Rattle.phases.specs.declared.phase.Link.TheVariants as link
use Rattle.phases.specs.declared.phase.Nature.{Nature}
use Rattle.phases.specs.declared.phase.Nature.TheVariants.{Relative, Origin, Absolute, ConstantSpeed, Wait, PlateauSpeed}
use Rattle.store.specs.declared.directory.Block.{Block}
use Rattle.motion.specs.Motions.{Motion, begun, tick_rest, tick_step}
use Rattle.motion.specs.Limits.{speed_within}
use Rattle.engine.specs.declared.effects.Effects.{Effects}
use Rattle.phases.specs.declared.phase.Position.{Position}
use Rattle.motion.specs.declared.distance.Distance.{Distance}
use Rattle.engine.specs.Positions.{next_of}
use Rattle.motion.specs.Distances.{distance_to}
use Rattle.engine.specs.Distances.{distance_of}
use Rattle.engine.specs.Effects.{step_only, nothing}
use Rattle.engine.specs.Progress.{Progress, PhaseState, entering, moving, waiting, Outcome, with_returns, with_plateau}
use Rattle.engine.specs.Leaving.{agrees, exists, goes_on, linked, leaves, phase_ended, returns_from}
use Rattle.engine.specs.Entering.{entered, sets_movement, moves_by, starts, enters, phase_at}
use Rattle.engine.specs.Ticks.{moved, state_tick, tick}
use Rattle.engine.specs.Rules.{set_by, plateau_entering, plateau_after, HasPlateau, PlateauLasts}
use Rattle.engine.specs.Surroundings.{Moment, Program}

abbrev ResultHas : Option ℕ → Result (Option Progress) Fault → Type 0
ResultHas v (Ok r) = HasPlateau v r
ResultHas v (Err x) = Unit {0}

has_goes_on : (c : Progress) (q : Option Position) → HasPlateau c.plateau (goes_on c q)
has_goes_on c None = tt
has_goes_on c (Some q) = refl

has_linked : (bs : List Block) (c : Progress) (next : Option Position) (l : Option (Link ℕ)) → ResultHas c.plateau (linked bs c next l)
has_linked bs c next None = has_goes_on c next
has_linked bs c next (Some (link.Sequence n)) = cond_both (exists bs n) _ _ (ResultHas c.plateau) (λ _. refl) (λ _. tt)
has_linked bs c next (Some (link.SubSequence n)) =
    cond_both (exists bs n) _ _ (ResultHas c.plateau)
    (λ _. cond_both (ltb (length c.returns) 4) _ _ (ResultHas c.plateau) (λ _. refl) (λ _. tt))
    (λ _. tt)

has_leaves : (g : Program) (t : Moment) (c : Progress) (p : Phase) → ResultHas c.plateau (leaves g t c p)
has_leaves g t c p =
    cond_both (agrees p t.levels) _ _ (ResultHas c.plateau)
    (λ _. has_linked g.blocks c (next_of c.at p.next) p.link)
    (λ _. refl)

has_ended : (v : Option ℕ) (e : Effects) (r : Result (Option Progress) Fault) → ResultHas v r → HasPlateau v (phase_ended e r).rest
has_ended v e (Ok r) h = h
has_ended v e (Err x) h = tt

has_left : (g : Program) (t : Moment) (c : Progress) (p : Phase) (e : Effects) → HasPlateau c.plateau (phase_ended e (leaves g t c p)).rest
has_left g t c p e = has_ended c.plateau e (leaves g t c p) (has_leaves g t c p)

module _ (g : Program) (t : Moment) (c : Progress) where
  has_sets : (p : Phase) (m : Option Motion) → HasPlateau c.plateau (sets_movement g t c p m).rest
  has_sets p None = has_left g t c p (entered p)
  has_sets p (Some m) = refl

  has_moves : (p : Phase) (d : Distance) (constant : Bool) → HasPlateau c.plateau (moves_by g t c p d constant).rest
  has_moves p d constant = has_sets p (begun g.values c.plateau d.direction d.steps constant)

  has_starts : (p : Phase) (n : Nature) → HasPlateau (set_by p n c.plateau) (starts g t c p n).rest
  has_starts p Relative = has_moves p (distance_of p) false
  has_starts p ConstantSpeed = has_moves p (distance_of p) true
  has_starts p Absolute = has_moves p (distance_to p.set_point t.counter) false
  has_starts p Origin = has_moves p (distance_to (pos 0) t.counter) false
  has_starts p Wait = refl
  has_starts p PlateauSpeed = has_left g t (with_plateau c (speed_within p.set_point)) p (entered p)
  has_starts p _ = has_left g t c p (entered p)

  has_returns : (qs : List (Option Position)) → HasPlateau c.plateau (returns_from c qs)
  has_returns [] = tt
  has_returns (q ∷ qs) = has_goes_on (with_returns c qs) q

  has_enters : (o : Option Phase) → HasPlateau (plateau_entering o c.plateau) (enters g t c o).rest
  has_enters None = has_returns c.returns
  has_enters (Some p) = has_starts p p.nature

  has_moved : (p : Phase) (m : Motion) (r : Option Motion) → HasPlateau c.plateau (moved g t c p m r).rest
  has_moved p m (Some r) = refl
  has_moved p m None =
      cond_both m.stopping _ _ (λ (o : Outcome). HasPlateau c.plateau o.rest) (λ _. tt)
      (λ _. has_left g t c p (step_only (tick_step m)))

  has_tick : (a : PhaseState) → HasPlateau (plateau_after g c a) (state_tick g t c a).rest
  has_tick entering = has_enters (phase_at g c.at)
  has_tick (moving p m) = has_moved p m (tick_rest m)
  has_tick (waiting p n) =
      cond_both (leb n 1) _ _ (λ (o : Outcome). HasPlateau c.plateau o.rest)
      (λ _. has_left g t c p nothing) (λ _. refl)

pub plateau_lasts : (g : Program) (t : Moment) (c : Progress) → PlateauLasts g c (tick g t c)
plateau_lasts g t c = has_tick g t c c.state
