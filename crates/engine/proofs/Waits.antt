-- NW lasts as long as it says.
use Rattle.std.proofs.Common.{◌≡◌, ℕ, ◌+◌, ◌-◌, ◌*◌, ◌<◌, false, cond, eqb, leb, List, [], ◌∷◌, length, nat_abs, Some, refl, ap, ◌∙◌, arith}
use Rattle.std.proofs.lemmas.Bool.{lt-leb}
use Rattle.std.proofs.lemmas.Bool.Decides.{nat_tests}
use Rattle.phases.specs.declared.phase.Phase.{Phase}
use Rattle.engine.specs.Progress.{Progress, waiting, with_state}
use Rattle.engine.specs.Entering.{starts, enters}
use Rattle.engine.specs.Ticks.{waited, state_tick, tick}
use Rattle.engine.specs.Rules.{over, continues}
use Rattle.engine.specs.Surroundings.{Moment, Program}
use Rattle.engine.specs.Laws.{after, WaitsItsTime}

waits_on : (g : Program) (ts : List Moment) (c : Progress) (p : Phase) (n : ℕ) → length ts < n → after g ts (Some (with_state c (waiting p n))) ≡ Some (with_state c (waiting p (n - length ts)))
waits_on g [] c p n l = ap (λ k. Some (with_state c (waiting p k))) (omega arith)
waits_on g (t ∷ ts) c p n l =
    let e : leb n 1 ≡ false = lt-leb n 1 (omega arith) in
    let first : (waited g t (with_state c (waiting p n)) p n).rest ≡ Some (with_state c (waiting p (n - 1))) = rw e in
    ap (after g ts) first ∙ waits_on g ts c p (n - 1) (omega arith) ∙ (ap (λ k. Some (with_state c (waiting p k))) (omega arith))

last_tick : (n d : ℕ) → d < n → leb (n - d) 1 ≡ eqb (d + 1) n
last_tick n d l = grind (arith, nat_tests)

pub waits_its_time : WaitsItsTime
waits_its_time g t ts c p d e n l =
    let first : (tick g t c).rest ≡ Some (with_state c (waiting p (40 * nat_abs p.set_point))) =
    ap (λ x. (state_tick g t c x).rest) d
    ∙ ap (λ o. (enters g t c o).rest) e
    ∙ ap (λ k. (starts g t c p k).rest) n in (
      with_state c (waiting p (40 * nat_abs p.set_point - length ts)),
      ap (after g ts) first ∙ waits_on g ts c p (40 * nat_abs p.set_point) l,
      refl,
      λ u. ap (λ b. cond b (over p) continues) (last_tick (40 * nat_abs p.set_point) (length ts) l),
    )
