-- A phase that `==` takes for the other is the other.
use Rattle.std.proofs.Common.{◌≡◌, true, Some, None, Option, sym, ◌∙◌}
use Rattle.std.specs.Option.{option_eq}
use Rattle.phases.specs.declared.phase.Phase.{Phase}
use Rattle.phases.specs.contracts.phase.PhasePartialEq.TheImpl as phase_impl
use Rattle.phases.proofs.Same.{phase_same}
use Rattle.sheet.specs.declared.verdict.Verdict.TheVariants.{Stored}
use Rattle.sheet.specs.Verdicts.{Judged}
use Rattle.sheet.proofs.verdict.Verdict.of.Goals as goal

stored_same : (m f : Option Phase) (s : Phase) → f ≡ Some s → option_eq phase_impl.ghosts.eq m f ≡ true → Judged m f (Stored s)
stored_same None None s e t = cc
stored_same (Some p) None s e t = cc
stored_same None (Some q) s e t = cc
stored_same (Some p) (Some q) s e t =
    let same : p ≡ q = phase_same p q t in
    ((λ _. cc), (λ other. absurd (other same)))

pub returns-in-Some : goal.returns-in-Some
returns-in-Some c = stored_same c.args.intended c.args.found c.in-Some.stored (cc) (sym c.eq.ensures ∙ c.if-eq.true)
