-- What RS tells of the record that it finds, written or not.
use Rattle.std.proofs.Common.{◌≡◌, Bool, true, false, codes, sym, ◌∙◌}
use Rattle.std.proofs.lemmas.Bool.{both_ways, cond-true, cond-false}
use Rattle.phases.specs.declared.phase.Phase.{Phase}
use Rattle.phases.specs.declared.phase.Position.{Position}
use Rattle.phases.specs.Phases.{Written}
use Rattle.texts.specs.ReadBack.{TakenBack}
use Rattle.texts.specs.Texts.{phase_text, rs_found}

pub found_text : (at : Position) (p : Phase) (w : Bool) → w ≡ Written p → w ≡ true → rs_found at.sequence at.phase p ≡ phase_text at.sequence at.phase p
unfolding rs_found
found_text at p w is on = cond-true _ _ _ (sym is ∙ on)

pub unfound_text : (at : Position) (p : Phase) (w : Bool) → w ≡ Written p → w ≡ false → rs_found at.sequence at.phase p ≡ codes "X"
unfolding rs_found
unfound_text at p w is off = cond-false _ _ _ (sym is ∙ off)

pub unfound_back : (at : Position) (p : Phase) (w : Bool) → w ≡ Written p → w ≡ false → TakenBack at p
unfound_back at p w is off = λ h k e. absurd (both_ways _ (sym is ∙ off) e)
