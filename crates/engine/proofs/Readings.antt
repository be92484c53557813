-- What counts as unwritten is never run.
use Rattle.std.proofs.Common.{◌≡◌, ℕ, true, List, get_or, Some, Ok, Err, Option, Result, subst, arith}
use Rattle.std.proofs.lemmas.Bool.{cond_both}
use Rattle.faults.specs.declared.Fault.{Fault}
use Rattle.faults.specs.Faults.{and_then}
use Rattle.phases.specs.declared.phase.Phase.{Phase}
use Rattle.phases.specs.Phases.{Written, blank}
use Rattle.store.specs.Records.{lent, shown, located, read_answer, written}
use Rattle.engine.specs.Laws.{RunsOnlyWritten}

shown_written : (x p : Phase) → shown x ≡ Some p → Written p ≡ true
shown_written x p =
    cond_both (Written x) _ _ (λ (o : Option Phase). o ≡ Some p → Written p ≡ true)
    (λ w e. let q : x ≡ p = cc in subst (λ y. Written y ≡ true) q w)
    (λ _ e. let z : ◌≡◌ {A = ℕ} 0 1 = cc in absurd (omega arith))

read_written : (m : List Phase) (p : Phase) (r : Result ℕ Fault) → written (read_answer r m) ≡ Some p → Written p ≡ true
read_written m p (Ok at) e = shown_written (get_or m at blank) p e
read_written m p (Err f) e = let z : ◌≡◌ {A = ℕ} 0 1 = cc in absurd (omega arith)

lent_written : (m : List Phase) (p : Phase) (l : Result (Unit {0}) Fault) (r : Result ℕ Fault) → written (and_then l (λ _. read_answer r m)) ≡ Some p → Written p ≡ true
lent_written m p (Ok u) r e = read_written m p r e
lent_written m p (Err f) r e = let z : ◌≡◌ {A = ℕ} 0 1 = cc in absurd (omega arith)

pub runs_only_written : RunsOnlyWritten
runs_only_written g q p e = lent_written g.records p (lent g.records) (located g.blocks q.sequence q.phase) e
