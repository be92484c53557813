-- The lines that pass between host and module are the lines of the file.
use Rattle.std.proofs.Common.{◌≡◌, ℕ, ◌+◌, length, Bool, true, false, cond, List, [], ◌∷◌, ◌++◌, map, replicate, vec_items, Some, None, refl, sym, ap, ◌∙◌, ◌==◌}
use Rattle.std.specs.Option.{option_to_list}
use Rattle.std.proofs.lemmas.List.{map-append, length-map}
use Rattle.lines.specs.Lines.{Kept, kept_of, taken}
use Rattle.law.specs.Events.Event.{letter, ending, skipped}
use Rattle.law.specs.History.{State, next}
use Rattle.module.specs.Machine.{module_device}
use Rattle.std.proofs.lemmas.Simd.{map-map}
use Rattle.phases.specs.Phases.{blank}
use Rattle.outputs.specs.Meaning.{Meaning}
use Rattle.history.specs.Histories.{started}
use Rattle.sheet.specs.declared.sheet.Sheet.{Sheet}
use Rattle.std.specs.Prelude.{◌&&◌}
use Rattle.lines.specs.Lines.{kept}
use Rattle.sheet.specs.declared.entry.Entry.{Entry}
use Rattle.sheet.specs.Readings.{told}
use Rattle.sheet.specs.Telling.{Tells, file_sent}
use Rattle.sheet.specs.Files.{Gathered, nothing, onward, gathered, is_empty}
use Rattle.sheet.specs.Exchanges.{Exchange, exchange_of, fresh, exchange, Sent, byte_sent, bytes_sent}

abbrev pub lines_in : List Exchange → List Kept
lines_in xs = map (λ x. x.line) xs

module _ (cycle : ℕ) where
  abbrev pub seen : Sent cycle → Gathered
  seen t = record { lines = lines_in t.exchanges; held = t.state.line }

  line_after : (s : State (module_device cycle)) (b : ℕ) (end skip : Bool) →
      (next (module_device cycle) s (cond end ending (cond skip skipped (letter (b, false))))).line ≡ cond end (kept_of []) (cond skip s.line (taken s.line (b, false)))
  line_after s b true skip = refl
  line_after s b false true = refl
  line_after s b false false = refl

  line_ended : (n : ℕ) (s : State (module_device cycle)) (end : Bool) →
      lines_in (cond end (exchange cycle n s ∷ []) []) ≡ option_to_list (cond end (Some s.line) None)
  line_ended n s true = refl
  line_ended n s false = refl

  byte_seen : (t : Sent cycle) (b : ℕ) → seen (byte_sent cycle t b) ≡ onward (seen t) b
  byte_seen t b = λ i. record {
    lines = (map-append (λ (x : Exchange). x.line) t.exchanges (cond (b == 13) (exchange cycle (length t.exchanges + 1) t.state ∷ []) []) ∙ ap (λ ks. lines_in t.exchanges ++ ks) (line_ended (length t.exchanges + 1) t.state (b == 13))) i;
    held = line_after t.state b (b == 13) (b == 10) i;
  }

  pub all_seen : (t : Sent cycle) (bs : List ℕ) → seen (bytes_sent cycle t bs) ≡ gathered (seen t) bs
  all_seen t [] = refl
  all_seen t (b ∷ bs) = all_seen (byte_sent cycle t b) bs ∙ ap (λ g. gathered g bs) (byte_seen t b)

pub told_all : (cycle a : ℕ) (m : Meaning) (bs : List ℕ) (s : Sheet) → Tells cycle a (file_sent cycle a m bs) s → told s ≡ gathered nothing bs
told_all cycle a m bs s tells =
    let seen = all_seen cycle (fresh cycle (started cycle a m (replicate 414 blank))) bs in
    let lines = sym (map-map (λ (x : Exchange). x.line) exchange_of (vec_items s.entries)) ∙ (ap lines_in tells.exchanges ∙ ap (λ w. w.lines) seen) in
    let held = tells.held ∙ ap (λ w. w.held) seen in
    λ i. record { lines = lines i; held = held i }

-- whether the file is empty shows in the sheet
pub told_empty : (bs : List ℕ) (s : Sheet) → told s ≡ gathered nothing bs →
    is_empty bs ≡ (length (vec_items s.entries) == 0 && length (kept s.held).characters == 0)
told_empty bs s e =
    ap (λ (g : Gathered). length g.lines == 0 && length g.held.characters == 0) (sym e)
    ∙ ap (λ n. n == 0 && length (kept s.held).characters == 0) (length-map (vec_items s.entries) (λ (x : Entry). kept x.line))
