-- The words of a line that says SP.
use Rattle.std.proofs.Common.{◌≡◌, ℕ, Bool, List, Ok, ap, ◌∙◌, rules}
use Rattle.faults.proofs.Results.{then_ok}
use Rattle.lines.specs.Lines.{Kept, text_in}
use Rattle.words.specs.Words.{Ahead, words, past}
use Rattle.fields.specs.declared.fields.RawPhase.{RawPhase}
use Rattle.fields.specs.Fields.{sp_form}
use Rattle.orders.specs.declared.command.Command.TheVariants as c
use Rattle.orders.specs.declared.names.Name.{Name}
use Rattle.orders.specs.declared.names.Name.TheVariants as n
use Rattle.orders.specs.Reading.{known, asked, arguments, read_from, command_after}

written_words : (m : Name) (s : Ahead) (raw : RawPhase) → arguments m s ≡ Ok (c.Write raw) → sp_form s ≡ Ok raw
written_words n.Write s raw e =
    let t = then_ok (sp_form s) (λ p. Ok (c.Write p)) (c.Write raw) e in
    let k : t.0 ≡ raw = cc t.1.1 in
    t.1.0 ∙ ap Ok k
written_words m s raw e = search (rules, then_ok)

from_words : (b : Bool) (ws : List (List ℕ)) (raw : RawPhase) → read_from b ws ≡ Ok (c.Write raw) → (s : Ahead) × (sp_form s ≡ Ok raw)
unfolding read_from
from_words b ws raw e =
    let k = then_ok (known (ws, 1)) _ (c.Write raw) e in
    let m = then_ok (asked b k.0) _ (c.Write raw) k.1.1 in
    (past (ws, 1), written_words m.0 (past (ws, 1)) raw m.1.1)

pub from_line : (i : ℕ) (b : Bool) (k : Kept) (raw : RawPhase) → command_after i b k ≡ Ok (c.Write raw) → (s : Ahead) × (sp_form s ≡ Ok raw)
unfolding command_after
from_line i b k raw e =
    let t = then_ok (text_in i k) _ (c.Write raw) e in
    from_words b (words t.0) raw t.1.1
