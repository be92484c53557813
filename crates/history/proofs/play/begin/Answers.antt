use Rattle.std.proofs.Common.{◌≡◌, true, cond, [], is_ok, Ok, Err, ap, ◌∙◌}
use Rattle.std.proofs.lemmas.Bool.{cond-true, le-leb}
use Rattle.faults.specs.Faults.{wrong_address}
use Rattle.lines.specs.Lines.{kept, kept_of}
use Rattle.module.specs.Views.{module_in, addressed}
use Rattle.history.proofs.play.begin.Goals as goal

pub returns : goal.returns
returns g c = λ records.
    let n = c.args.address in
    let d = c.new-device.result in
    let ok : is_ok c.set_address.result ≡ true = ap is_ok (c.set_address.ensures.answer ∙ cond-true _ (Ok tt) (Err wrong_address) (le-leb n 63 c.requires)) in
    let r = c.set_address.ensures.state records ∙ ap (λ b. cond b (addressed (module_in d records) n) (module_in d records)) ok ∙ ap (λ t. addressed t n) (c.new-device.ensures.state records) in
    let f = c.set_address.ensures.fault ∙ c.new-device.ensures.fault in
    let l = c.set_address.ensures.line ∙ ap (λ b. cond b (kept_of []) (kept d.receiver.line)) ok in
    λ i. record { core = record { rest = r i; fault = f i }; line = l i }
