use Rattle.std.proofs.Common.{◌≡◌, true, cond, [], is_ok, sym, ap, ◌∙◌}
use Rattle.lines.specs.Lines.{kept, kept_of}
use Rattle.module.specs.Views.{module_in, addressed}
use Rattle.history.proofs.host.Host.new.Goals as goal

pub returns-clause-state : goal.returns-clause-state
returns-clause-state g c =
    let n = c.args.address in
    let d = c.new-module.result in
    let records = c.args.memory in
    let same : c.set_address.result ≡ c.check_address.result = c.set_address.ensures.answer ∙ sym c.check_address.ensures in
    let ok : is_ok c.set_address.result ≡ true = ap is_ok same ∙ c.if-is_err.ensures.negation in
    let r = c.set_address.ensures.state records ∙ ap (λ b. cond b (addressed (module_in d records) n) (module_in d records)) ok ∙ ap (λ t. addressed t n) (c.new-module.ensures.state records) in
    let f = c.set_address.ensures.fault ∙ c.new-module.ensures.fault in
    let l = c.set_address.ensures.line ∙ ap (λ b. cond b (kept_of []) (kept d.receiver.line)) ok in
    λ i. record { core = record { rest = r i; fault = f i }; line = l i }
