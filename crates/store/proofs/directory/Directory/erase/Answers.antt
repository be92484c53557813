use Rattle.std.proofs.Common.{ap, ◌∙◌, sym}
use Rattle.store.specs.Directories.{sequences}
use Rattle.store.specs.Records.{closed, erased_blocks, erased_records}
use Rattle.store.proofs.Asked.{erases_blocks, keeps_blocks, erases_records, keeps_records}
use Rattle.store.proofs.directory.Directory.erase.Goals as goal

pub returns-in-Some-find : goal.returns-in-Some-find
returns-in-Some-find c =
    let d = c.args.self.now in
    let m = c.args.records.now in
    let p = c.in-Some-find.span in
    let e = c.in-Some-find.ensures.answer in
    let one = sym c.in-Some.is in
    record {
      directory = c.remove.ensures ∙ erases_blocks (sequences d) c.in-Some.number d.apart p e ∙ ap (erased_blocks (sequences d)) one;
      records =
          c.close_gap.ensures
          ∙ ap (λ u. closed p.offset p.reserve u m) c.reserved-used.ensures
          ∙ erases_records (sequences d) c.in-Some.number d.apart p m e
          ∙ ap (λ o. erased_records (sequences d) o m) one;
    }

pub returns-in_default-find : goal.returns-in_default-find
returns-in_default-find c =
    let d = c.args.self.now in
    let m = c.args.records.now in
    let e = c.in_default-find.ensures.answer in
    let one = sym c.in-Some.is in
    record {
      directory = keeps_blocks (sequences d) c.in-Some.number d.apart e ∙ ap (erased_blocks (sequences d)) one;
      records = keeps_records (sequences d) c.in-Some.number d.apart m e ∙ ap (λ o. erased_records (sequences d) o m) one;
    }
