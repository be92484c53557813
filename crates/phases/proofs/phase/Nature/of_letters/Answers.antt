use Rattle.std.proofs.Common.{sym, ◌∙◌, rules, tests}
use Rattle.std.specs.Str.{bytes_eq}
use Rattle.std.proofs.lemmas.Iterator.Adapters.{option_map_id}
use Rattle.std.proofs.lemmas.Iterator.{YieldsList-from_slice}
use Rattle.std.proofs.lemmas.Iterator.Consumers.{YieldsList-from_copied}
use Rattle.std.proofs.lemmas.Iterator.Search.{find_from_yields_List}
use Rattle.phases.specs.Phases.{letters_of, natures}
use Rattle.phases.proofs.phase.Nature.of_letters.Goals as goal

pub returns : goal.returns
returns c =
    sym (option_map_id c.find.result)
    ∙ find_from_yields_List (λ k. bytes_eq c.args.letters.now (letters_of k)) _ _ c.find.result c.find.ensures.ran (YieldsList-from_copied (YieldsList-from_slice natures cc)) (λ x b q k. search (rules, tests))
