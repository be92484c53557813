use Rattle.std.proofs.Common.{◌≡◌, ◌++◌, map, drop, vec_items}
use Rattle.scripts.specs.Calls.{typed}
use Rattle.scripts.proofs.section.Section.characters.Given as goal

abbrev pub invariant-loop-byte : goal.invariant-loop-byte
invariant-loop-byte l = record {
  rest : l.self ≡ record l.initial.self { calls = l.self.calls };
  calls : vec_items l.self.calls ++ map typed (drop l.byte-index l.text) ≡ vec_items l.initial.self.calls ++ map typed l.text;
}
