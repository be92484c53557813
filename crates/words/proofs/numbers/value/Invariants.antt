use Rattle.std.proofs.Common.{◌≡◌, ◌^◌, ◌<◌, drop}
use Rattle.words.specs.Numbers.{value_from}
use Rattle.words.proofs.numbers.value.Given as goal

abbrev pub invariant-loop-c : goal.invariant-loop-c
invariant-loop-c l = (l.n < 16 ^ l.c-index) × (value_from l.base l.n (drop l.c-index l.text) ≡ value_from l.base 0 l.text)
