use Rattle.std.proofs.Common.{◌≡◌, drop}
use Rattle.scripts.specs.Numbers.{decimal_from}
use Rattle.scripts.proofs.numbers.read_decimal.Given as goal

abbrev pub invariant-loop-c : goal.invariant-loop-c
invariant-loop-c l = decimal_from l.value (drop l.c-index l.text) ≡ decimal_from 0 l.text
