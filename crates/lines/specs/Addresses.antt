-- The addresses of the modules on the line.
use Rattle.std.specs.Prelude.{ℕ, cond, Ok, Err, Result, nat_le}
use Rattle.faults.specs.declared.Fault.{Fault}
use Rattle.faults.specs.Faults.{wrong_address}

-- an address above 63 is refused
abbrev pub address_answer : ℕ → Result (Unit {0}) Fault
address_answer n = cond (nat_le n 63) (Ok tt) (Err wrong_address)
