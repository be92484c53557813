-- What is said of a script that is not played to its end.
use Rattle.std.specs.Prelude.{ℕ, List, ◌++◌, codes}
use Rattle.std.specs.Fmt.{decimal}
use Rattle.scripts.specs.declared.error.ScriptError.{ScriptError}
use Rattle.scripts.specs.declared.error.ScriptError.TheVariants.{Line, NoMemory}
use Rattle.scripts.specs.declared.expected.Expected.{Expected}
use Rattle.scripts.specs.declared.expected.Expected.TheVariants.{Order, Module, FirstModule, Byte, Ticks, Levels, Room, Lent, Alone, FewerCalls}

-- what was expected
abbrev pub expected_text : Expected → List ℕ
expected_text Order = codes "module, send, type, byte, tick, levels, power-up, room, lent, fault, state or a comment"
expected_text Module = codes "module full|half|pulse|dry and an address in decimal"
expected_text FirstModule = codes "a line that begins a module, as module full 00"
expected_text Byte = codes "byte HH or byte HH damaged, HH in hexadecimal"
expected_text Ticks = codes "tick N, N in decimal and at most " ++ decimal 20000000
expected_text Levels = codes "levels HH, HH in hexadecimal"
expected_text Room = codes "room N HH or room N HH damaged"
expected_text Lent = codes "lent N and one of tick, power-up, levels HH, byte HH or byte HH damaged"
expected_text Alone = codes "nothing behind fault, state or power-up"
expected_text FewerCalls = codes "at most " ++ (decimal 20000000 ++ codes " calls in a module")

abbrev pub error_text : ScriptError → List ℕ
error_text (Line number expected) = codes "line " ++ (decimal number ++ (codes ": expected " ++ expected_text expected))
error_text NoMemory = codes "there is not enough memory"
