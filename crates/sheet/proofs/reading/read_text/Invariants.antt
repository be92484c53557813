-- What is left of the file makes of the reading what the whole file does, and the shelf is that of the lines so far.
use Rattle.std.proofs.Common.{◌≡◌, drop}
use Rattle.history.specs.Hosts.{state_of}
use Rattle.sheet.specs.Exchanges.{fresh, bytes_sent}
use Rattle.sheet.specs.Readings.{progress, UpToDate}
use Rattle.sheet.proofs.reading.read_text.Given as goal

abbrev pub invariant-loop-byte : goal.invariant-loop-byte
invariant-loop-byte g l =
    (bytes_sent g.O.StepOutput.CYCLE (progress g.O.StepOutput.CYCLE l.reading) (drop l.byte-index l.bytes)
    ≡ bytes_sent g.O.StepOutput.CYCLE (fresh g.O.StepOutput.CYCLE (state_of g.O.StepOutput.CYCLE l.fn.host)) l.bytes)
    × UpToDate l.reading.notes
    × (l.reading.notes.address ≡ l.address)
