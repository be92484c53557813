use Rattle.engine.specs.Progress.{Progress, progress}
use Rattle.engine.proofs.Stops.{stops_in_time, enters_no_more}
use Rattle.engine.proofs.run.Run.stop.Goals as goal

pub returns : goal.returns
returns c =
    let s : Progress = progress c.args.self in
    let e = c.slow_stop.ensures in
    record { rest = e; stays = enters_no_more s _ e; ends = stops_in_time c.args.self _ e }
