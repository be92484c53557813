use Rattle.laws.proofs.Speeds.{adds_its_speed, goes_up_its_slope, stays_at_start_speed}
use Rattle.laws.proofs.speed_laws.Goals as goal

pub returns : goal.returns
returns c = record { adds = adds_its_speed; slope = goes_up_its_slope; constant = stays_at_start_speed }
