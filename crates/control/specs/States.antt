-- The state of a module but for its line, its fault record and its axis.
use Rattle.std.specs.Prelude.{ℕ, Bool, true, false, List, [], length, Some, None, Option}
use Rattle.phases.specs.declared.phase.Phase.{Phase}
use Rattle.phases.specs.declared.phase.Position.{Position}
use Rattle.store.specs.declared.directory.Block.{Block}
use Rattle.store.specs.Directories.{sequences}
use Rattle.store.specs.Stores.{Store}
use Rattle.motion.specs.Values.{Values}
use Rattle.motion.specs.Settings.{Settings, settings, initial_settings}
use Rattle.motion.specs.Motions.{Motion, motion}
use Rattle.engine.specs.Progress.{Progress, progress, upcoming}
use Rattle.orders.specs.declared.order.Situation.{Situation}
use Rattle.control.specs.declared.activity.Activity.{Activity as Declared}
use Rattle.control.specs.declared.activity.Activity.TheVariants.{Moving, Running}
use Rattle.control.specs.declared.control.Control.{Control}

-- the module activity: what goes on
pub data Activity : Type 0 where
  resting : Activity
  moving : Motion → Activity
  running : Progress → Activity

abbrev pub activity_of : Option Declared → Activity
activity_of None = resting
activity_of (Some (Moving m)) = moving (motion m)
activity_of (Some (Running r)) = running (progress r)

pub record State : Type 0 where
  pub settings : Settings
  pub address : ℕ
  pub levels : ℕ
  pub outputs : ℕ
  pub chosen : Option ℕ
  pub blocks : List Block
  pub activity : Activity

abbrev pub state : Control → State
state c = record {
  settings = settings c.settings;
  address = c.address;
  levels = c.levels;
  outputs = c.outputs;
  chosen = c.chosen;
  blocks = sequences c.directory;
  activity = activity_of c.activity;
}

-- its phase memory, over these records
abbrev pub store_of : State → List Phase → Store
store_of s m = record { blocks = s.blocks; records = m }

-- a new module: levels 00h, outputs FFh, no sequence, address 00
abbrev pub initial : State
initial = record { settings = initial_settings; address = 0; levels = 0; outputs = 255; chosen = None; blocks = []; activity = resting }

-- busy: anything goes on, a direct movement or the run of a sequence
abbrev pub is_busy : Activity → Bool
is_busy resting = false
is_busy _ = true

-- the phase that the next tick enters, if it enters one
abbrev pub upcoming_in : Activity → Option Position
upcoming_in (running r) = upcoming r
upcoming_in _ = None

-- how many sub-sequences are open
abbrev pub open_in : Activity → ℕ
open_in (running r) = length r.returns
open_in _ = 0

-- what the rows ask of the module
abbrev pub situation : State → Situation
situation s = record {
  address = s.address;
  busy = is_busy s.activity;
  start_speed = s.settings.values.start_speed;
  plateau_speed = s.settings.values.plateau_speed;
}

abbrev pub with_settings : State → Settings → State
with_settings s p = record s { settings = p }

abbrev pub with_values : State → Values → State
with_values s v = with_settings s (record s.settings { values = v })

abbrev pub with_activity : State → Activity → State
with_activity s a = record s { activity = a }

-- the end of a movement or a run sets the outputs to FFh
abbrev pub ended : State → State
ended s = record s { outputs = 255; activity = resting }

-- what is left goes on; where nothing is, that is the end
abbrev pub goes_on : State → Activity → State
goes_on s resting = ended s
goes_on s (moving m) = with_activity s (moving m)
goes_on s (running r) = with_activity s (running r)

-- the movement that is left goes on
abbrev pub moves_on : State → Option Motion → State
moves_on s None = goes_on s resting
moves_on s (Some m) = goes_on s (moving m)

-- the run that is left goes on
abbrev pub runs_on : State → Option Progress → State
runs_on s None = goes_on s resting
runs_on s (Some r) = goes_on s (running r)
