-- What the commands do, told by transcripts of a new module 00.
use Rattle.std.specs.Prelude.{true, false, List, [], ◌∷◌, ◌++◌}
use Rattle.laws.specs.Transcripts.{Entry, IsTranscript, accepted, refused, answered, busy, at_rest, no_step, forward, back, levels, power_up, LeavesPower}

-- start and plateau speed at 20,000 steps per second: every other tick of a movement steps
abbrev pub full_speed : List Entry
full_speed = accepted "00VX 20000" ∷ accepted "00VN 20000" ∷ []

pub record WorkedCommands : Type 0 where
  -- D- and D+ are the direction of GO
  pub back_by_d : IsTranscript (full_speed ++ (
      accepted "00DR 1" ∷ accepted "00D-" ∷ accepted "00GO" ∷ no_step 1 busy ∷ back at_rest
      ∷ answered "00RP" "00EP -0000001 00 FF" ∷ []))
  pub forward_by_d : IsTranscript (full_speed ++ (
      accepted "00DR 1" ∷ accepted "00D-" ∷ accepted "00D+" ∷ accepted "00GO" ∷ no_step 1 busy ∷ forward at_rest
      ∷ answered "00RP" "00EP +0000001 00 FF" ∷ []))
  -- GH goes to 0, GA to its number, and neither by D+ or D-
  pub to_the_origin : IsTranscript (full_speed ++ (
      accepted "00DP 2" ∷ accepted "00GH" ∷ no_step 1 busy ∷ back busy ∷ no_step 1 busy ∷ back at_rest
      ∷ answered "00RP" "00EP +0000000 00 FF" ∷ []))
  pub to_a_number : IsTranscript (full_speed ++ (
      accepted "00D-" ∷ accepted "00DP -3" ∷ accepted "00GA -2" ∷ no_step 1 busy ∷ forward at_rest
      ∷ answered "00RP" "00EP -0000002 00 FF" ∷ []))
  -- one step on a new module comes in tick 80
  pub one_step : IsTranscript (accepted "00DR 1" ∷ accepted "00GO" ∷ no_step 79 busy ∷ forward at_rest ∷ [])
  -- VN 10000, VX 20000 and TR 1: the speed rises by 250 in each tick and falls by 250 for the last step, which ends the movement
  pub slope : IsTranscript (
      accepted "00VX 20000" ∷ accepted "00VN 10000" ∷ accepted "00TR 1" ∷ accepted "00DR 3" ∷ accepted "00GO"
      ∷ no_step 3 busy ∷ forward busy ∷ no_step 3 busy ∷ forward busy ∷ no_step 2 busy ∷ forward at_rest ∷ [])
  -- a movement of no steps is over at once, and sets the outputs
  pub no_distance : IsTranscript (accepted "00GL 1B" ∷ accepted "00GO" ∷ no_step 1 at_rest ∷ answered "00RP" "00EP +0000000 00 FF" ∷ [])
  -- GL sets the outputs, and the end of a movement sets them to FFh
  pub outputs : IsTranscript (full_speed ++ (
      accepted "00DR 1" ∷ accepted "00GL 1B" ∷ accepted "00GO" ∷ no_step 1 busy ∷ answered "00RP" "00EP +0000000 00 1B"
      ∷ forward at_rest ∷ answered "00RP" "00EP +0000001 00 FF" ∷ []))
  -- the slow stop with k = 3 ends in the third tick after it, without a step in that tick; with k = 0 it ends at once; at rest it does nothing
  pub slow_stop : IsTranscript (full_speed ++ (
      accepted "00DR 9" ∷ accepted "00GO" ∷ no_step 1 busy ∷ forward busy ∷ no_step 1 busy ∷ accepted "00GE"
      ∷ forward busy ∷ no_step 1 busy ∷ no_step 1 at_rest ∷ answered "00RP" "00EP +0000002 00 FF" ∷ []))
  pub slow_stop_at_once : IsTranscript (accepted "00DR 9" ∷ accepted "00GO" ∷ accepted "00GE" ∷ no_step 1 at_rest ∷ [])
  pub slow_stop_at_rest : IsTranscript (accepted "00GL 1B" ∷ accepted "00GE" ∷ answered "00RP" "00EP +0000000 00 1B" ∷ [])
  -- GR ends what goes on
  pub cut_off : IsTranscript (
      accepted "00GL 1B" ∷ accepted "00DR 9" ∷ accepted "00GO" ∷ no_step 1 busy ∷ accepted "00GR" ∷ no_step 1 at_rest
      ∷ answered "00RP" "00EP +0000000 00 FF" ∷ [])
  -- GM, and GR at rest, leave the outputs
  pub power_alone : IsTranscript (
      accepted "00GL 1B" ∷ accepted "00GM" ∷ answered "00RP" "00EP +0000000 00 1B" ∷ accepted "00GR" ∷ answered "00RP" "00EP +0000000 00 1B" ∷ [])
  -- power is off on a new module; GM and GO switch it on, and the end of a movement leaves it; GR, MR and power-up cut it
  pub power_new : LeavesPower [] false
  pub power_gm : LeavesPower (accepted "00GM" ∷ []) true
  pub power_go : LeavesPower (accepted "00GO" ∷ []) true
  pub power_end : LeavesPower (full_speed ++ (accepted "00DR 1" ∷ accepted "00GO" ∷ no_step 1 busy ∷ forward at_rest ∷ [])) true
  pub power_gr : LeavesPower (accepted "00GM" ∷ accepted "00GR" ∷ []) false
  pub power_mr : LeavesPower (accepted "00GM" ∷ accepted "00MR" ∷ []) false
  pub power_back : LeavesPower (accepted "00GM" ∷ power_up ∷ []) false
  -- from -8,388,606 three steps back lead to 8,388,607
  pub wraps_back : IsTranscript (full_speed ++ (
      accepted "00DP -8388606" ∷ accepted "00DR 3" ∷ accepted "00D-" ∷ accepted "00GO"
      ∷ no_step 1 busy ∷ back busy ∷ no_step 1 busy ∷ back busy ∷ no_step 1 busy ∷ back at_rest ∷ answered "00RP" "00EP +8388607 00 FF" ∷ []))
  -- DI zeroes the counter
  pub zeroed : IsTranscript (accepted "00DP 7" ∷ accepted "00DI" ∷ answered "00RP" "00EP +0000000 00 FF" ∷ [])
  -- RL tells VN, VX, TR, DR and the direction; RP tells the counter, the levels and the outputs; RV the cycle
  pub parameters : IsTranscript (
      accepted "00VX 12345" ∷ accepted "00VN 678" ∷ accepted "00TR 90" ∷ accepted "00DR 4321" ∷ accepted "00D-"
      ∷ answered "00RL" "00EL 00678 12345 00090 004321 -" ∷ [])
  pub position : IsTranscript (accepted "00DP -1234567" ∷ levels 0x2D ∷ accepted "00GL B4" ∷ answered "00RP" "00EP -1234567 2D B4" ∷ [])
  pub version : IsTranscript (answered "00RV" "00EV 10 00000004" ∷ [])
  -- MR keeps the parameters and the levels, sets the counter to 0 and the outputs to FFh, and clears the fault record
  pub restarted : IsTranscript (
      accepted "00VN 20" ∷ accepted "00DP 5" ∷ levels 0x2D ∷ accepted "00GL 1B" ∷ refused "00XX" ∷ accepted "00MR"
      ∷ answered "00RP" "00EP +0000000 2D FF" ∷ answered "00RL" "00EL 00020 02000 01000 000000 +" ∷ answered "00RX" "00EE N" ∷ [])
  -- power-up does the same
  pub powered_up : IsTranscript (
      accepted "00VN 20" ∷ accepted "00DP 5" ∷ levels 0x2D ∷ accepted "00GL 1B" ∷ refused "00XX" ∷ power_up
      ∷ answered "00RP" "00EP +0000000 2D FF" ∷ answered "00RL" "00EL 00020 02000 01000 000000 +" ∷ answered "00RX" "00EE N" ∷ [])
