-- What the phases of a sequence do, told by transcripts of a new module 00. The tick after SS enters phase 1.
use Prim.Native.String.{String}
use Rattle.std.specs.Prelude.{true, false, List, [], ◌∷◌, ◌++◌}
use Rattle.laws.specs.Transcripts.{Entry, IsTranscript, accepted, refused, answered, busy, at_rest, no_step, forward, back, levels, power_up, LeavesPower}
use Rattle.laws.specs.Commands.{full_speed}

-- sequence 1 asks for input 1 high and input 2 low, and stops there where that is so; else phase 2 comes
abbrev pub asks_high_low : List Entry
asks_high_low = accepted "00SN 1 2" ∷ accepted "00SP 1 1 S+ NT C0 NE 10XXXXXX NS 54" ∷ accepted "00SP 1 2 S+ NT C0" ∷ []

-- sequence 1 waits 40 ticks, asks then for input 1 high, and stops there where that is so; else phase 2 comes
abbrev pub waits_for_high : List Entry
waits_for_high = accepted "00SN 1 2" ∷ accepted "00SP 1 1 S+ NW C1 NE 1XXXXXXX NS 54" ∷ accepted "00SP 1 2 S+ NT C0" ∷ []

-- power goes off in tick 1, and tick 2 enters this phase
abbrev pub off_then : String → List Entry
off_then phase = accepted "00SN 1 2" ∷ accepted "00SP 1 1 S+ NU C0" ∷ accepted phase ∷ accepted "00SS 1" ∷ no_step 2 busy ∷ []

-- power goes off in tick 1 and on in tick 2
abbrev pub off_and_on : List Entry
off_and_on = accepted "00SN 1 2" ∷ accepted "00SP 1 1 S+ NU C0" ∷ accepted "00SP 1 2 S+ NT C0" ∷ accepted "00SS 1" ∷ []

-- sequence 1 waits
abbrev pub waits : List Entry
waits = accepted "00SN 1 1" ∷ accepted "00SP 1 1 S+ NW C1" ∷ []

-- sequence 1 waits, and is chosen
abbrev pub chosen : List Entry
chosen = waits ++ (accepted "00SD 1" ∷ [])

-- sequences 1 and 2 wait, each under outputs of its own
abbrev pub two_waits : List Entry
two_waits =
    accepted "00SN 1 1" ∷ accepted "00SN 2 1" ∷ accepted "00SP 1 1 S+ NW C1 NO 1B" ∷ accepted "00SP 2 1 S+ NW C1 NO 2B" ∷ []

pub record WorkedSequences : Type 0 where
  -- S- moves back, S+ forward
  pub steps_back : IsTranscript (full_speed ++ (
      accepted "00SN 1 1" ∷ accepted "00SP 1 1 S- NP C1" ∷ accepted "00SS 1"
      ∷ no_step 2 busy ∷ back busy ∷ no_step 1 at_rest ∷ answered "00RP" "00EP -0000001 00 FF" ∷ []))
  pub steps_forward : IsTranscript (full_speed ++ (
      accepted "00SN 1 1" ∷ accepted "00SP 1 1 S+ NP C1" ∷ accepted "00SS 1"
      ∷ no_step 2 busy ∷ forward busy ∷ no_step 1 at_rest ∷ answered "00RP" "00EP +0000001 00 FF" ∷ []))
  -- NX goes to its set point, whatever S says
  pub moves_to : IsTranscript (full_speed ++ (
      accepted "00DP 1" ∷ accepted "00SN 1 1" ∷ accepted "00SP 1 1 S- NX C2" ∷ accepted "00SS 1"
      ∷ no_step 2 busy ∷ forward busy ∷ no_step 1 at_rest ∷ answered "00RP" "00EP +0000002 00 FF" ∷ []))
  -- NH goes to the origin, and leaves the counter when it is entered; NZ sets it to 0
  pub goes_home : IsTranscript (full_speed ++ (
      accepted "00DP 1" ∷ accepted "00SN 1 1" ∷ accepted "00SP 1 1 S+ NH C0" ∷ accepted "00SS 1"
      ∷ no_step 1 busy ∷ answered "00RP" "00EP +0000001 00 FF" ∷ no_step 1 busy ∷ back busy ∷ no_step 1 at_rest
      ∷ answered "00RP" "00EP +0000000 00 FF" ∷ []))
  pub zeroes : IsTranscript (
      accepted "00DP 5" ∷ accepted "00SN 1 1" ∷ accepted "00SP 1 1 S+ NZ C0" ∷ accepted "00SS 1"
      ∷ answered "00RP" "00EP +0000005 00 FF" ∷ no_step 1 busy ∷ answered "00RP" "00EP +0000000 00 FF" ∷ no_step 1 at_rest ∷ [])
  -- at 13,000 steps per second the fourth tick of a movement steps; up the slope to 20,000, in 1 ms, the third does
  pub constant_speed : IsTranscript (
      accepted "00VX 20000" ∷ accepted "00VN 13000" ∷ accepted "00TR 1" ∷ accepted "00SN 1 1" ∷ accepted "00SP 1 1 S+ NV C1" ∷ accepted "00SS 1"
      ∷ no_step 4 busy ∷ forward busy ∷ no_step 1 at_rest ∷ [])
  pub rising_speed : IsTranscript (
      accepted "00VX 20000" ∷ accepted "00VN 13000" ∷ accepted "00TR 1" ∷ accepted "00SN 1 1" ∷ accepted "00SP 1 1 S+ NP C1" ∷ accepted "00SS 1"
      ∷ no_step 3 busy ∷ forward busy ∷ no_step 1 at_rest ∷ [])
  -- NC is the plateau of the movement after it, and not VX
  pub plateau_set : IsTranscript (
      accepted "00VX 13000" ∷ accepted "00VN 13000" ∷ accepted "00TR 1" ∷ accepted "00SN 1 2"
      ∷ accepted "00SP 1 1 S+ NC C20000" ∷ accepted "00SP 1 2 S+ NP C1" ∷ accepted "00SS 1"
      ∷ no_step 4 busy ∷ forward busy ∷ no_step 1 at_rest ∷ answered "00RL" "00EL 13000 13000 00001 000000 +" ∷ [])
  pub plateau_unset : IsTranscript (
      accepted "00VX 13000" ∷ accepted "00VN 13000" ∷ accepted "00TR 1" ∷ accepted "00SN 1 2"
      ∷ accepted "00SP 1 1 S+ NT C0" ∷ accepted "00SP 1 2 S+ NP C1" ∷ accepted "00SS 1"
      ∷ no_step 5 busy ∷ forward busy ∷ no_step 1 at_rest ∷ [])
  -- the plateau that NC sets lasts through a link and ends with the run, and is never below VN
  pub plateau_lasts : IsTranscript (
      accepted "00VX 13000" ∷ accepted "00VN 13000" ∷ accepted "00TR 1" ∷ accepted "00SN 1 1" ∷ accepted "00SN 2 1"
      ∷ accepted "00SP 1 1 S+ NC C20000 NL 2" ∷ accepted "00SP 2 1 S+ NP C1" ∷ accepted "00SS 1"
      ∷ no_step 4 busy ∷ forward busy ∷ no_step 1 at_rest ∷ accepted "00SS 2" ∷ no_step 4 busy ∷ forward busy ∷ no_step 1 at_rest ∷ [])
  pub plateau_least : IsTranscript (full_speed ++ (
      accepted "00SN 1 2" ∷ accepted "00SP 1 1 S+ NC C20" ∷ accepted "00SP 1 2 S+ NP C1" ∷ accepted "00SS 1"
      ∷ no_step 3 busy ∷ forward busy ∷ no_step 1 at_rest ∷ []))
  -- a movement of no steps ends in the tick that enters it
  pub no_distance : IsTranscript (accepted "00SN 1 1" ∷ accepted "00SP 1 1 S+ NP C0" ∷ accepted "00SS 1" ∷ no_step 1 busy ∷ no_step 1 at_rest ∷ [])
  -- GE slows a movement down and ends the run with it, at once at constant start speed
  pub movement_stopped : IsTranscript (full_speed ++ (
      accepted "00SN 1 2" ∷ accepted "00SP 1 1 S+ NP C9" ∷ accepted "00SP 1 2 S+ NT C0" ∷ accepted "00SS 1"
      ∷ no_step 2 busy ∷ forward busy ∷ accepted "00GE" ∷ no_step 1 busy ∷ no_step 1 at_rest ∷ []))
  pub constant_stopped : IsTranscript (full_speed ++ (
      accepted "00SN 1 2" ∷ accepted "00SP 1 1 S+ NV C9" ∷ accepted "00SP 1 2 S+ NT C0" ∷ accepted "00SS 1"
      ∷ no_step 2 busy ∷ forward busy ∷ accepted "00GE" ∷ no_step 1 at_rest ∷ []))
  -- NO sets the outputs when its phase is entered, a phase without NO leaves them, and the end sets them to FFh
  pub outputs : IsTranscript (
      accepted "00SN 1 2" ∷ accepted "00SP 1 1 S+ NT C0 NO 1B" ∷ accepted "00SP 1 2 S+ NT C0" ∷ accepted "00SS 1"
      ∷ answered "00RP" "00EP +0000000 00 FF" ∷ no_step 1 busy ∷ answered "00RP" "00EP +0000000 00 1B"
      ∷ no_step 1 busy ∷ answered "00RP" "00EP +0000000 00 1B" ∷ no_step 1 at_rest ∷ answered "00RP" "00EP +0000000 00 FF" ∷ [])
  -- a wait of 1 ms lasts 40 ticks after the tick that enters it; the tick after it finds no phase
  pub wait : IsTranscript (
      accepted "00SN 1 1" ∷ accepted "00SP 1 1 S+ NW C1" ∷ accepted "00SS 1" ∷ no_step 41 busy ∷ no_step 1 at_rest ∷ [])
  -- NE: both inputs as asked for; input 1 low; input 2 high; both otherwise
  pub agrees : IsTranscript (asks_high_low ++ (levels 0x01 ∷ accepted "00SS 1" ∷ no_step 1 at_rest ∷ []))
  pub low_for_high : IsTranscript (asks_high_low ++ (levels 0x00 ∷ accepted "00SS 1" ∷ no_step 2 busy ∷ no_step 1 at_rest ∷ []))
  pub high_for_low : IsTranscript (asks_high_low ++ (levels 0x03 ∷ accepted "00SS 1" ∷ no_step 2 busy ∷ no_step 1 at_rest ∷ []))
  pub both_differ : IsTranscript (asks_high_low ++ (levels 0x02 ∷ accepted "00SS 1" ∷ no_step 2 busy ∷ no_step 1 at_rest ∷ []))
  -- input 8 is the highest bit; where NE does not agree the link does not count
  pub last_input : IsTranscript (
      accepted "00SN 1 2" ∷ accepted "00SP 1 1 S+ NT C0 NE XXXXXXX1 NS 54" ∷ levels 0x80 ∷ accepted "00SS 1" ∷ no_step 1 at_rest
      ∷ levels 0x7F ∷ accepted "00SS 1" ∷ no_step 1 busy ∷ no_step 1 at_rest ∷ [])
  pub link_passed_over : IsTranscript (
      accepted "00SN 1 1" ∷ accepted "00SP 1 1 S+ NT C0 NL 9 NE 1XXXXXXX" ∷ accepted "00SS 1" ∷ no_step 1 busy ∷ no_step 1 at_rest
      ∷ answered "00RX" "00EE N" ∷ [])
  -- NE is tested when its phase ends, in tick 41, and not when it starts
  pub high_at_the_end : IsTranscript (waits_for_high ++ (
      accepted "00SS 1" ∷ no_step 20 busy ∷ levels 0x01 ∷ no_step 20 busy ∷ no_step 1 at_rest ∷ []))
  pub high_at_the_start : IsTranscript (waits_for_high ++ (
      levels 0x01 ∷ accepted "00SS 1" ∷ no_step 20 busy ∷ levels 0x00 ∷ no_step 22 busy ∷ no_step 1 at_rest ∷ []))
  -- NL goes over for good; NQ returns in a tick of its own; a link to no sequence ends the run with 3, a fifth sub-sequence with 10
  pub linked : IsTranscript (
      accepted "00SN 1 1" ∷ accepted "00SN 2 1" ∷ accepted "00SP 1 1 S+ NT C0 NL 2" ∷ accepted "00SP 2 1 S+ NT C0 NO 1B" ∷ accepted "00SS 1"
      ∷ no_step 2 busy ∷ answered "00RP" "00EP +0000000 00 1B" ∷ no_step 1 at_rest ∷ [])
  pub returns : IsTranscript (
      accepted "00SN 1 1" ∷ accepted "00SN 2 1" ∷ accepted "00SP 1 1 S+ NT C0 NQ 2" ∷ accepted "00SP 2 1 S+ NT C0 NO 1B" ∷ accepted "00SS 1"
      ∷ no_step 2 busy ∷ answered "00RP" "00EP +0000000 00 1B" ∷ no_step 1 busy ∷ no_step 1 at_rest ∷ [])
  -- NQ returns to the phase after it or to its NS; a return to 54, and 54 in the sub-sequence, end the run
  pub returns_to_the_next : IsTranscript (
      accepted "00SN 1 3" ∷ accepted "00SN 2 1" ∷ accepted "00SP 1 1 S+ NT C0 NQ 2" ∷ accepted "00SP 1 2 S+ NT C0 NS 54 NO 2B"
      ∷ accepted "00SP 2 1 S+ NT C0" ∷ accepted "00SS 1" ∷ no_step 3 busy ∷ no_step 1 at_rest ∷ [])
  pub returns_to_ns : IsTranscript (
      accepted "00SN 1 3" ∷ accepted "00SN 2 1" ∷ accepted "00SP 1 1 S+ NT C0 NQ 2 NS 3" ∷ accepted "00SP 1 3 S+ NT C0 NO 3B"
      ∷ accepted "00SP 2 1 S+ NT C0" ∷ accepted "00SS 1" ∷ no_step 4 busy ∷ answered "00RP" "00EP +0000000 00 3B" ∷ no_step 1 at_rest ∷ [])
  pub returns_to_54 : IsTranscript (
      accepted "00SN 1 2" ∷ accepted "00SN 2 1" ∷ accepted "00SP 1 1 S+ NT C0 NQ 2 NS 54" ∷ accepted "00SP 1 2 S+ NT C0"
      ∷ accepted "00SP 2 1 S+ NT C0" ∷ accepted "00SS 1" ∷ no_step 2 busy ∷ no_step 1 at_rest ∷ [])
  pub stops_inside : IsTranscript (
      accepted "00SN 1 2" ∷ accepted "00SN 2 1" ∷ accepted "00SP 1 1 S+ NT C0 NQ 2" ∷ accepted "00SP 1 2 S+ NT C0"
      ∷ accepted "00SP 2 1 S+ NT C0 NS 54" ∷ accepted "00SS 1" ∷ no_step 1 busy ∷ no_step 1 at_rest ∷ [])
  -- NL in a sub-sequence leaves it open
  pub linked_inside : IsTranscript (
      accepted "00SN 1 1" ∷ accepted "00SN 2 1" ∷ accepted "00SN 3 1" ∷ accepted "00SP 1 1 S+ NT C0 NQ 2" ∷ accepted "00SP 2 1 S+ NT C0 NL 3"
      ∷ accepted "00SP 3 1 S+ NT C0" ∷ accepted "00SS 1" ∷ no_step 4 busy ∷ no_step 1 at_rest ∷ [])
  pub linked_to_none : IsTranscript (
      accepted "00SN 1 1" ∷ accepted "00SP 1 1 S+ NT C0 NL 2 NO 1B" ∷ refused "00XX" ∷ accepted "00SS 1" ∷ no_step 1 at_rest
      ∷ answered "00RP" "00EP +0000000 00 FF" ∷ answered "00RX" "00EE 3" ∷ [])
  pub fifth : IsTranscript (
      accepted "00SN 1 1" ∷ accepted "00SP 1 1 S+ NT C0 NQ 1" ∷ accepted "00SS 1" ∷ no_step 4 busy ∷ no_step 1 at_rest ∷ answered "00RX" "00EE 10" ∷ [])
  -- SS switches power on, NU off, NT on
  pub power_ss : LeavesPower off_and_on true
  pub power_nu : LeavesPower (off_and_on ++ (no_step 1 busy ∷ [])) false
  pub power_nt : LeavesPower (off_and_on ++ (no_step 2 busy ∷ [])) true
  pub power_end : LeavesPower (off_and_on ++ (no_step 2 busy ∷ no_step 1 at_rest ∷ [])) true
  -- so does a movement phase, also of no steps; the other phases and the end of a run leave power as it is
  pub power_np : LeavesPower (off_then "00SP 1 2 S+ NP C0") true
  pub power_nv : LeavesPower (off_then "00SP 1 2 S+ NV C0") true
  pub power_nx : LeavesPower (off_then "00SP 1 2 S+ NX C0") true
  pub power_nh : LeavesPower (off_then "00SP 1 2 S+ NH C0") true
  pub power_nw : LeavesPower (off_then "00SP 1 2 S+ NW C1") false
  pub power_nc : LeavesPower (off_then "00SP 1 2 S+ NC C20") false
  pub power_nz : LeavesPower (off_then "00SP 1 2 S+ NZ C0" ++ (no_step 1 at_rest ∷ [])) false
  -- SE takes the records of its sequence away and leaves those of the others; SN begins with unwritten ones
  pub gap : IsTranscript (
      accepted "00SN 1 1" ∷ accepted "00SN 2 2" ∷ accepted "00SP 1 1 S+ NT C0" ∷ accepted "00SP 2 2 S+ NU C0" ∷ accepted "00SE 1"
      ∷ answered "00RS 2 1" "00ES X" ∷ answered "00RS 2 2" "00ES 02 02 S+ NU C+0000000 NL XX NE XXXXXXXX NS XX NO XX"
      ∷ accepted "00SN 1 1" ∷ answered "00RS 1 1" "00ES X" ∷ [])
  -- NS goes to a phase of the same sequence
  pub goes_on : IsTranscript (
      accepted "00SN 1 3" ∷ accepted "00SP 1 1 S+ NT C0 NS 3" ∷ accepted "00SP 1 2 S+ NT C0 NO 2B" ∷ accepted "00SP 1 3 S+ NT C0 NO 3B" ∷ accepted "00SS 1"
      ∷ no_step 2 busy ∷ answered "00RP" "00EP +0000000 00 3B" ∷ no_step 1 at_rest ∷ [])
  -- power-up and MR start the chosen sequence each time, and none that was only called
  pub starts : IsTranscript (chosen ++ (power_up ∷ no_step 41 busy ∷ no_step 1 at_rest ∷ []))
  pub starts_again : IsTranscript (chosen ++ (accepted "00MR" ∷ no_step 41 busy ∷ no_step 1 at_rest ∷ []))
  pub starts_each_time : IsTranscript (chosen ++ (power_up ∷ no_step 1 busy ∷ power_up ∷ no_step 1 busy ∷ accepted "00GE" ∷ power_up ∷ no_step 1 busy ∷ []))
  pub called_only : IsTranscript (waits ++ (accepted "00SS 1" ∷ no_step 1 busy ∷ power_up ∷ no_step 1 at_rest ∷ []))
  -- SE 0 drops every choice, SE the choice of its sequence and no other; a new sequence of that number is not chosen
  pub erased_all : IsTranscript (chosen ++ (accepted "00SE 0" ∷ waits) ++ (power_up ∷ no_step 1 at_rest ∷ []))
  pub erased : IsTranscript (chosen ++ (accepted "00SE 1" ∷ waits) ++ (power_up ∷ no_step 1 at_rest ∷ []))
  pub erased_another : IsTranscript (chosen ++ (accepted "00SE 2" ∷ power_up ∷ no_step 1 busy ∷ []))
  -- GE ends a run in a wait at once
  pub stopped : IsTranscript (chosen ++ (
      accepted "00GL 1B" ∷ accepted "00SS 1" ∷ no_step 2 busy ∷ accepted "00GE" ∷ answered "00RP" "00EP +0000000 00 FF" ∷ no_step 1 at_rest ∷ []))
  -- SS runs the sequence that it names, and power-up and MR the one that SD names
  pub named : IsTranscript (two_waits ++ (accepted "00SS 2" ∷ no_step 1 busy ∷ answered "00RP" "00EP +0000000 00 2B" ∷ []))
  pub named_by_sd : IsTranscript (two_waits ++ (
      accepted "00SD 2" ∷ power_up ∷ no_step 1 busy ∷ answered "00RP" "00EP +0000000 00 2B"
      ∷ accepted "00MR" ∷ no_step 1 busy ∷ answered "00RP" "00EP +0000000 00 2B" ∷ []))
  -- power-up and MR set the counter to 0 and the outputs to FFh before the chosen sequence starts
  pub starts_afresh : IsTranscript (chosen ++ (
      accepted "00DP 5" ∷ accepted "00GL 1B" ∷ power_up ∷ answered "00RP" "00EP +0000000 00 FF" ∷ no_step 1 busy
      ∷ accepted "00GE" ∷ accepted "00DP 5" ∷ accepted "00GL 1B" ∷ accepted "00MR" ∷ answered "00RP" "00EP +0000000 00 FF" ∷ []))
