-- Worked examples, all in one table: each is a transcript of a new module 00.
use Rattle.std.specs.Prelude.{[], ◌∷◌}
use Rattle.laws.specs.Transcripts.{IsTranscript, accepted, refused, answered, busy, at_rest, no_step, forward}

pub record WorkedExamples : Type 0 where
  -- the longest distance, one step more, and a distance with a sign
  pub distance_taken : IsTranscript (accepted "00DR 999998" ∷ answered "00RX" "00EE N" ∷ [])
  pub distance_past : IsTranscript (refused "00DR 999999" ∷ answered "00RX" "00EE 1" ∷ [])
  pub distance_signed : IsTranscript (refused "00DR -10" ∷ answered "00RX" "00EE 0" ∷ answered "00RX" "00EE N" ∷ [])
  -- the least speed, one below it, and a start speed above the plateau speed of 2000
  pub speed_least : IsTranscript (accepted "00VN 20" ∷ [])
  pub speed_low : IsTranscript (refused "00VN 19" ∷ answered "00RX" "00EE 1" ∷ [])
  pub speed_past : IsTranscript (refused "00VN 2001" ∷ answered "00RX" "00EE 9" ∷ [])
  -- eight sequences reserve 400 of the 414 records: 15 more do not go in, and 14 do
  pub reserved : IsTranscript (
      accepted "00SN 1 50" ∷ accepted "00SN 2 50" ∷ accepted "00SN 3 50" ∷ accepted "00SN 4 50"
      ∷ accepted "00SN 5 50" ∷ accepted "00SN 6 50" ∷ accepted "00SN 7 50" ∷ accepted "00SN 8 50"
      ∷ refused "00SN 9 15" ∷ answered "00RX" "00EE 5" ∷ accepted "00SN 9 14" ∷ [])
  -- a phase reads back
  pub phase_told : IsTranscript (
      accepted "00SN 2 5" ∷ accepted "00SP 2 3 S+ NP C150 NS 5"
      ∷ answered "00RS 2 3" "00ES 02 03 S+ NP C+0000150 NL XX NE XXXXXXXX NS 05 NO XX" ∷ [])
  -- at 20,000 steps per second every other tick steps
  pub two_steps : IsTranscript (
      accepted "00DR 2" ∷ accepted "00VX 20000" ∷ accepted "00VN 20000" ∷ accepted "00GO"
      ∷ no_step 1 busy ∷ forward busy ∷ no_step 1 busy ∷ forward at_rest ∷ [])
  -- from 8,388,606 three steps forward lead to -8,388,607
  pub counter_wraps : IsTranscript (
      accepted "00VX 20000" ∷ accepted "00VN 20000" ∷ accepted "00DP 8388606" ∷ accepted "00DR 3" ∷ accepted "00GO"
      ∷ no_step 1 busy ∷ forward busy ∷ no_step 1 busy ∷ forward busy ∷ no_step 1 busy ∷ forward at_rest
      ∷ answered "00RP" "00EP -8388607 00 FF" ∷ [])
