-- Which lines a module takes, told by transcripts of a new module.
use Rattle.std.specs.Prelude.{[], ◌∷◌}
use Rattle.laws.specs.Transcripts.{IsTranscript, IsTranscriptAt, accepted, refused, answered, unanswered, part, damaged, at_rest, no_step, levels, power_up, tick_lent, character_with_room}

pub record WorkedLines : Type 0 where
  -- an own line begins with the two digits of the address
  pub own : IsTranscriptAt 36 (
      unanswered "63DR 7" ∷ unanswered "00DR 8" ∷ accepted "36DR 9" ∷ answered "36RL" "36EL 00500 02000 01000 000009 +"
      ∷ answered "36RP" "36EP +0000000 00 FF" ∷ answered "36RV" "36EV 10 00000004" ∷ answered "36RX" "36EE N"
      ∷ accepted "36SN 1 1" ∷ answered "36RS 1 1" "36ES X" ∷ [])
  -- a broadcast is done, or refused and kept, as any other line, and is not answered; a question is refused
  pub broadcast : IsTranscript (unanswered "DR 7" ∷ answered "00RL" "00EL 00500 02000 01000 000007 +" ∷ [])
  pub broadcast_refused : IsTranscript (unanswered "DR 999999" ∷ answered "00RX" "00EE 1" ∷ [])
  pub broadcast_question : IsTranscript (unanswered "RL" ∷ answered "00RX" "00EE 0" ∷ [])
  -- a stranger's line is not answered and leaves no fault, be it too long or empty
  pub strangers : IsTranscript (
      unanswered "01DR 7" ∷ unanswered "01XX" ∷ unanswered "" ∷ unanswered "0" ∷ unanswered "gm"
      ∷ unanswered "01AAAAAAAAAAAAAAAAAAAAAAAAAAAAAAAAAAAAAAAAAAAAAAAAAAAAAAAAAAAAAAA"
      ∷ answered "00RL" "00EL 00500 02000 01000 000000 +" ∷ answered "00RX" "00EE N" ∷ [])
  -- a line of 64 characters passes the receiver, and its command is unknown; one of 65 does not
  pub longest : IsTranscript (
      refused "00AAAAAAAAAAAAAAAAAAAAAAAAAAAAAAAAAAAAAAAAAAAAAAAAAAAAAAAAAAAAAA" ∷ answered "00RX" "00EE 6" ∷ [])
  pub too_long : IsTranscript (
      refused "00AAAAAAAAAAAAAAAAAAAAAAAAAAAAAAAAAAAAAAAAAAAAAAAAAAAAAAAAAAAAAAA" ∷ answered "00RX" "00EE 8" ∷ [])
  pub broadcast_too_long : IsTranscript (
      unanswered "GAAAAAAAAAAAAAAAAAAAAAAAAAAAAAAAAAAAAAAAAAAAAAAAAAAAAAAAAAAAAAAAA" ∷ answered "00RX" "00EE 8" ∷ [])
  -- a line stays open until its 0Dh comes, whatever comes in between; a power-up drops it
  pub held : IsTranscript (
      part "00DR 1" ∷ no_step 5 at_rest ∷ levels 0x2D ∷ accepted "2" ∷ answered "00RL" "00EL 00500 02000 01000 000012 +" ∷ [])
  pub dropped : IsTranscript (part "00DR 1" ∷ power_up ∷ unanswered "2" ∷ answered "00RL" "00EL 00500 02000 01000 000000 +" ∷ [])
  -- a damaged 0Dh ends no line, and a damaged character of an own line refuses it; without an undamaged address it is a stranger's
  pub damaged_end : IsTranscript (part "00DR 7" ∷ damaged 0x0D ∷ refused "" ∷ answered "00RX" "00EE 8" ∷ [])
  pub damaged_figure : IsTranscript (part "00DR " ∷ damaged 0x37 ∷ refused "" ∷ answered "00RX" "00EE 8" ∷ [])
  pub damaged_address : IsTranscript (part "0" ∷ damaged 0x30 ∷ unanswered "DR 7" ∷ answered "00RX" "00EE N" ∷ [])
  -- an undamaged 0Ah is passed over, a damaged one is a character
  pub line_feeds : IsTranscript (accepted "0\n0D\nR \n7\n" ∷ answered "00RL" "00EL 00500 02000 01000 000007 +" ∷ [])
  pub damaged_feed : IsTranscript (part "00DR 7" ∷ damaged 0x0A ∷ refused "" ∷ answered "00RX" "00EE 8" ∷ [])
  -- all of word 1 is the command: 6 where it is unknown or empty
  pub commands : IsTranscript (
      refused "00DR7" ∷ answered "00RX" "00EE 6" ∷ refused "00" ∷ answered "00RX" "00EE 6" ∷ refused "00 DR 7" ∷ answered "00RX" "00EE 6"
      ∷ refused "00dr 7" ∷ answered "00RX" "00EE 6" ∷ unanswered "G" ∷ answered "00RX" "00EE 6" ∷ [])
  -- words are parted by one space: 0 where one is missing, empty, surplus or of wrong form
  pub words : IsTranscript (
      refused "00DR" ∷ answered "00RX" "00EE 0" ∷ refused "00DR  7" ∷ answered "00RX" "00EE 0" ∷ refused "00DR 7 " ∷ answered "00RX" "00EE 0"
      ∷ refused "00DR 7 7" ∷ answered "00RX" "00EE 0" ∷ refused "00DR 7A" ∷ answered "00RX" "00EE 0" ∷ refused "00GO 1" ∷ answered "00RX" "00EE 0" ∷ [])
  -- a number has one to ten digits, DP and GA take a sign; a hexadecimal number has one to eight, in capitals
  pub numbers : IsTranscript (
      accepted "00DR 0000000007" ∷ answered "00RL" "00EL 00500 02000 01000 000007 +" ∷ refused "00DR 00000000007" ∷ answered "00RX" "00EE 0"
      ∷ accepted "00DP +5" ∷ answered "00RP" "00EP +0000005 00 FF" ∷ accepted "00DP -0" ∷ answered "00RP" "00EP +0000000 00 FF"
      ∷ refused "00DP -" ∷ answered "00RX" "00EE 0" ∷ refused "00DP --1" ∷ answered "00RX" "00EE 0"
      ∷ accepted "00GL 0000001B" ∷ answered "00RP" "00EP +0000000 00 1B" ∷ refused "00GL 00000001B" ∷ answered "00RX" "00EE 0"
      ∷ refused "00GL 1b" ∷ answered "00RX" "00EE 0" ∷ [])
  -- the fault record is the latest refusal; lines that are accepted and strangers' lines, ticks and levels leave it
  pub latest : IsTranscript (
      refused "00XX" ∷ refused "00DR 999999" ∷ accepted "00DR 1" ∷ unanswered "01XX" ∷ no_step 1 at_rest ∷ levels 0x2D ∷ answered "00RX" "00EE 1" ∷ [])
  -- a call that is lent other than 414 records, or has room for under 80 bytes, counts as not made: 101, 102
  pub not_made : IsTranscript (
      part "00DR 1" ∷ tick_lent 413 ∷ tick_lent 415 ∷ character_with_room 79 0x30 ∷ accepted "2"
      ∷ answered "00RL" "00EL 00500 02000 01000 000012 +" ∷ answered "00RX" "00EE N" ∷ [])
