-- What a busy module takes, told by transcripts of a new module 00.
use Rattle.std.specs.Prelude.{List, [], ◌∷◌, ◌++◌}
use Rattle.laws.specs.Transcripts.{Entry, IsTranscript, accepted, refused, answered, busy, at_rest, no_step, power_up}

-- a run waits, or a direct movement goes on
abbrev pub waiting : List Entry
waiting = accepted "00SN 1 1" ∷ accepted "00SP 1 1 S+ NW C100" ∷ accepted "00SS 1" ∷ no_step 1 busy ∷ []

abbrev pub moving : List Entry
moving = accepted "00SN 1 1" ∷ accepted "00DR 9" ∷ accepted "00GO" ∷ no_step 1 busy ∷ []

-- 7: none of these is taken
abbrev pub not_taken : List Entry
not_taken =
    refused "00VN 500" ∷ answered "00RX" "00EE 7" ∷ refused "00VX 2000" ∷ answered "00RX" "00EE 7"
    ∷ refused "00TR 5" ∷ answered "00RX" "00EE 7" ∷ refused "00DR 5" ∷ answered "00RX" "00EE 7"
    ∷ refused "00D+" ∷ answered "00RX" "00EE 7" ∷ refused "00D-" ∷ answered "00RX" "00EE 7"
    ∷ refused "00DI" ∷ answered "00RX" "00EE 7" ∷ refused "00DP 5" ∷ answered "00RX" "00EE 7"
    ∷ refused "00GO" ∷ answered "00RX" "00EE 7" ∷ refused "00GH" ∷ answered "00RX" "00EE 7"
    ∷ refused "00GA 5" ∷ answered "00RX" "00EE 7" ∷ refused "00SN 6 1" ∷ answered "00RX" "00EE 7"
    ∷ refused "00SE 1" ∷ answered "00RX" "00EE 7" ∷ refused "00SD 1" ∷ answered "00RX" "00EE 7"
    ∷ refused "00SS 1" ∷ answered "00RX" "00EE 7" ∷ refused "00SP 1 1 S+ NW C1" ∷ answered "00RX" "00EE 7"
    ∷ refused "00RS 1 1" ∷ answered "00RX" "00EE 7" ∷ []

-- these are taken, and what goes on goes on
abbrev pub taken : List Entry
taken =
    accepted "00GM" ∷ accepted "00GL 3C" ∷ answered "00RP" "00EP +0000000 00 3C" ∷ answered "00RV" "00EV 10 00000004" ∷ answered "00RX" "00EE N"
    ∷ no_step 1 busy ∷ []

-- and these, which end it
abbrev pub ended_by : Entry → List Entry
ended_by line = line ∷ no_step 1 at_rest ∷ answered "00RX" "00EE N" ∷ []

-- 0: the words are looked at before what goes on
abbrev pub of_wrong_form : List Entry
of_wrong_form = refused "00DR X" ∷ answered "00RX" "00EE 0" ∷ refused "00DR 999999" ∷ answered "00RX" "00EE 7" ∷ []

pub record TakenWhenBusy : Type 0 where
  pub not_in_a_run : IsTranscript (waiting ++ not_taken)
  pub not_in_a_movement : IsTranscript (moving ++ not_taken)
  pub form_first : IsTranscript (waiting ++ of_wrong_form)
  pub in_a_run : IsTranscript (waiting ++ (answered "00RL" "00EL 00500 02000 01000 000000 +" ∷ taken))
  pub in_a_movement : IsTranscript (moving ++ (answered "00RL" "00EL 00500 02000 01000 000009 +" ∷ taken))
  pub run_stopped : IsTranscript (waiting ++ ended_by (accepted "00GE"))
  pub run_cut_off : IsTranscript (waiting ++ ended_by (accepted "00GR"))
  pub run_restarted : IsTranscript (waiting ++ ended_by (accepted "00MR"))
  pub movement_cut_off : IsTranscript (moving ++ ended_by (accepted "00GR"))
  pub movement_restarted : IsTranscript (moving ++ ended_by (accepted "00MR"))
  -- the movement is one tick up its slope: it slows down in the next one, and is over
  pub movement_stopped : IsTranscript (moving ++ ended_by (accepted "00GE"))
  -- a power-up ends both
  pub run_ended_by_power_up : IsTranscript (waiting ++ (power_up ∷ no_step 1 at_rest ∷ []))
  pub movement_ended_by_power_up : IsTranscript (moving ++ (power_up ∷ no_step 1 at_rest ∷ []))
