-- The fault record that each refusal leaves: its cause, its place and its word, told of a new module 00.
use Rattle.std.specs.Prelude.{List, [], ◌∷◌, ◌++◌}
use Rattle.laws.specs.Transcripts.{Entry, LeavesFault, accepted, refused, unanswered, part, damaged, busy, at_rest, no_step}

-- sequence 1 has two phases
abbrev pub with_sequence : List Entry
with_sequence = accepted "00SN 1 2" ∷ []

-- 400 records are reserved
abbrev pub nearly_full : List Entry
nearly_full =
    accepted "00SN 1 50" ∷ accepted "00SN 2 50" ∷ accepted "00SN 3 50" ∷ accepted "00SN 4 50"
    ∷ accepted "00SN 5 50" ∷ accepted "00SN 6 50" ∷ accepted "00SN 7 50" ∷ accepted "00SN 8 50" ∷ []

pub record WorkedRefusals : Type 0 where
  -- over 64 characters, or a damaged one
  pub too_long : LeavesFault (refused "00AAAAAAAAAAAAAAAAAAAAAAAAAAAAAAAAAAAAAAAAAAAAAAAAAAAAAAAAAAAAAAA" ∷ []) 8 "receiver" 0
  pub is_damaged : LeavesFault (part "00DR " ∷ damaged 0x37 ∷ refused "" ∷ []) 8 "receiver" 0
  -- no such command
  pub unknown : LeavesFault (refused "00XX 7 7" ∷ []) 6 "reader" 1
  -- a word is missing, surplus or of wrong form; the leftmost is told
  pub missing : LeavesFault (refused "00DR" ∷ []) 0 "reader" 2
  pub surplus : LeavesFault (refused "00DR 7 7" ∷ []) 0 "reader" 3
  pub wrong_form : LeavesFault (refused "00SN X X" ∷ []) 0 "reader" 2
  pub second_number : LeavesFault (refused "00SN 1 X" ∷ []) 0 "reader" 3
  pub question : LeavesFault (unanswered "RS X" ∷ []) 0 "reader" 1
  -- the words of SP: S is word 4, N 5, C 6; the tags stand in their order, each with a word after it
  pub direction : LeavesFault (refused "00SP 1 1 S NP C1" ∷ []) 0 "reader" 4
  pub nature : LeavesFault (refused "00SP 1 1 S+ NQ C1" ∷ []) 0 "reader" 5
  pub set_point : LeavesFault (refused "00SP 1 1 S+ NP 1" ∷ []) 0 "reader" 6
  pub tag_alone : LeavesFault (refused "00SP 1 1 S+ NP C1 NS" ∷ []) 0 "reader" 8
  pub tag_too_late : LeavesFault (refused "00SP 1 1 S+ NP C1 NO 0 NS 1" ∷ []) 0 "reader" 9
  pub tag_again : LeavesFault (refused "00SP 1 1 S+ NP C1 NS 1 NS 1" ∷ []) 0 "reader" 9
  -- busy; the form of the words comes before
  pub is_busy : LeavesFault (accepted "00DR 9" ∷ accepted "00GO" ∷ refused "00DR 999999" ∷ []) 7 "state" 0
  pub form_before_busy : LeavesFault (accepted "00DR 9" ∷ accepted "00GO" ∷ refused "00DR X" ∷ []) 0 "reader" 2
  -- a value past its limit, the leftmost; np is no phase's number; VN above VX
  pub past_limit : LeavesFault (refused "00DR 999999" ∷ []) 1 "values" 2
  pub set_point_past : LeavesFault (with_sequence ++ (refused "00SP 1 1 S+ NP C999999 NS 51" ∷ [])) 1 "values" 6
  pub next_past : LeavesFault (with_sequence ++ (refused "00SP 1 1 S+ NP C1 NS 51" ∷ [])) 1 "values" 8
  pub no_phase : LeavesFault (refused "00SN 1 51" ∷ []) 2 "values" 3
  pub sequence_first : LeavesFault (refused "00SN 100 51" ∷ []) 1 "values" 2
  pub start_past_plateau : LeavesFault (refused "00VN 2001" ∷ []) 9 "values" 2
  pub limit_first : LeavesFault (refused "00VN 20001" ∷ []) 1 "values" 2
  -- no such sequence; there is one already, also where the memory is full; no room; above the reserve
  pub absent : LeavesFault (refused "00SS 1" ∷ []) 3 "store" 2
  pub absent_to_write : LeavesFault (with_sequence ++ (refused "00SP 2 3 S+ NP C1" ∷ [])) 3 "store" 2
  pub exists : LeavesFault (nearly_full ++ (refused "00SN 8 15" ∷ [])) 4 "store" 2
  pub full : LeavesFault (nearly_full ++ (refused "00SN 9 15" ∷ [])) 5 "store" 3
  pub past_reserve : LeavesFault (with_sequence ++ (refused "00RS 1 3" ∷ [])) 2 "store" 3
  -- a run that is linked to no sequence, and a fifth sub-sequence
  pub linked_to_none : LeavesFault (
      with_sequence ++ (accepted "00SP 1 1 S+ NT C0 NL 2" ∷ accepted "00SS 1" ∷ no_step 1 at_rest ∷ [])) 3 "run" 0
  pub fifth : LeavesFault (
      with_sequence ++ (accepted "00SP 1 1 S+ NT C0 NQ 1" ∷ accepted "00SS 1" ∷ no_step 4 busy ∷ no_step 1 at_rest ∷ [])) 10 "run" 0
