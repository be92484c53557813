-- The limits of the commands, each with the first number beyond it, told by transcripts of a new module 00.
use Rattle.std.specs.Prelude.{[], ◌∷◌}
use Rattle.laws.specs.Transcripts.{IsTranscript, accepted, refused, answered}

pub record WorkedLimits : Type 0 where
  pub start_speed : IsTranscript (
      accepted "00VX 20000" ∷ accepted "00VN 20" ∷ accepted "00VN 20000"
      ∷ refused "00VN 19" ∷ answered "00RX" "00EE 1" ∷ refused "00VN 20001" ∷ answered "00RX" "00EE 1" ∷ [])
  pub plateau_speed : IsTranscript (
      accepted "00VN 20" ∷ accepted "00VX 20" ∷ accepted "00VX 20000"
      ∷ refused "00VX 19" ∷ answered "00RX" "00EE 1" ∷ refused "00VX 20001" ∷ answered "00RX" "00EE 1" ∷ [])
  -- VN is at most VX: 9
  pub start_to_plateau : IsTranscript (
      accepted "00VN 2000" ∷ accepted "00VX 2000" ∷ refused "00VN 2001" ∷ answered "00RX" "00EE 9" ∷ refused "00VX 1999" ∷ answered "00RX" "00EE 9" ∷ [])
  pub slope : IsTranscript (
      accepted "00TR 1" ∷ accepted "00TR 65000" ∷ refused "00TR 0" ∷ answered "00RX" "00EE 1" ∷ refused "00TR 65001" ∷ answered "00RX" "00EE 1" ∷ [])
  pub distance : IsTranscript (accepted "00DR 0" ∷ accepted "00DR 999998" ∷ refused "00DR 999999" ∷ answered "00RX" "00EE 1" ∷ [])
  pub counter : IsTranscript (
      accepted "00DP 8388606" ∷ answered "00RP" "00EP +8388606 00 FF" ∷ accepted "00DP -8388606" ∷ answered "00RP" "00EP -8388606 00 FF"
      ∷ refused "00DP 8388607" ∷ answered "00RX" "00EE 1" ∷ refused "00DP -8388607" ∷ answered "00RX" "00EE 1" ∷ [])
  pub goal : IsTranscript (
      accepted "00GA 8388606" ∷ accepted "00GR" ∷ accepted "00GA -8388606" ∷ accepted "00GR"
      ∷ refused "00GA 8388607" ∷ answered "00RX" "00EE 1" ∷ refused "00GA -8388607" ∷ answered "00RX" "00EE 1" ∷ [])
  pub outputs : IsTranscript (
      accepted "00GL 0" ∷ answered "00RP" "00EP +0000000 00 00" ∷ accepted "00GL FF" ∷ answered "00RP" "00EP +0000000 00 FF"
      ∷ refused "00GL 100" ∷ answered "00RX" "00EE 1" ∷ [])
  -- sequences are 1 to 99, their phases 1 to 50: 1, then 2
  pub sequences : IsTranscript (
      accepted "00SN 1 1" ∷ accepted "00SN 99 50" ∷ refused "00SN 0 1" ∷ answered "00RX" "00EE 1" ∷ refused "00SN 100 1" ∷ answered "00RX" "00EE 1"
      ∷ refused "00SN 2 0" ∷ answered "00RX" "00EE 2" ∷ refused "00SN 2 51" ∷ answered "00RX" "00EE 2" ∷ [])
  -- 4: a sequence exists; 3: it does not; 2: a phase above the reserve
  pub existing : IsTranscript (
      accepted "00SN 1 2" ∷ refused "00SN 1 2" ∷ answered "00RX" "00EE 4" ∷ refused "00SD 2" ∷ answered "00RX" "00EE 3" ∷ refused "00SS 2" ∷ answered "00RX" "00EE 3"
      ∷ refused "00RS 2 1" ∷ answered "00RX" "00EE 3" ∷ refused "00SP 2 1 S+ NT C0" ∷ answered "00RX" "00EE 3" ∷ answered "00RS 1 2" "00ES X"
      ∷ refused "00RS 1 3" ∷ answered "00RX" "00EE 2" ∷ refused "00SP 1 3 S+ NT C0" ∷ answered "00RX" "00EE 2" ∷ accepted "00SE 2" ∷ accepted "00SE 0" ∷ [])
  -- the set point of a phase, by nature
  pub set_points : IsTranscript (
      accepted "00SN 1 1"
      ∷ accepted "00SP 1 1 S+ NP C0" ∷ accepted "00SP 1 1 S+ NP C999998" ∷ refused "00SP 1 1 S+ NP C999999" ∷ refused "00SP 1 1 S+ NP C-1"
      ∷ accepted "00SP 1 1 S+ NV C0" ∷ accepted "00SP 1 1 S+ NV C999998" ∷ refused "00SP 1 1 S+ NV C999999" ∷ refused "00SP 1 1 S+ NV C-1"
      ∷ accepted "00SP 1 1 S+ NX C8388606" ∷ accepted "00SP 1 1 S+ NX C-8388606" ∷ refused "00SP 1 1 S+ NX C8388607" ∷ refused "00SP 1 1 S+ NX C-8388607"
      ∷ accepted "00SP 1 1 S+ NW C1" ∷ accepted "00SP 1 1 S+ NW C65000" ∷ refused "00SP 1 1 S+ NW C0" ∷ refused "00SP 1 1 S+ NW C65001"
      ∷ accepted "00SP 1 1 S+ NC C20" ∷ accepted "00SP 1 1 S+ NC C20000" ∷ refused "00SP 1 1 S+ NC C19" ∷ refused "00SP 1 1 S+ NC C20001"
      ∷ accepted "00SP 1 1 S+ NH C0" ∷ refused "00SP 1 1 S+ NH C1" ∷ accepted "00SP 1 1 S+ NZ C0" ∷ refused "00SP 1 1 S+ NZ C1"
      ∷ accepted "00SP 1 1 S+ NT C0" ∷ refused "00SP 1 1 S+ NT C1" ∷ accepted "00SP 1 1 S+ NU C0" ∷ refused "00SP 1 1 S+ NU C1" ∷ answered "00RX" "00EE 1"
      ∷ answered "00RS 1 1" "00ES 01 01 S+ NU C+0000000 NL XX NE XXXXXXXX NS XX NO XX" ∷ [])
  -- a phase takes back the text that RS tells, XX and eight X for what is left out
  pub sent_back : IsTranscript (
      accepted "00SN 2 5" ∷ accepted "00SP 02 03 S+ NP C+0000150 NL XX NE XXXXXXXX NS 05 NO XX"
      ∷ answered "00RS 2 3" "00ES 02 03 S+ NP C+0000150 NL XX NE XXXXXXXX NS 05 NO XX" ∷ answered "00RS 2 1" "00ES X" ∷ [])
  -- every field of a phase that is not left out
  pub fields : IsTranscript (
      accepted "00SN 1 2" ∷ accepted "00SP 1 2 S- NX C-1234567 NQ 34 NE 01X0XX1X NS 50 NO 6F"
      ∷ answered "00RS 1 2" "00ES 01 02 S- NX C-1234567 NQ 34 NE 01X0XX1X NS 50 NO 6F"
      ∷ accepted "00SP 1 2 S- NX C-1234567 NL 34 NE 01X0XX1X NS 54 NO 6F"
      ∷ answered "00RS 1 2" "00ES 01 02 S- NX C-1234567 NL 34 NE 01X0XX1X NS 54 NO 6F"
      ∷ refused "00SP 1 2 S- NX C0 NS 51" ∷ answered "00RX" "00EE 1" ∷ refused "00SP 1 2 S- NX C0 NL 100" ∷ answered "00RX" "00EE 1"
      ∷ refused "00SP 1 2 S- NX C0 NQ XX" ∷ answered "00RX" "00EE 0" ∷ refused "00SP 1 2 S- NX C0 NO 100" ∷ answered "00RX" "00EE 1" ∷ [])
  -- the numbers of sequences and phases that commands name: SE takes 0 to 99, the others 1 to 99 and 1 to 50
  pub numbers : IsTranscript (
      accepted "00SE 99" ∷ refused "00SE 100" ∷ answered "00RX" "00EE 1" ∷ refused "00SD 0" ∷ answered "00RX" "00EE 1" ∷ refused "00SD 100" ∷ answered "00RX" "00EE 1"
      ∷ refused "00SS 0" ∷ answered "00RX" "00EE 1" ∷ refused "00SS 100" ∷ answered "00RX" "00EE 1" ∷ refused "00RS 0 1" ∷ answered "00RX" "00EE 1"
      ∷ refused "00RS 100 1" ∷ answered "00RX" "00EE 1" ∷ refused "00RS 1 0" ∷ answered "00RX" "00EE 2" ∷ refused "00RS 1 51" ∷ answered "00RX" "00EE 2"
      ∷ refused "00SP 0 1 S+ NT C0" ∷ answered "00RX" "00EE 1" ∷ refused "00SP 100 1 S+ NT C0" ∷ answered "00RX" "00EE 1"
      ∷ refused "00SP 1 0 S+ NT C0" ∷ answered "00RX" "00EE 2" ∷ refused "00SP 1 51 S+ NT C0" ∷ answered "00RX" "00EE 2" ∷ [])
  -- NS takes 1 to 50 and 54
  pub next_phases : IsTranscript (
      accepted "00SN 1 1" ∷ accepted "00SP 1 1 S+ NT C0 NS 1" ∷ accepted "00SP 1 1 S+ NT C0 NS 50" ∷ accepted "00SP 1 1 S+ NT C0 NS 54"
      ∷ refused "00SP 1 1 S+ NT C0 NS 0" ∷ answered "00RX" "00EE 1" ∷ refused "00SP 1 1 S+ NT C0 NS 51" ∷ answered "00RX" "00EE 1"
      ∷ refused "00SP 1 1 S+ NT C0 NS 53" ∷ answered "00RX" "00EE 1" ∷ refused "00SP 1 1 S+ NT C0 NS 55" ∷ answered "00RX" "00EE 1" ∷ [])
  -- NL and NQ take 1 to 99
  pub links : IsTranscript (
      accepted "00SN 1 1" ∷ accepted "00SP 1 1 S+ NT C0 NL 1" ∷ accepted "00SP 1 1 S+ NT C0 NL 99" ∷ accepted "00SP 1 1 S+ NT C0 NQ 1" ∷ accepted "00SP 1 1 S+ NT C0 NQ 99"
      ∷ refused "00SP 1 1 S+ NT C0 NL 0" ∷ answered "00RX" "00EE 1" ∷ refused "00SP 1 1 S+ NT C0 NL 100" ∷ answered "00RX" "00EE 1"
      ∷ refused "00SP 1 1 S+ NT C0 NQ 0" ∷ answered "00RX" "00EE 1" ∷ refused "00SP 1 1 S+ NT C0 NQ 100" ∷ answered "00RX" "00EE 1" ∷ [])
  -- NO takes 00 to FF
  pub phase_outputs : IsTranscript (
      accepted "00SN 1 1" ∷ accepted "00SP 1 1 S+ NT C0 NO 00" ∷ answered "00RS 1 1" "00ES 01 01 S+ NT C+0000000 NL XX NE XXXXXXXX NS XX NO 00"
      ∷ accepted "00SP 1 1 S+ NT C0 NO FF" ∷ answered "00RS 1 1" "00ES 01 01 S+ NT C+0000000 NL XX NE XXXXXXXX NS XX NO FF"
      ∷ refused "00SP 1 1 S+ NT C0 NO 100" ∷ answered "00RX" "00EE 1" ∷ [])
