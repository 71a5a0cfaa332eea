-- What of messages and of scripts excludes what, and which status comes of their bytes.
use Rattle.std.proofs.Common.{◌≡◌, ℕ, ◌≤◌, List, length, true, refl, arith}
use Rattle.std.specs.Prelude.{IfSome}
use Rattle.soap_envelope.specs.Soap.{soap_space}
use Rattle.rm_message.specs.declared.message.Message.{Message}
use Rattle.rm_message.specs.declared.refusal.Refusal.{Refusal}
use Rattle.message_reader.specs.Message.{Wrong}
use Rattle.message_reader.specs.Message as wrongs
use Rattle.message_reader.specs.Refusals.{Spells, Refuses, refusal_of}
use Rattle.message_reader.specs.Refusals as refused
use Rattle.rm_script.specs.declared.event.Event.{Event}
use Rattle.rm_script.specs.Script.{lines_of, IsScript, IsFirstBad}
use Rattle.rm_command.specs.Check.{IsTextOf, RefusesMessage, IsAMessage, IsCheckStatus, is_of_bytes}
use Rattle.rm_command.specs.Replay.{IsReportOf, IsCutShortOf, RefusesScript, IsAScript, IsReplayStatus}
use Rattle.rm_command.specs.Edge.{Edge}
use Rattle.rm_command.specs.Run.{RunsReplay, RunsCheck}
use Rattle.rm_command.specs.Stage.{Staged}
use Rattle.rm_command.specs.Status.{status_of}
use Rattle.rm_command.specs.RunLemmas.{filter_status}
use Rattle.rm_command.specs.declared.end.End.{End}
use Rattle.rm_command.specs.declared.end.End.TheVariants.{Done, Usage, BadLine, ReadFault, WriteFault, TooLong}
use Rattle.rm_command.specs.declared.end.End.TheVariants.{Refused, Memory}

-- the kind of an envelope without a message
wrong_kind : (wrong : Wrong) → is_of_bytes (refusal_of wrong).kind ≡ true
wrong_kind (wrongs.NotUnderstood names) = refl
wrong_kind wrongs.Cardinality = refl
wrong_kind wrongs.HeaderMissing = refl
wrong_kind wrongs.BadHeader = refl
wrong_kind (wrongs.Malformed addressing) = refl
wrong_kind (wrongs.Rollover addressing ident) = refl

-- bytes that are not too long are refused for another reason that lies in them
pub refused_kind : (bytes : List ℕ) (refusal : Refusal) → Refuses soap_space bytes refusal → length bytes ≤ 2097152
    → is_of_bytes refusal.kind ≡ true
refused_kind bytes _ (refused.too_long long) short = absurd (omega (arith, long, short))
refused_kind bytes _ (refused.not_utf8 place is) short = refl
refused_kind bytes _ (refused.not_profile none) short = refl
refused_kind bytes _ (refused.wrong_version readable is) short = refl
refused_kind bytes _ (refused.not_envelope readable is) short = refl
refused_kind bytes _ (refused.without_message wrong e readable is reads) short = wrong_kind wrong

module _ (never : (soap bytes : List ℕ) (m : Message) (refusal : Refusal) → Spells soap bytes m
    → ¬ (Refuses soap bytes refusal)) where
  -- what check refuses is no message, and has status 9
  pub refused_message : (bytes : List ℕ) (end : End) → RefusesMessage bytes end
      → (¬ (IsAMessage bytes)) × (status_of end ≡ 9)
  refused_message bytes Done refuses = absurd refuses
  refused_message bytes Usage refuses = absurd refuses
  refused_message bytes (BadLine line) refuses = absurd refuses
  refused_message bytes ReadFault refuses = absurd refuses
  refused_message bytes WriteFault refuses = absurd refuses
  refused_message bytes TooLong refuses = absurd refuses
  refused_message bytes (Refused fault) refuses =
      (λ is. never soap_space bytes is.0 refuses.refusal is.1 refuses.refuses, refl)
  refused_message bytes Memory refuses = absurd refuses

  -- which status comes of the bytes of a message
  pub check_status : {S K : Type 0} {e : Edge S K} {end : End} → RunsCheck end e
      → IfSome e.input.told.left (λ bytes. IsCheckStatus bytes (status_of end))
  check_status {S} {K} {e} {end} ran =
      filter_status 2097152 9 (Unit {0}) IsTextOf (λ _. ⊥) RefusesMessage IsAMessage
      (λ bytes text prints. (prints.message, prints.spells)) refused_message e end ran.ends

module _ (never_bad : (lines : List (List ℕ)) (events : List Event) (line : ℕ) → IsScript lines events
    → ¬ (IsFirstBad lines line)) {T : Type 0} where
  -- what replay refuses is no script, and has status 3
  pub refused_script : (old new : Staged T) (bytes : List ℕ) (end : End) → RefusesScript old new bytes end
      → (¬ (IsAScript bytes)) × (status_of end ≡ 3)
  refused_script old new bytes Done refuses = absurd refuses
  refused_script old new bytes Usage refuses = absurd refuses
  refused_script old new bytes (BadLine line) refuses =
      (λ is. never_bad (lines_of bytes) is.0 line is.1 refuses.0, refl)
  refused_script old new bytes ReadFault refuses = absurd refuses
  refused_script old new bytes WriteFault refuses = absurd refuses
  refused_script old new bytes TooLong refuses = absurd refuses
  refused_script old new bytes (Refused fault) refuses = absurd refuses
  refused_script old new bytes Memory refuses = absurd refuses

  -- which status comes of the bytes of a script
  pub replay_status : {S K : Type 0} {e : Edge S K} {end : End} {old new : Staged T} → RunsReplay end e old new
      → IfSome e.input.told.left (λ bytes. IsReplayStatus bytes (status_of end))
  replay_status {S} {K} {e} {end} {old} {new} ran =
      filter_status 16777216 3 (new ≡ old) (IsReportOf old.scene new.scene) (IsCutShortOf old.scene new.scene)
      (RefusesScript old new) IsAScript (λ bytes text prints. (prints.events, prints.script)) (refused_script old new)
      e end ran.ends
