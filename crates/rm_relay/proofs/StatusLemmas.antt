-- Which status comes of the bytes of a relay's script.
use Rattle.std.proofs.Common.{◌≡◌, ℕ, List, arith, inr, refl}
use Rattle.std.specs.Prelude.{◌⊎◌, IfSome}
use Rattle.rm_script.specs.Report.Exits as exits
use Rattle.rm_script.specs.Script.{lines_of}
use Rattle.rm_command.specs.declared.end.End.{End}
use Rattle.rm_command.specs.declared.end.End.TheVariants.{Done, Usage, BadLine, ReadFault, WriteFault, TooLong}
use Rattle.rm_command.specs.declared.end.End.TheVariants.{Refused, Memory}
use Rattle.rm_command.specs.Edge.{Edge}
use Rattle.rm_command.specs.Status.{status_of}
use Rattle.rm_command.specs.RunLemmas.{filter_status}
use Rattle.rm_relay.specs.Headline.{KeepsPromise, KeepsPromiseAt}
use Rattle.rm_relay.specs.Played.{IsUnmade}
use Rattle.rm_relay.specs.Relay.{EndsRelay, IsAScript, IsCutShortOf, IsRelayStatus, IsReportOf, RefusesScript}
use Rattle.rm_relay.specs.Script.{IsFirstBad, IsScript}
use Rattle.rm_relay.specs.Shows.{Scene}
use Rattle.rm_relay.specs.declared.event.Event.{Event}

-- where memory was wanting for a run
pub promise_short : {T : Type 0} (old new : T) (first now : Scene) → IsUnmade first now ⊎ KeepsPromise now
    → KeepsPromiseAt exits.memory old new first now
promise_short old new first now short = record {
  done = λ e. absurd (omega (arith, e));
  unwritten = λ e. absurd (omega (arith, e));
  short = λ e. inr short;
  other = λ a b c. absurd (c refl);
}

module _ (never_bad : (lines : List (List ℕ)) (events : List Event) (line : ℕ) → IsScript lines events
    → ¬ (IsFirstBad lines line)) {T : Type 0} where
  -- what is refused is no script, and has status 3
  refused_script : (old new : T) (bytes : List ℕ) (end : End) → RefusesScript old new bytes end
      → (¬ (IsAScript bytes)) × (status_of end ≡ 3)
  refused_script old new bytes Done refuses = absurd refuses
  refused_script old new bytes Usage refuses = absurd refuses
  refused_script old new bytes (BadLine line) refuses =
      (λ is. never_bad (lines_of bytes) is.0 line is.1 refuses.0, refl)
  refused_script old new bytes ReadFault refuses = absurd refuses
  refused_script old new bytes WriteFault refuses = absurd refuses
  refused_script old new bytes TooLong refuses = absurd refuses
  refused_script old new bytes (Refused fault) refuses = absurd refuses
  refused_script old new bytes Memory refuses = absurd refuses

  -- which status comes of bytes
  pub relay_status : {S K : Type 0} (e : Edge S K) (end : End) (old new : T) (first now : Scene)
      → EndsRelay end e old new first now → IfSome e.input.told.left (λ bytes. IsRelayStatus bytes (status_of end))
  relay_status e end old new first now ends =
      filter_status 16777216 3 (new ≡ old) (IsReportOf first now) (IsCutShortOf first now) (RefusesScript old new)
      IsAScript (λ bytes text prints. (prints.events, prints.script)) (refused_script old new) e end ends
