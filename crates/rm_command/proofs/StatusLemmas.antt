-- Which status comes of bytes, whatever the words.
use Rattle.std.proofs.Common.{◌≡◌, ◌↔◌, ap}
use Rattle.std.specs.Prelude.{ℕ, List, Option, Some, None, IfSome}
use Rattle.rm_command.specs.Alternatives.{IsIntersectStatus, IsNormalStatus}
use Rattle.rm_command.specs.Check.{IsCheckStatus}
use Rattle.rm_command.specs.Policy.{IsPolicyStatus}
use Rattle.rm_command.specs.Replay.{IsReplayStatus, IsSoakStatus}
use Rattle.rm_command.specs.Edge.{Edge}
use Rattle.rm_command.specs.Run.{AsksReplay, AsksSoak, AsksCheck, AsksPolicy, AsksNormal, AsksIntersect, AsksNothing}
use Rattle.rm_command.specs.Run.{IsStatusOf, Runs}
use Rattle.rm_command.specs.Stage.{Staged}
use Rattle.rm_command.specs.Status.{status_of}
use Rattle.rm_command.specs.declared.end.End.{End}
use Rattle.rm_command.specs.declared.end.End.TheVariants.{Done, Usage, BadLine, ReadFault, WriteFault, TooLong}
use Rattle.rm_command.specs.declared.end.End.TheVariants.{Refused, Memory}

-- each word alone
pub status_by : (words : List (List ℕ)) (left : Option (List ℕ)) (status : ℕ)
    → (AsksReplay words → IfSome left (λ bytes. IsReplayStatus bytes status))
    → (AsksSoak words → IsSoakStatus status)
    → (AsksCheck words → IfSome left (λ bytes. IsCheckStatus bytes status))
    → (AsksPolicy words → IfSome left (λ bytes. IsPolicyStatus bytes status))
    → (AsksNormal words → IfSome left (λ bytes. IsNormalStatus bytes status))
    → (AsksIntersect words → IfSome left (λ bytes. IsIntersectStatus bytes status))
    → IfSome left (λ bytes. IsStatusOf words bytes status)
status_by words None status replay soak check policy normal intersect = tt
status_by words (Some bytes) status replay soak check policy normal intersect =
    record { replay = replay; soak = soak; check = check; policy = policy; normal = normal; intersect = intersect }

-- 2 comes exactly of words that are no command
pub usage_by : {S K T : Type 0} (words : List (List ℕ)) (end : End) (e : Edge S K) (old new : Staged T)
    → Runs words end e old new → (status_of end ≡ 2) ↔ AsksNothing words
usage_by words end e old new runs = (nothing end runs, λ none. ap status_of (runs.nothing none).usage)
  where
    nothing : (end : End) → Runs words end e old new → status_of end ≡ 2 → AsksNothing words
    nothing Usage runs two = (
      λ asked. (runs.replay asked).ends,
      λ asked. (runs.check asked).ends,
      λ asked. (runs.policy asked).ends,
      λ asked. (runs.normal asked).ends,
      λ asked. (runs.intersect asked).ends,
      λ asked. (runs.soak asked.0 asked.1).ends,
    )
    nothing Done runs two = absurd (cc two)
    nothing (BadLine line) runs two = absurd (cc two)
    nothing ReadFault runs two = absurd (cc two)
    nothing WriteFault runs two = absurd (cc two)
    nothing TooLong runs two = absurd (cc two)
    nothing (Refused fault) runs two = absurd (cc two)
    nothing Memory runs two = absurd (cc two)
