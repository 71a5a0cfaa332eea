-- Scripts that arm no disk.
use Rattle.rm_script.specs.declared.report.line.Line.{Line}
use Rattle.rm_script.specs.declared.report.line.Outcome.{Outcome}
use Rattle.rm_script.specs.declared.report.line.Outcome.TheVariants as told
use Rattle.rm_script.specs.declared.event.Event.{Event as Said}
use Rattle.rm_script.specs.declared.event.Event.TheVariants as said

-- the line arms no disk
abbrev pub ArmsNone : Said → Type 0
ArmsNone (said.Arm at calls) = ⊥
ArmsNone _ = Unit {0}

-- no disk failed, and no node was down
abbrev pub IsCalm : Outcome → Type 0
IsCalm told.Disk = ⊥
IsCalm told.Down = ⊥
IsCalm _ = Unit {0}

-- so a line of a report says
abbrev pub TellsCalm : Line → Type 0
TellsCalm line = IsCalm line.outcome
