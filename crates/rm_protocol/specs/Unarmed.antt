-- Scripts that arm no disk.
use Rattle.std.specs.Prelude.{List}
use Rattle.std.specs.List.{AllByRecursion}
use Rattle.rm_protocol.specs.Node.{DiskFault, IsDown}
use Rattle.rm_protocol.specs.Sent.{LineOutcome, Called, Line}
use Rattle.rm_protocol.specs.World.{Event, Arm}

-- the event arms no disk
abbrev pub IsUnarmed : Event → Type 0
IsUnarmed (Arm side calls) = ⊥
IsUnarmed _ = Unit {0}

-- none of them does
abbrev pub AreUnarmed : List Event → Type 0
AreUnarmed events = AllByRecursion IsUnarmed events

-- no disk failed, and the node wasn't down
abbrev pub IsFaultless : LineOutcome → Type 0
IsFaultless (Called DiskFault) = ⊥
IsFaultless (Called IsDown) = ⊥
IsFaultless _ = Unit {0}

-- so it is for each line of a report
abbrev pub AreFaultless : List Line → Type 0
AreFaultless ls = AllByRecursion (λ (l : Line). IsFaultless l.outcome) ls
