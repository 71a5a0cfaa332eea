-- What a relay's script says is within its limits.
use Rattle.std.specs.Prelude.{◌≤◌}
use Rattle.rm_base.specs.Limits as limits
use Rattle.rm_relay.specs.declared.event.Event.{Event}
use Rattle.rm_relay.specs.declared.event.Event.TheVariants.{Nothing, Create, Send, Forward, Trim, Tick, Deliver, Close}
use Rattle.rm_relay.specs.declared.event.Event.TheVariants.{End, Compact, Arm, Crash}

-- a moment is one that a node may be told, a device call is counted from 1, and a crash has one of four choices
abbrev pub IsWithin : Event → Type 0
IsWithin (Tick node now) = now ≤ limits.now_max
IsWithin (Deliver packet) = 1 ≤ packet
IsWithin (Arm node calls) = 1 ≤ calls
IsWithin (Crash node choice) = choice ≤ 3
IsWithin _ = Unit {0}
