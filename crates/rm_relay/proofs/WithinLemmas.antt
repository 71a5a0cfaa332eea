-- What a line of a relay's script says is within the script's limits.
use Rattle.std.proofs.Common.{ℕ, List}
use Rattle.rm_relay.specs.Script.{Says}
use Rattle.rm_relay.specs.Within.{IsWithin}
use Rattle.rm_relay.specs.declared.event.Event.{Event}
use Rattle.rm_relay.specs.declared.event.Event.TheVariants.{Nothing, Create, Send, Forward, Trim, Tick, Deliver, Close}
use Rattle.rm_relay.specs.declared.event.Event.TheVariants.{End, Compact, Arm, Crash}

pub Says-IsWithin : (line : List ℕ) (event : Event) → Says line event → IsWithin event
Says-IsWithin line Nothing h = tt
Says-IsWithin line (Create node) h = tt
Says-IsWithin line (Send seq text) h = tt
Says-IsWithin line Forward h = tt
Says-IsWithin line Trim h = tt
Says-IsWithin line (Tick node now) h = h.1.1
Says-IsWithin line (Deliver packet) h = h.1.0
Says-IsWithin line (Close node seq) h = tt
Says-IsWithin line (End node seq) h = tt
Says-IsWithin line (Compact node) h = tt
Says-IsWithin line (Arm node calls) h = h.1.0
Says-IsWithin line (Crash node choice) h = h.1.1
