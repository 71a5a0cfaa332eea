-- Where a message goes, as the code has it.
use Rattle.rm_protocol.specs.Addresses.{Place, BackOn, Nowhere, Waits, Out}
use Rattle.node_messages.specs.declared.address.Place.{Place as CodePlace}
use Rattle.node_messages.specs.declared.address.Place.TheVariants as code

-- the place that one of the code is
abbrev pub place_seen : CodePlace → Place
place_seen code.BackOn = BackOn
place_seen code.Nowhere = Nowhere
place_seen code.Waits = Waits
place_seen code.Out = Out
