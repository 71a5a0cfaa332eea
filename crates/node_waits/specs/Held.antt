-- Messages that are to wait.
use Rattle.std.specs.Prelude.{◌≡◌, List, map}
use Rattle.std.specs.List.{AllByRecursion}
use Rattle.rm_message.specs.declared.message.Message.{Message}
use Rattle.record_batch.specs.Sequences.Words.{Text}
use Rattle.node_waits.specs.declared.room.Held.{Held}

-- the messages
abbrev pub messages_of : List Held → List Message
messages_of held = map (λ (one : Held). one.message) held

-- the addresses that they wait for
abbrev pub addresses_of : List Held → List Text
addresses_of held = map (λ (one : Held). one.address) held

-- each waits for the address that it goes to
abbrev pub AreHeld : List Held → Type 0
AreHeld held = AllByRecursion (λ (one : Held). one.address ≡ one.message.addressing.to) held
