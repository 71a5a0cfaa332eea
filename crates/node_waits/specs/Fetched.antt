-- A message that was fetched, as the protocol has it, and what is said besides.
use Rattle.std.specs.Prelude.{not, List, Option, option_map}
use Rattle.std.specs.List.{filter}
use Rattle.rm_message.specs.declared.message.Message.{Message}
use Rattle.rm_protocol.specs.Calls.{Fetched}
use Rattle.rm_protocol.specs.Polls.{goes_back}
use Rattle.node_waits.specs.declared.fetch.Fetched.{Fetched as CodeFetched}

-- as the protocol has it
abbrev pub fetched_seen : Option CodeFetched → Option Fetched
fetched_seen fetched =
    option_map (λ (f : CodeFetched). record { address = f.address; message = f.message }) fetched

-- the messages that don't go back on the connection
abbrev pub without_back : List Message → List Message
without_back said = filter (λ (m : Message). not (goes_back m)) said
