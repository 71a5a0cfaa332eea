-- Acknowledgements and responses by where they go: what the parts of an answer are.
use Rattle.std.specs.Prelude.{Bool, false, if◌then◌else◌, List, [], ◌∷◌, Option, Some, None}
use Rattle.rm_message.specs.declared.elements.header.AckBlock.{AckBlock}
use Rattle.rm_message.specs.declared.message.Message.{Message}
use Rattle.wsa_headers.specs.declared.endpoint.Epr.{Epr}
use Rattle.rm_protocol.specs.Addresses.{is_anonymous}
use Rattle.rm_protocol.specs.Messages.{ack_message}
use Rattle.rm_protocol.specs.Said.{Ack, with_blocks}

-- the first endpoint on the connection
abbrev pub back_to : List Ack → Option Epr
back_to [] = None
back_to (ack ∷ acks) = if is_anonymous ack.0.address then Some ack.0 else back_to acks

-- the message to it, where there is one
abbrev pub back_by : Option Epr → List AckBlock → List Message
back_by None blocks = []
back_by (Some to) blocks = ack_message to blocks ∷ []

-- the first response goes back on the connection
abbrev pub goes_back : List Message → Bool
goes_back [] = false
goes_back (m ∷ ms) = is_anonymous m.addressing.to

-- the first response has more acknowledgements
abbrev pub with_back : List Message → List AckBlock → List Message
with_back [] blocks = []
with_back (m ∷ ms) blocks = with_blocks m blocks ∷ ms
