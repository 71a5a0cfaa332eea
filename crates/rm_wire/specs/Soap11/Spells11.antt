-- What bytes spell in SOAP 1.1. Which rules that version has of its own stands in `message_reader`: Blocks, Headers and
-- Faults11.
use Rattle.std.specs.Prelude.{ℕ, List}
use Rattle.soap_envelope.specs.Soap.{soap11_space}
use Rattle.rm_message.specs.declared.message.Message.{Message}
use Rattle.rm_message.specs.declared.refusal.DecodeError.{DecodeError}
use Rattle.message_reader.specs.Refusals.{Spells, IsRefusal}

-- bytes spell a message, by the namespace of SOAP 1.1
abbrev pub Spells11 : List ℕ → Message → Type 0
Spells11 bytes m = Spells soap11_space bytes m

-- why they were not decoded
abbrev pub IsRefusal11 : List ℕ → DecodeError → Type 0
IsRefusal11 bytes error = IsRefusal soap11_space bytes error
