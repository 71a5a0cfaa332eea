-- What is between a node, which speaks SOAP 1.2, and a peer that speaks one version of SOAP: all is as it is, or goes
-- through the gate of SOAP 1.1.
use Rattle.std.specs.Prelude.{◌≡◌, ℕ, List, Option, Some, None, Result, Ok, Err}
use Rattle.http_endpoint.specs.declared.media.Media.{Media}
use Rattle.http_endpoint.specs.declared.media.Media.TheVariants.{Soap12, Soap11}
use Rattle.rm_base.specs.declared.failures.Memory.{Memory}
use Rattle.rm_message.specs.declared.message.Message.{Message}
use Rattle.rm_message.specs.declared.refusal.DecodeError.{DecodeError}
use Rattle.rm_message.specs.declared.refusal.DecodeError.TheVariants as read
use Rattle.rm_message.specs.declared.refusal.Refusal.{Refusal}
use Rattle.rm_node.specs.Came.{IsReadAs}
use Rattle.rm_wire.specs.Soap11.Lift.{IsLifted}
use Rattle.rm_wire.specs.Soap11.Lower.{lowered_text}
use Rattle.rm_wire.specs.Soap11.Spells11.{IsRefusal11, Spells11}
use Rattle.rm_serve.specs.declared.version.Entry.{Entry}
use Rattle.rm_serve.specs.declared.version.Entry.TheVariants.{Admitted, KeptOut}

-- what the node is given of a body: in SOAP 1.1 what its message is lifted to
abbrev pub IsGiven : Media → List ℕ → List ℕ → Type 0
IsGiven Soap12 body bytes = bytes ≡ body
IsGiven Soap11 body bytes = (m : Message) × Spells11 body m × IsLifted m bytes

-- a body that the node isn't given: one that is no message of SOAP 1.1
abbrev pub IsKeptOut : Media → List ℕ → Refusal → Type 0
IsKeptOut Soap12 body refusal = ⊥
IsKeptOut Soap11 body refusal = IsRefusal11 body (read.Refused refusal)

-- what becomes of a body
abbrev pub Enters : Media → List ℕ → Entry → Type 0
Enters media body (Admitted bytes) = IsGiven media body bytes
Enters media body (KeptOut refusal) = IsKeptOut media body refusal

-- what a body that could not be read comes to
abbrev pub kept_out_by : DecodeError → Result Entry Memory
kept_out_by read.Memory = Err (record {})
kept_out_by (read.Refused refusal) = Ok (KeptOut refusal)

-- what SOAP 1.1 says of what bytes are read as; nothing of what is no message
abbrev pub lowered_of : Result Message Refusal → Option (List ℕ)
lowered_of (Ok m) = lowered_text m
lowered_of (Err refusal) = None

-- what is told of bytes that could not be read
abbrev pub untold_by : DecodeError → Result (Option (List ℕ)) Memory
untold_by read.Memory = Err (record {})
untold_by (read.Refused refusal) = Ok None

-- what a peer is told of what the node says: in SOAP 1.1 what its message is lowered to, where that can be said there
abbrev pub IsTold : Media → List ℕ → Option (List ℕ) → Type 0
IsTold Soap12 bytes told = told ≡ Some bytes
IsTold Soap11 bytes told = (content : Result Message Refusal) × IsReadAs bytes content × (told ≡ lowered_of content)

-- the same of a reply, where there is one
abbrev pub IsReply : Media → Option (List ℕ) → Option (List ℕ) → Type 0
IsReply media None told = told ≡ None
IsReply media (Some bytes) told = IsTold media bytes told
