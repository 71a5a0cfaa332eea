-- What a Fault of SOAP 1.1 says (4.4), with the header SequenceFault of WS-ReliableMessaging 1.2 (4) or without. As in
-- SOAP 1.2, no Fault is refused: what can't be read is absent, and of children that stand twice the first counts.
use Rattle.std.specs.Prelude.{ℕ, List, [], ◌∷◌, Bool, ◌||◌, if◌then◌else◌, Option, Some, None, codes}
use Rattle.std.specs.Str.{bytes_eq}
use Rattle.rm_base.specs.declared.message.Binding.{Binding}
use Rattle.soap_document.specs.Profile.Tree.{Element}
use Rattle.soap_document.specs.declared.profile.name.Expanded.{Expanded}
use Rattle.soap_writer.specs.Values.Children.{is_same}
use Rattle.soap_writer.specs.Values.Outcome.{◌>>=◌}
use Rattle.soap_writer.specs.Values.QNames.{within, qname_in}
use Rattle.soap_writer.specs.Values.Values.{trimmed_text}
use Rattle.soap_writer.specs.Frame.{addressing_space, messaging_space, connection_space}
use Rattle.rm_message.specs.Elements.Outcome.{rm}
use Rattle.rm_message.specs.declared.message.FaultBody.{FaultBody}
use Rattle.rm_message.specs.declared.message.FaultCode.{FaultCode}
use Rattle.rm_message.specs.declared.message.FaultCode.TheVariants.{VersionMismatch, MustUnderstand, Sender, Receiver}
use Rattle.message_reader.specs.Faults.{first_named, or_empty, stripped_in, fault_with}
use Rattle.message_reader.specs.declared.fault.Codes.{Codes}
use Rattle.message_reader.specs.declared.fault11.SequenceFault.{SequenceFault}

-- what a SequenceFault tells, and the codes of a Fault, for the layers above
abbrev pub Told : Type 0
Told = SequenceFault

-- the codes of a Fault
abbrev pub CodesOf : Type 0
CodesOf = Codes

-- the name in faultcode; its children are in no namespace (4.4)
unfoldable pub faultcode_in : List Binding → Element → Option Expanded
faultcode_in scope fault = do
  holder ← first_named [] (codes "faultcode") fault
  bytes ← trimmed_text holder
  qname_in (within (holder ∷ fault ∷ []) scope) bytes

-- the codes of SOAP 1.1 (4.4.1), by the names that they have in SOAP 1.2
abbrev pub code11_called : List ℕ → FaultCode
code11_called local =
    if bytes_eq local (codes "Client") then Sender
    else if bytes_eq local (codes "VersionMismatch") then VersionMismatch
    else if bytes_eq local (codes "MustUnderstand") then MustUnderstand else Receiver

-- the code that a faultcode is; what is none of SOAP counts as Receiver
abbrev pub code11_named : List ℕ → Option Expanded → FaultCode
code11_named soap None = Receiver
code11_named soap (Some name) = if bytes_eq name.space soap then code11_called name.local else Receiver

-- a name of WS-ReliableMessaging, WS-Addressing or WS-MakeConnection
abbrev pub is_subcode : Expanded → Bool
is_subcode name =
    bytes_eq name.space messaging_space || bytes_eq name.space addressing_space || bytes_eq name.space connection_space

-- the code that goes with such a name (WS-ReliableMessaging 1.2, 4.6; WS-MakeConnection 1.1, 4)
abbrev pub code11_above : Expanded → FaultCode
code11_above name =
    if bytes_eq name.space connection_space || is_same name (rm (codes "CreateSequenceRefused")) then Receiver else
    Sender

-- a code and a subcode
abbrev pub both : FaultCode → Option Expanded → Codes
both code subcode = record { code = code; subcode = subcode; inner = None }

-- the codes of a Fault without a SequenceFault: its faultcode is a code, or such a name
abbrev pub codes11_alone : List ℕ → Option Expanded → Codes
codes11_alone soap None = both Receiver None
codes11_alone soap (Some name) =
    if is_subcode name then both (code11_above name) (Some name) else both (code11_named soap (Some name)) None

-- the codes of a Fault with this faultcode
abbrev pub codes11 : List ℕ → Option SequenceFault → Option Expanded → Codes
codes11 soap None name = codes11_alone soap name
codes11 soap (Some told) name = both (code11_named soap name) told.subcode

-- faultstring (4.4.2)
unfoldable pub faultstring_in : Element → Option (List ℕ)
faultstring_in fault = do
  words ← first_named [] (codes "faultstring") fault
  trimmed_text words

-- detail (4.4.4), which a SequenceFault has itself
abbrev pub detail11 : Option SequenceFault → Element → List Element
detail11 None fault = stripped_in (first_named [] (codes "detail") fault)
detail11 (Some told) fault = told.detail

-- what a Fault says, where these bindings are in force around it
abbrev pub fault11_in : List ℕ → Option SequenceFault → List Binding → Element → FaultBody
fault11_in soap told scope fault =
    fault_with (codes11 soap told (faultcode_in scope fault)) (or_empty (faultstring_in fault)) (detail11 told fault)
