-- What a message has in its Body: a Fault (SOAP 1.2 Part 1, section 5.4), or what its action says (WS-Addressing 1.0
-- Core, 3.1; WS-ReliableMessaging 1.2, 3.4 to 3.9; WS-MakeConnection 1.1, 3.2).
use Rattle.std.specs.Prelude.{ℕ, List, [], ◌∷◌, Bool, not, ◌||◌, if◌then◌else◌, Option, Some, None, is_some, Result}
use Rattle.std.specs.Prelude.{Ok, Err, codes}
use Rattle.std.specs.Str.{bytes_eq}
use Rattle.rm_base.specs.declared.message.Payload.{Payload}
use Rattle.soap_document.specs.Profile.Tree.{Element, Parts, children_of}
use Rattle.rm_base.specs.declared.message.Binding.{Binding}
use Rattle.soap_document.specs.declared.profile.name.Expanded.{Expanded}
use Rattle.soap_writer.specs.Values.Children.{name_in, has_name}
use Rattle.soap_writer.specs.Values.Outcome.{◌>>=◌, single}
use Rattle.wsa_headers.specs.Addressing.{first_of}
use Rattle.rm_message.specs.Elements.Lifecycle.{lifecycle_of}
use Rattle.rm_message.specs.Elements.Outcome.{rm, mc}
use Rattle.rm_message.specs.declared.elements.error.ElementError.{ElementError}
use Rattle.rm_message.specs.declared.elements.lifecycle.Lifecycle.{Lifecycle}
use Rattle.rm_message.specs.Actions.{create_sequence, create_sequence_response, close_sequence}
use Rattle.rm_message.specs.Actions.{close_sequence_response, terminate_sequence, terminate_sequence_response}
use Rattle.rm_message.specs.Actions.{ack_requested, sequence_acknowledgement, wsrm_fault, make_connection}
use Rattle.rm_message.specs.declared.message.Body.{Body}
use Rattle.rm_message.specs.declared.message.Body.TheVariants as bodies
use Rattle.rm_message.specs.declared.message.FaultBody.{FaultBody}
use Rattle.soap_envelope.specs.Soap.{is_soap11}
use Rattle.message_reader.specs.Faults.{fault_in}
use Rattle.message_reader.specs.Faults11.{fault11_in}
use Rattle.message_reader.specs.declared.fault11.SequenceFault.{SequenceFault}

-- an element that is a Fault
abbrev pub if_fault : List ℕ → Option Element → Option Element
if_fault soap None = None
if_fault soap (Some e) = if has_name (name_in soap (codes "Fault")) e then Some e else None

-- the Fault of a message: the first element in Body, of a message that has no number in a sequence
abbrev pub fault_at : List ℕ → Bool → Parts → Option Element
fault_at soap numbered parts = if numbered then None else if_fault soap (first_of (children_of parts))

-- the element that a message with this action has in its Body (WS-ReliableMessaging 1.2, 3.4 to 3.6;
-- WS-MakeConnection 1.1, 3.2)
abbrev pub element_for : List ℕ → Option Expanded
element_for action =
    if bytes_eq action create_sequence then Some (rm (codes "CreateSequence"))
    else if bytes_eq action create_sequence_response then Some (rm (codes "CreateSequenceResponse"))
    else if bytes_eq action close_sequence then Some (rm (codes "CloseSequence"))
    else if bytes_eq action close_sequence_response then Some (rm (codes "CloseSequenceResponse"))
    else if bytes_eq action terminate_sequence then Some (rm (codes "TerminateSequence"))
    else if bytes_eq action terminate_sequence_response then Some (rm (codes "TerminateSequenceResponse"))
    else if bytes_eq action make_connection then Some (mc (codes "MakeConnection")) else None

-- the actions of messages whose Body says nothing (WS-ReliableMessaging 1.2, 3.8, 3.9 and 4)
abbrev pub is_bare : List ℕ → Bool
is_bare action =
    bytes_eq action sequence_acknowledgement || bytes_eq action ack_requested || bytes_eq action wsrm_fault

-- the nine actions of WS-ReliableMessaging, and that of MakeConnection
abbrev pub is_protocol : List ℕ → Bool
is_protocol action = is_some (element_for action) || is_bare action

-- a body element that was read
abbrev pub lifecycle_from : Result (Option Lifecycle) ElementError → Option Body
lifecycle_from (Ok (Some lifecycle)) = Some (bodies.Lifecycle lifecycle)
lifecycle_from _ = None

-- the one element in Body, where it has this name
unfoldable pub lifecycle_in : Expanded → Parts → Option Body
lifecycle_in name parts = do
  e ← single (children_of parts)
  if has_name name e then lifecycle_from (lifecycle_of e) else None

-- what the action says that is there
abbrev pub body_for : Option Expanded → Bool → Payload → Parts → Option Body
body_for (Some name) bare payload parts = lifecycle_in name parts
body_for None bare payload parts = Some (if bare then bodies.Empty else bodies.Payload payload)

-- a message with a number has a payload, and no action of the protocol (WS-ReliableMessaging 1.2, 3.7)
abbrev pub numbered_body : Bool → Payload → Option Body
numbered_body protocol payload = if protocol then None else Some (bodies.Payload payload)

-- what a Fault of the version says, with a SequenceFault or without
abbrev pub fault_of : List ℕ → Option SequenceFault → List Binding → Element → FaultBody
fault_of soap told scope fault = if is_soap11 soap then fault11_in soap told scope fault else fault_in soap scope fault

-- the Fault, or what the action says
abbrev pub unnumbered_body : List ℕ → Option SequenceFault → List ℕ → Option Element → Payload → Parts → Option Body
unnumbered_body soap told action (Some fault) payload parts =
    Some (bodies.Fault (fault_of soap told payload.scope fault))
unnumbered_body soap told action None payload parts = body_for (element_for action) (is_bare action) payload parts

-- the body of a message with this action, and with a number in a sequence or without
abbrev pub body_in : List ℕ → Option SequenceFault → List ℕ → Bool → Payload → Parts → Option Body
body_in soap told action numbered payload parts =
    if numbered then numbered_body (is_protocol action) payload
    else unnumbered_body soap told action (fault_at soap numbered parts) payload parts
