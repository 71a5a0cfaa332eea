-- Body elements as values: WS-ReliableMessaging 1.2, sections 3.4 to 3.6, and WS-MakeConnection 1.1, section 3.
use Rattle.std.specs.Prelude.{ℕ, List, Bool, not, if◌then◌else◌, Option, Some, None, option_map, Result, Ok, codes}
use Rattle.std.specs.List.{list_any}
use Rattle.std.specs.Str.{bytes_eq}
use Rattle.soap_document.specs.Profile.Tree.{Element, Parts, name_of, parts_of, children_of}
use Rattle.soap_document.specs.declared.profile.name.Expanded.{Expanded}
use Rattle.soap_writer.specs.Values.Children.{is_same, has_name, children_named}
use Rattle.soap_writer.specs.Values.Outcome.{◌>>=◌, optional, single, if_present}
use Rattle.soap_writer.specs.Values.Values.{trimmed_text}
use Rattle.rm_base.specs.declared.message.Behaviour.{Behaviour}
use Rattle.rm_base.specs.declared.message.Behaviour.TheVariants.{NoDiscard, EntireSequence, FollowingFirstGap}
use Rattle.wsa_headers.specs.Endpoint.{uri_of, epr_of}
use Rattle.wsa_headers.specs.declared.endpoint.Epr.{Epr}
use Rattle.rm_message.specs.Elements.Duration.{duration_in}
use Rattle.rm_message.specs.Elements.Headers.{identifier, number_of}
use Rattle.rm_message.specs.Elements.Outcome.{rm, mc, named}
use Rattle.rm_message.specs.declared.elements.error.ElementError.{ElementError}
use Rattle.rm_base.specs.declared.lapse.Lapse.{Lapse}
use Rattle.rm_message.specs.declared.elements.lifecycle.CreateResponse.{CreateResponse}
use Rattle.rm_message.specs.declared.elements.lifecycle.CreateSequence.{CreateSequence}
use Rattle.rm_message.specs.declared.elements.lifecycle.Finish.{Finish}
use Rattle.rm_message.specs.declared.elements.lifecycle.Lifecycle.{Lifecycle}
use Rattle.rm_message.specs.declared.elements.lifecycle.Lifecycle.TheVariants as bodies
use Rattle.rm_message.specs.declared.elements.lifecycle.MakeConnection.{MakeConnection}
use Rattle.rm_message.specs.declared.elements.lifecycle.Offer.{Offer}
use Rattle.rm_message.specs.declared.elements.read.BodyName.{BodyName}
use Rattle.rm_message.specs.declared.elements.read.BodyName.TheVariants as names

-- the endpoint reference that the one child of a name is
abbrev pub reference_in : List ℕ → Parts → Option Epr
reference_in local parts = do
  e ← single (children_named (rm local) parts)
  epr_of e

-- a duration as the text of an element; an absent one is zero (3.4)
abbrev pub lapse_at : Option Element → Option Lapse
lapse_at None = Some (record { months = 0; ms = 0 })
lapse_at (Some e) = trimmed_text e >>= λ bytes. duration_in bytes

-- the one Expires among children, or none
unfoldable pub expires_in : Parts → Option Lapse
expires_in parts = do
  found ← optional (children_named (rm (codes "Expires")) parts)
  lapse_at found

-- IncompleteSequenceBehavior by name (3.4)
abbrev pub behaviour_named : List ℕ → Option Behaviour
behaviour_named bytes =
    if bytes_eq bytes (codes "NoDiscard") then Some NoDiscard
    else if bytes_eq bytes (codes "DiscardEntireSequence") then Some EntireSequence
    else if bytes_eq bytes (codes "DiscardFollowingFirstGap") then Some FollowingFirstGap else None

-- an absent one is NoDiscard (3.4)
abbrev pub behaviour_at : Option Element → Option Behaviour
behaviour_at None = Some NoDiscard
behaviour_at (Some e) = trimmed_text e >>= λ bytes. behaviour_named bytes

-- the one IncompleteSequenceBehavior among children, or none
unfoldable pub behaviour_in : Parts → Option Behaviour
behaviour_in parts = do
  found ← optional (children_named (rm (codes "IncompleteSequenceBehavior")) parts)
  behaviour_at found

-- Offer (3.4)
unfoldable pub offer_of : Element → Option Offer
offer_of e = do
  ident ← identifier (parts_of e)
  endpoint ← reference_in (codes "Endpoint") (parts_of e)
  expires ← expires_in (parts_of e)
  behaviour ← behaviour_in (parts_of e)
  Some (record { ident = ident; endpoint = endpoint; expires = expires; behaviour = behaviour })

-- the one Offer among children, or none
unfoldable pub offer_in : Parts → Option (Option Offer)
offer_in parts = do
  found ← optional (children_named (rm (codes "Offer")) parts)
  if_present offer_of found

-- CreateSequence (3.4)
unfoldable pub create_in : Parts → Option CreateSequence
create_in parts = do
  acks_to ← reference_in (codes "AcksTo") parts
  expires ← expires_in parts
  offer ← offer_in parts
  Some (record { acks_to = acks_to; expires = expires; offer = offer })

-- Accept (3.4)
abbrev pub accept_of : Element → Option Epr
accept_of e = reference_in (codes "AcksTo") (parts_of e)

-- the one Accept among children, or none
unfoldable pub accept_in : Parts → Option (Option Epr)
accept_in parts = do
  found ← optional (children_named (rm (codes "Accept")) parts)
  if_present accept_of found

-- CreateSequenceResponse (3.4)
unfoldable pub response_in : Parts → Option CreateResponse
response_in parts = do
  ident ← identifier parts
  expires ← expires_in parts
  behaviour ← behaviour_in parts
  accept ← accept_in parts
  Some (record { ident = ident; expires = expires; behaviour = behaviour; accept = accept })

-- CloseSequence and TerminateSequence (3.5, 3.6)
unfoldable pub finish_in : Parts → Option Finish
finish_in parts = do
  ident ← identifier parts
  found ← optional (children_named (rm (codes "LastMsgNumber")) parts)
  last ← if_present number_of found
  Some (record { ident = ident; last_number = last })

-- whether something else than an address was selected (WS-MakeConnection 1.1, 3.2)
abbrev pub has_other : Parts → Bool
has_other parts = list_any (λ e. not (has_name (mc (codes "Address")) e)) (children_of parts)

-- MakeConnection (WS-MakeConnection 1.1, 3.2)
unfoldable pub make_in : Parts → Option MakeConnection
make_in parts = do
  found ← optional (children_named (mc (codes "Address")) parts)
  address ← if_present uri_of found
  Some (record { address = address; other = has_other parts })

-- which body element a name is of
abbrev pub body_name : Expanded → Option BodyName
body_name name =
    if is_same name (rm (codes "CreateSequence")) then Some names.CreateName
    else if is_same name (rm (codes "CreateSequenceResponse")) then Some names.CreateResponseName
    else if is_same name (rm (codes "CloseSequence")) then Some names.CloseName
    else if is_same name (rm (codes "CloseSequenceResponse")) then Some names.CloseResponseName
    else if is_same name (rm (codes "TerminateSequence")) then Some names.TerminateName
    else if is_same name (rm (codes "TerminateSequenceResponse")) then Some names.TerminateResponseName
    else if is_same name (mc (codes "MakeConnection")) then Some names.MakeName else None

-- the body element that content is within an element of such a name
abbrev pub body_as : Option BodyName → Parts → Result (Option Lifecycle) ElementError
body_as None parts = Ok None
body_as (Some names.CreateName) parts = named (codes "CreateSequence") (option_map bodies.Create (create_in parts))
body_as (Some names.CreateResponseName) parts =
    named (codes "CreateSequenceResponse") (option_map bodies.CreateResponse (response_in parts))
body_as (Some names.CloseName) parts = named (codes "CloseSequence") (option_map bodies.Close (finish_in parts))
body_as (Some names.CloseResponseName) parts =
    named (codes "CloseSequenceResponse") (option_map bodies.CloseResponse (identifier parts))
body_as (Some names.TerminateName) parts =
    named (codes "TerminateSequence") (option_map bodies.Terminate (finish_in parts))
body_as (Some names.TerminateResponseName) parts =
    named (codes "TerminateSequenceResponse") (option_map bodies.TerminateResponse (identifier parts))
body_as (Some names.MakeName) parts = named (codes "MakeConnection") (option_map bodies.Make (make_in parts))

-- the body element that an element is, and none where its name is of no other
abbrev pub lifecycle_of : Element → Result (Option Lifecycle) ElementError
lifecycle_of e = body_as (body_name (name_of e)) (parts_of e)
