-- Header blocks and body elements as they are written within a frame: WS-ReliableMessaging 1.2, sections 3.4 to 3.9,
-- and WS-MakeConnection 1.1, section 3.
use Rattle.std.specs.Prelude.{ℕ, ◌+◌, ◌/◌, ◌%◌, ◌&&◌, ◌==◌, List, [], ◌∷◌, ◌++◌, Bool, if◌then◌else◌, Option, Some}
use Rattle.std.specs.Prelude.{None, codes, decimal}
use Rattle.soap_writer.specs.Frame.{of_soap, of_messaging, of_connection}
use Rattle.soap_writer.specs.Nodes.Node.{Tag as NodeTag, framed, Note, plain, prefixed, Node, Nodes, full, void}
use Rattle.soap_writer.specs.Nodes.Node.{nothing}
use Rattle.soap_writer.specs.Nodes.Node.{more, leaf, each_node}
use Rattle.rm_sides.specs.declared.ranges.range.Range.{Range}
use Rattle.rm_base.specs.declared.message.Behaviour.{Behaviour}
use Rattle.rm_base.specs.declared.message.Behaviour.TheVariants.{NoDiscard, EntireSequence, FollowingFirstGap}
use Rattle.wsa_headers.specs.Texts.{epr_nodes}
use Rattle.wsa_headers.specs.declared.endpoint.Epr.{Epr}
use Rattle.rm_message.specs.declared.elements.header.AckBlock.{AckBlock}
use Rattle.rm_message.specs.declared.elements.header.AckKind.{AckKind}
use Rattle.rm_message.specs.declared.elements.header.AckKind.TheVariants.{Ranges, Nothing, Nack}
use Rattle.rm_message.specs.declared.elements.header.Header.{Header}
use Rattle.rm_message.specs.declared.elements.header.Header.TheVariants as headers
use Rattle.rm_message.specs.declared.elements.header.SeqHeader.{SeqHeader}
use Rattle.rm_base.specs.declared.lapse.Lapse.{Lapse}
use Rattle.rm_message.specs.declared.elements.lifecycle.CreateResponse.{CreateResponse}
use Rattle.rm_message.specs.declared.elements.lifecycle.CreateSequence.{CreateSequence}
use Rattle.rm_message.specs.declared.elements.lifecycle.Finish.{Finish}
use Rattle.rm_message.specs.declared.elements.lifecycle.Lifecycle.{Lifecycle}
use Rattle.rm_message.specs.declared.elements.lifecycle.Lifecycle.TheVariants as bodies
use Rattle.rm_message.specs.declared.elements.lifecycle.MakeConnection.{MakeConnection}
use Rattle.rm_message.specs.declared.elements.lifecycle.Offer.{Offer}
use Rattle.rm_message.specs.declared.elements.tag.Tag.{Tag}
use Rattle.rm_message.specs.declared.elements.tag.Tag.TheVariants as tags
use Rattle.rm_message.specs.Elements.Letters.{digit_zero}

-- a name with the prefix of WS-ReliableMessaging, and one with that of WS-MakeConnection
abbrev pub r : List ℕ → NodeTag
r local = framed of_messaging local

-- a name with the prefix of WS-MakeConnection
abbrev pub c : List ℕ → NodeTag
c local = framed of_connection local

-- the name of a tag
abbrev pub tag_of : Tag → NodeTag
tag_of tags.Sequence = r (codes "Sequence")
tag_of tags.Identifier = r (codes "Identifier")
tag_of tags.MessageNumber = r (codes "MessageNumber")
tag_of tags.SequenceAcknowledgement = r (codes "SequenceAcknowledgement")
tag_of tags.AcknowledgementRange = r (codes "AcknowledgementRange")
tag_of tags.NoRange = r (codes "None")
tag_of tags.Nack = r (codes "Nack")
tag_of tags.Final = r (codes "Final")
tag_of tags.AckRequested = r (codes "AckRequested")
tag_of tags.MessagePending = c (codes "MessagePending")
tag_of tags.CreateSequence = r (codes "CreateSequence")
tag_of tags.CreateSequenceResponse = r (codes "CreateSequenceResponse")
tag_of tags.CloseSequence = r (codes "CloseSequence")
tag_of tags.CloseSequenceResponse = r (codes "CloseSequenceResponse")
tag_of tags.TerminateSequence = r (codes "TerminateSequence")
tag_of tags.TerminateSequenceResponse = r (codes "TerminateSequenceResponse")
tag_of tags.LastMsgNumber = r (codes "LastMsgNumber")
tag_of tags.AcksTo = r (codes "AcksTo")
tag_of tags.Expires = r (codes "Expires")
tag_of tags.Offer = r (codes "Offer")
tag_of tags.Endpoint = r (codes "Endpoint")
tag_of tags.IncompleteSequenceBehavior = r (codes "IncompleteSequenceBehavior")
tag_of tags.Accept = r (codes "Accept")
tag_of tags.MakeConnection = c (codes "MakeConnection")
tag_of tags.Address = c (codes "Address")
tag_of tags.Other = c (codes "Other")

-- ---- header blocks

-- that a block has to be understood: SOAP 1.2 Part 1, section 5.2.3
abbrev pub must : Note
must = prefixed of_soap (codes "mustUnderstand") (codes "true")

-- Identifier (3.4)
abbrev pub identifier_node : List ℕ → Node
identifier_node ident = leaf (tag_of tags.Identifier) ident

-- Sequence (3.7)
abbrev pub sequence_node : SeqHeader → Node
sequence_node x = full (tag_of tags.Sequence) (must ∷ [])
    (more (identifier_node x.ident) (more (leaf (tag_of tags.MessageNumber) (decimal x.number)) nothing))

-- AcknowledgementRange and Nack (3.9)
abbrev pub range_node : Range → Node
range_node x = void (tag_of tags.AcknowledgementRange)
    (plain (codes "Lower") (decimal x.lower) ∷ plain (codes "Upper") (decimal x.upper) ∷ [])

-- Nack (3.9)
abbrev pub nack_node : ℕ → Node
nack_node n = leaf (tag_of tags.Nack) (decimal n)

-- Final, where it stands there (3.9)
abbrev pub final_nodes : Bool → Nodes
final_nodes last = if last then more (void (tag_of tags.Final) []) nothing else nothing

-- what an acknowledgement says, before others
abbrev pub kind_nodes : AckKind → Nodes → Nodes
kind_nodes (Ranges ranges) others = each_node range_node ranges others
kind_nodes Nothing others = more (void (tag_of tags.NoRange) []) others
kind_nodes (Nack numbers) others = each_node nack_node numbers others

-- SequenceAcknowledgement (3.9)
abbrev pub ack_node : AckBlock → Node
ack_node x = full (tag_of tags.SequenceAcknowledgement) []
    (more (identifier_node x.ident) (kind_nodes x.kind (final_nodes x.last)))

-- AckRequested (3.8)
abbrev pub ask_node : List ℕ → Node
ask_node ident = full (tag_of tags.AckRequested) [] (more (identifier_node ident) nothing)

-- MessagePending (WS-MakeConnection 1.1, 3.3)
abbrev pub flag_text : Bool → List ℕ
flag_text flag = if flag then codes "true" else codes "false"

-- MessagePending with its flag
abbrev pub pending_node : Bool → Node
pending_node pending = void (tag_of tags.MessagePending) (plain (codes "pending") (flag_text pending) ∷ [])

-- a header block
abbrev pub header_node : Header → Node
header_node (headers.Sequence x) = sequence_node x
header_node (headers.Ack x) = ack_node x
header_node (headers.Ask ident) = ask_node ident
header_node (headers.Pending pending) = pending_node pending

-- ---- durations

-- months, where there are some
abbrev pub months_text : ℕ → List ℕ
months_text months = if months == 0 then [] else decimal months ++ codes "M"

-- three digits of less than a thousand
abbrev pub three_digits : ℕ → List ℕ
three_digits n = (digit_zero + n / 100) ∷ (digit_zero + (n / 10) % 10) ∷ (digit_zero + n % 10) ∷ []

-- whole seconds, or with a point and three digits
abbrev pub seconds_text : ℕ → List ℕ
seconds_text ms =
    if ms % 1000 == 0 then decimal (ms / 1000) else decimal (ms / 1000) ++ (codes "." ++ three_digits (ms % 1000))

-- milliseconds, where there are some
abbrev pub time_text : ℕ → List ℕ
time_text ms = if ms == 0 then [] else codes "T" ++ (seconds_text ms ++ codes "S")

-- a duration: XML Schema Part 2, section 3.2.6
abbrev pub lapse_text : Lapse → List ℕ
lapse_text lapse = codes "P" ++ (months_text lapse.months ++ time_text lapse.ms)

-- Expires, which is left out where it is zero (3.4), before others
abbrev pub expires_before : Lapse → Nodes → Nodes
expires_before lapse others =
    if lapse.months == 0 && lapse.ms == 0 then others else more (leaf (tag_of tags.Expires) (lapse_text lapse)) others

-- ---- body elements

-- the name of a behaviour (3.4)
abbrev pub behaviour_text : Behaviour → List ℕ
behaviour_text NoDiscard = codes "NoDiscard"
behaviour_text EntireSequence = codes "DiscardEntireSequence"
behaviour_text FollowingFirstGap = codes "DiscardFollowingFirstGap"

-- IncompleteSequenceBehavior (3.4)
abbrev pub behaviour_node : Behaviour → Node
behaviour_node behaviour = leaf (tag_of tags.IncompleteSequenceBehavior) (behaviour_text behaviour)

-- an element that is an endpoint reference
abbrev pub epr_node : Tag → Epr → Node
epr_node tag x = full (tag_of tag) [] (epr_nodes x)

-- Offer (3.4)
abbrev pub offer_node : Offer → Node
offer_node o = full (tag_of tags.Offer) [] (more (identifier_node o.ident) (more (epr_node tags.Endpoint o.endpoint)
    (expires_before o.expires (more (behaviour_node o.behaviour) nothing))))

-- an Offer, where there is one
abbrev pub offer_nodes : Option Offer → Nodes
offer_nodes None = nothing
offer_nodes (Some o) = more (offer_node o) nothing

-- CreateSequence (3.4)
abbrev pub create_node : CreateSequence → Node
create_node x = full (tag_of tags.CreateSequence) []
    (more (epr_node tags.AcksTo x.acks_to) (expires_before x.expires (offer_nodes x.offer)))

-- Accept (3.4)
abbrev pub accept_nodes : Option Epr → Nodes
accept_nodes None = nothing
accept_nodes (Some x) = more (full (tag_of tags.Accept) [] (more (epr_node tags.AcksTo x) nothing)) nothing

-- CreateSequenceResponse (3.4)
abbrev pub response_node : CreateResponse → Node
response_node x = full (tag_of tags.CreateSequenceResponse) [] (more (identifier_node x.ident)
    (expires_before x.expires (more (behaviour_node x.behaviour) (accept_nodes x.accept))))

-- CloseSequence and TerminateSequence (3.5, 3.6)
abbrev pub last_nodes : Option ℕ → Nodes
last_nodes None = nothing
last_nodes (Some n) = more (leaf (tag_of tags.LastMsgNumber) (decimal n)) nothing

-- such an element, by its tag
abbrev pub finish_node : Tag → Finish → Node
finish_node tag x = full (tag_of tag) [] (more (identifier_node x.ident) (last_nodes x.last_number))

-- their responses
abbrev pub ident_node : Tag → List ℕ → Node
ident_node tag ident = full (tag_of tag) [] (more (identifier_node ident) nothing)

-- MakeConnection (WS-MakeConnection 1.1, 3.2)
abbrev pub other_nodes : Bool → Nodes
other_nodes other = if other then more (void (tag_of tags.Other) []) nothing else nothing

-- Address, where there is one, before others
abbrev pub address_before : Option (List ℕ) → Nodes → Nodes
address_before None others = others
address_before (Some uri) others = more (leaf (tag_of tags.Address) uri) others

-- MakeConnection with what was selected
abbrev pub make_node : MakeConnection → Node
make_node x = full (tag_of tags.MakeConnection) [] (address_before x.address (other_nodes x.other))

-- a body element
abbrev pub lifecycle_node : Lifecycle → Node
lifecycle_node (bodies.Create x) = create_node x
lifecycle_node (bodies.CreateResponse x) = response_node x
lifecycle_node (bodies.Close x) = finish_node tags.CloseSequence x
lifecycle_node (bodies.CloseResponse ident) = ident_node tags.CloseSequenceResponse ident
lifecycle_node (bodies.Terminate x) = finish_node tags.TerminateSequence x
lifecycle_node (bodies.TerminateResponse ident) = ident_node tags.TerminateSequenceResponse ident
lifecycle_node (bodies.Make x) = make_node x
