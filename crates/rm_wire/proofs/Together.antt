-- What is written is read: the addressing properties, what stands beside them, and the message.
use Rattle.std.proofs.Common.{◌≡◌, ◌≢◌, ◌≤◌, ℕ, Bool, true, false, not, ◌&&◌, if◌then◌else◌, List, [], ◌++◌}
use Rattle.std.proofs.Common.{Option, Some, None, Ok, Err, codes, map, length, refl, sym, ap, ◌∙◌, is_some, IfSome}
use Rattle.std.specs.Prelude.{IsSome, option_map}
use Rattle.std.specs.List.{filter}
use Rattle.std.specs.Str.{bytes_eq}
use Rattle.std.proofs.lemmas.Bool.{true≢false}
use Rattle.rm_base.specs.declared.message.Binding.{Binding}
use Rattle.soap_lex.specs.Facts.{equal}
use Rattle.soap_document.specs.Profile.Tree.{Element, Parts, none, name_of, children_of}
use Rattle.soap_document.specs.declared.profile.name.Expanded.{Expanded}
use Rattle.soap_envelope.specs.Envelope.{Envelope, IsEnvelope}
use Rattle.soap_envelope.specs.Soap.{soap_space, is_soap11}
use Rattle.soap_writer.specs.Frame.{addressing_space}
use Rattle.soap_writer.specs.Plain.{chars_from}
use Rattle.soap_envelope.specs.Frame.Framed.{framed_envelope, MayBeSoap}
use Rattle.soap_writer.specs.Nodes.Node.{Nodes, more, leaf, node_tree, nodes_tree}
use Rattle.soap_writer.specs.Values.Outcome.{◌>>=◌}
use Rattle.wsa_headers.specs.Addressing.{uri_header, is_missing, properties_in, read_or_bad, read_unless}
use Rattle.wsa_headers.specs.Addressing.{repeated}
use Rattle.wsa_headers.specs.Addressing.{addressing_in, or_anonymous, Replies, params_of, relates_in}
use Rattle.wsa_headers.specs.Addressing.{replies_in}
use Rattle.wsa_headers.specs.Endpoint.{wsa}
use Rattle.wsa_headers.specs.Texts.{tag_of, params_nodes, uri_before, epr_before}
use Rattle.wsa_headers.specs.Writable.{addressing_blocks}
use Rattle.wsa_headers.specs.declared.addressing.Addressing.{Addressing}
use Rattle.wsa_headers.specs.declared.error.AddressingError.TheVariants.{HeaderMissing}
use Rattle.wsa_headers.specs.declared.tag.Tag.TheVariants as tags
use Rattle.rm_message.specs.Elements.Headers.{header_of}
use Rattle.rm_message.specs.Elements.Texts.{sequence_node}
use Rattle.rm_message.specs.Elements.Writable.{IsSequenceWritable}
use Rattle.rm_message.specs.declared.elements.header.AckBlock.{AckBlock}
use Rattle.rm_message.specs.declared.elements.header.Header.TheVariants as headers
use Rattle.rm_message.specs.declared.elements.header.SeqHeader.{SeqHeader}
use Rattle.rm_message.specs.declared.elements.lifecycle.Lifecycle.TheVariants as life
use Rattle.rm_message.specs.Actions.{create_sequence}
use Rattle.rm_message.specs.declared.message.Body.{Body}
use Rattle.rm_message.specs.declared.message.Body.TheVariants as body
use Rattle.rm_message.specs.declared.message.Message.{Message}
use Rattle.message_reader.specs.Blocks.{blocks, has_block, is_not_understood}
use Rattle.message_reader.specs.Bodies.{fault_at, element_for, body_in}
use Rattle.message_reader.specs.Headers.{acks_in, asks_in, pending_in, sequence_name, told_names}
use Rattle.message_reader.specs.Headers.{sequence_fault_in}
use Rattle.message_reader.specs.Message.{is_create, is_numbered, has_fault, lacks_id, unless_lacking, addressed}
use Rattle.message_reader.specs.Message.{payload_of, Lists, body_of}
use Rattle.message_reader.specs.Message.{lists_in, marks_in, content_in, with_content}
use Rattle.message_reader.specs.Message.{with_addressing, unless_unknown, message_in}
use Rattle.message_reader.specs.Refusals.{Spells}
use Rattle.message_writer.specs.Rules.{IsBodyWritable, body_parts, action_for, BelongTogether, KeepsRules}
use Rattle.message_writer.specs.Rules.{HeaderKeepsRules, header_rules, message_envelope}
use Rattle.message_writer.specs.Text.{body_text, message_text, not_understood_node}
use Rattle.message_writer.specs.Text11.{sequence_marked}
use Rattle.rm_wire.specs.Payloads.{with_body}
use Rattle.rm_wire.proofs.Blocks.{tree_if, others, header_is}
use Rattle.rm_wire.proofs.BodiesBack.{bare_action, other_action, written_payload, fault_found, body_back}
use Rattle.rm_wire.proofs.HeadersBack.{MayBeLast, sequences, all_understood, all_foreign, acks_back, asks_back}
use Rattle.rm_wire.proofs.HeadersBack.{pending_back, is_numbered_back, told, told_last, names_back}
use Rattle.rm_wire.proofs.Known.{Known}

-- ---- the action that was read

props_by : (headers : List Element) (b : Bool) (p : Option Addressing) (a : Addressing)
    → (if b then Err (HeaderMissing (codes "Action")) else read_or_bad headers p) ≡ Ok a → p ≡ Some a
props_by headers true p a e = cc
props_by headers false None a e = cc
props_by headers false (Some x) a e = cc

props_from : (headers : List Element) (r : Option (List ℕ)) (a : Addressing) → read_unless headers r ≡ Ok a
    → properties_in headers ≡ Some a
props_from headers (Some name) a e = cc
props_from headers None a e = props_by headers (is_missing (codes "Action") headers) (properties_in headers) a e

-- the chain of what is read, by its results
action_by : (params : List Element) (a : Addressing) (to found id relates : Option (Option (List ℕ)))
    (replies : Option Replies)
    → (to >>= λ to. found >>= λ found. found >>= λ action. id >>= λ id. relates >>= λ relates. replies >>= λ replies.
    Some (record {
      to = or_anonymous to;
      action = action;
      message_id = id;
      relates = relates;
      reply_to = replies.0;
      fault_to = replies.1;
      params = params;
    })) ≡ Some a
    → found ≡ Some (Some a.action)
action_by params a None found id relates replies e = cc
action_by params a (Some to) None id relates replies e = cc
action_by params a (Some to) (Some None) id relates replies e = cc
action_by params a (Some to) (Some (Some x)) None relates replies e = cc
action_by params a (Some to) (Some (Some x)) (Some id) None replies e = cc
action_by params a (Some to) (Some (Some x)) (Some id) (Some r) None e = cc
action_by params a (Some to) (Some (Some x)) (Some id) (Some r) (Some replies) e =
    ap (option_map (λ (r : Addressing). Some r.action)) e

action_in : (headers : List Element) (a : Addressing) → properties_in headers ≡ Some a
    → uri_header (codes "Action") headers ≡ Some (Some a.action)
unfolding properties_in
action_in headers a e =
    action_by (params_of headers) a (uri_header (codes "To") headers) (uri_header (codes "Action") headers)
    (uri_header (codes "MessageID") headers) (relates_in headers) (replies_in headers) e

action_read : (headers : List Element) (a : Addressing) → addressing_in headers ≡ Ok a
    → uri_header (codes "Action") headers ≡ Some (Some a.action)
action_read headers a e = action_in headers a (props_from headers (repeated headers) a e)

-- ---- a MessageID where there has to be one

has_id : (soap to action : List ℕ) (id : Option (List ℕ)) (nodes : Nodes) (others : List Element) → IsSome id
    → has_block (wsa (codes "MessageID")) (children_of (nodes_tree soap (more (leaf (tag_of tags.To) to)
    (more (leaf (tag_of tags.Action) action) (uri_before tags.MessageID id nodes)))) ++ others) ≡ true
has_id soap to action None nodes others is = cc is
has_id soap to action (Some id) nodes others is = refl

-- no MessageID is wanting: there is one, or a Fault, or it is no CreateSequence
none_first : (b c : Bool) → (not true && b && c) ≡ false
none_first b c = refl

none_second : (a c : Bool) → (not a && not true && c) ≡ false
none_second true c = refl
none_second false c = refl

none_third : (a b : Bool) → (not a && not b && false) ≡ false
none_third true b = refl
none_third false true = refl
none_third false false = refl

-- an action that is not that of CreateSequence
abbrev IsNoCreate : List ℕ → Type 0
IsNoCreate action = is_create (Some (Some action)) ≡ false

pub not_create : (soap : List ℕ) (e : Envelope) (a : Addressing) → addressing_in e.headers ≡ Ok a → IsNoCreate a.action
    → lacks_id soap e ≡ false
not_create soap e a read differs =
    ap (λ o. not (has_block (wsa (codes "MessageID")) e.headers) && not (has_fault soap e) && is_create o)
    (action_read e.headers a read)
    ∙ ap (λ b. not (has_block (wsa (codes "MessageID")) e.headers) && not (has_fault soap e) && b) differs
    ∙ none_third (has_block (wsa (codes "MessageID")) e.headers) (has_fault soap e)

with_id : (soap : List ℕ) (e : Envelope) → has_block (wsa (codes "MessageID")) e.headers ≡ true
    → lacks_id soap e ≡ false
with_id soap e has =
    ap (λ b. not b && not (has_fault soap e) && is_create (uri_header (codes "Action") e.headers)) has
    ∙ none_first (not (has_fault soap e)) (is_create (uri_header (codes "Action") e.headers))

pub with_fault : (soap : List ℕ) (e : Envelope) → has_fault soap e ≡ true → lacks_id soap e ≡ false
with_fault soap e has =
    ap (λ b. not (has_block (wsa (codes "MessageID")) e.headers) && not b
    && is_create (uri_header (codes "Action") e.headers)) has
    ∙ none_second (has_block (wsa (codes "MessageID")) e.headers) (is_create (uri_header (codes "Action") e.headers))

no_create_by : (action : List ℕ) (b : Bool)
    → bytes_eq action create_sequence ≡ b → element_for action ≡ None → b ≡ false
no_create_by action true is none_of = let impossible = rw is at none_of in cc
no_create_by action false is none_of = refl

pub no_create : (action : List ℕ) → element_for action ≡ None → IsNoCreate action
no_create action none_of = no_create_by action _ refl none_of

-- ---- the addressing properties

-- a body element with another action
other_element : (soap : List ℕ) (a : Addressing) (os : List Element) (b : Body) (parts : Parts) (action : List ℕ)
    → addressing_in (addressing_blocks soap a ++ os) ≡ Ok a → a.action ≡ action → IsNoCreate action
    → lacks_id soap (framed_envelope soap (addressing_blocks soap a ++ os) (body_text b) parts) ≡ false
other_element soap a os b parts action read is differs =
    not_create soap (framed_envelope soap (addressing_blocks soap a ++ os) (body_text b) parts) a read
    (ap (λ l. is_create (Some (Some l))) is ∙ differs)

pub lacks_none : (soap : List ℕ) (a : Addressing) (sequence : Option SeqHeader) (b : Body) (rules : IsBodyWritable
    soap b)
    (os : List Element) → BelongTogether soap a sequence b rules
    → addressing_in (addressing_blocks soap a ++ os) ≡ Ok a
    → has_block sequence_name (addressing_blocks soap a ++ os) ≡ is_some sequence
    → lacks_id soap (framed_envelope soap (addressing_blocks soap a ++ os) (body_text b) (body_parts soap b rules))
    ≡ false
lacks_none soap a sequence body.Empty rules os together read numbered =
    not_create soap (framed_envelope soap (addressing_blocks soap a ++ os) [] none) a read
    (no_create a.action (bare_action a.action together.1).no_element)
lacks_none soap a sequence (body.Payload p) rules os together read numbered =
    not_create soap (framed_envelope soap (addressing_blocks soap a ++ os) p.bytes rules.closed.parts) a read
    (no_create a.action (other_action a.action together.0).no_element)
lacks_none soap a sequence (body.Lifecycle (life.Create x)) rules os together read numbered =
    let b = body.Lifecycle (life.Create x) in
    with_id soap (framed_envelope soap (addressing_blocks soap a ++ os) (body_text b) (body_parts soap b rules))
    (has_id soap a.to a.action a.message_id (uri_before tags.RelatesTo a.relates (epr_before tags.ReplyTo a.reply_to
    (epr_before tags.FaultTo a.fault_to (params_nodes true a.params)))) os together.2)
lacks_none soap a sequence (body.Lifecycle (life.CreateResponse x)) rules os together read numbered =
    let b = body.Lifecycle (life.CreateResponse x) in
    other_element soap a os b (body_parts soap b rules) (action_for (life.CreateResponse x)) read together.1 refl
lacks_none soap a sequence (body.Lifecycle (life.Close x)) rules os together read numbered =
    let b = body.Lifecycle (life.Close x) in
    other_element soap a os b (body_parts soap b rules) (action_for (life.Close x)) read together.1 refl
lacks_none soap a sequence (body.Lifecycle (life.CloseResponse x)) rules os together read numbered =
    let b = body.Lifecycle (life.CloseResponse x) in
    other_element soap a os b (body_parts soap b rules) (action_for (life.CloseResponse x)) read together.1 refl
lacks_none soap a sequence (body.Lifecycle (life.Terminate x)) rules os together read numbered =
    let b = body.Lifecycle (life.Terminate x) in
    other_element soap a os b (body_parts soap b rules) (action_for (life.Terminate x)) read together.1 refl
lacks_none soap a sequence (body.Lifecycle (life.TerminateResponse x)) rules os together read numbered =
    let b = body.Lifecycle (life.TerminateResponse x) in
    other_element soap a os b (body_parts soap b rules) (action_for (life.TerminateResponse x)) read together.1 refl
lacks_none soap a sequence (body.Lifecycle (life.Make x)) rules os together read numbered =
    let b = body.Lifecycle (life.Make x) in
    other_element soap a os b (body_parts soap b rules) (action_for (life.Make x)) read together.1 refl
lacks_none soap a sequence (body.Fault f) rules os together read numbered =
    let b = body.Fault f in
    let parts = body_parts soap b rules in
    with_fault soap (framed_envelope soap (addressing_blocks soap a ++ os) (body_text b) parts)
    (ap (λ n. is_some (fault_at soap n parts)) (numbered ∙ ap is_some together) ∙ ap is_some (fault_found soap f))

pub addressed_by : (soap : List ℕ) (e : Envelope) (a : Addressing) → lacks_id soap e ≡ false
    → addressing_in e.headers ≡ Ok a → addressed soap e ≡ Ok a
addressed_by soap e a lacks read =
    ap (λ b. unless_lacking b (addressing_in e.headers)) lacks ∙ ap (unless_lacking false) read

-- ---- what stands beside them

pub lists_by : (hs : List Element) (acks : List AckBlock) (asks : List (List ℕ)) → acks_in hs ≡ Some acks
    → asks_in hs ≡ Some asks → lists_in hs ≡ Some (acks, asks)
unfolding lists_in
lists_by hs acks asks a b = rw (a, b) refl

-- the header of SOAP 1.1 is none of another version
no_sequence_fault : (soap : List ℕ) (scope : List Binding) (hs : List Element) → is_soap11 soap ≡ false
    → sequence_fault_in soap scope hs ≡ Some None
unfolding sequence_fault_in
no_sequence_fault soap scope hs later = rw later refl

-- so its body is what is read without one
pub body_by : (soap action : List ℕ) (e : Envelope) (b : Body) → is_soap11 soap ≡ false
    → body_in soap None action (is_numbered e) (payload_of e) e.body ≡ Some b → body_of soap action e ≡ Some b
unfolding body_of
body_by soap action e b later read =
    let none = no_sequence_fault soap e.header_scope e.headers later in
    rw none read

-- the number is read alike whatever the mark
header_same : (soap mark : List ℕ) (x : SeqHeader)
    → header_of (node_tree soap (sequence_marked mark x)) ≡ header_of (node_tree soap (sequence_node x))
header_same soap mark x = refl

-- a message with a number in a sequence or without
content_by : Known → (soap mark : List ℕ) (a : Addressing) (x : Option SeqHeader) (e : Envelope) (lists : Lists)
    (pending : Option Bool) (told : List Expanded) (b : Body) → IfSome x IsSequenceWritable
    → lists_in e.headers ≡ Some lists → pending_in e.headers ≡ Some pending
    → blocks sequence_name e.headers ≡ tree_if soap (sequence_marked mark) x
    → told_names soap e.header_scope e.headers ≡ told → body_of soap a.action e ≡ Some b
    → with_content a (content_in soap a.action e) ≡ Ok (record {
      addressing = a;
      sequence = x;
      acks = lists.0;
      asks = lists.1;
      pending = pending;
      not_understood = told;
      body = b;
    })
unfolding content_in marks_in
content_by known soap mark a None e lists pending told b is l p at n y = rw (l, p, at, y, n) refl
content_by known soap mark a (Some x) e lists pending told b is l p at n y =
    let one = header_same soap mark x ∙ known.header soap (headers.Sequence x) is in
    rw (l, p, at, one, y, n) refl

-- ---- the message

-- what an envelope is read as that has these header blocks, by what its body is
pub read_by : Known → (soap mark : List ℕ) (m : Message) (last : List Element) → MayBeLast soap last
    → HeaderKeepsRules m → (e : Envelope) (b : Body)
    → e.headers ≡ addressing_blocks soap m.addressing ++ others soap mark m last → lacks_id soap e ≡ false
    → told_names soap e.header_scope e.headers ≡ m.not_understood → body_of soap m.addressing.action e ≡ Some b
    → message_in soap e ≡ Ok (with_body m b)
read_by known soap mark m last may rules e b is lacks told said =
    let a = m.addressing in
    let bs = addressing_blocks soap a in
    let own = known.own soap a in
    let read : addressing_in e.headers ≡ Ok a =
    ap addressing_in is
    ∙ known.addressing soap a (others soap mark m last) rules.addressing
    (all_foreign soap mark m last may bs own known) in
    let lists : lists_in e.headers ≡ Some (m.acks, m.asks) =
    lists_by e.headers m.acks m.asks (ap acks_in is ∙ acks_back soap mark m last may bs own known rules.acks)
    (ap asks_in is ∙ asks_back soap mark m last may bs own known rules.asks) in
    let pending : pending_in e.headers ≡ Some m.pending =
    ap pending_in is ∙ pending_back soap mark m last may bs own known in
    let number : blocks sequence_name e.headers ≡ tree_if soap (sequence_marked mark) m.sequence =
    ap (blocks sequence_name) is ∙ sequences soap mark m last may bs own in
    let none : filter (is_not_understood soap) e.headers ≡ [] =
    ap (filter (is_not_understood soap)) is ∙ all_understood soap mark m last may bs own in
    ap (λ (l : List Element). unless_unknown soap e (map name_of l)) none
    ∙ ap (with_addressing soap e) (addressed_by soap e a lacks read)
    ∙ content_by known soap mark a m.sequence e (m.acks, m.asks) m.pending m.not_understood b rules.sequence lists
    pending number told said

-- the envelope that a message is, as it is read
abbrev envelope_of : (soap : List ℕ) (m : Message) → KeepsRules soap m → Envelope
envelope_of soap m rules =
    framed_envelope soap (addressing_blocks soap m.addressing ++ others soap (codes "true") m (told soap m))
    (body_text m.body) (body_parts soap m.body rules.body)

message_back : Known → (soap : List ℕ) (m : Message) (rules : KeepsRules soap m) → is_soap11 soap ≡ false
    → soap ≢ addressing_space → message_in soap (envelope_of soap m rules) ≡ Ok m
message_back known soap m rules later other =
    let e = envelope_of soap m rules in
    let a = m.addressing in
    let bs = addressing_blocks soap a in
    let mark = codes "true" in
    let own = known.own soap a in
    let last = told soap m in
    let may = told_last soap m other in
    let behind = others soap mark m last in
    let parts = body_parts soap m.body rules.body in
    let read =
    known.addressing soap a behind rules.addressing (all_foreign soap mark m last may bs own known) in
    let has = is_numbered_back soap mark m last may bs own in
    let lacks : lacks_id soap e ≡ false = lacks_none soap a m.sequence m.body rules.body behind rules.together read has
    in
    let said : body_in soap None a.action (is_numbered e) (payload_of e) e.body ≡ Some m.body =
    ap (λ n. body_in soap None a.action n (written_payload soap m.body) parts) has
    ∙ body_back known soap later a m.sequence m.body rules.body rules.together in
    read_by known soap mark m last may (header_rules soap m rules) e m.body refl lacks
    (names_back soap mark m bs later other own rules.not_understood) (body_by soap a.action e m.body later said)

-- what is known of the text
abbrev pub KnowsText : Type 0
KnowsText = (soap : List ℕ) (m : Message) (rules : KeepsRules soap m) → MayBeSoap soap
    → IsEnvelope soap (message_text soap m) (message_envelope soap m rules)

pub written_is_read : KnowsText → Known → (soap : List ℕ) (m : Message) → KeepsRules soap m → MayBeSoap soap
    → is_soap11 soap ≡ false → soap ≢ addressing_space → length (message_text soap m) ≤ 2097152
    → Spells soap (message_text soap m) m
written_is_read text known soap m rules may later other fits =
    let body = body_parts soap m.body rules.body in
    record {
      envelope = message_envelope soap m rules;
      is = text soap m rules may;
      fits = fits;
      reads = ap (λ (hs : List Element). message_in soap (framed_envelope soap hs (body_text m.body) body))
          (header_is soap (codes "true") m (map not_understood_node m.not_understood))
          ∙ message_back known soap m rules later other;
    }

pub soap_may : MayBeSoap soap_space
soap_may = record { chars = chars_from soap_space refl; bindable = refl }

pub soap_later : is_soap11 soap_space ≡ false
unfolding is_soap11
soap_later = refl

pub soap_other : soap_space ≢ addressing_space
soap_other e = true≢false (sym (equal soap_space addressing_space e))

pub written_is_read_as_soap : KnowsText → Known → (m : Message) → KeepsRules soap_space m
    → length (message_text soap_space m) ≤ 2097152 → Spells soap_space (message_text soap_space m) m
written_is_read_as_soap text known m rules fits =
    written_is_read text known soap_space m rules soap_may soap_later soap_other fits
