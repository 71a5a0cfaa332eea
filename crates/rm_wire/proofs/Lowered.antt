-- A message that is written in SOAP 1.1 is read there.
use Rattle.std.proofs.Common.{◌≡◌, ◌≤◌, ℕ, Bool, true, false, List, [], ◌∷◌, ◌++◌, Option, Some, None, Ok, codes, map}
use Rattle.std.proofs.Common.{refl, length, sym, ap, ◌∙◌, if◌then◌else◌, is_some, IfSome}
use Rattle.std.specs.List.{AllByRecursion}
use Rattle.rm_base.specs.declared.message.Binding.{Binding}
use Rattle.rm_base.specs.declared.message.Payload.{Payload}
use Rattle.soap_envelope.specs.Soap.{soap11_space, is_soap11}
use Rattle.soap_document.specs.Profile.Tree.{Element, none, child}
use Rattle.soap_document.specs.declared.profile.name.Expanded.{Expanded}
use Rattle.soap_envelope.specs.Envelope.{Envelope, IsEnvelope}
use Rattle.soap_envelope.specs.Frame.Framed.{framed_envelope, sorted_scope}
use Rattle.soap_writer.specs.Nodes.Node.{node_tree}
use Rattle.wsa_headers.specs.Addressing.{addressing_in}
use Rattle.wsa_headers.specs.Writable.{addressing_blocks}
use Rattle.wsa_headers.specs.declared.addressing.Addressing.{Addressing}
use Rattle.rm_message.specs.declared.elements.header.Header.TheVariants as headers
use Rattle.rm_message.specs.declared.elements.header.SeqHeader.{SeqHeader}
use Rattle.rm_message.specs.declared.message.Body.{Body}
use Rattle.rm_message.specs.declared.message.Body.TheVariants as body
use Rattle.rm_message.specs.declared.message.FaultBody.{FaultBody}
use Rattle.rm_message.specs.declared.message.FaultCode.{FaultCode}
use Rattle.rm_message.specs.declared.message.Message.{Message}
use Rattle.message_reader.specs.Blocks.{blocks, has_block, sequence_fault_name}
use Rattle.message_reader.specs.Bodies.{fault_at, body_in}
use Rattle.message_reader.specs.Faults11.{Told}
use Rattle.message_reader.specs.Headers.{sequence_name, told_names, sequence_fault_of, sequence_fault_in}
use Rattle.message_reader.specs.Message.{is_numbered, lacks_id, payload_of, body_of, message_in}
use Rattle.message_reader.specs.Refusals.{Spells}
use Rattle.message_writer.specs.Faults11.{Tells, plainly, ahead, of_addressing, of_connection, of_create}
use Rattle.message_writer.specs.Faults11.{ahead_nodes, sequence_fault_node, fault11_node}
use Rattle.message_writer.specs.Rules.{IsBodyWritable, BelongTogether, KeepsRules, header_rules}
use Rattle.message_writer.specs.Rules.{IsSubcodeWritable, IsDetailWritable}
use Rattle.message_writer.specs.Text11.{ahead_of, header11_blocks, body11_text, IsBody11, KeepsRules11}
use Rattle.message_writer.specs.Text11.{message11_text, body11_parts}
use Rattle.rm_wire.specs.Told.{told_by}
use Rattle.rm_wire.proofs.Blocks.{others, header_is}
use Rattle.rm_wire.proofs.BodiesBack.{bare_action, other_action, empty_back, payload_back, lifecycle_back}
use Rattle.rm_wire.proofs.Fault11Back.{fault11_back, sequence_fault_back}
use Rattle.rm_wire.proofs.Headers11Back.{ahead_trees, ahead_last, faults}
use Rattle.rm_wire.proofs.HeadersBack.{all_foreign, is_numbered_back}
use Rattle.rm_wire.proofs.Known.{Known, KnowsTrees}
use Rattle.rm_wire.proofs.Together.{lacks_none, with_fault, read_by}

abbrev soap : List ℕ
soap = soap11_space

abbrev scope : List Binding
scope = sorted_scope soap

soap_first : is_soap11 soap ≡ true
unfolding is_soap11
soap_first = refl

no_names : (scope : List Binding) (hs : List Element) → told_names soap scope hs ≡ []
no_names scope hs = let first = soap_first in rw first refl

-- what goes ahead of a body
abbrev told_of : Body → Option Told
told_of (body.Fault f) = told_by f.subcode f.detail
told_of _ = None

none_there : (hs : List Element) → blocks sequence_fault_name hs ≡ [] → sequence_fault_in soap scope hs ≡ Some None
unfolding sequence_fault_in
none_there hs at = let first = soap_first in rw (first, at) refl

one_there : (hs : List Element) (e : Element) (told : Told) → blocks sequence_fault_name hs ≡ e ∷ []
    → sequence_fault_of scope e ≡ Some told → sequence_fault_in soap scope hs ≡ Some (Some told)
unfolding sequence_fault_in
one_there hs e told at read = let first = soap_first in rw (first, at, read) refl

fault_told : KnowsTrees → (hs : List Element) (code : FaultCode) (subcode : Option Expanded) (detail : List Element)
    → Tells code subcode → IfSome subcode IsSubcodeWritable → AllByRecursion IsDetailWritable detail
    → blocks sequence_fault_name hs ≡ map (node_tree soap) (ahead_nodes subcode detail)
    → sequence_fault_in soap scope hs ≡ Some (told_by subcode detail)
fault_told known hs _ _ detail (plainly code) is all at = none_there hs at
fault_told known hs _ _ detail (ahead code local go) is all at =
    let e = node_tree soap (sequence_fault_node local detail) in
    let here : blocks sequence_fault_name hs ≡ e ∷ [] =
    at ∙ ap (λ (t : Bool). map (node_tree soap) (if t then sequence_fault_node local detail ∷ [] else [])) go in
    rw go (one_there hs e _ here (sequence_fault_back known local detail is.writable.local all))
fault_told known hs _ _ detail (of_addressing local) is all at = none_there hs at
fault_told known hs _ _ detail (of_connection local) is all at = none_there hs at
fault_told known hs _ _ detail of_create is all at = none_there hs at

told_back : KnowsTrees → (hs : List Element) (b : Body) → IsBodyWritable soap b → IsBody11 b
    → blocks sequence_fault_name hs ≡ ahead_trees soap b → sequence_fault_in soap scope hs ≡ Some (told_of b)
told_back known hs body.Empty rules is at = none_there hs at
told_back known hs (body.Payload p) rules is at = none_there hs at
told_back known hs (body.Lifecycle x) rules is at = none_there hs at
told_back known hs (body.Fault f) rules is at =
    fault_told known hs f.code f.subcode f.detail is.tells rules.subcode rules.detail at

-- ---- the Body

-- the bytes of a body within the bindings of a frame
abbrev written_payload : Body → Payload
written_payload b = record { bytes = body11_text b; scope = scope }

fault11_found : (f : FaultBody)
    → fault_at soap false (child (node_tree soap (fault11_node f)) none) ≡ Some (node_tree soap (fault11_node f))
fault11_found f = refl

body11_back : Known → (a : Addressing) (sequence : Option SeqHeader) (b : Body) (rules : IsBodyWritable soap b)
    → IsBody11 b → BelongTogether soap a sequence b rules
    → body_in soap (told_of b) a.action (is_some sequence) (written_payload b) (body11_parts b rules) ≡ Some b
body11_back known a sequence body.Empty rules is together =
    let numbered = together.0 in
    rw numbered (empty_back soap a.action (written_payload body.Empty) (bare_action a.action together.1))
body11_back known a sequence (body.Payload p) rules is together =
    payload_back soap a.action sequence p rules.closed.parts rules.scope (other_action a.action together.0) together.1
body11_back known a sequence (body.Lifecycle x) rules is together =
    let numbered = together.0 in
    let action = together.1 in
    rw (numbered, action) (lifecycle_back known soap (written_payload (body.Lifecycle x)) x rules)
body11_back known a sequence (body.Fault f) rules is together =
    let first = soap_first in
    rw (together, first) (ap (λ x. Some (body.Fault x)) (fault11_back known.trees f rules is))

body_by : (action : List ℕ) (e : Envelope) (told : Option Told) (b : Body)
    → sequence_fault_in soap e.header_scope e.headers ≡ Some told
    → body_in soap told action (is_numbered e) (payload_of e) e.body ≡ Some b → body_of soap action e ≡ Some b
unfolding body_of
body_by action e told b at read = rw at read

lacks11 : (a : Addressing) (sequence : Option SeqHeader) (b : Body) (rules : IsBodyWritable soap b)
    (os : List Element) → BelongTogether soap a sequence b rules
    → addressing_in (addressing_blocks soap a ++ os) ≡ Ok a
    → has_block sequence_name (addressing_blocks soap a ++ os) ≡ is_some sequence
    → lacks_id soap (framed_envelope soap (addressing_blocks soap a ++ os) (body11_text b) (body11_parts b rules))
    ≡ false
lacks11 a sequence body.Empty rules os together read numbered =
    lacks_none soap a sequence body.Empty rules os together read numbered
lacks11 a sequence (body.Payload p) rules os together read numbered =
    lacks_none soap a sequence (body.Payload p) rules os together read numbered
lacks11 a sequence (body.Lifecycle x) rules os together read numbered =
    lacks_none soap a sequence (body.Lifecycle x) rules os together read numbered
lacks11 a sequence (body.Fault f) rules os together read numbered =
    let b = body.Fault f in
    let parts = body11_parts b rules in
    with_fault soap (framed_envelope soap (addressing_blocks soap a ++ os) (body11_text b) parts)
    (ap (λ n. is_some (fault_at soap n parts)) (numbered ∙ ap is_some together) ∙ ap is_some (fault11_found f))

-- ---- the message

lowered_read : Known → (m : Message) (keeps : KeepsRules11 m)
    → message_in soap (framed_envelope soap
    (addressing_blocks soap m.addressing ++ others soap (codes "1") m (ahead_trees soap m.body))
    (body11_text m.body) (body11_parts m.body keeps.rules.body)) ≡ Ok m
lowered_read known m keeps =
    let a = m.addressing in
    let bs = addressing_blocks soap a in
    let mark = codes "1" in
    let rules = keeps.rules in
    let parts = body11_parts m.body rules.body in
    let last = ahead_trees soap m.body in
    let may = ahead_last soap m.body in
    let behind = others soap mark m last in
    let e : Envelope = framed_envelope soap (bs ++ behind) (body11_text m.body) parts in
    let own = known.own soap a in
    let read = known.addressing soap a behind rules.addressing (all_foreign soap mark m last may bs own known) in
    let has = is_numbered_back soap mark m last may bs own in
    let lacks : lacks_id soap e ≡ false = lacks11 a m.sequence m.body rules.body behind rules.together read has in
    let told = told_back known.trees e.headers m.body rules.body keeps.body (faults soap mark m bs own) in
    let said : body_in soap (told_of m.body) a.action (is_numbered e) (payload_of e) parts ≡ Some m.body =
    ap (λ n. body_in soap (told_of m.body) a.action n (written_payload m.body) parts) has
    ∙ body11_back known a m.sequence m.body rules.body keeps.body rules.together in
    read_by known soap mark m last may (header_rules soap m rules) e m.body refl lacks
    (no_names e.header_scope e.headers ∙ sym keeps.names) (body_by a.action e (told_of m.body) m.body told said)

-- the text is read as the message
pub lowered_spells : ((m : Message) (rules : KeepsRules soap m)
    → IsEnvelope soap (message11_text m) (framed_envelope soap (map (node_tree soap) (header11_blocks m))
    (body11_text m.body) (body11_parts m.body rules.body))) → Known → (m : Message) → KeepsRules11 m
    → length (message11_text m) ≤ 2097152 → Spells soap (message11_text m) m
lowered_spells text known m keeps fits = record {
  envelope = framed_envelope soap (map (node_tree soap) (header11_blocks m)) (body11_text m.body)
      (body11_parts m.body keeps.rules.body);
  is = text m keeps.rules;
  fits = fits;
  reads = ap (λ (hs : List Element). message_in soap (framed_envelope soap hs (body11_text m.body)
      (body11_parts m.body keeps.rules.body))) (header_is soap (codes "1") m (ahead_of m.body))
      ∙ lowered_read known m keeps;
}
