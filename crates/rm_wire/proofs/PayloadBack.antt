-- A payload is read back behind the header blocks of a frame, whatever is bound around it.
use Rattle.std.proofs.Common.{◌≡◌, ◌≢◌, ℕ, false, List, [], ◌++◌, Option, Some, None, Ok, codes, map, refl, ap}
use Rattle.std.proofs.Common.{◌∙◌, is_some}
use Rattle.std.specs.Prelude.{Contains}
use Rattle.rm_base.specs.declared.message.Binding.{Binding}
use Rattle.rm_base.specs.declared.message.Payload.{Payload}
use Rattle.soap_envelope.specs.Soap.{is_soap11}
use Rattle.soap_document.specs.Profile.Tree.{Element, Parts, children_of}
use Rattle.soap_envelope.specs.Envelope.{Envelope}
use Rattle.soap_writer.specs.Frame.{addressing_space}
use Rattle.soap_envelope.specs.Frame.Tagged.{tagged_envelope}
use Rattle.wsa_headers.specs.Addressing.{first_of}
use Rattle.wsa_headers.specs.Writable.{addressing_blocks}
use Rattle.rm_message.specs.declared.elements.header.SeqHeader.{SeqHeader}
use Rattle.rm_message.specs.declared.message.Body.TheVariants as body
use Rattle.rm_message.specs.declared.message.Message.{Message}
use Rattle.message_reader.specs.Bodies.{body_in}
use Rattle.message_reader.specs.Message.{is_numbered, payload_of, message_in, lacks_id}
use Rattle.message_writer.specs.Rules.{HeaderKeepsRules, header_trees, protocol_actions, NoFaultFirst}
use Rattle.message_writer.specs.Text.{not_understood_node}
use Rattle.rm_wire.specs.Payloads.{with_payload}
use Rattle.rm_wire.proofs.Blocks.{others, header_is}
use Rattle.rm_wire.proofs.BodiesBack.{IsOtherAction, other_action, no_fault}
use Rattle.rm_wire.proofs.HeadersBack.{all_foreign, is_numbered_back, told, told_last, names_back}
use Rattle.rm_wire.proofs.Known.{Known}
use Rattle.rm_wire.proofs.Together.{not_create, no_create, body_by, read_by}

payload_any : (soap action : List ℕ) (sequence : Option SeqHeader) (p : Payload) (parts : Parts)
    → IsOtherAction action → (sequence ≡ None → NoFaultFirst soap parts)
    → body_in soap None action (is_some sequence) p parts ≡ Some (body.Payload p)
payload_any soap action (Some x) p parts other first =
    let a = other.no_element in
    let b = other.not_bare in
    rw (a, b) refl
payload_any soap action None p parts other first =
    let a = other.no_element in
    let b = other.not_bare in
    let c = no_fault soap (first_of (children_of parts)) (first refl) in
    rw (c, a, b) refl

behind_blocks : Known → (soap : List ℕ) → is_soap11 soap ≡ false → soap ≢ addressing_space → (m : Message)
    → HeaderKeepsRules m → (Contains protocol_actions m.addressing.action → ⊥)
    → (payload : List ℕ) (parts : Parts) (scope : List Binding) → (m.sequence ≡ None → NoFaultFirst soap parts)
    → message_in soap (tagged_envelope soap
    (addressing_blocks soap m.addressing ++ others soap (codes "true") m (told soap m)) payload parts scope)
    ≡ Ok (with_payload m payload scope)
behind_blocks known soap later other m rules none_of payload parts scope first =
    let a = m.addressing in
    let bs = addressing_blocks soap a in
    let mark = codes "true" in
    let last = told soap m in
    let may = told_last soap m other in
    let behind = others soap mark m last in
    let e : Envelope = tagged_envelope soap (bs ++ behind) payload parts scope in
    let own = known.own soap a in
    let acts = other_action a.action none_of in
    let read = known.addressing soap a behind rules.addressing (all_foreign soap mark m last may bs own known) in
    let lacks : lacks_id soap e ≡ false = not_create soap e a read (no_create a.action acts.no_element) in
    let has = is_numbered_back soap mark m last may bs own in
    let said : body_in soap None a.action (is_numbered e) (payload_of e) parts ≡ Some (body.Payload (payload_of e)) =
    ap (λ n. body_in soap None a.action n (payload_of e) parts) has
    ∙ payload_any soap a.action m.sequence (payload_of e) parts acts first in
    read_by known soap mark m last may rules e (body.Payload (payload_of e)) refl lacks
    (names_back soap mark m bs later other own rules.not_understood)
    (body_by soap a.action e (body.Payload (payload_of e)) later said)

pub payload_read : Known → (soap : List ℕ) → is_soap11 soap ≡ false → soap ≢ addressing_space → (m : Message)
    → HeaderKeepsRules m → (Contains protocol_actions m.addressing.action → ⊥)
    → (payload : List ℕ) (parts : Parts) (scope : List Binding) → (m.sequence ≡ None → NoFaultFirst soap parts)
    → message_in soap (tagged_envelope soap (header_trees soap m) payload parts scope)
    ≡ Ok (with_payload m payload scope)
payload_read known soap later other m rules none_of payload parts scope first =
    ap (λ (hs : List Element). message_in soap (tagged_envelope soap hs payload parts scope))
    (header_is soap (codes "true") m (map not_understood_node m.not_understood))
    ∙ behind_blocks known soap later other m rules none_of payload parts scope first
