-- What is written in a Body is read back, by the action that goes with it.
use Rattle.std.proofs.Common.{◌≡◌, ◌≢◌, ℕ, Bool, true, false, ◌&&◌, List, Option, Some, None, Ok}
use Rattle.std.proofs.Common.{codes, refl, sym, ap, ap₂, subst, is_some, IfSome, arith}
use Rattle.std.specs.Prelude.{Contains}
use Rattle.std.specs.Str.{bytes_eq}
use Prim.Native.Nat.{zero, suc}
use Rattle.rm_base.specs.declared.message.Payload.{Payload}
use Rattle.soap_lex.specs.Facts.{differ, equal, same}
use Rattle.soap_document.specs.Profile.Tree.{Element, Parts, none, child, name_of, children_of}
use Rattle.soap_document.specs.declared.profile.name.Expanded.{Expanded}
use Rattle.soap_envelope.specs.Frame.Framed.{sorted_scope}
use Rattle.soap_envelope.specs.Soap.{is_soap11}
use Rattle.soap_writer.specs.Nodes.Node.{node_tree}
use Rattle.soap_writer.specs.Values.Children.{name_in, has_name}
use Rattle.wsa_headers.specs.Addressing.{first_of}
use Rattle.wsa_headers.specs.declared.addressing.Addressing.{Addressing}
use Rattle.rm_message.specs.Elements.Lifecycle.{lifecycle_of}
use Rattle.rm_message.specs.Elements.Outcome.{rm, mc}
use Rattle.rm_message.specs.Elements.Texts.{lifecycle_node}
use Rattle.rm_message.specs.Elements.Writable.{IsLifecycleWritable}
use Rattle.rm_message.specs.declared.elements.header.SeqHeader.{SeqHeader}
use Rattle.rm_message.specs.declared.elements.lifecycle.Lifecycle.{Lifecycle}
use Rattle.rm_message.specs.declared.elements.lifecycle.Lifecycle.TheVariants as life
use Rattle.rm_message.specs.Actions.{create_sequence, create_sequence_response, close_sequence}
use Rattle.rm_message.specs.Actions.{close_sequence_response, terminate_sequence, terminate_sequence_response}
use Rattle.rm_message.specs.Actions.{ack_requested, sequence_acknowledgement, wsrm_fault, make_connection}
use Rattle.rm_message.specs.declared.message.Body.{Body}
use Rattle.rm_message.specs.declared.message.Body.TheVariants as body
use Rattle.rm_message.specs.declared.message.FaultBody.{FaultBody}
use Rattle.message_reader.specs.Bodies.{if_fault, fault_at, element_for, is_bare, lifecycle_in, body_in}
use Rattle.message_writer.specs.Rules.{IsBodyWritable, body_parts, action_for, bare_actions}
use Rattle.message_writer.specs.Rules.{protocol_actions, BelongTogether}
use Rattle.message_writer.specs.Text.{body_text, fault_node}
use Rattle.rm_wire.proofs.FaultBack.{fault_back}
use Rattle.rm_wire.proofs.Known.{Known}

-- ---- actions

-- the action of a message whose Body says nothing
pub record IsBareAction (action : List ℕ) : Type 0 where
  pub no_element : element_for action ≡ None
  pub bare : is_bare action ≡ true

pub bare_action : (action : List ℕ) → Contains bare_actions action → IsBareAction action
bare_action action (zero, low, is) = subst IsBareAction is (record { no_element = refl; bare = refl })
bare_action action (suc zero, low, is) = subst IsBareAction is (record { no_element = refl; bare = refl })
bare_action action (suc (suc zero), low, is) = subst IsBareAction is (record { no_element = refl; bare = refl })
bare_action action (suc (suc (suc k)), low, is) = absurd (omega arith)

-- an action that is none of the protocol
pub record IsOtherAction (action : List ℕ) : Type 0 where
  pub no_element : element_for action ≡ None
  pub not_bare : is_bare action ≡ false

pub other_action : (action : List ℕ) → (Contains protocol_actions action → ⊥) → IsOtherAction action
other_action action none_of =
    let a = differ action create_sequence (λ e. none_of (0, omega arith, sym e)) in
    let b = differ action create_sequence_response (λ e. none_of (1, omega arith, sym e)) in
    let c = differ action close_sequence (λ e. none_of (2, omega arith, sym e)) in
    let d = differ action close_sequence_response (λ e. none_of (3, omega arith, sym e)) in
    let f = differ action terminate_sequence (λ e. none_of (4, omega arith, sym e)) in
    let g = differ action terminate_sequence_response (λ e. none_of (5, omega arith, sym e)) in
    let h = differ action make_connection (λ e. none_of (6, omega arith, sym e)) in
    let i = differ action sequence_acknowledgement (λ e. none_of (7, omega arith, sym e)) in
    let j = differ action ack_requested (λ e. none_of (8, omega arith, sym e)) in
    let k = differ action wsrm_fault (λ e. none_of (9, omega arith, sym e)) in
    record { no_element = rw (a, b, c, d, f, g, h) refl; not_bare = rw (i, j, k) refl }

-- ---- a payload

names_differ : (s t : Bool) (a b : Expanded) → bytes_eq a.local b.local ≡ s → bytes_eq a.space b.space ≡ t → a ≢ b
    → (s && t) ≡ false
names_differ false t a b e f ne = refl
names_differ true false a b e f ne = refl
names_differ true true a b e f ne =
    absurd (ne (ap₂ (λ (space local : List ℕ). name_in space local) (same a.space b.space f) (same a.local b.local e)))

pub no_fault : (soap : List ℕ) (first : Option Element)
    → IfSome first (λ e. name_of e ≢ name_in soap (codes "Fault")) → if_fault soap first ≡ None
no_fault soap None is = refl
no_fault soap (Some e) is =
    let fails : has_name (name_in soap (codes "Fault")) e ≡ false =
    names_differ _ _ (name_of e) (name_in soap (codes "Fault")) refl refl is in
    rw fails refl

-- the bytes of a body in the bindings of a frame
abbrev pub written_payload : List ℕ → Body → Payload
written_payload soap b = record { bytes = body_text b; scope = sorted_scope soap }

payload_same : (soap : List ℕ) (p : Payload) → p.scope ≡ sorted_scope soap → written_payload soap (body.Payload p) ≡ p
payload_same soap p is = ap (λ scope. record { bytes = p.bytes; scope = scope }) (sym is)

pub payload_back : (soap action : List ℕ) (sequence : Option SeqHeader) (p : Payload) (parts : Parts)
    → p.scope ≡ sorted_scope soap → IsOtherAction action
    → (sequence ≡ None → IfSome (first_of (children_of parts)) (λ e. name_of e ≢ name_in soap (codes "Fault")))
    → body_in soap None action (is_some sequence) (written_payload soap (body.Payload p)) parts ≡ Some (body.Payload p)
payload_back soap action (Some x) p parts scope other first =
    let a = other.no_element in
    let b = other.not_bare in
    rw (a, b) (ap (λ q. Some (body.Payload q)) (payload_same soap p scope))
payload_back soap action None p parts scope other first =
    let a = other.no_element in
    let b = other.not_bare in
    let c = no_fault soap (first_of (children_of parts)) (first refl) in
    rw (c, a, b) (ap (λ q. Some (body.Payload q)) (payload_same soap p scope))

-- ---- a body element

read_by : (name : Expanded) (e : Element) (x : Lifecycle) → has_name name e ≡ true → lifecycle_of e ≡ Ok (Some x)
    → lifecycle_in name (child e none) ≡ Some (body.Lifecycle x)
unfolding lifecycle_in
read_by name e x named read = rw (named, read) refl

-- the tree of one
abbrev tree_of : List ℕ → Lifecycle → Element
tree_of soap x = node_tree soap (lifecycle_node x)

element_back : Known → (soap : List ℕ) (payload : Payload) (name : Expanded) (x : Lifecycle) → IsLifecycleWritable x
    → has_name (name_in soap (codes "Fault")) (tree_of soap x) ≡ false → element_for (action_for x) ≡ Some name
    → has_name name (tree_of soap x) ≡ true
    → body_in soap None (action_for x) false payload (child (tree_of soap x) none) ≡ Some (body.Lifecycle x)
element_back known soap payload name x is other at named =
    rw (other, at) (read_by name (tree_of soap x) x named (known.lifecycle soap x is))

pub lifecycle_back : Known → (soap : List ℕ) (payload : Payload) (x : Lifecycle) → IsLifecycleWritable x
    → body_in soap None (action_for x) false payload (child (tree_of soap x) none) ≡ Some (body.Lifecycle x)
lifecycle_back known soap payload (life.Create x) is =
    element_back known soap payload (rm (codes "CreateSequence")) (life.Create x) is refl refl refl
lifecycle_back known soap payload (life.CreateResponse x) is =
    element_back known soap payload (rm (codes "CreateSequenceResponse")) (life.CreateResponse x) is refl refl refl
lifecycle_back known soap payload (life.Close x) is =
    element_back known soap payload (rm (codes "CloseSequence")) (life.Close x) is refl refl refl
lifecycle_back known soap payload (life.CloseResponse x) is =
    element_back known soap payload (rm (codes "CloseSequenceResponse")) (life.CloseResponse x) is refl refl refl
lifecycle_back known soap payload (life.Terminate x) is =
    element_back known soap payload (rm (codes "TerminateSequence")) (life.Terminate x) is refl refl refl
lifecycle_back known soap payload (life.TerminateResponse x) is =
    element_back known soap payload (rm (codes "TerminateSequenceResponse")) (life.TerminateResponse x) is refl refl
    refl
lifecycle_back known soap payload (life.Make x) is =
    element_back known soap payload (mc (codes "MakeConnection")) (life.Make x) is refl refl refl

-- ---- a body

pub empty_back : (soap action : List ℕ) (payload : Payload) → IsBareAction action
    → body_in soap None action false payload none ≡ Some body.Empty
empty_back soap action payload is =
    let a = is.no_element in
    let b = is.bare in
    rw (a, b) refl

pub fault_found : (soap : List ℕ) (f : FaultBody)
    → fault_at soap false (child (node_tree soap (fault_node f)) none) ≡ Some (node_tree soap (fault_node f))
fault_found soap f = let found = equal soap soap refl in rw found refl

fault_body_back : Known → (soap : List ℕ) → is_soap11 soap ≡ false
    → (action : List ℕ) (f : FaultBody) (rules : IsBodyWritable soap (body.Fault f))
    → body_in soap None action false (written_payload soap (body.Fault f)) (child (node_tree soap (fault_node f)) none)
    ≡ Some (body.Fault f)
fault_body_back known soap later action f rules =
    let found = equal soap soap refl in
    rw (found, later) (ap (λ x. Some (body.Fault x)) (fault_back known.trees soap f rules))

pub body_back : Known → (soap : List ℕ) → is_soap11 soap ≡ false
    → (a : Addressing) (sequence : Option SeqHeader) (b : Body)
    (rules : IsBodyWritable soap b) → BelongTogether soap a sequence b rules
    → body_in soap None a.action (is_some sequence) (written_payload soap b) (body_parts soap b rules) ≡ Some b
body_back known soap later a sequence body.Empty rules together =
    let numbered = together.0 in
    rw numbered (empty_back soap a.action (written_payload soap body.Empty) (bare_action a.action together.1))
body_back known soap later a sequence (body.Payload p) rules together =
    payload_back soap a.action sequence p rules.closed.parts rules.scope (other_action a.action together.0) together.1
body_back known soap later a sequence (body.Lifecycle x) rules together =
    let numbered = together.0 in
    let action = together.1 in
    rw (numbered, action) (lifecycle_back known soap (written_payload soap (body.Lifecycle x)) x rules)
body_back known soap later a sequence (body.Fault f) rules together =
    rw together (fault_body_back known soap later a.action f rules)
