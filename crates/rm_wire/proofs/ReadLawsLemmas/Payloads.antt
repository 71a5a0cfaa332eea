-- The payload of a message that was read is what stood in the Body of its envelope.
use Rattle.std.proofs.Common.{◌≡◌, ◌≤◌, ℕ, ◌+◌, Bool, true, false, if◌then◌else◌, List, [], ◌∷◌, ◌++◌, Option, Some}
use Rattle.std.proofs.Common.{None, Result, Ok, Err, refl, sym, subst, arith}
use Rattle.std.specs.List.{AllByRecursion}
use Rattle.rm_base.specs.declared.message.Payload.{Payload}
use Rattle.soap_document.specs.Grammar.{max_depth}
use Rattle.soap_document.specs.Profile.Payload.{depth as nested}
use Rattle.soap_document.specs.Profile.Tree.{Element, Parts, none, text, child, children_of, decls_of}
use Rattle.soap_document.specs.declared.profile.name.Expanded.{Expanded}
use Rattle.soap_envelope.specs.Envelope.{Envelope, IsEnvelope, StandsFor}
use Rattle.soap_writer.specs.Stripped.Resolved.{IsResolved}
use Rattle.soap_writer.specs.Values.Children.{has_name}
use Rattle.soap_writer.specs.Values.Outcome.{◌>>=◌, single, optional}
use Rattle.wsa_headers.specs.declared.addressing.Addressing.{Addressing}
use Rattle.rm_message.specs.Elements.Lifecycle.{lifecycle_of}
use Rattle.rm_message.specs.Elements.Headers.{header_of}
use Rattle.rm_message.specs.declared.elements.error.ElementError.{ElementError}
use Rattle.rm_message.specs.declared.elements.error.ElementError.TheVariants as flaws
use Rattle.rm_message.specs.declared.elements.header.Header.{Header}
use Rattle.rm_message.specs.declared.elements.header.Header.TheVariants as heads
use Rattle.rm_message.specs.declared.elements.lifecycle.Lifecycle.{Lifecycle}
use Rattle.rm_message.specs.declared.message.Body.{Body}
use Rattle.rm_message.specs.declared.message.Body.TheVariants as bodies
use Rattle.rm_message.specs.declared.message.Message.{Message}
use Rattle.message_reader.specs.Blocks.{blocks, not_understood}
use Rattle.message_reader.specs.Bodies.{fault_at, element_for, is_bare, is_protocol, lifecycle_from}
use Rattle.message_reader.specs.Bodies.{lifecycle_in, body_for, numbered_body, unnumbered_body, body_in}
use Rattle.message_reader.specs.Faults11.{Told}
use Rattle.message_reader.specs.Headers.{pending_in, sequence_fault_in, sequence_name, told_names}
use Rattle.message_reader.specs.Message.{Wrong, Lists, lists_in, marks_in, body_of, content_in, payload_of}
use Rattle.message_reader.specs.Message.{is_numbered, with_content, with_addressing, unless_unknown}
use Rattle.message_reader.specs.Message.{addressed, message_in}
use Rattle.message_reader.specs.Refusals.{Spells}
use Rattle.rm_wire.specs.ReadLaws.Stands.{Stands}
use Rattle.rm_wire.proofs.ReadLawsLemmas.Envelopes.{Documents, AreParts, parts_are, body_in_force}
use Rattle.rm_wire.proofs.ReadLawsLemmas.Messages.{answer, numbered_answer}

-- ---- the body

-- a payload, if it is one, is this
abbrev IsOwn : Payload → Body → Type 0
IsOwn payload b = (p : Payload) → b ≡ bodies.Payload p → p ≡ payload

lifecycle_own : (payload : Payload) (r : Result (Option Lifecycle) ElementError) (b : Body)
    → lifecycle_from r ≡ Some b → IsOwn payload b
lifecycle_own payload (Ok (Some x)) b e p is = let one : bodies.Lifecycle x ≡ b = cc in cc
lifecycle_own payload (Ok None) b e p is = cc
lifecycle_own payload (Err error) b e p is = cc

named_by : (payload : Payload) (t : Bool) (x : Element) (b : Body)
    → (if t then lifecycle_from (lifecycle_of x) else None) ≡ Some b → IsOwn payload b
named_by payload true x b e p is = lifecycle_own payload (lifecycle_of x) b e p is
named_by payload false x b e p is = cc

named_own : (payload : Payload) (name : Expanded) (o : Option Element) (b : Body)
    → (o >>= λ e. if has_name name e then lifecycle_from (lifecycle_of e) else None) ≡ Some b → IsOwn payload b
named_own payload name None b e p is = cc
named_own payload name (Some x) b e p is = named_by payload (has_name name x) x b e p is

for_own : (payload : Payload) (name : Option Expanded) (bare : Bool) (parts : Parts) (b : Body)
    → body_for name bare payload parts ≡ Some b → IsOwn payload b
unfolding lifecycle_in
for_own payload (Some name) bare parts b e p is = named_own payload name (single (children_of parts)) b e p is
for_own payload None true parts b e p is = cc
for_own payload None false parts b e p is = cc

unnumbered_own : (soap : List ℕ) (told : Option Told) (action : List ℕ) (fault : Option Element) (payload : Payload)
    (parts : Parts) (b : Body) → unnumbered_body soap told action fault payload parts ≡ Some b → IsOwn payload b
unnumbered_own soap told action (Some fault) payload parts b e p is = cc
unnumbered_own soap told action None payload parts b e p is =
    for_own payload (element_for action) (is_bare action) parts b e p is

numbered_own : (protocol : Bool) (payload : Payload) (b : Body) → numbered_body protocol payload ≡ Some b
    → IsOwn payload b
numbered_own true payload b e p is = cc
numbered_own false payload b e p is = cc

body_own : (soap : List ℕ) (told : Option Told) (action : List ℕ) (numbered : Bool) (payload : Payload) (parts : Parts)
    (b : Body) → body_in soap told action numbered payload parts ≡ Some b → IsOwn payload b
body_own soap told action true payload parts b e = numbered_own (is_protocol action) payload b e
body_own soap told action false payload parts b e =
    unnumbered_own soap told action (fault_at soap false parts) payload parts b e

-- ---- the message

module _ (soap : List ℕ) (e : Envelope) where
  told_own : (action : List ℕ) (o : Option (Option Told)) (b : Body)
      → (o >>= λ told. body_in soap told action (is_numbered e) (payload_of e) e.body) ≡ Some b
      → IsOwn (payload_of e) b
  told_own action None b h p is = cc
  told_own action (Some told) b h p is =
      body_own soap told action (is_numbered e) (payload_of e) e.body b h p is

  body_of_own : (action : List ℕ) (b : Body) → body_of soap action e ≡ Some b → IsOwn (payload_of e) b
  unfolding body_of
  body_of_own action b h = told_own action (sequence_fault_in soap e.header_scope e.headers) b h

  -- of a message
  abbrev IsOwnOf : Result Message Wrong → Type 0
  IsOwnOf (Ok m) = IsOwn (payload_of e) m.body
  IsOwnOf (Err wrong) = Unit {0}

  number_own : (a : Addressing) (told : List Expanded) (lists : Lists) (pending : Option Bool)
      (r : Result (Option Header) ElementError) (z : Option Body)
      → ((b : Body) → z ≡ Some b → IsOwn (payload_of e) b) → IsOwnOf (numbered_answer a told lists pending r z)
  number_own a told lists pending (Ok (Some (heads.Sequence s))) None own = tt
  number_own a told lists pending (Ok (Some (heads.Sequence s))) (Some b) own = own b refl
  number_own a told lists pending (Ok (Some (heads.Ack y))) z own = tt
  number_own a told lists pending (Ok (Some (heads.Ask y))) z own = tt
  number_own a told lists pending (Ok (Some (heads.Pending y))) z own = tt
  number_own a told lists pending (Ok None) z own = tt
  number_own a told lists pending (Err flaws.Memory) z own = tt
  number_own a told lists pending (Err (flaws.Malformed name)) z own = tt
  number_own a told lists pending (Err (flaws.Rollover ident)) None own = tt
  number_own a told lists pending (Err (flaws.Rollover ident)) (Some b) own = tt

  answer_own : (a : Addressing) (told : List Expanded) (x : Option Lists) (p : Option (Option Bool))
      (o : Option (Option Element)) (z : Option Body) → ((b : Body) → z ≡ Some b → IsOwn (payload_of e) b)
      → IsOwnOf (answer a told x p o z)
  answer_own a told None p o z own = tt
  answer_own a told (Some l) None o z own = tt
  answer_own a told (Some l) (Some pending) None z own = tt
  answer_own a told (Some l) (Some pending) (Some None) None own = tt
  answer_own a told (Some l) (Some pending) (Some None) (Some b) own = own b refl
  answer_own a told (Some l) (Some pending) (Some (Some x)) z own = number_own a told l pending (header_of x) z own

  content_own : (a : Addressing) → IsOwnOf (with_content a (content_in soap a.action e))
  unfolding content_in marks_in
  content_own a =
      answer_own a (told_names soap e.header_scope e.headers) (lists_in e.headers) (pending_in e.headers)
      (optional (blocks sequence_name e.headers)) (body_of soap a.action e) (body_of_own a.action)

  addressed_own : (r : Result Addressing Wrong) → IsOwnOf (with_addressing soap e r)
  addressed_own (Err wrong) = tt
  addressed_own (Ok a) = content_own a

  unknown_own : (names : List Expanded) → IsOwnOf (unless_unknown soap e names)
  unknown_own [] = addressed_own (addressed soap e)
  unknown_own (name ∷ names) = tt

  message_own : IsOwnOf (message_in soap e)
  message_own = unknown_own (not_understood soap e.headers)

-- ---- what stands there

children_shallow : (parts : Parts) → AllByRecursion (IsResolved 2) (children_of parts) → 2 + nested parts ≤ max_depth
children_shallow none all = omega arith
children_shallow (text bytes parts) all = children_shallow parts all
children_shallow (child e parts) all = omega (arith, all.0.shallow, children_shallow parts all.1)

pub stands : Documents → ((soap bytes : List ℕ) (e : Envelope) (is : IsEnvelope soap bytes e)
    → StandsFor (decls_of is.body ++ is.decls) e) → (soap bytes : List ℕ) (m : Message) (spells : Spells soap bytes m)
    (p : Payload) → m.body ≡ bodies.Payload p → Stands p.bytes p.scope spells.envelope.body
stands documents there soap bytes m spells p is =
    let e = spells.envelope in
    let found = there soap bytes e spells.is in
    let parts : AreParts e = parts_are documents soap bytes e spells.is spells.fits in
    let own : p ≡ payload_of e = subst (IsOwnOf soap e) spells.reads (message_own soap e) p is in
    subst (λ (q : Payload). Stands q.bytes q.scope e.body) (sym own) (record {
      depth = found.depth;
      start = found.start;
      raw = found.parts;
      content = found.content;
      bindings = decls_of spells.is.body ++ spells.is.decls;
      in_force = body_in_force documents soap bytes e spells.is spells.fits;
      scoped = found.scope;
      around = parts.scope;
      resolved = found.resolved;
      shallow = children_shallow e.body parts.body;
    })
