-- Body elements of WS-ReliableMessaging and WS-MakeConnection, as they are read.
use Rattle.std.proofs.Common.{◌≡◌, ◌≤◌, ℕ, suc, Bool, true, false, ◌&&◌, if◌then◌else◌, List, Option, Some}
use Rattle.std.proofs.Common.{None, option_map, Ok, codes, refl, subst, arith, nat_le, nat_eq}
use Rattle.std.specs.Prelude.{IfSome}
use Rattle.std.specs.List.{AllByRecursion}
use Rattle.std.proofs.lemmas.Bool.{and_parts, leb-true}
use Rattle.rm_base.specs.Text.{IsText}
use Rattle.rm_base.specs.declared.message.Behaviour.{Behaviour}
use Rattle.soap_document.specs.Profile.Tree.{Element, Parts, name_of, parts_of, children_of}
use Rattle.soap_writer.specs.Stripped.Resolved.{IsResolved}
use Rattle.soap_writer.specs.Stripped.ResolvedLaws.{children_resolved}
use Rattle.soap_writer.specs.Values.Children.{has_name, children_named}
use Rattle.soap_writer.specs.Values.Outcome.{◌>>=◌, optional, single, if_present}
use Rattle.soap_writer.specs.Values.Values.{trimmed_text}
use Rattle.wsa_headers.specs.Endpoint.{uri_of, epr_of}
use Rattle.wsa_headers.specs.Writable.{IsEprWritable}
use Rattle.wsa_headers.specs.declared.endpoint.Epr.{Epr}
use Rattle.rm_message.specs.Elements.Duration.{at_least_one, lapse_from, span_in, duration_in}
use Rattle.rm_message.specs.Elements.Headers.{identifier, number_of}
use Rattle.rm_message.specs.Elements.Lifecycle.{reference_in, lapse_at, expires_in, behaviour_in, offer_of, offer_in}
use Rattle.rm_message.specs.Elements.Lifecycle.{create_in}
use Rattle.rm_message.specs.Elements.Lifecycle.{accept_of, accept_in, response_in, finish_in, has_other, make_in}
use Rattle.rm_message.specs.Elements.Lifecycle.{body_name}
use Rattle.rm_message.specs.Elements.Lifecycle.{body_as, lifecycle_of}
use Rattle.rm_message.specs.Elements.Outcome.{rm, mc, named}
use Rattle.rm_message.specs.Elements.Writable.{IsNumber, IsLapseWritable, IsOfferWritable, IsCreateWritable}
use Rattle.rm_message.specs.Elements.Writable.{IsResponseWritable}
use Rattle.rm_message.specs.Elements.Writable.{IsFinishWritable, IsLifecycleWritable}
use Rattle.rm_message.specs.declared.elements.duration.Span.{Span}
use Rattle.rm_base.specs.declared.lapse.Lapse.{Lapse}
use Rattle.rm_message.specs.declared.elements.lifecycle.CreateResponse.{CreateResponse}
use Rattle.rm_message.specs.declared.elements.lifecycle.CreateSequence.{CreateSequence}
use Rattle.rm_message.specs.declared.elements.lifecycle.Finish.{Finish}
use Rattle.rm_message.specs.declared.elements.lifecycle.Lifecycle.{Lifecycle}
use Rattle.rm_message.specs.declared.elements.lifecycle.Lifecycle.TheVariants as bodies
use Rattle.rm_message.specs.declared.elements.lifecycle.MakeConnection.{MakeConnection}
use Rattle.rm_message.specs.declared.elements.lifecycle.Offer.{Offer}
use Rattle.rm_message.specs.declared.elements.read.BodyName.{BodyName}
use Rattle.rm_message.specs.declared.elements.read.BodyName.TheVariants as names
use Rattle.rm_wire.proofs.ReadLawsLemmas.Headers.{identifier_is, number_is, IsAny}
use Rattle.rm_wire.proofs.ReadLawsLemmas.Lists.{all_filter, single_is, present_is, found_is}
use Rattle.rm_wire.proofs.ReadLawsLemmas.Params.{epr_is}
use Rattle.rm_wire.proofs.ReadLawsLemmas.Texts.{uri_is}

-- ---- durations

ms_within : (s : Span) (t : Bool) → s.ms ≤ 1000000000000000 → (if t then 1 else s.ms) ≤ 1000000000000000
ms_within s true h = omega arith
ms_within s false h = h

lapse_kept : (s : Span) (x : Lapse) (t : Bool)
    → (nat_le s.months 100000 && nat_le s.ms 1000000000000000) ≡ t
    → (if t then Some (record { months = s.months; ms = at_least_one s }) else None) ≡ Some x → IsLapseWritable x
lapse_kept s x false d e = cc
lapse_kept s x true d e =
    let is : record { months = s.months; ms = at_least_one s } ≡ x = cc in
    let each = and_parts (nat_le s.months 100000) (nat_le s.ms 1000000000000000) d in
    subst IsLapseWritable is (record {
      months = leb-true s.months 100000 each.0;
      ms = ms_within s ((nat_eq s.months 0 && nat_eq s.ms 0) && s.is_part)
          (leb-true s.ms 1000000000000000 each.1);
    })

lapse_found : (o : Option Span) (x : Lapse) → lapse_from o ≡ Some x → IsLapseWritable x
lapse_found None x e = cc
lapse_found (Some s) x e =
    lapse_kept s x (nat_le s.months 100000 && nat_le s.ms 1000000000000000) refl e

duration_is : (bytes : List ℕ) (x : Lapse) → duration_in bytes ≡ Some x → IsLapseWritable x
unfolding duration_in
duration_is bytes x e = lapse_found (span_in bytes) x e

text_at : (o : Option (List ℕ)) (x : Lapse) → (o >>= λ bytes. duration_in bytes) ≡ Some x → IsLapseWritable x
text_at None x e = cc
text_at (Some bytes) x e = duration_is bytes x e

lapse_is : (o : Option Element) (x : Lapse) → lapse_at o ≡ Some x → IsLapseWritable x
lapse_is None x e =
    let is : record { months = 0; ms = 0 } ≡ x = cc in
    subst IsLapseWritable is (record { months = omega arith; ms = omega arith })
lapse_is (Some e) x d = text_at (trimmed_text e) x d

found_at : (o : Option (Option Element)) (x : Lapse) → (o >>= λ found. lapse_at found) ≡ Some x → IsLapseWritable x
found_at None x e = cc
found_at (Some found) x e = lapse_is found x e

expires_is : (parts : Parts) (x : Lapse) → expires_in parts ≡ Some x → IsLapseWritable x
unfolding expires_in
expires_is parts x e = found_at (optional (children_named (rm (codes "Expires")) parts)) x e

-- ---- what stands in body elements

-- each child stands in so many elements
abbrev pub AreWithin : ℕ → Parts → Type 0
AreWithin depth parts = AllByRecursion (IsResolved depth) (children_of parts)

reference_at : (depth : ℕ) (xs : List Element) → AllByRecursion (IsResolved depth) xs → (o : Option Element)
    → single xs ≡ o → (x : Epr) → (o >>= λ e. epr_of e) ≡ Some x → IsEprWritable x
reference_at depth xs all None s x h = cc
reference_at depth xs all (Some e) s x h = epr_is depth e (single_is (IsResolved depth) xs e s all) x h

reference_is : (depth : ℕ) (local : List ℕ) (parts : Parts) → AreWithin depth parts → (x : Epr)
    → reference_in local parts ≡ Some x → IsEprWritable x
reference_is depth local parts all x h =
    reference_at depth (children_named (rm local) parts)
    (all_filter (IsResolved depth) (has_name (rm local)) (children_of parts) all)
    (single (children_named (rm local) parts)) refl x h

offer_at : (a : Option (List ℕ)) (b : Option Epr) (c : Option Lapse) (d : Option Behaviour) (x : Offer)
    → (a >>= λ ident. (b >>= λ endpoint. (c >>= λ expires. (d >>= λ behaviour. Some (record {
      ident = ident;
      endpoint = endpoint;
      expires = expires;
      behaviour = behaviour;
    }))))) ≡ Some x → ((y : List ℕ) → a ≡ Some y → IsText 512 y) → ((y : Epr) → b ≡ Some y → IsEprWritable y)
    → ((y : Lapse) → c ≡ Some y → IsLapseWritable y) → IsOfferWritable x
offer_at None b c d x e f g h = cc
offer_at (Some ident) None c d x e f g h = cc
offer_at (Some ident) (Some endpoint) None d x e f g h = cc
offer_at (Some ident) (Some endpoint) (Some expires) None x e f g h = cc
offer_at (Some ident) (Some endpoint) (Some expires) (Some behaviour) x e f g h =
    let is : record { ident = ident; endpoint = endpoint; expires = expires; behaviour = behaviour } ≡ x = cc in
    subst IsOfferWritable is
    (record { ident = f ident refl; endpoint = g endpoint refl; expires = h expires refl })

offer_is : (depth : ℕ) (e : Element) → IsResolved depth e → (x : Offer) → offer_of e ≡ Some x → IsOfferWritable x
unfolding offer_of
offer_is depth e is x h =
    offer_at (identifier (parts_of e)) (reference_in (codes "Endpoint") (parts_of e)) (expires_in (parts_of e))
    (behaviour_in (parts_of e)) x h (identifier_is (parts_of e))
    (reference_is (suc depth) (codes "Endpoint") (parts_of e) (children_resolved depth e is)) (expires_is (parts_of e))

offered_is : (depth : ℕ) (parts : Parts) → AreWithin depth parts → (x : Option Offer) → offer_in parts ≡ Some x
    → IfSome x IsOfferWritable
unfolding offer_in
offered_is depth parts all x e =
    let offers = children_named (rm (codes "Offer")) parts in
    found_is (IsResolved depth) IsOfferWritable offer_of (offer_is depth) offers
    (all_filter (IsResolved depth) (has_name (rm (codes "Offer"))) (children_of parts) all) (optional offers) refl x e

create_at : (a : Option Epr) (b : Option Lapse) (c : Option (Option Offer)) (x : CreateSequence)
    → (a >>= λ acks_to. (b >>= λ expires. (c >>= λ offer. Some (record {
      acks_to = acks_to;
      expires = expires;
      offer = offer;
    })))) ≡ Some x → ((y : Epr) → a ≡ Some y → IsEprWritable y) → ((y : Lapse) → b ≡ Some y → IsLapseWritable y)
    → ((y : Option Offer) → c ≡ Some y → IfSome y IsOfferWritable) → IsCreateWritable x
create_at None b c x e f g h = cc
create_at (Some acks_to) None c x e f g h = cc
create_at (Some acks_to) (Some expires) None x e f g h = cc
create_at (Some acks_to) (Some expires) (Some offer) x e f g h =
    let is : record { acks_to = acks_to; expires = expires; offer = offer } ≡ x = cc in
    subst IsCreateWritable is
    (record { acks_to = f acks_to refl; expires = g expires refl; offer = h offer refl })

create_is : (depth : ℕ) (parts : Parts) → AreWithin depth parts → (x : CreateSequence) → create_in parts ≡ Some x
    → IsCreateWritable x
unfolding create_in
create_is depth parts all x e =
    create_at (reference_in (codes "AcksTo") parts) (expires_in parts) (offer_in parts) x e
    (reference_is depth (codes "AcksTo") parts all) (expires_is parts) (offered_is depth parts all)

accept_is : (depth : ℕ) (e : Element) → IsResolved depth e → (x : Epr) → accept_of e ≡ Some x → IsEprWritable x
accept_is depth e is x h =
    reference_is (suc depth) (codes "AcksTo") (parts_of e) (children_resolved depth e is) x h

accepted_is : (depth : ℕ) (parts : Parts) → AreWithin depth parts → (x : Option Epr) → accept_in parts ≡ Some x
    → IfSome x IsEprWritable
unfolding accept_in
accepted_is depth parts all x e =
    let accepts = children_named (rm (codes "Accept")) parts in
    found_is (IsResolved depth) IsEprWritable accept_of (accept_is depth) accepts
    (all_filter (IsResolved depth) (has_name (rm (codes "Accept"))) (children_of parts) all) (optional accepts) refl x e

response_at : (a : Option (List ℕ)) (b : Option Lapse) (c : Option Behaviour) (d : Option (Option Epr))
    (x : CreateResponse) → (a >>= λ ident. (b >>= λ expires. (c >>= λ behaviour. (d >>= λ accept. Some (record {
      ident = ident;
      expires = expires;
      behaviour = behaviour;
      accept = accept;
    }))))) ≡ Some x → ((y : List ℕ) → a ≡ Some y → IsText 512 y) → ((y : Lapse) → b ≡ Some y → IsLapseWritable y)
    → ((y : Option Epr) → d ≡ Some y → IfSome y IsEprWritable) → IsResponseWritable x
response_at None b c d x e f g h = cc
response_at (Some ident) None c d x e f g h = cc
response_at (Some ident) (Some expires) None d x e f g h = cc
response_at (Some ident) (Some expires) (Some behaviour) None x e f g h = cc
response_at (Some ident) (Some expires) (Some behaviour) (Some accept) x e f g h =
    let is : record { ident = ident; expires = expires; behaviour = behaviour; accept = accept } ≡ x = cc in
    subst IsResponseWritable is
    (record { ident = f ident refl; expires = g expires refl; accept = h accept refl })

response_is : (depth : ℕ) (parts : Parts) → AreWithin depth parts → (x : CreateResponse) → response_in parts ≡ Some x
    → IsResponseWritable x
unfolding response_in
response_is depth parts all x e =
    response_at (identifier parts) (expires_in parts) (behaviour_in parts) (accept_in parts) x e (identifier_is parts)
    (expires_is parts) (accepted_is depth parts all)

any_found : (o : Option Element) → IfSome o IsAny
any_found None = tt
any_found (Some e) = tt

finish_at : (a : Option (List ℕ)) (b : Option (Option Element)) (x : Finish)
    → (a >>= λ ident. (b >>= λ found. (if_present number_of found >>= λ last. Some (record {
      ident = ident;
      last_number = last;
    })))) ≡ Some x → ((y : List ℕ) → a ≡ Some y → IsText 512 y) → IsFinishWritable x
finish_at None b x e f = cc
finish_at (Some ident) None x e f = cc
finish_at (Some ident) (Some found) x e f = numbered (if_present number_of found) refl e
  where
    numbered : (o : Option (Option ℕ)) → if_present number_of found ≡ o
        → (o >>= λ last. Some (record { ident = ident; last_number = last })) ≡ Some x → IsFinishWritable x
    numbered None d h = cc
    numbered (Some last) d h =
        let is : record { ident = ident; last_number = last } ≡ x = cc in
        subst IsFinishWritable is (record {
          ident = f ident refl;
          last_number = present_is IsAny IsNumber number_of (λ r k y g. number_is r y g) found (any_found found) last d;
        })

finish_is : (parts : Parts) (x : Finish) → finish_in parts ≡ Some x → IsFinishWritable x
unfolding finish_in
finish_is parts x e =
    finish_at (identifier parts) (optional (children_named (rm (codes "LastMsgNumber")) parts)) x e
    (identifier_is parts)

make_at : (parts : Parts) (a : Option (Option Element)) (x : MakeConnection)
    → (a >>= λ found. (if_present uri_of found >>= λ address. Some (record {
      address = address;
      other = has_other parts;
    }))) ≡ Some x → IfSome x.address (IsText 2048)
make_at parts None x e = cc
make_at parts (Some found) x e = addressed (if_present uri_of found) refl e
  where
    addressed : (o : Option (Option (List ℕ))) → if_present uri_of found ≡ o
        → (o >>= λ address. Some (record { address = address; other = has_other parts })) ≡ Some x
        → IfSome x.address (IsText 2048)
    addressed None d h = cc
    addressed (Some address) d h =
        let is : record { address = address; other = has_other parts } ≡ x = cc in
        subst (λ (m : MakeConnection). IfSome m.address (IsText 2048)) is
        (present_is IsAny (IsText 2048) uri_of (λ r k y g. uri_is r y g) found (any_found found) address d)

make_is : (parts : Parts) (x : MakeConnection) → make_in parts ≡ Some x → IfSome x.address (IsText 2048)
unfolding make_in
make_is parts x e = make_at parts (optional (children_named (mc (codes "Address")) parts)) x e

-- ---- all of them

named_is : {A : Type 0} (local : List ℕ) (f : A → Lifecycle) (o : Option A) (x : Lifecycle)
    → named local (option_map f o) ≡ Ok (Some x) → ((y : A) → o ≡ Some y → IsLifecycleWritable (f y))
    → IsLifecycleWritable x
named_is local f None x e step = cc
named_is local f (Some y) x e step = let is : f y ≡ x = cc in subst IsLifecycleWritable is (step y refl)

body_at : (depth : ℕ) (name : Option BodyName) (parts : Parts) → AreWithin depth parts → (x : Lifecycle)
    → body_as name parts ≡ Ok (Some x) → IsLifecycleWritable x
body_at depth None parts all x e = cc
body_at depth (Some names.CreateName) parts all x e =
    named_is (codes "CreateSequence") bodies.Create (create_in parts) x e (create_is depth parts all)
body_at depth (Some names.CreateResponseName) parts all x e =
    named_is (codes "CreateSequenceResponse") bodies.CreateResponse (response_in parts) x e
    (response_is depth parts all)
body_at depth (Some names.CloseName) parts all x e =
    named_is (codes "CloseSequence") bodies.Close (finish_in parts) x e (finish_is parts)
body_at depth (Some names.CloseResponseName) parts all x e =
    named_is (codes "CloseSequenceResponse") bodies.CloseResponse (identifier parts) x e (identifier_is parts)
body_at depth (Some names.TerminateName) parts all x e =
    named_is (codes "TerminateSequence") bodies.Terminate (finish_in parts) x e (finish_is parts)
body_at depth (Some names.TerminateResponseName) parts all x e =
    named_is (codes "TerminateSequenceResponse") bodies.TerminateResponse (identifier parts) x e (identifier_is parts)
body_at depth (Some names.MakeName) parts all x e =
    named_is (codes "MakeConnection") bodies.Make (make_in parts) x e (make_is parts)

-- a body element that was read, in so many elements
pub lifecycle_is : (depth : ℕ) (e : Element) → IsResolved depth e → (x : Lifecycle) → lifecycle_of e ≡ Ok (Some x)
    → IsLifecycleWritable x
lifecycle_is depth e is x h =
    body_at (suc depth) (body_name (name_of e)) (parts_of e) (children_resolved depth e is) x h
