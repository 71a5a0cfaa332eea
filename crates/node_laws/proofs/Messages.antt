-- The messages that a node says of its records keep the rules of what is written.
use Rattle.std.proofs.Common.{◌≡◌, ℕ, suc, ◌+◌, ◌-◌, ◌<◌, ◌≤◌, ◌==◌, true, false, cond, List, [], ◌∷◌}
use Rattle.std.proofs.Common.{length, refl, sym, ◌∙◌, arith, Option, Some, None}
use Prim.Native.Nat.{zero}
use Rattle.std.specs.Prelude.{codes, Contains, IfSome, slice_get}
use Rattle.std.specs.List.{AllByRecursion}
use Rattle.std.specs.Str.{bytes_eq}
use Rattle.std.proofs.lemmas.Bool.{false≢true}
use Rattle.std.proofs.lemmas.Bool.Decides.{nat_tests}
use Rattle.std.proofs.lemmas.Option.{slice_get_within}
use Rattle.rm_base.specs.Message.{max_number}
use Rattle.rm_base.specs.Numbered.{numbered}
use Rattle.rm_base.specs.Text.{IsText}
use Rattle.rm_message.specs.Elements.Writable.{IsNumber, IsAckWritable, IsLifecycleWritable, IsFinishWritable}
use Rattle.rm_message.specs.Elements.Writable.{IsOfferWritable}
use Rattle.rm_message.specs.declared.elements.header.AckBlock.{AckBlock}
use Rattle.rm_message.specs.declared.elements.lifecycle.Finish.{Finish}
use Rattle.rm_message.specs.declared.elements.lifecycle.Lifecycle.{Lifecycle}
use Rattle.rm_message.specs.declared.elements.lifecycle.Lifecycle.TheVariants as life
use Rattle.rm_message.specs.Actions.{create_sequence, create_sequence_response, close_sequence}
use Rattle.rm_message.specs.Actions.{close_sequence_response, terminate_sequence, terminate_sequence_response}
use Rattle.rm_message.specs.Actions.{ack_requested, make_connection, sequence_acknowledgement}
use Rattle.rm_message.specs.declared.message.Message.{Message}
use Rattle.rm_sides.specs.declared.source.phase.OutPhase.{OutPhase}
use Rattle.rm_sides.specs.declared.source.phase.OutPhase.TheVariants as out
use Rattle.soap_lex.specs.Facts.{equal}
use Rattle.soap_envelope.specs.Frame.Framed.{sorted_scope}
use Rattle.soap_document.specs.Profile.Payload.{IsClosedContent}
use Rattle.soap_envelope.specs.Soap.{soap_space}
use Rattle.soap_document.specs.Profile.Tree.{Element}
use Rattle.soap_writer.specs.Values.TextLaws.{literal_is_text}
use Rattle.wsa_headers.specs.Writable.{IsEprWritable, IsAddressingWritable, IsParamWritable}
use Rattle.wsa_headers.specs.declared.addressing.Addressing.{Addressing}
use Rattle.wsa_headers.specs.declared.endpoint.Epr.{Epr}
use Rattle.message_writer.specs.Rules.{KeepsRules, action_for, protocol_actions, HasItsId}
use Rattle.record_batch.specs.declared.record.Via.{Via}
use Rattle.record_batch.specs.declared.record.Via.TheVariants.{Direct, Polled, Back}
use Rattle.record_batch.specs.Fact.{Fact}
use Rattle.record_batch.specs.Sequences.Words.{Text, last_or}
use Rattle.record_batch.specs.Sequences.IdentTexts.{issue-text, polled-text}
use Rattle.record_batch.specs.Sequences.Idents.{issue}
use Rattle.record_batch.specs.Sequences.Makers.{Maker, Outgoing, Offered, maker, number}
use Rattle.record_batch.specs.Sequences.Sources.{accepted, accepted_count, dropped, out_ident, payload_at, phase}
use Rattle.record_batch.specs.Sequences.Sources.{tickets}
use Rattle.record_batch.specs.Sequences.Find.{peer, plain_endpoint}
use Rattle.rm_protocol.specs.Addresses.{rm_action, payload_action, anonymous, own_address, reply_to}
use Rattle.rm_protocol.specs.FitInduction.{few-accepted}
use Rattle.rm_protocol.specs.Messages.{written_scope, data_of, data_by, data_at, request_of, never, offer_by}
use Rattle.rm_protocol.specs.Messages.{create_request, via_of, last_number, finish_of, finish_request, request_by}
use Rattle.rm_protocol.specs.Messages.{request_at, ack_message, ask_message, response_of}
use Rattle.rm_protocol.specs.Polls.{make_message}
use Rattle.node_laws.specs.Records.{IsKept}
use Rattle.node_laws.proofs.Values.{IsMakerKept, maker-kept, ident-kept, address-kept, payload-kept}
use Rattle.node_laws.proofs.Values.{plain-kept, peer-kept}

-- a message that keeps the rules in an envelope of SOAP 1.2
abbrev pub IsByTheRules : Message → Type 0
IsByTheRules m = KeepsRules soap_space m

-- ---- addresses and actions

pub anonymous-text : IsText 2048 anonymous
unfolding anonymous
anonymous-text = literal_is_text 2048 anonymous refl refl refl refl refl refl

payload-text : IsText 2048 payload_action
unfolding payload_action
payload-text = literal_is_text 2048 (codes "urn:wsrm:payload") refl refl refl refl refl refl

-- the action of a message of the protocol
pub record IsAction (name : Text) (action : List ℕ) : Type 0 where
  pub same : rm_action name ≡ action
  pub text : IsText 2048 (rm_action name)

pub create-action : IsAction (codes "CreateSequence") create_sequence
unfolding rm_action
create-action = record { same = refl; text = literal_is_text 2048 _ refl refl refl refl refl refl }

pub created-action : IsAction (codes "CreateSequenceResponse") create_sequence_response
unfolding rm_action
created-action = record { same = refl; text = literal_is_text 2048 _ refl refl refl refl refl refl }

pub close-action : IsAction (codes "CloseSequence") close_sequence
unfolding rm_action
close-action = record { same = refl; text = literal_is_text 2048 _ refl refl refl refl refl refl }

pub closed-action : IsAction (codes "CloseSequenceResponse") close_sequence_response
unfolding rm_action
closed-action = record { same = refl; text = literal_is_text 2048 _ refl refl refl refl refl refl }

pub terminate-action : IsAction (codes "TerminateSequence") terminate_sequence
unfolding rm_action
terminate-action = record { same = refl; text = literal_is_text 2048 _ refl refl refl refl refl refl }

pub terminated-action : IsAction (codes "TerminateSequenceResponse") terminate_sequence_response
unfolding rm_action
terminated-action = record { same = refl; text = literal_is_text 2048 _ refl refl refl refl refl refl }

ack-action : IsAction (codes "SequenceAcknowledgement") sequence_acknowledgement
unfolding rm_action
ack-action = record { same = refl; text = literal_is_text 2048 _ refl refl refl refl refl refl }

ask-action : IsAction (codes "AckRequested") ack_requested
unfolding rm_action
ask-action = record { same = refl; text = literal_is_text 2048 _ refl refl refl refl refl refl }

own-text : (r : List Fact) (via : Via) → IsKept r → IsText 2048 (own_address r via)
own-text r Direct h = address-kept r h
own-text r Polled h = polled-text (number r)
own-text r Back h = anonymous-text

own-kept : (r : List Fact) (via : Via) → IsKept r → IsEprWritable (plain_endpoint (own_address r via))
own-kept r via h = plain-kept (own_address r via) (own-text r via h)

reply-kept : (r : List Fact) (via : Via) → IsKept r → IfSome (reply_to r via) IsEprWritable
reply-kept r Back h = tt
reply-kept r Direct h = own-kept r Direct h
reply-kept r Polled h = own-kept r Polled h

-- parameters of an endpoint stand deep enough in a header too
params-higher : (es : List Element) → AllByRecursion (IsParamWritable 90) es → AllByRecursion (IsParamWritable 98) es
params-higher [] h = tt
params-higher (e ∷ es) h = (
  record { writable = h.0.writable; unmarked = h.0.unmarked; shallow = omega (arith, h.0.shallow) },
  params-higher es h.1,
)

-- headers to an endpoint
abbrev headers : Epr → Text → Option Text → Option Text → Option Epr → Addressing
headers to action id relates reply = record {
  to = to.address;
  action = action;
  message_id = id;
  relates = relates;
  reply_to = reply;
  fault_to = None;
  params = to.params;
}

headers-kept : (to : Epr) (action : Text) (id relates : Option Text) (reply : Option Epr) → IsEprWritable to
    → IsText 2048 action → IfSome id (IsText 2048) → IfSome relates (IsText 2048) → IfSome reply IsEprWritable
    → IsAddressingWritable (headers to action id relates reply)
headers-kept to action id relates reply h a i k s = record {
  to = h.address;
  action = a;
  message_id = i;
  relates = k;
  reply_to = s;
  fault_to = tt;
  each = params-higher to.params h.each;
}

-- ---- data

pub scope-is : written_scope ≡ sorted_scope soap_space
unfolding written_scope
scope-is = refl

-- a text that a test finds different from each of some
no-such : (xs : List Text) (x : Text) → AllByRecursion (λ y. bytes_eq y x ≡ false) xs → Contains xs x → ⊥
no-such [] x h c = absurd (omega (arith, c.1))
no-such (y ∷ ys) x h (zero, lt, e) = false≢true (sym h.0 ∙ equal y x e)
no-such (y ∷ ys) x h (suc k, lt, e) = no-such ys x h.1 (k, omega (arith, lt), e)

no-protocol : Contains protocol_actions payload_action → ⊥
unfolding payload_action
no-protocol c =
    no-such protocol_actions (codes "urn:wsrm:payload")
    (refl, (refl, (refl, (refl, (refl, (refl, (refl, (refl, (refl, (refl, tt)))))))))) c

data-kept : (to : Epr) (q : Text) (i : ℕ) (p : Text) → IsEprWritable to → IsText 512 q → IsNumber i
    → IsClosedContent p → IsByTheRules (data_of to q i p)
data-kept to q i p h is n c = record {
  addressing = headers-kept to payload_action None None None h payload-text tt tt tt;
  sequence = record { ident = is; number = n };
  acks = tt;
  asks = tt;
  not_understood = tt;
  body = record { closed = c; scope = scope-is };
  together = (no-protocol, λ e. absurd (cc));
}

numbered-is : {A : Type 0} (xs : List A) (n : ℕ) (x : A) → numbered xs n ≡ Some x → (0 < n) × (n ≤ length xs)
numbered-is xs n x e = elim (n == 0) as (λ b. (n == 0) ≡ b → cond b None (slice_get xs (n - 1)) ≡ Some x
    → (0 < n) × (n ≤ length xs)) [
      | true ↦ λ k f. absurd (cc)
      | false ↦ λ k f.
          let within : n - 1 < length xs = slice_get_within xs (n - 1) x f in
          (grind (arith, nat_tests), grind (arith, nat_tests, within))
    ] refl e

-- a message that was accepted is said by the rules
pub data_at-kept : (r : List Fact) (s i : ℕ) → IsKept r → IfSome (data_at r s i) IsByTheRules
data_at-kept r s i h =
    by_parts (peer r s) (out_ident r s) (payload_at r s i) refl (peer-kept r s h) (ident-kept r s h)
    (payload-kept r s i h)
  where
    by_parts : (to : Option Epr) (q p : Option Text) → payload_at r s i ≡ p → IfSome to IsEprWritable
        → IfSome q (IsText 512) → IfSome p IsClosedContent → IfSome (data_by to q i p) IsByTheRules
    by_parts (Some to) (Some q) (Some p) e a b c =
        let place = numbered-is (accepted r s) (i - dropped r s) p e in
        let few = few-accepted r s h.node.fit in
        data-kept to q i p a b (record { low = omega (arith, place.0); high = omega (arith, place.1, few) }) c
    by_parts None q p e a b c = tt
    by_parts (Some to) None p e a b c = tt
    by_parts (Some to) (Some q) None e a b c = tt

-- ---- requests

has-id : (content : Lifecycle) (id : Text) → HasItsId content (Some id)
has-id (life.Create x) id = refl
has-id (life.CreateResponse x) id = tt
has-id (life.Close x) id = tt
has-id (life.CloseResponse q) id = tt
has-id (life.Terminate x) id = tt
has-id (life.TerminateResponse q) id = tt
has-id (life.Make x) id = tt

request-kept : (r : List Fact) (to : Epr) (via : Via) (ticket : ℕ) (name : Text) (content : Lifecycle) → IsKept r
    → IsEprWritable to → IsAction name (action_for content) → IsLifecycleWritable content
    → IsByTheRules (request_of r to via ticket name content)
request-kept r to via ticket name content h k a c = record {
  addressing = headers-kept to (rm_action name) (Some (issue (number r) ticket)) None (reply_to r via) k a.text
      (issue-text 2048 (number r) ticket (omega arith)) tt (reply-kept r via h);
  sequence = tt;
  acks = tt;
  asks = tt;
  not_understood = tt;
  body = c;
  together = (refl, a.same, has-id content (issue (number r) ticket));
}

offer-kept : (r : List Fact) (via : Via) (ticket : ℕ) (m : Option Maker) → IsKept r
    → IfSome (offer_by r via ticket m) IsOfferWritable
offer-kept r via ticket (Some (Offered own counter to behaviour)) h =
    elim (own == ticket) as (λ b. IfSome (cond b (Some (record {
      ident = issue (number r) counter;
      endpoint = plain_endpoint (own_address r via);
      expires = never;
      behaviour = behaviour;
    })) None) IsOfferWritable) [
      | true ↦ record {
        ident = issue-text 512 (number r) counter (omega arith);
        endpoint = own-kept r via h;
        expires = record { months = omega arith; ms = omega arith };
      }
      | false ↦ tt
    ]
offer-kept r via ticket _ h = tt

create_request-kept : (r : List Fact) (s : ℕ) (m : Option Maker) → IsKept r → IfSome m IsMakerKept
    → IfSome (create_request r s m) IsByTheRules
create_request-kept r s (Some (Outgoing ticket to via lapse)) h k =
    request-kept r (plain_endpoint to) via ticket (codes "CreateSequence") (life.Create (record {
      acks_to = plain_endpoint (own_address r via);
      expires = lapse;
      offer = offer_by r via ticket (maker r (s + 1));
    })) h (plain-kept to k.0) create-action (record {
      acks_to = own-kept r via h;
      expires = k.1;
      offer = offer-kept r via ticket (maker r (s + 1)) h;
    })
create_request-kept r s _ h k = tt

finish-kept : (r : List Fact) (s : ℕ) (q : Text) → IsKept r → IsText 512 q → IsFinishWritable (finish_of r s q)
finish-kept r s q h is = record { ident = is; last_number = last (accepted_count r s) (few-accepted r s h.node.fit) }
  where
    last : (n : ℕ) → n ≤ max_number → IfSome (last_number n) IsNumber
    last n few = elim (n == 0) as (λ b. (n == 0) ≡ b → IfSome (cond b None (Some n)) IsNumber) [
      | true ↦ λ e. tt
      | false ↦ λ e. record { low = grind (arith, nat_tests); high = few }
    ] refl

-- what is asked of a peer to close or end a sequence
finish_request-kept : (r : List Fact) (s : ℕ) (to : Option Epr) (q : Option Text) (name : Text)
    (content : Finish → Lifecycle) → IsKept r → IfSome to IsEprWritable → IfSome q (IsText 512)
    → ((x : Finish) → IsAction name (action_for (content x)))
    → ((x : Finish) → IsFinishWritable x → IsLifecycleWritable (content x))
    → IfSome (finish_request r s to q name content) IsByTheRules
finish_request-kept r s (Some to) (Some q) name content h k is a w =
    request-kept r to (via_of (maker r s)) (last_or 0 (tickets r s)) name (content (finish_of r s q)) h k
    (a (finish_of r s q)) (w (finish_of r s q) (finish-kept r s q h is))
finish_request-kept r s None q name content h k is a w = tt
finish_request-kept r s (Some to) None name content h k is a w = tt

-- the request that a sequence waits with is said by the rules
pub request_at-kept : (r : List Fact) (s : ℕ) → IsKept r → IfSome (request_at r s) IsByTheRules
request_at-kept r s h = by_phase (phase r s)
  where
    by_phase : (p : OutPhase) → IfSome (request_by r s p) IsByTheRules
    by_phase out.Creating = create_request-kept r s (maker r s) h (maker-kept r s h)
    by_phase out.Closing =
        finish_request-kept r s (peer r s) (out_ident r s) (codes "CloseSequence") life.Close h (peer-kept r s h)
        (ident-kept r s h) (λ x. close-action) (λ x is. is)
    by_phase out.Ending =
        finish_request-kept r s (peer r s) (out_ident r s) (codes "TerminateSequence") life.Terminate h
        (peer-kept r s h) (ident-kept r s h) (λ x. terminate-action) (λ x is. is)
    by_phase _ = tt

-- ---- acknowledgements and responses

pub ack-kept : (to : Epr) (blocks : List AckBlock) → IsEprWritable to → AllByRecursion IsAckWritable blocks
    → IsByTheRules (ack_message to blocks)
ack-kept to blocks h k = record {
  addressing = headers-kept to (rm_action (codes "SequenceAcknowledgement")) None None None h ack-action.text tt tt tt;
  sequence = tt;
  acks = k;
  asks = tt;
  not_understood = tt;
  body = tt;
  together = (refl, (0, omega arith, sym ack-action.same));
}

pub ask-kept : (to : Epr) (q : Text) → IsEprWritable to → IsText 512 q → IsByTheRules (ask_message to q)
ask-kept to q h is = record {
  addressing = headers-kept to (rm_action (codes "AckRequested")) None None None h ask-action.text tt tt tt;
  sequence = tt;
  acks = tt;
  asks = (is, tt);
  not_understood = tt;
  body = tt;
  together = (refl, (1, omega arith, sym ask-action.same));
}

make-text : IsText 2048 make_connection
make-text = literal_is_text 2048 make_connection refl refl refl refl refl refl

pub make-kept : (r : List Fact) (to : Text) → IsText 2048 to → IsByTheRules (make_message r to)
make-kept r to is = record {
  addressing = headers-kept (plain_endpoint to) make_connection None None None (plain-kept to is) make-text tt tt tt;
  sequence = tt;
  acks = tt;
  asks = tt;
  not_understood = tt;
  body = polled-text (number r);
  together = (refl, refl, tt);
}

pub response-kept : (to : Epr) (t : Option Text) (name : Text) (content : Lifecycle) (blocks : List AckBlock)
    → IsEprWritable to → IfSome t (IsText 2048) → IsAction name (action_for content) → HasItsId content None
    → IsLifecycleWritable content → AllByRecursion IsAckWritable blocks
    → IsByTheRules (response_of to t name content blocks)
response-kept to t name content blocks h k a i c b = record {
  addressing = headers-kept to (rm_action name) None t None h a.text tt k tt;
  sequence = tt;
  acks = b;
  asks = tt;
  not_understood = tt;
  body = c;
  together = (refl, a.same, i);
}
