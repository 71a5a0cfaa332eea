-- What a node answers to a message keeps the rules of what is written.
use Rattle.std.proofs.Common.{ℕ, ◌+◌, Bool, true, false, cond, List, [], ◌∷◌, ◌++◌}
use Rattle.std.proofs.Common.{arith, Option, Some, None}
use Rattle.std.specs.Prelude.{codes, IfSome}
use Rattle.std.specs.List.{AllByRecursion}
use Rattle.rm_base.specs.NumberSet.{has_number}
use Rattle.rm_base.specs.Text.{IsText}
use Rattle.rm_message.specs.Elements.Writable.{IsAckWritable, IsSequenceWritable, IsLifecycleWritable}
use Rattle.rm_message.specs.declared.elements.header.AckBlock.{AckBlock}
use Rattle.rm_message.specs.declared.elements.header.SeqHeader.{SeqHeader}
use Rattle.rm_message.specs.declared.elements.lifecycle.Lifecycle.{Lifecycle}
use Rattle.rm_message.specs.declared.elements.lifecycle.Lifecycle.TheVariants as life
use Rattle.rm_message.specs.declared.message.Body.{Body}
use Rattle.rm_message.specs.declared.message.Body.TheVariants as body
use Rattle.rm_message.specs.declared.message.Message.{Message}
use Rattle.wsa_headers.specs.Writable.{IsEprWritable, IsAddressingWritable}
use Rattle.wsa_headers.specs.declared.addressing.Addressing.{Addressing}
use Rattle.wsa_headers.specs.declared.endpoint.Epr.{Epr}
use Rattle.message_writer.specs.Rules.{action_for, HasItsId}
use Rattle.record_batch.specs.Fact.{Fact}
use Rattle.record_batch.specs.Sequences.IdentTexts.{issue-text}
use Rattle.record_batch.specs.Sequences.Words.{Text}
use Rattle.record_batch.specs.Sequences.Idents.{issue}
use Rattle.record_batch.specs.Sequences.Makers.{Maker, Incoming, maker, address, number}
use Rattle.record_batch.specs.Sequences.Find.{acks_to, find_incoming, is_taken}
use Rattle.rm_protocol.specs.Addresses.{anonymous, is_anonymous, reply_endpoint, reply_endpoint_by}
use Rattle.rm_protocol.specs.Addresses.{fault_endpoint, fault_endpoint_by}
use Rattle.rm_protocol.specs.Messages.{block_of, ack_message}
use Rattle.rm_protocol.specs.Said.{accept_by, grant_response, create_response, finish_response, find_grant_of}
use Rattle.rm_protocol.specs.Said.{responses}
use Rattle.rm_protocol.specs.Said.{Ack, ack_to, ack_of, data_ident, found_in, data_acks, given_with, ask_ack, ask_acks}
use Rattle.rm_protocol.specs.Said.{acks_said, back_blocks, back_message, own_messages, with_blocks, answered, said}
use Rattle.node_laws.specs.Read.{IsBodyRead, WasRead}
use Rattle.node_laws.specs.Records.{IsKept}
use Rattle.node_laws.proofs.Lists.{All-append}
use Rattle.node_laws.proofs.Messages.{IsByTheRules, IsAction, anonymous-text, created-action, closed-action}
use Rattle.node_laws.proofs.Messages.{terminated-action, ack-kept, response-kept}
use Rattle.node_laws.proofs.Values.{IsMakerKept, maker-kept, address-kept, plain-kept, acks_to-kept, block-kept}

-- ---- endpoints of a message that was read

reply-by : (reply : Option Epr) → IfSome reply IsEprWritable → IsEprWritable (reply_endpoint_by reply)
reply-by (Some endpoint) h = h
reply-by None h = plain-kept anonymous anonymous-text

reply-kept : (a : Addressing) → IsAddressingWritable a → IsEprWritable (reply_endpoint a)
reply-kept a h = reply-by a.reply_to h.reply_to

pub fault-kept : (a : Addressing) → IsAddressingWritable a → IsEprWritable (fault_endpoint a)
fault-kept a h = by_endpoint a.fault_to h.fault_to
  where
    by_endpoint : (x : Option Epr) → IfSome x IsEprWritable → IsEprWritable (fault_endpoint_by x a.reply_to)
    by_endpoint (Some endpoint) k = k
    by_endpoint None k = reply-by a.reply_to h.reply_to

-- ---- responses

one-response : (m : Message) → IsByTheRules m → AllByRecursion IsByTheRules (m ∷ [])
one-response m h = (h, tt)

accept-kept : (r : List Fact) (taken : Bool) → IsKept r → IfSome (accept_by r taken) IsEprWritable
accept-kept r false h = tt
accept-kept r true h = plain-kept (address r) (address-kept r h)

grant-kept : (r : List Fact) (to : Epr) (t : Text) (s : ℕ) (m : Option Maker) → IsKept r → IsEprWritable to
    → IsText 2048 t → IfSome m IsMakerKept → AllByRecursion IsByTheRules (grant_response r to t s m)
grant-kept r to t s (Some (Incoming counter message_id acks_to behaviour deadline lapse)) h k is mk =
    one-response _ (response-kept to (Some t) (codes "CreateSequenceResponse") (life.CreateResponse (record {
      ident = issue (number r) counter;
      expires = lapse;
      behaviour = behaviour;
      accept = accept_by r (is_taken (maker r (s + 1)));
    })) [] k is created-action tt (record {
      ident = issue-text 512 (number r) counter (omega arith);
      expires = mk.2;
      accept = accept-kept r (is_taken (maker r (s + 1))) h;
    }) tt)
grant-kept r to t s _ h k is mk = tt

create-kept : (r : List Fact) (to : Epr) (t : Option Text) (s : Option ℕ) → IsKept r → IsEprWritable to
    → IfSome t (IsText 2048) → AllByRecursion IsByTheRules (create_response r to t s)
create-kept r to (Some t) (Some s) h k is = grant-kept r to t s (maker r s) h k is (maker-kept r s h)
create-kept r to None s h k is = tt
create-kept r to (Some t) None h k is = tt

finish-kept : (r : List Fact) (now : ℕ) (a : Addressing) (q name : Text) (content : Lifecycle) (s : Option ℕ)
    → IsKept r → IsAddressingWritable a → IsText 512 q → IsAction name (action_for content) → HasItsId content None
    → IsLifecycleWritable content → AllByRecursion IsByTheRules (finish_response r now a q name content s)
finish-kept r now a q name content None h k is act id c = tt
finish-kept r now a q name content (Some s) h k is act id c =
    one-response _ (response-kept (reply_endpoint a) a.message_id name content (block_of r s q now ∷ [])
    (reply-kept a k) k.message_id act id c (block-kept r s q now h is, tt))

responses-kept : (r : List Fact) (now : ℕ) (a : Addressing) (b : Body) → IsKept r → IsAddressingWritable a
    → IsBodyRead b → AllByRecursion IsByTheRules (responses r now a b)
responses-kept r now a (body.Lifecycle (life.Create c)) h k is =
    create-kept r (reply_endpoint a) a.message_id (find_grant_of r a.message_id) h (reply-kept a k) k.message_id
responses-kept r now a (body.Lifecycle (life.Close f)) h k is =
    finish-kept r now a f.ident (codes "CloseSequenceResponse") (life.CloseResponse f.ident)
    (find_incoming r f.ident) h k is.ident closed-action tt is.ident
responses-kept r now a (body.Lifecycle (life.Terminate f)) h k is =
    finish-kept r now a f.ident (codes "TerminateSequenceResponse") (life.TerminateResponse f.ident)
    (find_incoming r f.ident) h k is.ident terminated-action tt is.ident
responses-kept r now a _ h k is = tt

-- ---- acknowledgements

-- an endpoint and an acknowledgement that may be written
abbrev pub IsAckKept : Ack → Type 0
IsAckKept ack = IsEprWritable ack.0 × IsAckWritable ack.1

pub ack_to-kept : (to : Option Epr) (block : AckBlock) → IfSome to IsEprWritable → IsAckWritable block
    → AllByRecursion IsAckKept (ack_to to block)
ack_to-kept None block h k = tt
ack_to-kept (Some to) block h k = ((h, k), tt)

ack_of-kept : (r : List Fact) (now : ℕ) (q : Text) (s : Option ℕ) → IsKept r → IsText 512 q
    → AllByRecursion IsAckKept (ack_of r now q s)
ack_of-kept r now q None h is = tt
ack_of-kept r now q (Some s) h is =
    ack_to-kept (acks_to r s) (block_of r s q now) (acks_to-kept r s h) (block-kept r s q now h is)

data_ident-kept : (header : Option SeqHeader) (b : Body) → IfSome header IsSequenceWritable
    → IfSome (data_ident header b) (IsText 512)
data_ident-kept (Some header) (body.Payload p) h = h.ident
data_ident-kept (Some header) body.Empty h = tt
data_ident-kept (Some header) (body.Lifecycle x) h = tt
data_ident-kept (Some header) (body.Fault x) h = tt
data_ident-kept None b h = tt

data_acks-kept : (r : List Fact) (now : ℕ) (q : Option Text) → IsKept r → IfSome q (IsText 512)
    → AllByRecursion IsAckKept (data_acks r now q)
data_acks-kept r now None h is = tt
data_acks-kept r now (Some q) h is = ack_of-kept r now q (find_incoming r q) h is

ask_ack-kept : (r : List Fact) (now : ℕ) (given : List ℕ) (q : Text) (s : Option ℕ) → IsKept r → IsText 512 q
    → AllByRecursion IsAckKept (ask_ack r now given q s)
ask_ack-kept r now given q None h is = tt
ask_ack-kept r now given q (Some s) h is =
    elim (has_number given s) as (λ b. AllByRecursion IsAckKept (cond b [] (ack_of r now q (Some s)))) [
      | true ↦ tt
      | false ↦ ack_of-kept r now q (Some s) h is
    ]

ask_acks-kept : (r : List Fact) (now : ℕ) (given : List ℕ) (qs : List Text) → IsKept r
    → AllByRecursion (IsText 512) qs → AllByRecursion IsAckKept (ask_acks r now given qs)
ask_acks-kept r now given [] h is = tt
ask_acks-kept r now given (q ∷ qs) h is =
    All-append IsAckKept (ask_ack r now given q (find_incoming r q)) _
    (ask_ack-kept r now given q (find_incoming r q) h is.0)
    (ask_acks-kept r now (given_with (find_incoming r q) given) qs h is.1)

acks-kept : (r : List Fact) (now : ℕ) (m : Message) → IsKept r → WasRead m
    → AllByRecursion IsAckKept (acks_said r now m)
acks-kept r now m h is =
    All-append IsAckKept (data_acks r now (data_ident m.sequence m.body)) _
    (data_acks-kept r now (data_ident m.sequence m.body) h (data_ident-kept m.sequence m.body is.sequence))
    (ask_acks-kept r now (given_with (found_in r (data_ident m.sequence m.body)) []) m.asks h is.asks)

-- ---- both together

back_blocks-kept : (acks : List Ack) → AllByRecursion IsAckKept acks → AllByRecursion IsAckWritable (back_blocks acks)
back_blocks-kept [] h = tt
back_blocks-kept (ack ∷ acks) h =
    let rest = back_blocks-kept acks h.1 in
    elim (is_anonymous ack.0.address) as (λ b. AllByRecursion IsAckWritable (cond b (ack.1 ∷ back_blocks acks)
    (back_blocks acks))) [
      | true ↦ (h.0.1, rest)
      | false ↦ rest
    ]

back_message-kept : (acks : List Ack) → AllByRecursion IsAckKept acks → AllByRecursion IsByTheRules (back_message acks)
back_message-kept [] h = tt
back_message-kept (ack ∷ acks) h =
    let rest = back_message-kept acks h.1 in
    elim (is_anonymous ack.0.address) as (λ b. AllByRecursion IsByTheRules (cond b
    (ack_message ack.0 (ack.1 ∷ back_blocks acks) ∷ []) (back_message acks))) [
      | true ↦ (ack-kept ack.0 (ack.1 ∷ back_blocks acks) h.0.0 (h.0.1, back_blocks-kept acks h.1), tt)
      | false ↦ rest
    ]

pub own_messages-kept : (acks : List Ack) → AllByRecursion IsAckKept acks
    → AllByRecursion IsByTheRules (own_messages acks)
own_messages-kept [] h = tt
own_messages-kept (ack ∷ acks) h =
    let rest = own_messages-kept acks h.1 in
    elim (is_anonymous ack.0.address) as (λ b. AllByRecursion IsByTheRules (cond b (own_messages acks)
    (ack_message ack.0 (ack.1 ∷ []) ∷ own_messages acks))) [
      | true ↦ rest
      | false ↦ (ack-kept ack.0 (ack.1 ∷ []) h.0.0 (h.0.1, tt), rest)
    ]

pub with_blocks-kept : (m : Message) (blocks : List AckBlock) → IsByTheRules m → AllByRecursion IsAckWritable blocks
    → IsByTheRules (with_blocks m blocks)
with_blocks-kept m blocks h k = record {
  addressing = h.addressing;
  sequence = h.sequence;
  acks = All-append IsAckWritable m.acks blocks h.acks k;
  asks = h.asks;
  not_understood = h.not_understood;
  body = h.body;
  together = h.together;
}

answered-kept : (ms : List Message) (acks : List Ack) → AllByRecursion IsByTheRules ms → AllByRecursion IsAckKept acks
    → AllByRecursion IsByTheRules (answered ms acks)
answered-kept [] acks h k =
    All-append IsByTheRules (back_message acks) (own_messages acks) (back_message-kept acks k)
    (own_messages-kept acks k)
answered-kept (m ∷ ms) acks h k =
    let own = All-append IsByTheRules ms (own_messages acks) h.1 (own_messages-kept acks k) in
    elim (is_anonymous m.addressing.to) as (λ b. AllByRecursion IsByTheRules (cond b
    (with_blocks m (back_blocks acks) ∷ ms ++ own_messages acks)
    (back_message acks ++ (m ∷ ms ++ own_messages acks)))) [
      | true ↦ (with_blocks-kept m (back_blocks acks) h.0 (back_blocks-kept acks k), own)
      | false ↦ All-append IsByTheRules (back_message acks) (m ∷ ms ++ own_messages acks) (back_message-kept acks k)
          (h.0, own)
    ]

-- all that is said to a message that was read
pub said-kept : (r : List Fact) (now : ℕ) (m : Message) → IsKept r → WasRead m
    → AllByRecursion IsByTheRules (said r now m)
said-kept r now m h is =
    answered-kept (responses r now m.addressing m.body) (acks_said r now m)
    (responses-kept r now m.addressing m.body h is.addressing is.body) (acks-kept r now m h is)
