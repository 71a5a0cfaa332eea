-- What is said of a sequence that is open asks for no end of it, and tells of none.
use Rattle.std.proofs.Common.{◌≡◌, ℕ, zero, suc, cond, true, false, List, [], ◌∷◌, ◌++◌, refl, sym, ap, ◌∙◌}
use Rattle.std.specs.Prelude.{Option, Some, None, codes}
use Rattle.std.specs.List.{AllByRecursion}
use Rattle.std.specs.Option.{option_to_list}
use Rattle.rm_base.specs.NumberSet.{has_number}
use Rattle.rm_message.specs.declared.elements.header.AckBlock.{AckBlock}
use Rattle.rm_message.specs.declared.elements.lifecycle.Lifecycle.TheVariants as life
use Rattle.rm_message.specs.declared.message.Body.{Body}
use Rattle.rm_message.specs.declared.message.Body.TheVariants as body
use Rattle.rm_message.specs.declared.message.Message.{Message}
use Rattle.rm_sides.specs.declared.source.phase.OutPhase.{OutPhase}
use Rattle.rm_sides.specs.declared.source.phase.OutPhase.TheVariants as out
use Rattle.timers.specs.declared.slots.timers.Key.{Key}
use Rattle.wsa_headers.specs.declared.addressing.Addressing.{Addressing}
use Rattle.wsa_headers.specs.declared.endpoint.Epr.{Epr}
use Rattle.record_batch.specs.Fact.{Fact}
use Rattle.record_batch.specs.Sequences.Words.{Text}
use Rattle.record_batch.specs.Sequences.Makers.{Maker, Incoming, Offered, Outgoing, Taken, maker}
use Rattle.record_batch.specs.Sequences.Sources.{out_ident, payload_at, phase}
use Rattle.record_batch.specs.Sequences.Find.{acks_to, find_incoming, peer}
use Rattle.rm_protocol.specs.Addresses.{is_anonymous, reply_endpoint}
use Rattle.rm_protocol.specs.Calls.{message_at, messages_at}
use Rattle.rm_protocol.specs.Messages.{ack_message, block_of, create_request, data_by, finish_request, request_by}
use Rattle.rm_protocol.specs.Said.{Ack, ack_of, ack_to, acks_said, answered, ask_ack, ask_acks, back_blocks}
use Rattle.rm_protocol.specs.Said.{back_message, create_response, data_acks, data_ident, find_grant_of, finish_response}
use Rattle.rm_protocol.specs.Said.{found_in, given_with, grant_response, own_messages, responses, said, with_blocks}
use Rattle.rm_arrival.specs.Plain.{IsOpenThere, IsPlain, NoEndIsSaid, TellsNoEnd}

all-join : {A : Type 0} (P : A → Type 0) (xs ys : List A) → AllByRecursion P xs → AllByRecursion P ys
    → AllByRecursion P (xs ++ ys)
all-join P [] ys h k = k
all-join P (x ∷ xs) ys h k = (h.0, all-join P xs ys h.1 k)

-- ---- what a tick says

data-plain : (q : Text) (to : Option Epr) (o : Option Text) (i : ℕ) (p : Option Text)
    → AllByRecursion (IsPlain q) (option_to_list (data_by to o i p))
data-plain q None o i p = tt
data-plain q (Some to) None i p = tt
data-plain q (Some to) (Some ident) i None = tt
data-plain q (Some to) (Some ident) i (Some p) = (record { body_ = tt; acks = tt }, tt)

created-plain : (q : Text) (r : List Fact) (s : ℕ) (m : Option Maker)
    → AllByRecursion (IsPlain q) (option_to_list (create_request r s m))
created-plain q r s None = tt
created-plain q r s (Some (Outgoing ticket to via lapse)) = (record { body_ = tt; acks = tt }, tt)
created-plain q r s (Some (Offered ticket counter to behaviour)) = tt
created-plain q r s (Some (Incoming counter message_id acks_to behaviour deadline lapse)) = tt
created-plain q r s (Some (Taken message_id ident endpoint)) = tt

-- a source that is open says no such request
not-open : (r : List Fact) (q ident : Text) (now s : ℕ) (p : OutPhase) → IsOpenThere r q now → phase r s ≡ p
    → (p ≡ out.Open → ⊥) → out_ident r s ≡ Some ident → ident ≡ q → ⊥
not-open r q ident now s p there is off known e =
    off (sym is ∙ there.source s (known ∙ ap (λ (z : Text). Some z) e))

request-plain : (r : List Fact) (q : Text) (now s : ℕ) → IsOpenThere r q now → (p : OutPhase) → phase r s ≡ p
    → AllByRecursion (IsPlain q) (option_to_list (request_by r s p))
request-plain r q now s there out.Creating is = created-plain q r s (maker r s)
request-plain r q now s there out.Closing is = by_parts (peer r s) (out_ident r s) refl
  where
    by_parts : (to : Option Epr) (o : Option Text) → out_ident r s ≡ o
        → AllByRecursion (IsPlain q) (option_to_list (finish_request r s to o (codes "CloseSequence") life.Close))
    by_parts None o known = tt
    by_parts (Some to) None known = tt
    by_parts (Some to) (Some ident) known = (
      record { body_ = not-open r q ident now s out.Closing there is (λ e. absurd (cc (e))) known; acks = tt },
      tt,
    )
request-plain r q now s there out.Ending is = by_parts (peer r s) (out_ident r s) refl
  where
    by_parts : (to : Option Epr) (o : Option Text) → out_ident r s ≡ o
        → AllByRecursion (IsPlain q)
        (option_to_list (finish_request r s to o (codes "TerminateSequence") life.Terminate))
    by_parts None o known = tt
    by_parts (Some to) None known = tt
    by_parts (Some to) (Some ident) known = (
      record { body_ = not-open r q ident now s out.Ending there is (λ e. absurd (cc (e))) known; acks = tt },
      tt,
    )
request-plain r q now s there p is = tt

tick-plain : (r : List Fact) (q : Text) (now : ℕ) (keys : List Key) → IsOpenThere r q now
    → AllByRecursion (IsPlain q) (messages_at r keys)
tick-plain r q now [] there = tt
tick-plain r q now (k ∷ keys) there =
    all-join (IsPlain q) (option_to_list (message_at r k.seq k.number)) (messages_at r keys) (at k.seq k.number)
    (tick-plain r q now keys there)
  where
    at : (s i : ℕ) → AllByRecursion (IsPlain q) (option_to_list (message_at r s i))
    at s zero = request-plain r q now s there (phase r s) refl
    at s (suc i) = data-plain q (peer r s) (out_ident r s) (suc i) (payload_at r s (suc i))

-- ---- what an answer says

-- an acknowledgement of an open sequence is not the final one
abbrev TellsNone : Text → Ack → Type 0
TellsNone q ack = TellsNoEnd q ack.1

block-plain : (r : List Fact) (q ident : Text) (now t : ℕ) → IsOpenThere r q now → find_incoming r ident ≡ Some t
    → TellsNoEnd q (block_of r t ident now)
block-plain r q ident now t there found e =
    there.destination t (sym (ap (λ z. find_incoming r z) e) ∙ found)

to-plain : (q : Text) (o : Option Epr) (block : AckBlock) → TellsNoEnd q block
    → AllByRecursion (TellsNone q) (ack_to o block)
to-plain q None block h = tt
to-plain q (Some to) block h = (h, tt)

of-plain : (r : List Fact) (q ident : Text) (now : ℕ) → IsOpenThere r q now → (o : Option ℕ)
    → find_incoming r ident ≡ o → AllByRecursion (TellsNone q) (ack_of r now ident o)
of-plain r q ident now there None found = tt
of-plain r q ident now there (Some t) found =
    to-plain q (acks_to r t) (block_of r t ident now) (block-plain r q ident now t there found)

acked-plain : (r : List Fact) (q : Text) (now : ℕ) → IsOpenThere r q now → (o : Option Text)
    → AllByRecursion (TellsNone q) (data_acks r now o)
acked-plain r q now there None = tt
acked-plain r q now there (Some ident) = of-plain r q ident now there (find_incoming r ident) refl

ask-plain : (r : List Fact) (q ident : Text) (now : ℕ) (given : List ℕ) → IsOpenThere r q now → (o : Option ℕ)
    → find_incoming r ident ≡ o → AllByRecursion (TellsNone q) (ask_ack r now given ident o)
ask-plain r q ident now given there None found = tt
ask-plain r q ident now given there (Some t) found =
    elim (has_number given t) as (λ b. AllByRecursion (TellsNone q) (cond b [] (ack_of r now ident (Some t)))) [
      | true ↦ tt
      | false ↦ of-plain r q ident now there (Some t) found
    ]

asks-plain : (r : List Fact) (q : Text) (now : ℕ) (given : List ℕ) (idents : List Text) → IsOpenThere r q now
    → AllByRecursion (TellsNone q) (ask_acks r now given idents)
asks-plain r q now given [] there = tt
asks-plain r q now given (ident ∷ idents) there =
    all-join (TellsNone q) (ask_ack r now given ident (find_incoming r ident))
    (ask_acks r now (given_with (find_incoming r ident) given) idents)
    (ask-plain r q ident now given there (find_incoming r ident) refl)
    (asks-plain r q now (given_with (find_incoming r ident) given) idents there)

blocks-plain : (q : Text) (acks : List Ack) → AllByRecursion (TellsNone q) acks
    → AllByRecursion (TellsNoEnd q) (back_blocks acks)
blocks-plain q [] h = tt
blocks-plain q (ack ∷ acks) h =
    let rest = blocks-plain q acks h.1 in
    elim (is_anonymous ack.0.address) as (λ b. AllByRecursion (TellsNoEnd q)
    (cond b (ack.1 ∷ back_blocks acks) (back_blocks acks))) [
      | true ↦ (h.0, rest)
      | false ↦ rest
    ]

back-plain : (q : Text) (acks : List Ack) → AllByRecursion (TellsNone q) acks
    → AllByRecursion (IsPlain q) (back_message acks)
back-plain q [] h = tt
back-plain q (ack ∷ acks) h =
    let rest = back-plain q acks h.1 in
    let blocks = blocks-plain q acks h.1 in
    elim (is_anonymous ack.0.address) as (λ b. AllByRecursion (IsPlain q)
    (cond b (ack_message ack.0 (ack.1 ∷ back_blocks acks) ∷ []) (back_message acks))) [
      | true ↦ (record { body_ = tt; acks = (h.0, blocks) }, tt)
      | false ↦ rest
    ]

own-plain : (q : Text) (acks : List Ack) → AllByRecursion (TellsNone q) acks
    → AllByRecursion (IsPlain q) (own_messages acks)
own-plain q [] h = tt
own-plain q (ack ∷ acks) h =
    let rest = own-plain q acks h.1 in
    elim (is_anonymous ack.0.address) as (λ b. AllByRecursion (IsPlain q)
    (cond b (own_messages acks) (ack_message ack.0 (ack.1 ∷ []) ∷ own_messages acks))) [
      | true ↦ rest
      | false ↦ (record { body_ = tt; acks = (h.0, tt) }, rest)
    ]

answered-plain : (q : Text) (ms : List Message) (acks : List Ack) → AllByRecursion (IsPlain q) ms
    → AllByRecursion (TellsNone q) acks → AllByRecursion (IsPlain q) (answered ms acks)
answered-plain q [] acks h k =
    all-join (IsPlain q) (back_message acks) (own_messages acks) (back-plain q acks k) (own-plain q acks k)
answered-plain q (m ∷ ms) acks h k =
    let own = all-join (IsPlain q) ms (own_messages acks) h.1 (own-plain q acks k) in
    elim (is_anonymous m.addressing.to) as (λ b. AllByRecursion (IsPlain q)
    (cond b (with_blocks m (back_blocks acks) ∷ ms ++ own_messages acks)
    (back_message acks ++ (m ∷ ms ++ own_messages acks)))) [
      | true ↦ (
        record {
          body_ = h.0.body_;
          acks = all-join (TellsNoEnd q) m.acks (back_blocks acks) h.0.acks (blocks-plain q acks k);
        },
        own,
      )
      | false ↦ all-join (IsPlain q) (back_message acks) (m ∷ ms ++ own_messages acks) (back-plain q acks k) (h.0, own)
    ]

granted-plain : (q : Text) (r : List Fact) (to : Epr) (t : Text) (s : ℕ) (m : Option Maker)
    → AllByRecursion (IsPlain q) (grant_response r to t s m)
granted-plain q r to t s None = tt
granted-plain q r to t s (Some (Incoming counter message_id acks_to behaviour deadline lapse)) =
    (record { body_ = tt; acks = tt }, tt)
granted-plain q r to t s (Some (Outgoing ticket to_ via lapse)) = tt
granted-plain q r to t s (Some (Offered ticket counter to_ behaviour)) = tt
granted-plain q r to t s (Some (Taken message_id ident endpoint)) = tt

response-plain : (q : Text) (r : List Fact) (to : Epr) (t : Option Text) (s : Option ℕ)
    → AllByRecursion (IsPlain q) (create_response r to t s)
response-plain q r to None s = tt
response-plain q r to (Some t) None = tt
response-plain q r to (Some t) (Some s) = granted-plain q r to t s (maker r s)

responses-plain : (r : List Fact) (q : Text) (now : ℕ) (a : Addressing) (b : Body) → IsOpenThere r q now
    → AllByRecursion (IsPlain q) (responses r now a b)
responses-plain r q now a (body.Lifecycle (life.Create c)) there =
    response-plain q r (reply_endpoint a) a.message_id (find_grant_of r a.message_id)
responses-plain r q now a (body.Lifecycle (life.Close f)) there = at (find_incoming r f.ident) refl
  where
    at : (o : Option ℕ) → find_incoming r f.ident ≡ o → AllByRecursion (IsPlain q)
        (finish_response r now a f.ident (codes "CloseSequenceResponse") (life.CloseResponse f.ident) o)
    at None found = tt
    at (Some t) found = (record { body_ = tt; acks = (block-plain r q f.ident now t there found, tt) }, tt)
responses-plain r q now a (body.Lifecycle (life.Terminate f)) there = at (find_incoming r f.ident) refl
  where
    at : (o : Option ℕ) → find_incoming r f.ident ≡ o → AllByRecursion (IsPlain q)
        (finish_response r now a f.ident (codes "TerminateSequenceResponse") (life.TerminateResponse f.ident) o)
    at None found = tt
    at (Some t) found = (record { body_ = tt; acks = (block-plain r q f.ident now t there found, tt) }, tt)
responses-plain r q now a b there = tt

said-plain : (r : List Fact) (q : Text) (now : ℕ) (m : Message) → IsOpenThere r q now
    → AllByRecursion (IsPlain q) (said r now m)
said-plain r q now m there =
    answered-plain q (responses r now m.addressing m.body) (acks_said r now m)
    (responses-plain r q now m.addressing m.body there)
    (all-join (TellsNone q) (data_acks r now (data_ident m.sequence m.body))
    (ask_acks r now (given_with (found_in r (data_ident m.sequence m.body)) []) m.asks)
    (acked-plain r q now there (data_ident m.sequence m.body))
    (asks-plain r q now (given_with (found_in r (data_ident m.sequence m.body)) []) m.asks there))

pub no-end : NoEndIsSaid
no-end = record { tick = tick-plain; answer = said-plain }
