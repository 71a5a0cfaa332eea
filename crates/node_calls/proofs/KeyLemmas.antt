-- What is known of a sequence where only ends of incoming sequences are ahead, and the messages of keys one by one.
use Rattle.std.proofs.Common.{◌≡◌, ℕ, zero, suc, ◌+◌, ◌<◌, ◌≤◌, ◌==◌, ◌^◌, Bool, true, false, cond, List, [], ◌∷◌, ◌++◌}
use Rattle.std.proofs.Common.{◌-◌, refl, sym, ap, ap₂, subst, ◌∙◌, arith, Option, Some, None}
use Rattle.std.specs.Prelude.{codes, nat_le, IfSome, IfNone}
use Rattle.std.specs.List.{AllByRecursion}
use Rattle.std.proofs.lemmas.Bool.{and_parts, leb-true}
use Rattle.rm_base.specs.Numbered.{numbered}
use Rattle.record_batch.specs.Fact.{Fact, Made}
use Rattle.record_batch.specs.Sequences.Words.{Text, last_or}
use Rattle.record_batch.specs.Sequences.Makers.{Maker, Outgoing, Offered, Incoming, Taken, counter, maker, number}
use Rattle.record_batch.specs.Sequences.Sources.{out_ident, payload_at, phase, tickets}
use Rattle.record_batch.specs.Sequences.Fits.{is_outgoing_side, fits, all_fit}
use Rattle.rm_protocol.specs.Calls.{message_at}
use Rattle.rm_protocol.specs.Messages.{create_request, data_at, data_by, finish_request, offer_by, request_at}
use Rattle.rm_protocol.specs.Messages.{request_by}
use Rattle.rm_message.specs.declared.elements.lifecycle.Lifecycle.TheVariants as life
use Rattle.rm_sides.specs.declared.source.phase.OutPhase.{OutPhase}
use Rattle.rm_sides.specs.declared.source.phase.OutPhase.TheVariants as out
use Rattle.wsa_headers.specs.declared.endpoint.Epr.{Epr}
use Rattle.node_laws.specs.Records.{BeginsWithMade}
use Rattle.rm_base.specs.declared.message.Behaviour.{Behaviour}
use Rattle.rm_base.specs.declared.lapse.Lapse.{Lapse}
use Rattle.rm_message.specs.declared.elements.lifecycle.Offer.{Offer}
use Rattle.rm_message.specs.declared.message.Message.{Message}
use Rattle.record_batch.specs.declared.record.OwnOffer.{OwnOffer}
use Rattle.record_batch.specs.declared.record.Via.{Via}
use Rattle.node_messages.specs.Requests.{IsSmall, create_with, offer_with}
use Rattle.record_batch.specs.Sequences.Find.{peer, peer_of}
use Rattle.node_tables.specs.Reads.{outgoing_in, outgoing_of, ticket_in, ticket_of}
use Rattle.rm_sides.specs.Source.Outgoing.{Sending, payload_at as payload_known}
use Rattle.record_batch.specs.Sequences.Told.{first_ticket, last_onto, sending}
use Rattle.node_calls.specs.Records.{IsEnding, is_finishing}
use Rattle.node_calls.proofs.DrawnLemmas.{drawn_for, maker-drawn}
use Rattle.node_calls.proofs.EndLemmas.{accepted-ends, dropped-ends, maker-ends, tickets-ends}
use Rattle.node_calls.proofs.RequestLemmas.{with_offer}
use Rattle.node_calls.proofs.TicketLemmas.{ticket-drawn, ticket-last, ticket-none}

-- the ticket that the tables have is that of all records
pub ticket-ends : (r d : List Fact) (s : ℕ) → AllByRecursion IsEnding d → ticket_in (r ++ d) s ≡ ticket_in r s
ticket-ends r d s h =
    ap (λ (m : Option Maker). ticket_of (r ++ d) s m) (maker-ends r d s h) ∙ by_maker (maker r s)
  where
    by_maker : (m : Option Maker) → ticket_of (r ++ d) s m ≡ ticket_of r s m
    by_maker None = refl
    by_maker (Some m) = ap (λ (ts : List ℕ). last_onto (first_ticket m) ts) (tickets-ends r d s h)

-- an outgoing sequence is in the tables
pub there-sends : (r : List Fact) (s : ℕ) → is_outgoing_side (maker r s) ≡ true → outgoing_in r s ≡ Some (sending r s)
there-sends r s h = by_maker (maker r s) h
  where
    by_maker : (m : Option Maker) → is_outgoing_side m ≡ true → outgoing_of r s m ≡ Some (sending r s)
    by_maker (Some (Outgoing ticket to via lapse)) k = refl
    by_maker (Some (Taken message_id ident endpoint)) k = refl
    by_maker _ k = absurd (cc)

-- the number of a key tells what it is emitted as
pub request-key : (r : List Fact) (s i : ℕ) → i ≡ 0 → request_at r s ≡ message_at r s i
request-key r s i e = ap (message_at r s) (sym e)

pub data-key : (r : List Fact) (s i : ℕ) → (i ≡ 0 → ⊥) → data_at r s i ≡ message_at r s i
data-key r s zero e = absurd (e refl)
data-key r s (suc i) e = refl

-- what has a peer sends
pub sends-to : (m : Option Maker) (to : Epr) → Some to ≡ peer_of m → is_outgoing_side m ≡ true
sends-to (Some (Outgoing ticket p via lapse)) to e = refl
sends-to (Some (Taken message_id ident endpoint)) to e = refl
sends-to (Some (Offered ticket n p behaviour)) to e = absurd (cc)
sends-to (Some (Incoming n message_id acks_to behaviour deadline lapse)) to e = absurd (cc)
sends-to None to e = absurd (cc)

-- a message whose parts are known
pub data-known : (r : List Fact) (s i : ℕ) (to : Epr) (q : Text) (p : Option Text) → Some to ≡ peer r s
    → Some q ≡ out_ident r s → p ≡ payload_at r s i → data_by (Some to) (Some q) i p ≡ data_at r s i
data-known r s i to q p there named is =
    ap (data_by (Some to) (Some q) i) is
    ∙ ap (λ (o : Option Text). data_by (Some to) o i (payload_at r s i)) named
    ∙ ap (λ (o : Option Epr). data_by o (out_ident r s) i (payload_at r s i)) there

-- ---- what the tables have, with ends ahead

pub payload-there : (r d : List Fact) (s i : ℕ) (t : Sending) → AllByRecursion IsEnding d → t ≡ sending r s
    → payload_known t i ≡ payload_at (r ++ d) s i
payload-there r d s i t h is =
    ap (λ (x : Sending). payload_known x i) is
    ∙ ap₂ (λ (ps : List Text) (n : ℕ). numbered ps (i - n)) (sym (accepted-ends r d s h)) (sym (dropped-ends r d s h))

pub payload-none : (r d : List Fact) (s : ℕ) → AllByRecursion IsEnding d → is_outgoing_side (maker (r ++ d) s) ≡ true
    → None ≡ outgoing_in r s → ⊥
payload-none r d s h side none =
    let there = there-sends r s (ap is_outgoing_side (sym (maker-ends r d s h)) ∙ side) in absurd (cc)

pub last-some : (r d : List Fact) (s : ℕ) (o : Option ℕ) → AllByRecursion IsEnding d
    → is_finishing (phase (r ++ d) s) ≡ true → o ≡ ticket_in r s
    → IfSome o (λ t. last_or 0 (tickets (r ++ d) s) ≡ t)
last-some r d s None h waits is = tt
last-some r d s (Some t) h waits is = ticket-last (r ++ d) s t waits (is ∙ sym (ticket-ends r d s h))

pub last-drawn : (r d : List Fact) (s : ℕ) (o : Option ℕ) → AllByRecursion IsEnding d → all_fit [] r ≡ true
    → is_finishing (phase (r ++ d) s) ≡ true → o ≡ ticket_in r s → IfSome o (λ t. t ≤ counter r)
last-drawn r d s None h fit waits is = tt
last-drawn r d s (Some t) h fit waits is =
    let last : last_or 0 (tickets r s) ≡ t =
    ap (last_or 0) (sym (tickets-ends r d s h))
    ∙ ticket-last (r ++ d) s t waits (is ∙ sym (ticket-ends r d s h)) in
    omega (arith, last, ticket-drawn r s fit)

pub last-none : (r d : List Fact) (s : ℕ) (o : Option ℕ) → AllByRecursion IsEnding d
    → is_finishing (phase (r ++ d) s) ≡ true → o ≡ ticket_in r s → IfNone o (peer (r ++ d) s ≡ None)
last-none r d s (Some t) h waits is = tt
last-none r d s None h waits is = ticket-none (r ++ d) s waits (is ∙ sym (ticket-ends r d s h))

-- a number that a sequence was made with has 62 bits
pub drawn-again : (r d : List Fact) (s : ℕ) (m : Maker) → AllByRecursion IsEnding d → all_fit [] r ≡ true
    → counter r < 2 ^ 61 → Some m ≡ maker (r ++ d) s → drawn_for m < 2 ^ 62
drawn-again r d s m h fit few is =
    let drawn = maker-drawn r s m fit (sym (is ∙ maker-ends r d s h)) in
    omega (arith, drawn, few)

-- ---- the request for a sequence again

pub offered-is : (r : List Fact) (via : Via) (ticket own n : ℕ) (to : Text) (behaviour : Behaviour)
    (m : Option Maker) (given : Option OwnOffer) → Some (Offered own n to behaviour) ≡ m
    → given ≡ cond (own == ticket) (Some (record { counter = n; behaviour = behaviour })) None
    → offer_with r via given ≡ offer_by r via ticket m
offered-is r via ticket own n to behaviour m given made is =
    ap (offer_with r via) is ∙ by_test (own == ticket) ∙ ap (offer_by r via ticket) made
  where
    by_test : (b : Bool)
        → offer_with r via (cond b (Some (record { counter = n; behaviour = behaviour })) None)
        ≡ cond b (offer_with r via (Some (record { counter = n; behaviour = behaviour }))) None
    by_test true = refl
    by_test false = refl

pub offered-small : (own ticket : ℕ) (offer : OwnOffer) (given : Option OwnOffer)
    → given ≡ cond (own == ticket) (Some offer) None → offer.counter < 2 ^ 62 → IfSome given IsSmall
offered-small own ticket offer given is few =
    subst (λ (o : Option OwnOffer). IfSome o IsSmall) (sym is) (by_test (own == ticket))
  where
    by_test : (b : Bool) → IfSome (cond b (Some offer) None) IsSmall
    by_test true = few
    by_test false = tt

pub create-again : (r : List Fact) (s ticket : ℕ) (to again : Text) (via : Via) (lapse : Lapse) (own : Option OwnOffer)
    (m : Message) → Some (Outgoing ticket to via lapse) ≡ maker r s → again ≡ to
    → offer_with r via own ≡ offer_by r via ticket (maker r (s + 1))
    → m ≡ create_with r again via ticket lapse own → Some m ≡ create_request r s (maker r s)
create-again r s ticket to again via lapse own m made same offer is =
    ap (λ (x : Message). Some x) (is ∙ ap (λ (x : Text). create_with r x via ticket lapse own) same)
    ∙ ap (λ (o : Option Offer). Some (with_offer r to via ticket lapse o)) offer
    ∙ ap (create_request r s) made

-- ---- a request to close or end a sequence again

-- without a peer there is none
pub no-peer : (r : List Fact) (s : ℕ) (p : OutPhase) → is_finishing p ≡ true → peer r s ≡ None
    → None ≡ request_by r s p
no-peer r s out.Closing h e =
    sym (ap (λ (to : Option Epr). finish_request r s to (out_ident r s) (codes "CloseSequence") life.Close) e)
no-peer r s out.Ending h e =
    sym (ap (λ (to : Option Epr). finish_request r s to (out_ident r s) (codes "TerminateSequence") life.Terminate) e)
no-peer r s _ h e = absurd (cc)

-- the node has a number
pub number-begun : (r d : List Fact) → BeginsWithMade r → all_fit [] r ≡ true → 0 < number (r ++ d)
number-begun [] d b h = absurd b
number-begun (f ∷ r) d b h = first f b h
  where
    first : (f : Fact) → BeginsWithMade (f ∷ r) → all_fit [] (f ∷ r) ≡ true → 0 < number (f ∷ (r ++ d))
    first (Made node address) b h =
        let fit = (and_parts (fits [] (Made node address)) _ h).0 in
        let low : 1 ≤ node = leb-true 1 node (and_parts (nat_le 1 node) _ fit).0 in
        omega (arith, low)
    first _ b h = absurd b
