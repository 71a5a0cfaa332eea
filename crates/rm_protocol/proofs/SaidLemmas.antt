-- What a node says is so by its records.
use Rattle.std.proofs.Common.{◌≡◌, ℕ, ◌+◌, ◌==◌, cond, Bool, true, false, List, [], ◌∷◌, ◌++◌, refl, sym, ap}
use Rattle.std.proofs.Common.{◌∙◌, subst, arith, inl, inr}
use Rattle.std.specs.Prelude.{◌⊎◌, Option, Some, None, IfSome}
use Rattle.std.specs.List.{AllByRecursion, flat_map}
use Rattle.std.proofs.lemmas.Bool.{eqb-true}
use Rattle.std.proofs.lemmas.Bool.Decides.{nat_tests}
use Rattle.rm_sides.specs.declared.ranges.range.Range.{Range}
use Rattle.rm_sides.specs.Ranges.Ranges.{in_ranges}
use Rattle.rm_base.specs.NumberSet.{has_number}
use Rattle.rm_message.specs.declared.elements.header.AckBlock.{AckBlock}
use Rattle.rm_message.specs.declared.elements.header.SeqHeader.{SeqHeader}
use Rattle.rm_message.specs.declared.elements.lifecycle.Lifecycle.TheVariants as life
use Rattle.rm_message.specs.declared.elements.lifecycle.Offer.{Offer}
use Rattle.rm_sides.specs.declared.source.phase.OutPhase.{OutPhase}
use Rattle.rm_sides.specs.declared.source.phase.OutPhase.TheVariants as out
use Rattle.rm_message.specs.declared.message.Body.{Body}
use Rattle.rm_message.specs.declared.message.Body.TheVariants as body
use Rattle.rm_message.specs.declared.message.Message.{Message}
use Rattle.wsa_headers.specs.declared.endpoint.Epr.{Epr}
use Rattle.record_batch.specs.declared.record.Via.{Via}
use Rattle.record_batch.specs.Fact.{Fact, Closing, Ending}
use Rattle.record_batch.specs.Snapshot.Same.{AreProper}
use Rattle.rm_sides.specs.Destination.Messages.{is_empty, ranges_onto}
use Rattle.record_batch.specs.Sequences.Words.{Text, at_seq, last_or}
use Rattle.record_batch.specs.Sequences.Idents.{issue}
use Rattle.record_batch.specs.Sequences.Makers.{Maker, Outgoing, Offered, Incoming, Taken, draws_of, makers, maker}
use Rattle.record_batch.specs.Sequences.Makers.{number}
use Rattle.record_batch.specs.Sequences.Sources.{accepted_count, marks, out_ident, payload_at, phase, ticket_of}
use Rattle.record_batch.specs.Sequences.Sources.{tickets}
use Rattle.record_batch.specs.Sequences.Destinations.{held}
use Rattle.record_batch.specs.Sequences.Find.{IsIncoming, incoming_of, find_incoming, find_grant, is_granted, peer}
use Rattle.record_batch.specs.Sequences.Find.{acks_to}
use Rattle.rm_protocol.specs.Sound.{IsGranted, IsFinal, SaysData, SaysBlock, SaysCreate, SaysResponse, SaysFinal}
use Rattle.rm_protocol.specs.Sound.{AreHeld, IsRequest, Says, SaysName, SaysPlace, Keeps}
use Rattle.std.specs.Option.{option_to_list}
use Rattle.std.proofs.lemmas.Slice.Eq.{bytes_eq-Decides}
use Rattle.wsa_headers.specs.declared.addressing.Addressing.{Addressing}
use Rattle.rm_message.specs.declared.message.FaultBody.{FaultBody}
use Rattle.rm_message.specs.declared.refusal.FaultKind.{FaultKind}
use Rattle.rm_message.specs.declared.refusal.FaultKind.TheVariants.{SequenceClosed}
use Rattle.rm_message.specs.declared.refusal.Refusal.{Refusal}
use Rattle.record_batch.specs.Sequences.Sources.{first_phase}
use Rattle.record_batch.specs.Sequences.Find.{plain_endpoint}
use Rattle.rm_protocol.specs.Addresses.{is_anonymous, own_address, reply_endpoint}
use Rattle.rm_protocol.specs.Calls.{fault_block, block_at, block_by, final_ack, made_by, refusal_of}
use Rattle.rm_protocol.specs.Messages.{data_by, data_at, offer_by, create_request, finish_request, request_by}
use Rattle.rm_protocol.specs.Messages.{request_at, last_number, block_of, kind_of, ack_message, never}
use Rattle.rm_protocol.specs.Rows.{last_of}
use Rattle.rm_protocol.specs.Said.{grant_response, create_response, finish_response, find_grant_of, responses, Ack}
use Rattle.rm_protocol.specs.Said.{ack_to, ack_of, data_ident, found_in, data_acks, given_with, ask_ack, ask_acks}
use Rattle.rm_protocol.specs.Said.{acks_said, back_blocks, back_message, own_messages, with_blocks, answered, said}
use Rattle.rm_protocol.specs.Rows.{ranges_of}
use Rattle.rm_protocol.specs.Terms.{Terms, AreTerms, IsFault, header_blocks}
use Rattle.rm_protocol.proofs.ListLemmas.{All-append, All-weaker, at_seq-append, find-is}
use Rattle.rm_protocol.proofs.Kept.{kept-Asked, kept-count, kept-held, kept-ident, kept-Incoming, kept-maker}
use Rattle.rm_protocol.proofs.Kept.{kept-number, kept-payload}
use Rattle.rm_protocol.proofs.RangeLemmas.{ranges-has, ranges-proper, ranges_of-kind_of}
use Rattle.rm_protocol.proofs.RowLemmas.{find_incoming-is}

-- an acknowledgement of an incoming sequence
pub block-says : (r a : List Fact) (s now : ℕ) (q t : Text) → Keeps r a → IsIncoming r s q t
    → SaysBlock a (block_of r s q now)
block-says r a s now q t w h = (are-held, subst AreProper (sym (ranges_of-kind_of ranges)) (ranges-proper (held r s)))
  where
    ranges : List Range
    ranges = ranges_onto [] (held r s)

    are-held : AreHeld a q (ranges_of (kind_of ranges))
    are-held n e =
        let there : in_ranges ranges n ≡ true = subst (λ z. in_ranges z n ≡ true) (ranges_of-kind_of ranges) e in
        record {
          seq = s;
          message_id = t;
          incoming = kept-Incoming r a s q t w h;
          has = sym (kept-held r a s n w) ∙ ranges-has (held r s) n there;
        }

found-says : (r a : List Fact) (s now : ℕ) (q : Text) → Keeps r a → find_incoming r q ≡ Some s
    → SaysBlock a (block_of r s q now)
found-says r a s now q w e = let found = find_incoming-is r q s e in block-says r a s now q found.0 w found.1

-- acknowledgements and where they go
abbrev SayAcks : List Fact → List Ack → Type 0
SayAcks a acks = AllByRecursion (λ (ack : Ack). SaysBlock a ack.1) acks

pub ack_to-says : (a : List Fact) (x : Option Epr) (block : AckBlock) → SaysBlock a block → SayAcks a (ack_to x block)
ack_to-says a None block h = tt
ack_to-says a (Some to) block h = (h, tt)

ack_of-says : (r a : List Fact) (now : ℕ) (q : Text) (x : Option ℕ) → Keeps r a → find_incoming r q ≡ x
    → SayAcks a (ack_of r now q x)
ack_of-says r a now q None w e = tt
ack_of-says r a now q (Some s) w e = ack_to-says a (acks_to r s) (block_of r s q now) (found-says r a s now q w e)

data_acks-says : (r a : List Fact) (now : ℕ) (q : Option Text) → Keeps r a → SayAcks a (data_acks r now q)
data_acks-says r a now None w = tt
data_acks-says r a now (Some q) w = ack_of-says r a now q (find_incoming r q) w refl

ask_ack-says : (r a : List Fact) (now : ℕ) (given : List ℕ) (q : Text) (x : Option ℕ) → Keeps r a
    → find_incoming r q ≡ x
    → SayAcks a (ask_ack r now given q x)
ask_ack-says r a now given q None w e = tt
ask_ack-says r a now given q (Some s) w e = chosen (has_number given s) (ack_of-says r a now q (Some s) w e)
  where
    chosen : (b : Bool) → SayAcks a (ack_of r now q (Some s)) → SayAcks a (cond b [] (ack_of r now q (Some s)))
    chosen true h = tt
    chosen false h = h

ask_acks-says : (r a : List Fact) (now : ℕ) (given : List ℕ) (qs : List Text) → Keeps r a
    → SayAcks a (ask_acks r now given qs)
ask_acks-says r a now given [] w = tt
ask_acks-says r a now given (q ∷ qs) w =
    All-append (λ (ack : Ack). SaysBlock a ack.1) (ask_ack r now given q (find_incoming r q))
    (ask_acks r now (given_with (find_incoming r q) given) qs) (ask_ack-says r a now given q (find_incoming r q) w refl)
    (ask_acks-says r a now (given_with (find_incoming r q) given) qs w)

acks_said-says : (r a : List Fact) (now : ℕ) (m : Message) → Keeps r a → SayAcks a (acks_said r now m)
acks_said-says r a now m w =
    let given = given_with (found_in r (data_ident m.sequence m.body)) [] in
    All-append (λ (ack : Ack). SaysBlock a ack.1) (data_acks r now (data_ident m.sequence m.body))
    (ask_acks r now given m.asks)
    (data_acks-says r a now (data_ident m.sequence m.body) w) (ask_acks-says r a now given m.asks w)

ack_message-says : (a : List Fact) (to : Epr) (blocks : List AckBlock) → AllByRecursion (SaysBlock a) blocks
    → Says a (ack_message to blocks)
ack_message-says a to blocks h =
    record { data_ = tt; acks = h; create = tt; place = tt; name = tt; response = tt; final = tt }

back_blocks-says : (a : List Fact) (acks : List Ack) → SayAcks a acks → AllByRecursion (SaysBlock a) (back_blocks acks)
back_blocks-says a [] h = tt
back_blocks-says a (ack ∷ acks) h = chosen (is_anonymous ack.0.address) (back_blocks-says a acks h.1)
  where
    chosen : (b : Bool) → AllByRecursion (SaysBlock a) (back_blocks acks)
        → AllByRecursion (SaysBlock a) (cond b (ack.1 ∷ back_blocks acks) (back_blocks acks))
    chosen true k = (h.0, k)
    chosen false k = k

back_message-says : (a : List Fact) (acks : List Ack) → SayAcks a acks → AllByRecursion (Says a) (back_message acks)
back_message-says a [] h = tt
back_message-says a (ack ∷ acks) h = chosen (is_anonymous ack.0.address) (back_message-says a acks h.1)
  where
    chosen : (b : Bool) → AllByRecursion (Says a) (back_message acks)
        → AllByRecursion (Says a) (cond b (ack_message ack.0 (ack.1 ∷ back_blocks acks) ∷ []) (back_message acks))
    chosen true k = (ack_message-says a ack.0 (ack.1 ∷ back_blocks acks) (h.0, back_blocks-says a acks h.1), tt)
    chosen false k = k

pub own_messages-says : (a : List Fact) (acks : List Ack) → SayAcks a acks → AllByRecursion (Says a) (own_messages acks)
own_messages-says a [] h = tt
own_messages-says a (ack ∷ acks) h = chosen (is_anonymous ack.0.address) (own_messages-says a acks h.1)
  where
    chosen : (b : Bool) → AllByRecursion (Says a) (own_messages acks)
        → AllByRecursion (Says a) (cond b (own_messages acks) (ack_message ack.0 (ack.1 ∷ []) ∷ own_messages acks))
    chosen true k = k
    chosen false k = (ack_message-says a ack.0 (ack.1 ∷ []) (h.0, tt), k)

pub with_blocks-says : (a : List Fact) (m : Message) (blocks : List AckBlock) → Says a m
    → AllByRecursion (SaysBlock a) blocks → Says a (with_blocks m blocks)
with_blocks-says a m blocks h k = record {
  data_ = h.data_;
  acks = All-append (SaysBlock a) m.acks blocks h.acks k;
  create = h.create;
  place = h.place;
  name = h.name;
  response = h.response;
  final = h.final;
}

answered-says : (a : List Fact) (ms : List Message) (acks : List Ack) → AllByRecursion (Says a) ms → SayAcks a acks
    → AllByRecursion (Says a) (answered ms acks)
answered-says a [] acks h k = All-append (Says a) (back_message acks) (own_messages acks) (back_message-says a acks k)
    (own_messages-says a acks k)
answered-says a (m ∷ ms) acks h k =
    chosen (is_anonymous m.addressing.to) (All-append (Says a) ms (own_messages acks) h.1 (own_messages-says a acks k))
  where
    chosen : (b : Bool) → AllByRecursion (Says a) (ms ++ own_messages acks)
        → AllByRecursion (Says a) (cond b (with_blocks m (back_blocks acks) ∷ ms ++ own_messages acks)
        (back_message acks ++ (m ∷ ms ++ own_messages acks)))
    chosen true z = (with_blocks-says a m (back_blocks acks) h.0 (back_blocks-says a acks k), z)
    chosen false z = All-append (Says a) (back_message acks) (m ∷ ms ++ own_messages acks)
        (back_message-says a acks k) (h.0, z)

-- responses
grant_response-says : (r a : List Fact) (to : Epr) (t : Text) (s : ℕ) (m : Maker) → Keeps r a → maker r s ≡ Some m
    → is_granted t s m ≡ true
    → AllByRecursion (Says a) (grant_response r to t s (Some m))
grant_response-says r a to t s (Outgoing ticket p via lapse) w e h = tt
grant_response-says r a to t s (Offered ticket c p y) w e h = tt
grant_response-says r a to t s (Taken u q endpoint) w e h = tt
grant_response-says r a to t s (Incoming c u acks_to y deadline lapse) w e h =
    let same : u ≡ t = (bytes_eq-Decides u t).0 h in (
      record {
        data_ = tt;
        acks = tt;
        create = tt;
        place = tt;
        name = tt;
        response = record {
          seq = s;
          incoming = kept-Incoming r a s (issue (number r) c) t w (record {
            counter = c;
            maker_ = Incoming c u acks_to y deadline lapse;
            there = e;
            made = ap (λ z. Some (c, z)) same;
            is = refl;
          });
        };
        final = tt;
      },
      tt,
    )

create_response-says : (r a : List Fact) (to : Epr) (t : Option Text) → Keeps r a
    → AllByRecursion (Says a) (create_response r to t (find_grant_of r t))
create_response-says r a to None w = tt
create_response-says r a to (Some t) w = by_found (find_grant r t) refl
  where
    by_found : (x : Option ℕ) → find_grant r t ≡ x → AllByRecursion (Says a) (create_response r to (Some t) x)
    by_found None e = tt
    by_found (Some s) e =
        let found = find-is (is_granted t) (makers r) s e in
        subst (λ z. AllByRecursion (Says a) (grant_response r to t s z)) (sym found.1)
        (grant_response-says r a to t s found.0 w found.1 found.2)

no_response : (a : List Fact) (t : Option Text) (q : Text) → SaysResponse a t (body.Lifecycle (life.CloseResponse q))
no_response a None q = tt
no_response a (Some t) q = tt

no_response_2 : (a : List Fact) (t : Option Text) (q : Text)
    → SaysResponse a t (body.Lifecycle (life.TerminateResponse q))
no_response_2 a None q = tt
no_response_2 a (Some t) q = tt

close_response-says : (r a : List Fact) (now : ℕ) (d : Addressing) (q name : Text) (x : Option ℕ) → Keeps r a
    → find_incoming r q ≡ x
    → AllByRecursion (Says a) (finish_response r now d q name (life.CloseResponse q) x)
close_response-says r a now d q name None w e = tt
close_response-says r a now d q name (Some s) w e = (
  record {
    data_ = tt;
    acks = (found-says r a s now q w e, tt);
    create = tt;
    place = tt;
    name = tt;
    response =
        no_response a d.message_id q;
    final = tt;
  },
  tt,
)

terminate_response-says : (r a : List Fact) (now : ℕ) (d : Addressing) (q name : Text) (x : Option ℕ) → Keeps r a
    → find_incoming r q ≡ x
    → AllByRecursion (Says a) (finish_response r now d q name (life.TerminateResponse q) x)
terminate_response-says r a now d q name None w e = tt
terminate_response-says r a now d q name (Some s) w e = (
  record {
    data_ = tt;
    acks = (found-says r a s now q w e, tt);
    create = tt;
    place = tt;
    name = tt;
    response =
        no_response_2 a d.message_id q;
    final = tt;
  },
  tt,
)

responses-says : (r a : List Fact) (now : ℕ) (d : Addressing) (content : Body) → Keeps r a
    → AllByRecursion (Says a) (responses r now d content)
responses-says r a now d (body.Lifecycle (life.Create c)) w = create_response-says r a (reply_endpoint d) d.message_id w
responses-says r a now d (body.Lifecycle (life.Close f)) w =
    close_response-says r a now d f.ident _ (find_incoming r f.ident) w refl
responses-says r a now d (body.Lifecycle (life.Terminate f)) w =
    terminate_response-says r a now d f.ident _ (find_incoming r f.ident) w refl
responses-says r a now d _ w = tt

pub said-says : (r a : List Fact) (now : ℕ) (m : Message) → Keeps r a → AllByRecursion (Says a) (said r now m)
said-says r a now m w =
    answered-says a (responses r now m.addressing m.body) (acks_said r now m)
    (responses-says r a now m.addressing m.body w) (acks_said-says r a now m w)

-- messages of a sequence
pub data_at-says : (r a : List Fact) (s i : ℕ) → Keeps r a → AllByRecursion (Says a) (option_to_list (data_at r s i))
data_at-says r a s i w = by_parts (peer r s) (out_ident r s) (payload_at r s i) refl refl
  where
    by_parts : (to : Option Epr) (x : Option Text) (y : Option Text) → out_ident r s ≡ x → payload_at r s i ≡ y
        → AllByRecursion (Says a) (option_to_list (data_by to x i y))
    by_parts (Some to) (Some q) (Some p) e f = (
      record {
        data_ = record {
          seq = s;
          outgoing = record { is = kept-ident r a s (Some q) w e };
          item = kept-payload r a s i p w f;
        };
        acks = tt;
        create = tt;
        place = tt;
        name = tt;
        response = tt;
        final = tt;
      },
      tt,
    )
    by_parts _ _ _ e f = tt

-- requests
offered : (r a : List Fact) (via : Via) (ticket s : ℕ) (x : Option Maker) → Keeps r a → maker r s ≡ x
    → IfSome (offer_by r via ticket x) (λ (o : Offer). IsGranted a (issue (number r) ticket) o.ident)
offered r a via ticket s (Some (Offered own c to y)) w e = chosen (own == ticket) refl
  where
    chosen : (b : Bool) → (own == ticket) ≡ b → IfSome (cond b (Some (record {
      ident = issue (number r) c;
      endpoint = plain_endpoint (own_address r via);
      expires = never;
      behaviour = y;
    })) None) (λ (o : Offer). IsGranted a (issue (number r) ticket) o.ident)
    chosen true d = record {
      seq = s;
      incoming = kept-Incoming r a s (issue (number r) c) (issue (number r) ticket) w (record {
        counter = c;
        maker_ = Offered own c to y;
        there = e;
        made = ap (λ z. Some (c, issue (number r) z)) (eqb-true own ticket d);
        is = refl;
      });
    }
    chosen false d = tt
offered r a via ticket s (Some (Outgoing t to v l)) w e = tt
offered r a via ticket s (Some (Incoming c t k y d l)) w e = tt
offered r a via ticket s (Some (Taken t q k)) w e = tt
offered r a via ticket s None w e = tt

create_request-says : (r a : List Fact) (s : ℕ) (x : Option Maker) → Keeps r a → maker r s ≡ x
    → AllByRecursion (Says a) (option_to_list (create_request r s x))
create_request-says r a s (Some (Outgoing ticket to via lapse)) w e = (
  record {
    data_ = tt;
    acks = tt;
    create = (
      record {
        seq = s;
        asked = kept-Asked r a s (issue (number r) ticket) w
            (record { ticket = ticket; maker_ = Outgoing ticket to via lapse; there = e; asked = refl; is = refl });
      },
      offered r a via ticket (s + 1) (maker r (s + 1)) w refl,
    );
    place = record {
      seq = s;
      ticket = ticket;
      via = via;
      lapse = lapse;
      there = kept-maker r a s (Some (Outgoing ticket to via lapse)) w e;
    };
    name = tt;
    response = tt;
    final = tt;
  },
  tt,
)
create_request-says r a s (Some (Offered t c to y)) w e = tt
create_request-says r a s (Some (Incoming c t k y d l)) w e = tt
create_request-says r a s (Some (Taken t q k)) w e = tt
create_request-says r a s None w e = tt

abbrev IsLate : OutPhase → Type 0
IsLate out.Closing = Unit {0}
IsLate out.Ending = Unit {0}
IsLate _ = ⊥

stopped_by : (x : Option Text) (ms : List OutPhase) (p : OutPhase) → last_or (first_phase x) ms ≡ p → IsLate p
    → is_empty ms ≡ false
stopped_by x (m ∷ ms) p e h = refl
stopped_by None [] p e h = absurd (subst IsLate (sym e) h)
stopped_by (Some q) [] p e h = absurd (subst IsLate (sym e) h)

number_back : (n : ℕ) → last_of (last_number n) ≡ n
number_back n = elim (n == 0) as (λ b. (n == 0) ≡ b → last_of (cond b None (Some n)) ≡ n) [
  | true ↦ λ d. sym (eqb-true n 0 d)
  | false ↦ λ d. refl
] refl

final-at : (r a : List Fact) (s : ℕ) (q : Text) (p : OutPhase) → Keeps r a → phase r s ≡ p → IsLate p
    → out_ident r s ≡ Some q
    → IsFinal a q (last_of (last_number (accepted_count r s)))
final-at r a s q p w e h i = record {
  seq = s;
  outgoing = record { is = kept-ident r a s (Some q) w i };
  stopped = ap (λ z. is_empty (at_seq s z)) (sym w.same.frame.marks_) ∙ stopped_by (out_ident r s) (marks r s) p e h;
  count = sym (kept-count r a s w) ∙ sym (number_back (accepted_count r s));
}

-- the tickets of requests are numbers that were drawn
drawn-here : (k : ℕ) (xs : List ℕ) → has_number (k ∷ xs) k ≡ true
drawn-here k xs = grind (arith, nat_tests)

drawn-behind : (xs ys : List ℕ) (k : ℕ) → has_number ys k ≡ true → has_number (xs ++ ys) k ≡ true
drawn-behind [] ys k h = h
drawn-behind (x ∷ xs) ys k h =
    let rest : has_number (xs ++ ys) k ≡ true = drawn-behind xs ys k h in grind (arith, nat_tests)

abbrev IsDrawnIn : List Fact → ℕ → Type 0
IsDrawnIn r k = has_number (flat_map draws_of r) k ≡ true

tickets-of-one : (s : ℕ) (rec : Fact) (r : List Fact) → AllByRecursion (IsDrawnIn (rec ∷ r)) (at_seq s (ticket_of rec))
tickets-of-one s (Closing t k) r = if_at (t == s)
  where
    if_at : (b : Bool) → AllByRecursion (IsDrawnIn (Closing t k ∷ r)) (cond b (k ∷ []) [])
    if_at true = (drawn-here k (flat_map draws_of r), tt)
    if_at false = tt
tickets-of-one s (Ending t k) r = if_at (t == s)
  where
    if_at : (b : Bool) → AllByRecursion (IsDrawnIn (Ending t k ∷ r)) (cond b (k ∷ []) [])
    if_at true = (drawn-here k (flat_map draws_of r), tt)
    if_at false = tt
tickets-of-one s _ r = tt

tickets-drawn : (s : ℕ) (r : List Fact) → AllByRecursion (IsDrawnIn r) (tickets r s)
tickets-drawn s [] = tt
tickets-drawn s (rec ∷ r) =
    subst (AllByRecursion (IsDrawnIn (rec ∷ r))) (sym (at_seq-append s (ticket_of rec) (flat_map ticket_of r)))
    (All-append (IsDrawnIn (rec ∷ r)) (at_seq s (ticket_of rec)) (tickets r s) (tickets-of-one s rec r)
    (All-weaker (IsDrawnIn r) (IsDrawnIn (rec ∷ r))
    (λ k h. drawn-behind (draws_of rec) (flat_map draws_of r) k h) (tickets r s) (tickets-drawn s r)))

last-among : (P : ℕ → Type 0) (d : ℕ) (xs : List ℕ) → P d → AllByRecursion P xs → P (last_or d xs)
last-among P d [] h all = h
last-among P d (x ∷ xs) h all = last-among P x xs all.0 all.1

-- the MessageID of a request is one that the node issued
request-drawn : (r a : List Fact) (s : ℕ) → Keeps r a → IsRequest a (issue (number r) (last_or 0 (tickets r s)))
request-drawn r a s w = record {
  ticket = last_or 0 (tickets r s);
  drawn = last-among (λ k. (k ≡ 0) ⊎ IsDrawnIn a k) 0 (tickets r s) (inl refl)
      (All-weaker (IsDrawnIn r) (λ k. (k ≡ 0) ⊎ IsDrawnIn a k)
      (λ k h. inr (subst (λ ds. has_number ds k ≡ true) w.same.frame.draws h)) (tickets r s) (tickets-drawn s r));
  is = ap (λ n. issue n (last_or 0 (tickets r s))) (kept-number r a w);
}

close_request-says : (r a : List Fact) (s : ℕ) (x : Option Epr) (y : Option Text) (name : Text) → Keeps r a
    → phase r s ≡ out.Closing
    → out_ident r s ≡ y → AllByRecursion (Says a) (option_to_list (finish_request r s x y name life.Close))
close_request-says r a s (Some to) (Some q) name w e i = (
  record {
    data_ = tt;
    acks = tt;
    create = tt;
    place = tt;
    name = request-drawn r a s w;
    response = tt;
    final = final-at r a s q out.Closing w e tt i;
  },
  tt,
)
close_request-says r a s (Some to) None name w e i = tt
close_request-says r a s None y name w e i = tt

terminate_request-says : (r a : List Fact) (s : ℕ) (x : Option Epr) (y : Option Text) (name : Text) → Keeps r a
    → phase r s ≡ out.Ending
    → out_ident r s ≡ y → AllByRecursion (Says a) (option_to_list (finish_request r s x y name life.Terminate))
terminate_request-says r a s (Some to) (Some q) name w e i = (
  record {
    data_ = tt;
    acks = tt;
    create = tt;
    place = tt;
    name = request-drawn r a s w;
    response = tt;
    final = final-at r a s q out.Ending w e tt i;
  },
  tt,
)
terminate_request-says r a s (Some to) None name w e i = tt
terminate_request-says r a s None y name w e i = tt

pub request_at-says : (r a : List Fact) (s : ℕ) → Keeps r a → AllByRecursion (Says a) (option_to_list (request_at r s))
request_at-says r a s w = by_phase (phase r s) refl
  where
    by_phase : (p : OutPhase) → phase r s ≡ p → AllByRecursion (Says a) (option_to_list (request_by r s p))
    by_phase out.Creating e = create_request-says r a s (maker r s) w refl
    by_phase out.Closing e = close_request-says r a s (peer r s) (out_ident r s) _ w e refl
    by_phase out.Ending e = terminate_request-says r a s (peer r s) (out_ident r s) _ w e refl
    by_phase _ e = tt

-- the final acknowledgement of a close
pub final_ack-says : (r a : List Fact) (s now : ℕ) → Keeps r a
    → AllByRecursion (Says a) (final_ack r s now (made_by r (maker r s)))
final_ack-says r a s now w = by_maker (maker r s) refl
  where
    by_made : (m : Maker) (x : Option (ℕ × Text)) → maker r s ≡ Some m → incoming_of (number r) m ≡ x
        → AllByRecursion (Says a) (final_ack r s now x)
    by_made m None e f = tt
    by_made m (Some made) e f =
        let q = issue (number r) made.0 in
        own_messages-says a (ack_to (acks_to r s) (block_of r s q now))
        (ack_to-says a (acks_to r s) (block_of r s q now)
        (block-says r a s now q made.1 w (record { counter = made.0; maker_ = m; there = e; made = f; is = refl })))

    by_maker : (x : Option Maker) → maker r s ≡ x → AllByRecursion (Says a) (final_ack r s now (made_by r x))
    by_maker None e = tt
    by_maker (Some m) e = by_made m (incoming_of (number r) m) e refl

-- faults
no_create : (a : List Fact) (t : Option Text) (f : FaultBody) → SaysCreate a t (body.Fault f)
no_create a None f = tt
no_create a (Some t) f = tt

no_accept : (a : List Fact) (t : Option Text) (f : FaultBody) → SaysResponse a t (body.Fault f)
no_accept a None f = tt
no_accept a (Some t) f = tt

fault-says : (a : List Fact) (blocks : List AckBlock) (m : Message) → IsFault blocks m
    → AllByRecursion (SaysBlock a) blocks → Says a m
fault-says a blocks m h k = record {
  data_ = subst (λ z. SaysData a z m.body) (sym h.sequence) tt;
  acks = subst (AllByRecursion (SaysBlock a)) (sym h.acks) k;
  create = subst (SaysCreate a m.addressing.message_id) (sym h.body) (no_create a m.addressing.message_id h.content);
  response = subst (SaysResponse a m.addressing.relates) (sym h.body) (no_accept a m.addressing.relates h.content);
  final = subst (SaysFinal a) (sym h.body) tt;
  place = subst (SaysPlace a m.addressing.to) (sym h.body) tt;
  name = subst (λ content. SaysName a content m.addressing.message_id) (sym h.body) tt;
}

no_blocks : (a : List Fact) (kind : FaultKind) → AllByRecursion (SaysBlock a) (header_blocks kind None)
no_blocks a SequenceClosed = tt
no_blocks a _ = tt

pub refusal-says : (terms : Terms) (a : List Fact) (refusal : Refusal) → AreTerms terms
    → Says a (terms.fault refusal None)
refusal-says terms a refusal t = fault-says a (header_blocks refusal.kind None) (terms.fault refusal None)
    (t.fault refusal None) (no_blocks a refusal.kind)

block_by-says : (r a : List Fact) (now : ℕ) (q : Text) (x : Option ℕ) → Keeps r a → find_incoming r q ≡ x
    → AllByRecursion (SaysBlock a) (option_to_list (block_by r now q x))
block_by-says r a now q None w e = tt
block_by-says r a now q (Some s) w e = (found-says r a s now q w e, tt)

block_at-says : (r a : List Fact) (now : ℕ) (h : Option SeqHeader) → Keeps r a
    → AllByRecursion (SaysBlock a) (option_to_list (block_at r now h))
block_at-says r a now None w = tt
block_at-says r a now (Some h) w = block_by-says r a now h.ident (find_incoming r h.ident) w refl

fault_block-says : (r a : List Fact) (now : ℕ) (m : Message) (kind : FaultKind) → Keeps r a
    → AllByRecursion (SaysBlock a) (header_blocks kind (fault_block r now m kind))
fault_block-says r a now m SequenceClosed w = block_at-says r a now m.sequence w
fault_block-says r a now m _ w = tt

pub verdict-says : (terms : Terms) (r a : List Fact) (now : ℕ) (m : Message) (kind : FaultKind) → AreTerms terms
    → Keeps r a
    → Says a (terms.fault (refusal_of m kind) (fault_block r now m kind))
verdict-says terms r a now m kind t w =
    fault-says a (header_blocks kind (fault_block r now m kind))
    (terms.fault (refusal_of m kind) (fault_block r now m kind))
    (t.fault (refusal_of m kind) (fault_block r now m kind)) (fault_block-says r a now m kind w)
