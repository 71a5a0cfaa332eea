-- The records that come with a message that was read stay within the limits of a node.
use Rattle.std.proofs.Common.{◌≡◌, ℕ, ◌+◌, ◌<◌, ◌-◌, Bool, true, false, cond, List, [], ◌∷◌}
use Rattle.std.proofs.Common.{◌++◌, length, refl, sym, ap, subst, ◌∙◌, arith, inl, inr, append-nil, append_assoc}
use Rattle.std.proofs.Common.{Option, Some, None}
use Rattle.std.specs.Prelude.{◌&&◌, ◌||◌, not, nat_le, nat_lt, is_none, IfSome}
use Rattle.std.specs.List.{AllByRecursion}
use Rattle.std.proofs.lemmas.Bool.{ltb-true}
use Rattle.std.proofs.lemmas.Bool.Decides.{nat_tests}
use Rattle.rm_sides.specs.declared.ranges.range.Range.{Range}
use Rattle.rm_sides.specs.Ranges.Changes.{united, covers_all}
use Rattle.rm_sides.specs.Ranges.Laws.{RangeIsAdded}
use Rattle.rm_base.specs.Limits.{most_sequences, window}
use Rattle.rm_base.specs.NumberSet.{has_number}
use Rattle.rm_base.specs.Text.{IsText}
use Rattle.rm_base.specs.declared.message.Behaviour.{Behaviour}
use Rattle.rm_base.specs.declared.message.Cause.TheVariants.{Peer, NotTaken}
use Rattle.rm_base.specs.declared.message.Payload.{Payload}
use Rattle.rm_message.specs.Elements.Writable.{IsAckWritable, IsKindWritable, IsRange, IsOfferWritable}
use Rattle.rm_message.specs.Elements.Writable.{IsCreateWritable}
use Rattle.rm_message.specs.Elements.Writable.{IsResponseWritable}
use Rattle.rm_message.specs.declared.elements.header.AckBlock.{AckBlock}
use Rattle.rm_message.specs.declared.elements.header.AckKind.{AckKind}
use Rattle.rm_message.specs.declared.elements.header.AckKind.TheVariants as kind
use Rattle.rm_message.specs.declared.elements.header.SeqHeader.{SeqHeader}
use Rattle.rm_message.specs.declared.elements.lifecycle.CreateResponse.{CreateResponse}
use Rattle.rm_message.specs.declared.elements.lifecycle.CreateSequence.{CreateSequence}
use Rattle.rm_message.specs.declared.elements.lifecycle.Lifecycle.TheVariants as life
use Rattle.rm_message.specs.declared.elements.lifecycle.Offer.{Offer}
use Rattle.rm_sides.specs.declared.source.phase.OutPhase.{OutPhase}
use Rattle.rm_sides.specs.declared.source.phase.OutPhase.TheVariants as out
use Rattle.rm_message.specs.declared.message.Body.{Body}
use Rattle.rm_message.specs.declared.message.Body.TheVariants as body
use Rattle.rm_message.specs.declared.message.Message.{Message}
use Rattle.soap_document.specs.Profile.Tree.{Element}
use Rattle.soap_document.specs.declared.profile.name.Expanded.{Expanded}
use Rattle.wsa_headers.specs.declared.endpoint.Epr.{Epr}
use Rattle.record_batch.specs.declared.record.PeerOffer.{PeerOffer}
use Rattle.record_batch.specs.Fact.{Fact, Created, Granted, Acked, Received, ClosedOut, Closed, EndedOut, Ended}
use Rattle.record_batch.specs.Fact.{Failed}
use Rattle.record_batch.specs.Sequences.Words.{Text}
use Rattle.record_batch.specs.Sequences.Makers.{makers, makers_of, maker, counter}
use Rattle.record_batch.specs.Sequences.Sources.{acked, is_sending, phase}
use Rattle.record_batch.specs.Sequences.Destinations.{held, front, has_end, is_ended, is_over}
use Rattle.record_batch.specs.Sequences.Find.{find_incoming, find_outgoing, find_grant, find_creating, is_granted}
use Rattle.record_batch.specs.Sequences.Find.{is_offered}
use Rattle.record_batch.specs.Sequences.Find.{find_from}
use Rattle.record_batch.specs.Sequences.GatherLemmas.{flat_map-more}
use Rattle.rm_protocol.specs.Addresses.{is_anonymous, is_nowhere}
use Rattle.rm_protocol.specs.Detail.{named_in}
use Rattle.rm_protocol.specs.Rows.{then_row, ranges_of, last_of, ack_at, ack_row, final_at, final_row, ack_rows}
use Rattle.rm_protocol.specs.Rows.{data_row_at, data_row, taken_of, create_at, create_row, drop_at, drop_unless}
use Rattle.rm_protocol.specs.Rows.{response_at, response_row, close_at, terminate_at, closed_in, ended_in, closed_at}
use Rattle.rm_protocol.specs.Rows.{ended_at, refused_at, refused_row, failed_in, failed_at, shut_at, is_fault}
use Rattle.rm_protocol.specs.Rows.{fault_row, body_row, rows}
use Rattle.rm_protocol.specs.Terms.{Terms}
use Rattle.rm_protocol.specs.Verdict.{refuses_create}
use Rattle.node_laws.specs.Read.{IsBodyRead, WasRead}
use Rattle.node_laws.specs.Records.{KeepsLimits, HasValues, IsOfferKept, HasIdent}
use Rattle.node_laws.proofs.Counts.{IsProper, united-canonical}
use Rattle.node_laws.proofs.Kept.{HasRoom, IsAllowed, AreAllowed}
use Rattle.node_laws.proofs.Lists.{All-append}
use Rattle.node_laws.proofs.Near.{TakesNear}

-- ---- records that are allowed after any others

-- it makes no sequence, accepts nothing and receives nothing
pub record IsQuiet (f : Fact) : Type 0 where
  pub limits : KeepsLimits f
  pub values : HasValues f
  pub makers_ : makers_of f ≡ []
  pub room : (r : List Fact) → HasRoom r f
  pub near : (r : List Fact) → TakesNear r f

pub quiet-allowed : (r : List Fact) (f : Fact) → IsQuiet f → IsAllowed r f
quiet-allowed r f q = record {
  limits = q.limits;
  values = q.values;
  places = inr q.makers_;
  room = q.room r;
  near = q.near r;
}

pub quiets-allowed : (r fs : List Fact) → AllByRecursion IsQuiet fs → AreAllowed r fs
quiets-allowed r [] q = tt
quiets-allowed r (f ∷ fs) q = (quiet-allowed r f q.0, quiets-allowed (r ++ f ∷ []) fs q.1)

quiets-make-none : (r fs : List Fact) → AllByRecursion IsQuiet fs → makers (r ++ fs) ≡ makers r
quiets-make-none r [] q = ap makers (append-nil r)
quiets-make-none r (f ∷ fs) q =
    ap makers (sym (append_assoc r (f ∷ []) fs)) ∙ quiets-make-none (r ++ f ∷ []) fs q.1
    ∙ flat_map-more makers_of r f ∙ ap (λ ms. makers r ++ ms) q.0.makers_ ∙ append-nil (makers r)

allowed-append : (r d e : List Fact) → AreAllowed r d → AreAllowed (r ++ d) e → AreAllowed r (d ++ e)
allowed-append r [] e h k = subst (λ z. AreAllowed z e) (append-nil r) k
allowed-append r (f ∷ d) e h k =
    (h.0, allowed-append (r ++ f ∷ []) d e h.1 (subst (λ z. AreAllowed z e) (sym (append_assoc r (f ∷ []) d)) k))

-- records that have nothing to keep
pub plain : (f : Fact) → KeepsLimits f → HasValues f → makers_of f ≡ [] → ((r : List Fact) → HasRoom r f)
    → ((r : List Fact) → TakesNear r f) → AllByRecursion IsQuiet (f ∷ [])
plain f l v m a b = (record { limits = l; values = v; makers_ = m; room = a; near = b }, tt)

closed_out-quiet : (s : ℕ) → AllByRecursion IsQuiet (ClosedOut s ∷ [])
closed_out-quiet s = plain (ClosedOut s) tt tt refl (λ r. tt) (λ r. tt)

ended_out-quiet : (s : ℕ) → AllByRecursion IsQuiet (EndedOut s ∷ [])
ended_out-quiet s = plain (EndedOut s) tt tt refl (λ r. tt) (λ r. tt)

failed-quiet : (s fault : ℕ) → AllByRecursion IsQuiet (Failed s fault ∷ [])
failed-quiet s fault = plain (Failed s fault) tt tt refl (λ r. tt) (λ r. tt)

pub if-quiet : (x : Bool) (fs : List Fact) → AllByRecursion IsQuiet fs → AllByRecursion IsQuiet (cond x fs [])
if-quiet true fs h = h
if-quiet false fs h = tt

pub unless-quiet : (x : Bool) (fs : List Fact) → AllByRecursion IsQuiet fs → AllByRecursion IsQuiet (cond x [] fs)
unless-quiet true fs h = tt
unless-quiet false fs h = h

-- ---- acknowledgements

ranges-proper : (rs : List Range) → AllByRecursion IsRange rs → AllByRecursion IsProper rs
ranges-proper [] h = tt
ranges-proper (r ∷ rs) h = (
  record { low = omega (arith, h.0.lower.low); rises = h.0.rises; high = h.0.upper.high },
  ranges-proper rs h.1,
)

kind-proper : (k : AckKind) (last : Bool) → IsKindWritable k last → AllByRecursion IsProper (ranges_of k)
kind-proper (kind.Ranges rs) last h = ranges-proper rs h.1
kind-proper kind.Nothing last h = tt
kind-proper (kind.Nack numbers) last h = tt

ack_at-quiet : RangeIsAdded → (x : Option ℕ) (rs : List Range) (r : List Fact) → AllByRecursion IsProper rs
    → AllByRecursion IsQuiet (ack_at x rs r)
ack_at-quiet law None rs r h = tt
ack_at-quiet law (Some s) rs r h =
    unless-quiet (covers_all (united [] (acked r s)) rs) (Acked s (united [] rs) ∷ [])
    (plain (Acked s (united [] rs)) tt (united-canonical law [] rs tt h) refl (λ z. tt) (λ z. tt))

final_at-quiet : (x : Option ℕ) (last : Bool) (r : List Fact) → AllByRecursion IsQuiet (final_at x last r)
final_at-quiet (Some s) true r = if-quiet (is_sending (phase r s)) (ClosedOut s ∷ []) (closed_out-quiet s)
final_at-quiet (Some s) false r = tt
final_at-quiet None last r = tt

ack_rows-quiet : RangeIsAdded → (blocks : List AckBlock) (r : List Fact) → AllByRecursion IsAckWritable blocks
    → AllByRecursion IsQuiet (ack_rows blocks r)
ack_rows-quiet law [] r h = tt
ack_rows-quiet law (block ∷ blocks) r h =
    let ranges = ack_at-quiet law (find_outgoing r block.ident) (ranges_of block.kind) r
    (kind-proper block.kind block.last h.0.kind) in
    let now = r ++ ack_row block r in
    let one = All-append IsQuiet (ack_row block r) (final_row block now) ranges
    (final_at-quiet (find_outgoing now block.ident) block.last now) in
    All-append IsQuiet (then_row (ack_row block) (final_row block) r) _ one
    (ack_rows-quiet law blocks (r ++ then_row (ack_row block) (final_row block) r) h.1)

-- ---- data

data-allowed : (now : ℕ) (x : Option ℕ) (n : ℕ) (p : Payload) (r : List Fact) → AreAllowed r (data_row_at now x n p r)
data-allowed now None n p r = tt
data-allowed now (Some s) n p r =
    by_tests (has_number (held r s) n) (is_over r s now) (nat_lt (front r s + window) n) refl
  where
    by_tests : (x y z : Bool) → nat_lt (front r s + window) n ≡ z
        → AreAllowed r (cond x [] (cond y [] (cond z [] (Received s n p ∷ []))))
    by_tests true y z e = tt
    by_tests false true z e = tt
    by_tests false false true e = tt
    by_tests false false false e = (
      record { limits = tt; values = tt; places = inr refl; room = tt; near = grind (arith, nat_tests) },
      tt,
    )

data_row-allowed : (now : ℕ) (h : Option SeqHeader) (p : Payload) (r : List Fact) → AreAllowed r (data_row now h p r)
data_row-allowed now None p r = tt
data_row-allowed now (Some h) p r = data-allowed now (find_incoming r h.ident) h.number p r

-- ---- CreateSequence

-- an offer that was taken
record IsTaking (r : List Fact) (offer : Option PeerOffer) : Type 0 where
  limits : IfSome offer IsOfferKept
  values : IfSome offer HasIdent
  places : IfSome offer (λ (x : PeerOffer). length (makers r) < most_sequences - 1)

taking : (r : List Fact) (offer : Option Offer) → IfSome offer IsOfferWritable → IsTaking r (taken_of r offer)
taking r None h = record { limits = tt; values = tt; places = tt }
taking r (Some offer) h =
    by_test (is_none (find_outgoing r offer.ident)) (not (is_anonymous offer.endpoint.address))
    (not (is_nowhere offer.endpoint.address)) (nat_lt (length (makers r)) (most_sequences - 1)) refl
  where
    by_test : (a b c d : Bool) → nat_lt (length (makers r)) (most_sequences - 1) ≡ d
        → IsTaking r (cond (a && (b && (c && d)))
        (Some (record { ident = offer.ident; endpoint = offer.endpoint })) None)
    by_test true true true true e =
        record { limits = h.endpoint; values = h.ident; places = ltb-true (length (makers r)) (most_sequences - 1) e }
    by_test true true true false e = record { limits = tt; values = tt; places = tt }
    by_test true true false d e = record { limits = tt; values = tt; places = tt }
    by_test true false c d e = record { limits = tt; values = tt; places = tt }
    by_test false b c d e = record { limits = tt; values = tt; places = tt }

granted-allowed : (r : List Fact) (drawn : ℕ) (t : Text) (c : CreateSequence) (y : Behaviour) (deadline : Option ℕ)
    (offer : Option PeerOffer) → IsText 2048 t → IsCreateWritable c → IsTaking r offer
    → length (makers r) < most_sequences
    → IsAllowed r (Granted drawn t c.acks_to y deadline c.expires offer)
granted-allowed r drawn t c y deadline None is h k few = record {
  limits = (h.acks_to, h.expires, tt);
  values = (is, tt);
  places = inl (omega (arith, few));
  room = tt;
  near = tt;
}
granted-allowed r drawn t c y deadline (Some offer) is h k few = record {
  limits = (h.acks_to, h.expires, k.limits);
  values = (is, k.values);
  places = inl (omega (arith, k.places));
  room = tt;
  near = tt;
}

create-allowed : (r : List Fact) (terms : Terms) (now : ℕ) (y : Behaviour) (t : Option Text) (c : CreateSequence)
    → refuses_create r t (body.Lifecycle (life.Create c)) ≡ false → IfSome t (IsText 2048) → IsCreateWritable c
    → AreAllowed r (create_row terms now y t c r)
create-allowed r terms now y None c e is h = tt
create-allowed r terms now y (Some t) c e is h =
    by_grant (find_grant r t) (is_nowhere c.acks_to.address) (nat_le most_sequences (length (makers r))) refl e
  where
    by_grant : (x : Option ℕ) (a b : Bool) → nat_le most_sequences (length (makers r)) ≡ b
        → (is_none x && (a || b)) ≡ false
        → AreAllowed r (create_at terms now y x t c r)
    by_grant (Some s) a b f k = tt
    by_grant None true b f k = absurd (cc)
    by_grant None false true f k = absurd (cc)
    by_grant None false false f k =
        let few : length (makers r) < most_sequences = grind (arith, nat_tests) in (
          granted-allowed r (counter r + 1) t c y (terms.deadline now c.expires) (taken_of r c.offer) is h
              (taking r c.offer h.offer) few,
          tt,
        )

-- ---- responses, and what closes and ends

drop_at-quiet : (s : ℕ) (r : List Fact) → AllByRecursion IsQuiet (drop_at s r)
drop_at-quiet s r =
    if-quiet (is_offered (maker r (s + 1)) && not (has_end r (s + 1))) (Ended (s + 1) NotTaken 0 ∷ [])
    (plain (Ended (s + 1) NotTaken 0) tt tt refl (λ z. tt) (λ z. tt))

drop_unless-quiet : (accept : Option Epr) (s : ℕ) (r : List Fact) → AllByRecursion IsQuiet (drop_unless accept s r)
drop_unless-quiet None s r = drop_at-quiet s r
drop_unless-quiet (Some endpoint) s r = tt

response_at-quiet : (x y : Option ℕ) (c : CreateResponse) (r : List Fact) → IsResponseWritable c
    → AllByRecursion IsQuiet (response_at x y c r)
response_at-quiet (Some s) None c r h = (
  (plain (Created s c.ident c.accept) h.accept h.ident refl (λ z. tt) (λ z. tt)).0,
  drop_unless-quiet c.accept s r,
)
response_at-quiet (Some s) (Some z) c r h = tt
response_at-quiet None y c r h = tt

response-quiet : (t : Option Text) (c : CreateResponse) (r : List Fact) → IsResponseWritable c
    → AllByRecursion IsQuiet (response_row t c r)
response-quiet None c r h = tt
response-quiet (Some t) c r h = response_at-quiet (find_creating r t) (find_outgoing r c.ident) c r h

close-quiet : (now : ℕ) (x : Option ℕ) (n : ℕ) (r : List Fact) → AllByRecursion IsQuiet (close_at now x n r)
close-quiet now None n r = tt
close-quiet now (Some s) n r =
    unless-quiet (is_over r s now) (Closed s Peer n ∷ []) (plain (Closed s Peer n) tt tt refl (λ z. tt) (λ z. tt))

terminate-quiet : (now : ℕ) (x : Option ℕ) (n : ℕ) (r : List Fact) → AllByRecursion IsQuiet (terminate_at now x n r)
terminate-quiet now None n r = tt
terminate-quiet now (Some s) n r =
    unless-quiet (is_ended r s now) (Ended s Peer n ∷ []) (plain (Ended s Peer n) tt tt refl (λ z. tt) (λ z. tt))

closed_in-quiet : (s : ℕ) (p : OutPhase) → AllByRecursion IsQuiet (closed_in s p)
closed_in-quiet s out.Closing = closed_out-quiet s
closed_in-quiet s _ = tt

closed-quiet : (x : Option ℕ) (r : List Fact) → AllByRecursion IsQuiet (closed_at x r)
closed-quiet None r = tt
closed-quiet (Some s) r = closed_in-quiet s (phase r s)

ended_in-quiet : (s : ℕ) (p : OutPhase) → AllByRecursion IsQuiet (ended_in s p)
ended_in-quiet s out.Ending = ended_out-quiet s
ended_in-quiet s _ = tt

ended-quiet : (x : Option ℕ) (r : List Fact) → AllByRecursion IsQuiet (ended_at x r)
ended-quiet None r = tt
ended-quiet (Some s) r = ended_in-quiet s (phase r s)

-- ---- faults

refused_at-quiet : (x : Option ℕ) (r : List Fact) → AllByRecursion IsQuiet (refused_at x r)
refused_at-quiet None r = tt
refused_at-quiet (Some s) r = ((failed-quiet s 17).0, drop_at-quiet s r)

refused-quiet : (t : Option Text) (r : List Fact) → AllByRecursion IsQuiet (refused_row t r)
refused-quiet None r = tt
refused-quiet (Some t) r = refused_at-quiet (find_creating r t) r

failed_in-quiet : (fault s : ℕ) (p : OutPhase) → AllByRecursion IsQuiet (failed_in fault s p)
failed_in-quiet fault s out.Ending = ended_out-quiet s
failed_in-quiet fault s out.Open = failed-quiet s fault
failed_in-quiet fault s out.Closing = failed-quiet s fault
failed_in-quiet fault s out.Closed = failed-quiet s fault
failed_in-quiet fault s _ = tt

failed_at-quiet : (fault : ℕ) (x : Option ℕ) (r : List Fact) → AllByRecursion IsQuiet (failed_at fault x r)
failed_at-quiet fault None r = tt
failed_at-quiet fault (Some s) r = failed_in-quiet fault s (phase r s)

shut-quiet : (x : Option ℕ) (r : List Fact) → AllByRecursion IsQuiet (shut_at x r)
shut-quiet None r = tt
shut-quiet (Some s) r = if-quiet (is_sending (phase r s)) (ClosedOut s ∷ []) (closed_out-quiet s)

fault-quiet : (t : Option Text) (subcode : Option Expanded) (detail : List Element) (r : List Fact)
    → AllByRecursion IsQuiet (fault_row t subcode detail r)
fault-quiet t subcode detail r =
    chosen (is_fault _ subcode) (is_fault _ subcode) (is_fault _ subcode) (is_fault _ subcode) (is_fault _ subcode)
  where
    chosen : (v w x y z : Bool) → AllByRecursion IsQuiet (cond v (refused_row t r) (cond w
        (failed_at 14 (named_in r detail) r) (cond x (failed_at 13 (named_in r detail) r)
        (cond y (failed_at 11 (named_in r detail) r) (cond z (shut_at (named_in r detail) r) [])))))
    chosen true w x y z = refused-quiet t r
    chosen false true x y z = failed_at-quiet 14 (named_in r detail) r
    chosen false false true y z = failed_at-quiet 13 (named_in r detail) r
    chosen false false false true z = failed_at-quiet 11 (named_in r detail) r
    chosen false false false false true = shut-quiet (named_in r detail) r
    chosen false false false false false = tt

-- ---- all rows

body-allowed : (r : List Fact) (terms : Terms) (now : ℕ) (y : Behaviour) (m : Message) (content : Body)
    → refuses_create r m.addressing.message_id content ≡ false → IfSome m.addressing.message_id (IsText 2048)
    → IsBodyRead content → AreAllowed r (body_row terms now y m content r)
body-allowed r terms now y m (body.Payload p) e is h = data_row-allowed now m.sequence p r
body-allowed r terms now y m (body.Lifecycle (life.Create x)) e is h =
    create-allowed r terms now y m.addressing.message_id x e is h
body-allowed r terms now y m (body.Lifecycle (life.CreateResponse x)) e is h =
    quiets-allowed r _ (response-quiet m.addressing.relates x r h)
body-allowed r terms now y m (body.Lifecycle (life.Close x)) e is h =
    quiets-allowed r _ (close-quiet now (find_incoming r x.ident) (last_of x.last_number) r)
body-allowed r terms now y m (body.Lifecycle (life.Terminate x)) e is h =
    quiets-allowed r _ (terminate-quiet now (find_incoming r x.ident) (last_of x.last_number) r)
body-allowed r terms now y m (body.Lifecycle (life.CloseResponse q)) e is h =
    quiets-allowed r _ (closed-quiet (find_outgoing r q) r)
body-allowed r terms now y m (body.Lifecycle (life.TerminateResponse q)) e is h =
    quiets-allowed r _ (ended-quiet (find_outgoing r q) r)
body-allowed r terms now y m (body.Fault x) e is h =
    quiets-allowed r _ (fault-quiet m.addressing.relates x.subcode x.detail r)
body-allowed r terms now y m (body.Lifecycle (life.Make x)) e is h = tt
body-allowed r terms now y m body.Empty e is h = tt

refuses-kept : (r new : List Fact) (t : Option Text) (content : Body) → makers new ≡ makers r
    → refuses_create new t content ≡ refuses_create r t content
refuses-kept r new (Some t) (body.Lifecycle (life.Create c)) e =
    ap (λ ms. is_none (find_from (is_granted t) 0 ms)
    && (is_nowhere c.acks_to.address || nat_le most_sequences (length ms))) e
refuses-kept r new _ _ e = refl

pub rows-allowed : RangeIsAdded → (r : List Fact) (terms : Terms) (now : ℕ) (y : Behaviour) (m : Message) → WasRead m
    → refuses_create r m.addressing.message_id m.body ≡ false → AreAllowed r (rows terms now y m r)
rows-allowed law r terms now y m is e =
    let acks = ack_rows-quiet law m.acks r is.acks in
    let new = r ++ ack_rows m.acks r in
    allowed-append r (ack_rows m.acks r) (body_row terms now y m m.body new)
    (quiets-allowed r (ack_rows m.acks r) acks)
    (body-allowed new terms now y m m.body
    (refuses-kept r new m.addressing.message_id m.body (quiets-make-none r (ack_rows m.acks r) acks) ∙ e)
    is.addressing.message_id is.body)
