-- What the rows of the receiving table add for a message, record by record.
use Rattle.std.proofs.Common.{◌≡◌, ℕ, suc, ◌+◌, ◌&&◌, not, nat_lt, cond, Bool, true, false, List, [], ◌∷◌, ◌++◌}
use Rattle.std.proofs.Common.{length, refl, inl, inr, ◌-◌}
use Rattle.std.specs.Prelude.{Option, Some, None, IfSome, is_none, slice_get}
use Rattle.std.specs.List.{AllByRecursion}
use Rattle.rm_base.specs.Limits.{most_sequences, window}
use Rattle.rm_base.specs.NumberSet.{has_number}
use Rattle.rm_base.specs.declared.message.Behaviour.{Behaviour}
use Rattle.rm_base.specs.declared.message.Cause.TheVariants.{Peer, NotTaken}
use Rattle.rm_base.specs.declared.message.Payload.{Payload}
use Rattle.rm_message.specs.declared.elements.header.AckBlock.{AckBlock}
use Rattle.rm_message.specs.declared.elements.header.SeqHeader.{SeqHeader}
use Rattle.rm_message.specs.declared.elements.lifecycle.CreateResponse.{CreateResponse}
use Rattle.rm_message.specs.declared.elements.lifecycle.CreateSequence.{CreateSequence}
use Rattle.rm_message.specs.declared.elements.lifecycle.Lifecycle.TheVariants as life
use Rattle.rm_message.specs.declared.elements.lifecycle.Offer.{Offer}
use Rattle.rm_sides.specs.declared.source.phase.OutPhase.{OutPhase}
use Rattle.rm_sides.specs.declared.source.phase.OutPhase.TheVariants as out
use Rattle.rm_message.specs.declared.message.Body.{Body}
use Rattle.rm_message.specs.declared.message.Body.TheVariants as body
use Rattle.rm_message.specs.declared.message.Message.{Message}
use Rattle.wsa_headers.specs.declared.endpoint.Epr.{Epr}
use Rattle.record_batch.specs.declared.record.PeerOffer.{PeerOffer}
use Rattle.record_batch.specs.Fact.{Fact, Acked, Received, ClosedOut, Closed, Ended}
use Rattle.record_batch.specs.Sequences.Words.{Text}
use Rattle.record_batch.specs.Sequences.Makers.{maker, makers}
use Rattle.record_batch.specs.Sequences.Sources.{acked, is_sending, phase}
use Rattle.record_batch.specs.Sequences.Destinations.{held, front, has_end, is_ended, is_over}
use Rattle.record_batch.specs.Sequences.Find.{find_incoming, find_outgoing, find_grant, find_creating, is_offered}
use Rattle.rm_sides.specs.Ranges.Changes.{covers_all, united}
use Rattle.soap_document.specs.Profile.Tree.{Element}
use Rattle.soap_document.specs.declared.profile.name.Expanded.{Expanded}
use Rattle.rm_protocol.specs.Detail.{named_in}
use Rattle.rm_protocol.specs.Addresses.{is_anonymous, is_nowhere}
use Rattle.rm_protocol.specs.Heard.{Heard, IsOffered}
use Rattle.rm_protocol.specs.Rows.{then_row, ranges_of, last_of, ack_at, ack_row, final_at, final_row, ack_rows}
use Rattle.rm_protocol.specs.Rows.{data_row_at, data_row, create_at, create_row, drop_at, drop_unless, response_at}
use Rattle.rm_protocol.specs.Rows.{response_row, close_at, terminate_at, closed_in, ended_in, closed_at, ended_at}
use Rattle.rm_protocol.specs.Rows.{refused_at, refused_row, failed_in, failed_at, shut_at, is_fault, fault_row}
use Rattle.rm_protocol.specs.Rows.{body_row, rows, taken_of}
use Rattle.rm_protocol.specs.Terms.{Terms}
use Rattle.rm_protocol.proofs.ListLemmas.{All-append}

abbrev AreHeard : Message → List Fact → Type 0
AreHeard m d = AllByRecursion (Heard m) d

if_heard : (m : Message) (b : Bool) (rec : Fact) → Heard m rec → AreHeard m (cond b (rec ∷ []) [])
if_heard m true rec e = (e, tt)
if_heard m false rec e = tt

unless_heard : (m : Message) (b : Bool) (rec : Fact) → Heard m rec → AreHeard m (cond b [] (rec ∷ []))
unless_heard m true rec e = tt
unless_heard m false rec e = (e, tt)

-- the block stands among those of the message
abbrev IsAmong : Message → AckBlock → Type 0
IsAmong m k = (i : ℕ) × (slice_get m.acks i ≡ Some k)

one_row-heard : (m : Message) (k : AckBlock) (r : List Fact) → IsAmong m k
    → AreHeard m (then_row (ack_row k) (final_row k) r)
one_row-heard m k r h =
    All-append (Heard m) (ack_row k r) (final_row k (r ++ ack_row k r)) (by_found (find_outgoing r k.ident))
    (by_final (r ++ ack_row k r) (find_outgoing (r ++ ack_row k r) k.ident) k.last)
  where
    by_found : (x : Option ℕ) → AreHeard m (ack_at x (ranges_of k.kind) r)
    by_found None = tt
    by_found (Some s) =
        unless_heard m (covers_all (united [] (acked r s)) (ranges_of k.kind))
        (Acked s (united [] (ranges_of k.kind))) (h.0, k, h.1, refl)

    by_final : (z : List Fact) (x : Option ℕ) (y : Bool) → AreHeard m (final_at x y z)
    by_final z (Some s) true = if_heard m (is_sending (phase z s)) (ClosedOut s) tt
    by_final z _ _ = tt

ack_rows-heard : (m : Message) (ks : List AckBlock) (r : List Fact)
    → ((i : ℕ) (k : AckBlock) → slice_get ks i ≡ Some k → IsAmong m k)
    → AreHeard m (ack_rows ks r)
ack_rows-heard m [] r h = tt
ack_rows-heard m (k ∷ ks) r h =
    let one = then_row (ack_row k) (final_row k) r in
    All-append (Heard m) one (ack_rows ks (r ++ one)) (one_row-heard m k r (h 0 k refl))
    (ack_rows-heard m ks (r ++ one) (λ i z e. h (suc i) z e))

data_row-heard : (m : Message) (now : ℕ) (h : Option SeqHeader) (p : Payload) (r : List Fact) → m.sequence ≡ h
    → m.body ≡ body.Payload p
    → AreHeard m (data_row now h p r)
data_row-heard m now None p r e f = tt
data_row-heard m now (Some h) p r e f = by_found (find_incoming r h.ident)
  where
    heard : (s : ℕ) → Heard m (Received s h.number p)
    heard s = (h.ident, e, f)

    chosen : (s : ℕ) (x y z : Bool) → AreHeard m (cond x [] (cond y [] (cond z [] (Received s h.number p ∷ []))))
    chosen s false false false = (heard s, tt)
    chosen s _ _ _ = tt

    by_found : (x : Option ℕ) → AreHeard m (data_row_at now x h.number p r)
    by_found None = tt
    by_found (Some s) =
        chosen s (has_number (held r s) h.number) (is_over r s now) (nat_lt (front r s + window) h.number)

create_row-heard : (m : Message) (terms : Terms) (now : ℕ) (y : Behaviour) (t : Option Text) (c : CreateSequence)
    (r : List Fact)
    → m.addressing.message_id ≡ t → m.body ≡ body.Lifecycle (life.Create c) → AreHeard m (create_row terms now y t c r)
create_row-heard m terms now y None c r e f = tt
create_row-heard m terms now y (Some t) c r e f = by_found (find_grant r t)
  where
    taken : Offer → PeerOffer
    taken o = record { ident = o.ident; endpoint = o.endpoint }

    chosen : (o : Offer) (b : Bool) → IfSome (cond b (Some (taken o)) None) (IsOffered (Some o))
    chosen o true = (o, refl, refl)
    chosen o false = tt

    by_offer : (o : Option Offer) → IfSome (taken_of r o) (IsOffered o)
    by_offer None = tt
    by_offer (Some o) = chosen o (is_none (find_outgoing r o.ident)
        && (not (is_anonymous o.endpoint.address) &&
        (not (is_nowhere o.endpoint.address) && nat_lt (length (makers r)) (most_sequences - 1))))

    by_found : (x : Option ℕ) → AreHeard m (create_at terms now y x t c r)
    by_found None = ((e, (c, f, by_offer c.offer)), tt)
    by_found (Some s) = tt

drop_at-heard : (m : Message) (s : ℕ) (r : List Fact) → AreHeard m (drop_at s r)
drop_at-heard m s r = if_heard m (is_offered (maker r (s + 1)) && not (has_end r (s + 1))) (Ended (s + 1) NotTaken 0)
    (inr refl)

drop_unless-heard : (m : Message) (x : Option Epr) (s : ℕ) (r : List Fact) → AreHeard m (drop_unless x s r)
drop_unless-heard m None s r = drop_at-heard m s r
drop_unless-heard m (Some endpoint) s r = tt

response_row-heard : (m : Message) (t : Option Text) (c : CreateResponse) (r : List Fact)
    → m.addressing.relates ≡ t → m.body ≡ body.Lifecycle (life.CreateResponse c) → AreHeard m (response_row t c r)
response_row-heard m None c r e f = tt
response_row-heard m (Some t) c r e f = by_found (find_creating r t) (find_outgoing r c.ident)
  where
    by_found : (x y : Option ℕ) → AreHeard m (response_at x y c r)
    by_found (Some s) None = (((t, e), (c, f, refl)), drop_unless-heard m c.accept s r)
    by_found (Some s) (Some z) = tt
    by_found None y = tt

close_at-heard : (m : Message) (now : ℕ) (x : Option ℕ) (n : ℕ) (r : List Fact) → AreHeard m (close_at now x n r)
close_at-heard m now None n r = tt
close_at-heard m now (Some s) n r = unless_heard m (is_over r s now) (Closed s Peer n) refl

terminate_at-heard : (m : Message) (now : ℕ) (x : Option ℕ) (n : ℕ) (r : List Fact)
    → AreHeard m (terminate_at now x n r)
terminate_at-heard m now None n r = tt
terminate_at-heard m now (Some s) n r = unless_heard m (is_ended r s now) (Ended s Peer n) (inl refl)

closed_at-heard : (m : Message) (x : Option ℕ) (r : List Fact) → AreHeard m (closed_at x r)
closed_at-heard m None r = tt
closed_at-heard m (Some s) r = by_phase (phase r s)
  where
    by_phase : (p : OutPhase) → AreHeard m (closed_in s p)
    by_phase out.Closing = (tt, tt)
    by_phase _ = tt

ended_at-heard : (m : Message) (x : Option ℕ) (r : List Fact) → AreHeard m (ended_at x r)
ended_at-heard m None r = tt
ended_at-heard m (Some s) r = by_phase (phase r s)
  where
    by_phase : (p : OutPhase) → AreHeard m (ended_in s p)
    by_phase out.Ending = (tt, tt)
    by_phase _ = tt

refused_row-heard : (m : Message) (t : Option Text) (r : List Fact) → AreHeard m (refused_row t r)
refused_row-heard m None r = tt
refused_row-heard m (Some t) r = by_found (find_creating r t)
  where
    by_found : (x : Option ℕ) → AreHeard m (refused_at x r)
    by_found None = tt
    by_found (Some s) = (tt, drop_at-heard m s r)

failed_at-heard : (m : Message) (fault : ℕ) (x : Option ℕ) (r : List Fact) → AreHeard m (failed_at fault x r)
failed_at-heard m fault None r = tt
failed_at-heard m fault (Some s) r = by_phase (phase r s)
  where
    by_phase : (p : OutPhase) → AreHeard m (failed_in fault s p)
    by_phase out.Ending = (tt, tt)
    by_phase out.Open = (tt, tt)
    by_phase out.Closing = (tt, tt)
    by_phase out.Closed = (tt, tt)
    by_phase _ = tt

shut_at-heard : (m : Message) (x : Option ℕ) (r : List Fact) → AreHeard m (shut_at x r)
shut_at-heard m None r = tt
shut_at-heard m (Some s) r = if_heard m (is_sending (phase r s)) (ClosedOut s) tt

fault_row-heard : (m : Message) (t : Option Text) (subcode : Option Expanded) (detail : List Element) (r : List Fact)
    → AreHeard m (fault_row t subcode detail r)
fault_row-heard m t subcode detail r =
    chosen (is_fault _ subcode) (is_fault _ subcode) (is_fault _ subcode) (is_fault _ subcode) (is_fault _ subcode)
  where
    chosen : (v w x y z : Bool) → AreHeard m (cond v (refused_row t r) (cond w (failed_at 14 (named_in r detail) r)
        (cond x (failed_at 13 (named_in r detail) r)
        (cond y (failed_at 11 (named_in r detail) r) (cond z (shut_at (named_in r detail) r) [])))))
    chosen true w x y z = refused_row-heard m t r
    chosen false true x y z = failed_at-heard m 14 (named_in r detail) r
    chosen false false true y z = failed_at-heard m 13 (named_in r detail) r
    chosen false false false true z = failed_at-heard m 11 (named_in r detail) r
    chosen false false false false true = shut_at-heard m (named_in r detail) r
    chosen false false false false false = tt

body_row-heard : (terms : Terms) (now : ℕ) (y : Behaviour) (m : Message) (content : Body) (r : List Fact)
    → m.body ≡ content
    → AreHeard m (body_row terms now y m content r)
body_row-heard terms now y m (body.Payload p) r e = data_row-heard m now m.sequence p r refl e
body_row-heard terms now y m (body.Lifecycle (life.Create x)) r e =
    create_row-heard m terms now y m.addressing.message_id x r refl e
body_row-heard terms now y m (body.Lifecycle (life.CreateResponse x)) r e =
    response_row-heard m m.addressing.relates x r refl e
body_row-heard terms now y m (body.Lifecycle (life.Close x)) r e =
    close_at-heard m now (find_incoming r x.ident) (last_of x.last_number) r
body_row-heard terms now y m (body.Lifecycle (life.Terminate x)) r e =
    terminate_at-heard m now (find_incoming r x.ident) (last_of x.last_number) r
body_row-heard terms now y m (body.Lifecycle (life.CloseResponse q)) r e = closed_at-heard m (find_outgoing r q) r
body_row-heard terms now y m (body.Lifecycle (life.TerminateResponse q)) r e = ended_at-heard m (find_outgoing r q) r
body_row-heard terms now y m (body.Fault x) r e = fault_row-heard m m.addressing.relates x.subcode x.detail r
body_row-heard terms now y m (body.Lifecycle (life.Make x)) r e = tt
body_row-heard terms now y m body.Empty r e = tt

pub rows-heard : (terms : Terms) (now : ℕ) (y : Behaviour) (m : Message) (r : List Fact)
    → AllByRecursion (Heard m) (rows terms now y m r)
rows-heard terms now y m r =
    let acks = ack_rows m.acks r in
    All-append (Heard m) acks (body_row terms now y m m.body (r ++ acks))
    (ack_rows-heard m m.acks r (λ i k e. (i, e))) (body_row-heard terms now y m m.body (r ++ acks) refl)
