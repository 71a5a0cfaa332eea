-- Each row of the receiving table adds what may be added.
use Rattle.std.proofs.Common.{◌≡◌, ℕ, ◌+◌, ◌-◌, ◌&&◌, not, nat_lt, cond, Bool, true, false, List, [], ◌∷◌, ◌++◌, length}
use Rattle.std.proofs.Common.{refl, sym, ap, ◌∙◌}
use Rattle.std.specs.Prelude.{Option, Some, None, IfSome, is_none}
use Rattle.std.specs.List.{AllByRecursion}
use Rattle.rm_base.specs.Limits.{most_sequences, window}
use Rattle.rm_base.specs.NumberSet.{has_number}
use Rattle.rm_base.specs.declared.message.Behaviour.{Behaviour}
use Rattle.rm_base.specs.declared.message.Cause.TheVariants.{Peer, NotTaken}
use Rattle.rm_base.specs.declared.message.Payload.{Payload}
use Rattle.rm_message.specs.declared.elements.header.AckBlock.{AckBlock}
use Rattle.rm_message.specs.declared.elements.header.SeqHeader.{SeqHeader}
use Rattle.rm_message.specs.declared.elements.lifecycle.CreateResponse.{CreateResponse}
use Rattle.rm_message.specs.declared.elements.lifecycle.CreateSequence.{CreateSequence}
use Rattle.rm_message.specs.declared.elements.lifecycle.Lifecycle.TheVariants as life
use Rattle.rm_message.specs.declared.elements.lifecycle.Offer.{Offer}
use Rattle.rm_sides.specs.declared.source.phase.OutPhase.{OutPhase}
use Rattle.rm_sides.specs.declared.source.phase.OutPhase.TheVariants as out
use Rattle.rm_message.specs.declared.message.Body.{Body}
use Rattle.rm_message.specs.declared.message.Body.TheVariants as body
use Rattle.rm_message.specs.declared.message.Message.{Message}
use Rattle.wsa_headers.specs.declared.endpoint.Epr.{Epr}
use Rattle.record_batch.specs.declared.record.PeerOffer.{PeerOffer}
use Rattle.record_batch.specs.Fact.{Fact, Created, Acked, Received, ClosedOut, Closed, Ended, Failed}
use Rattle.rm_sides.specs.Destination.Messages.{is_empty}
use Rattle.record_batch.specs.Sequences.Words.{Text}
use Rattle.record_batch.specs.Sequences.Idents.{issue}
use Rattle.record_batch.specs.Sequences.Makers.{Maker, Outgoing, makers, maker, number, created, seq_in}
use Rattle.record_batch.specs.Sequences.Sources.{acked, is_sending, marks, out_ident, phase}
use Rattle.record_batch.specs.Sequences.Destinations.{held, front, has_end, is_ended, is_over}
use Rattle.record_batch.specs.Sequences.Find.{IsIncoming, incoming_of, find_incoming, find_outgoing, find_grant}
use Rattle.record_batch.specs.Sequences.Find.{find_creating, is_incoming, is_issued, is_creating, is_offered}
use Rattle.rm_protocol.specs.Sound.{IsAsked, IsAccepted, IsGranted, IsFinal, SaysData, SaysBlock, SaysCreate}
use Rattle.rm_protocol.specs.Sound.{SaysResponse, SaysFinal, Says, IsTold, IfWith, Justified, Owns, Fresh, Allows}
use Rattle.rm_protocol.specs.Sound.{Keeps}
use Rattle.rm_sides.specs.Ranges.Changes.{covers_all, united}
use Rattle.soap_document.specs.Profile.Tree.{Element}
use Rattle.soap_document.specs.declared.profile.name.Expanded.{Expanded}
use Rattle.std.specs.Str.{bytes_eq}
use Rattle.std.proofs.lemmas.Slice.Eq.{bytes_eq-Decides}
use Rattle.rm_protocol.specs.Addresses.{is_anonymous, is_nowhere}
use Rattle.rm_protocol.specs.Detail.{named_in}
use Rattle.rm_protocol.specs.Rows.{Row, then_row, ranges_of, last_of, ack_at, ack_row, final_at, final_row, ack_rows}
use Rattle.rm_protocol.specs.Rows.{data_row_at, data_row, taken_of, create_at, create_row, drop_at, drop_unless}
use Rattle.rm_protocol.specs.Rows.{response_at, response_row, close_at, terminate_at, closed_in, ended_in, closed_at}
use Rattle.rm_protocol.specs.Rows.{ended_at, refused_at, refused_row, failed_in, failed_at, shut_at, is_fault}
use Rattle.rm_protocol.specs.Rows.{fault_row, body_row, rows}
use Rattle.rm_protocol.specs.Terms.{Terms}
use Rattle.rm_protocol.proofs.ListLemmas.{IfSome-weaker, find-is}
use Rattle.rm_protocol.proofs.Adds.{Owns-adds, Allows-then}
use Rattle.rm_protocol.proofs.Kept.{Keeps-adds, kept-counter, kept-maker, kept-ident, kept-found, kept-Incoming}
use Rattle.rm_protocol.proofs.Kept.{kept-Asked}
use Rattle.rm_protocol.proofs.RangeLemmas.{canonical-has, united-proper}

-- a row adds only what may be added, whatever the node's own records are
abbrev pub IsRightRow : List Fact → Row → Type 0
IsRightRow b f = (n : ℕ) (r a : List Fact) → Keeps r a → Owns n a → Allows a b (f r)

pub then_row-right : (b : List Fact) (f g : Row) → IsRightRow b f → IsRightRow b g → IsRightRow b (then_row f g)
then_row-right b f g hf hg n r a w o =
    let first : Allows a b (f r) = hf n r a w o in
    Allows-then a b (f r) (g (r ++ f r)) first
    (hg n (r ++ f r) (a ++ f r) (Keeps-adds r a b (f r) first w) (Owns-adds n a b (f r) first o))

-- what find_incoming finds
pub find_incoming-is : (r : List Fact) (q : Text) (s : ℕ) → find_incoming r q ≡ Some s → (t : Text) × IsIncoming r s q t
find_incoming-is r q s e =
    let found = find-is (is_incoming (number r) q) (makers r) s e in
    by_maker r q s found.0 found.1 found.2
  where
    by_maker : (r : List Fact) (q : Text) (s : ℕ) (m : Maker) → maker r s ≡ Some m → is_incoming (number r) q s m ≡ true
        → (t : Text) × IsIncoming r s q t
    by_maker r q s m e h = by_made (incoming_of (number r) m) refl h
      where
        by_made : (x : Option (ℕ × Text)) → incoming_of (number r) m ≡ x → is_issued (number r) q x ≡ true
            → (t : Text) × IsIncoming r s q t
        by_made None d k = absurd (cc)
        by_made (Some made) d k = (
          made.1,
          record {
            counter = made.0;
            maker_ = m;
            there = e;
            made = d;
            is =
                sym ((bytes_eq-Decides (issue (number r) made.0) q).0 k);
          },
        )

-- a record that speaks of nothing else may be added
pub one-allowed : (a b : List Fact) (x : Bool) (rec : Fact) → Fresh a rec → Justified a b rec
    → Allows a b (cond x [] (rec ∷ []))
one-allowed a b true rec f j = tt
one-allowed a b false rec f j = (f, j, tt)

pub if-allowed : (a b : List Fact) (x : Bool) (rec : Fact) → Fresh a rec → Justified a b rec
    → Allows a b (cond x (rec ∷ []) [])
if-allowed a b true rec f j = (f, j, tt)
if-allowed a b false rec f j = tt

ack_row-right : (b : List Fact) (k : AckBlock) → SaysBlock b k → IsRightRow b (ack_row k)
ack_row-right b k h n r a w o = by_found (find_outgoing r k.ident) refl
  where
    by_found : (x : Option ℕ) → find_outgoing r k.ident ≡ x → Allows a b (ack_at x (ranges_of k.kind) r)
    by_found None e = tt
    by_found (Some s) e =
        let out = o.found s k.ident (kept-found r a k.ident (Some s) w e) in
        let made = o.made s k.ident out in
        one-allowed a b (covers_all (united [] (acked r s)) (ranges_of k.kind))
        (Acked s (united [] (ranges_of k.kind))) (united-proper [] (ranges_of k.kind) tt h.1)
        (record {
          maker_ = made.0;
          there = made.1;
          holds = λ g. record {
            ident = k.ident;
            outgoing = out;
            each = λ i e. h.0 i (canonical-has (ranges_of k.kind) i e);
          };
        })

pub final_row-right : (b : List Fact) (k : AckBlock) → IsRightRow b (final_row k)
final_row-right b k n r a w o = by_found (find_outgoing r k.ident) k.last
  where
    by_found : (x : Option ℕ) (y : Bool) → Allows a b (final_at x y r)
    by_found (Some s) true = if-allowed a b (is_sending (phase r s)) (ClosedOut s) tt tt
    by_found _ _ = tt

pub ack_rows-right : (b : List Fact) (ks : List AckBlock) → AllByRecursion (SaysBlock b) ks → IsRightRow b (ack_rows ks)
ack_rows-right b [] h n r a w o = tt
ack_rows-right b (k ∷ ks) h n r a w o =
    then_row-right b (then_row (ack_row k) (final_row k)) (ack_rows ks)
    (then_row-right b (ack_row k) (final_row k) (ack_row-right b k h.0) (final_row-right b k))
    (ack_rows-right b ks h.1) n r a w o

data_row_at-right : (r a b : List Fact) (now : ℕ) (x : Option ℕ) (q : Text) (i : ℕ) (p : Payload) → Keeps r a
    → find_incoming r q ≡ x
    → IsAccepted b q i p.bytes → Allows a b (data_row_at now x i p r)
data_row_at-right r a b now None q i p w e h = tt
data_row_at-right r a b now (Some s) q i p w e h =
    let found = find_incoming-is r q s e in
    let there = kept-Incoming r a s q found.0 w found.1 in
    chosen (has_number (held r s) i) (is_over r s now) (nat_lt (front r s + window) i) (λ new. (
      sym ((w.same.got s).held_ i) ∙ new,
      record {
        maker_ = there.maker_;
        there = there.there;
        holds =
            λ g. record { ident = q; message_id = found.0; incoming = there; sent = h };
      },
      tt,
    )) refl
  where
    chosen : (x y z : Bool) → (has_number (held r s) i ≡ false → Allows a b (Received s i p ∷ []))
        → has_number (held r s) i ≡ x → Allows a b (cond x [] (cond y [] (cond z [] (Received s i p ∷ []))))
    chosen false false false h e = h e
    chosen _ _ _ h e = tt

data_row-right : (b : List Fact) (now : ℕ) (h : Option SeqHeader) (p : Payload) → SaysData b h (body.Payload p)
    → IsRightRow b (data_row now h p)
data_row-right b now (Some h) p d n r a w o =
    data_row_at-right r a b now (find_incoming r h.ident) h.ident h.number p w refl d
data_row-right b now None p d n r a w o = tt

-- an offer that is taken was made, and its identifier is new
abbrev IsNewOffer : List Fact → List Fact → Text → PeerOffer → Type 0
IsNewOffer r b t taken = IsGranted b t taken.ident × (find_outgoing r taken.ident ≡ None)

taken_of-is : (r b : List Fact) (t : Text) (offer : Option Offer) → IfSome offer (λ (o : Offer). IsGranted b t o.ident)
    → IfSome (taken_of r offer) (IsNewOffer r b t)
taken_of-is r b t None h = tt
taken_of-is r b t (Some q) h =
    by_found (find_outgoing r q.ident)
    (not (is_anonymous q.endpoint.address)
    && (not (is_nowhere q.endpoint.address) && nat_lt (length (makers r)) (most_sequences - 1)))
    refl
  where
    by_found : (x : Option ℕ) (y : Bool) → find_outgoing r q.ident ≡ x
        → IfSome (cond (is_none x && y) (Some (record { ident = q.ident; endpoint = q.endpoint })) None)
        (IsNewOffer r b t)
    by_found None true e = (h, e)
    by_found None false e = tt
    by_found (Some s) y e = tt

create_at-right : (r a b : List Fact) (terms : Terms) (now : ℕ) (y : Behaviour) (x : Option ℕ) (t : Text)
    (c : CreateSequence) → Keeps r a
    → SaysCreate b (Some t) (body.Lifecycle (life.Create c)) → Allows a b (create_at terms now y x t c r)
create_at-right r a b terms now y None t c w h =
    let taken = taken_of-is r b t c.offer h.1 in (
      (
        ap (λ z. z + 1) (kept-counter r a w),
        IfSome-weaker (IsNewOffer r b t) (λ (q : PeerOffer). seq_in (created a) q.ident ≡ None)
            (λ q e. kept-found r a q.ident None w e.1) (taken_of r c.offer) taken,
      ),
      (λ k. (
        h.0,
        IfSome-weaker (IsNewOffer r b t) (λ (q : PeerOffer). IsGranted b t q.ident) (λ q e. e.0)
            (taken_of r c.offer) taken,
      )),
      tt,
    )
create_at-right r a b terms now y (Some s) t c w h = tt

create_row-right : (b : List Fact) (terms : Terms) (now : ℕ) (y : Behaviour) (t : Option Text) (c : CreateSequence)
    → SaysCreate b t (body.Lifecycle (life.Create c)) → IsRightRow b (create_row terms now y t c)
create_row-right b terms now y (Some t) c h n r a w o = create_at-right r a b terms now y (find_grant r t) t c w h
create_row-right b terms now y None c h n r a w o = tt

-- what find_creating finds is asked for, and has no identifier
pub find_creating-is : (r : List Fact) (t : Text) (s : ℕ) → find_creating r t ≡ Some s
    → IsAsked r s t × (out_ident r s ≡ None) × ((m : Maker) × (maker r s ≡ Some m))
find_creating-is r t s e =
    let found = find-is (is_creating r t) (makers r) s e in
    let asked = by_maker r t s found.0 found.1 found.2 in
    (asked.0, asked.1, (found.0, found.1))
  where
    not_created : (x : Option Text) (y : Bool) → (is_none x && y) ≡ true → x ≡ None
    not_created None y h = refl
    not_created (Some q) y h = absurd (cc)

    by_maker : (r : List Fact) (t : Text) (s : ℕ) (m : Maker) → maker r s ≡ Some m → is_creating r t s m ≡ true
        → IsAsked r s t × (out_ident r s ≡ None)
    by_maker r t s (Outgoing ticket to via lapse) e h =
        elim (bytes_eq (issue (number r) ticket) t) as (λ b. bytes_eq (issue (number r) ticket) t ≡ b
        → (b && (is_none (out_ident r s) && is_empty (marks r s))) ≡ true → IsAsked r s t × (out_ident r s ≡ None)) [
          | true ↦ λ d k. (
            record {
              ticket = ticket;
              maker_ = Outgoing ticket to via lapse;
              there = e;
              asked = refl;
              is =
                  sym ((bytes_eq-Decides (issue (number r) ticket) t).0 d);
            },
            not_created (out_ident r s) (is_empty (marks r s)) k,
          )
          | false ↦ λ d k. absurd (cc)
        ] refl h
    by_maker r t s _ e h = absurd (cc)

pub drop_at-right : (r a b : List Fact) (s : ℕ) → Allows a b (drop_at s r)
drop_at-right r a b s = if-allowed a b (is_offered (maker r (s + 1)) && not (has_end r (s + 1)))
    (Ended (s + 1) NotTaken 0) tt tt

pub drop_unless-right : (r a b : List Fact) (accept : Option Epr) (s : ℕ) → Allows a b (drop_unless accept s r)
drop_unless-right r a b None s = drop_at-right r a b s
drop_unless-right r a b (Some endpoint) s = tt

response_at-right : (r a b : List Fact) (x y : Option ℕ) (t : Text) (c : CreateResponse) → Keeps r a
    → find_creating r t ≡ x
    → find_outgoing r c.ident ≡ y → IsGranted b t c.ident → Allows a b (response_at x y c r)
response_at-right r a b (Some s) None t c w e f h =
    let found = find_creating-is r t s e in
    let there : maker a s ≡ Some found.2.0 = kept-maker r a s (Some found.2.0) w found.2.1 in (
      ((found.2.0, there), kept-found r a c.ident None w f, kept-ident r a s None w found.1),
      record {
        maker_ = found.2.0;
        there = there;
        holds =
            λ g. record { message_id = t; asked = kept-Asked r a s t w found.0; granted = h };
      },
      drop_unless-right r (a ++ Created s c.ident c.accept ∷ []) b c.accept s,
    )
response_at-right r a b (Some s) (Some z) t c w e f h = tt
response_at-right r a b None y t c w e f h = tt

response_row-right : (b : List Fact) (t : Option Text) (c : CreateResponse)
    → SaysResponse b t (body.Lifecycle (life.CreateResponse c))
    → IsRightRow b (response_row t c)
response_row-right b (Some t) c h n r a w o =
    response_at-right r a b (find_creating r t) (find_outgoing r c.ident) t c w refl refl h
response_row-right b None c h n r a w o = tt

told-at : (r a b : List Fact) (s n : ℕ) (q : Text) → Keeps r a → find_incoming r q ≡ Some s → IsFinal b q n
    → IfWith a b s (IsTold a b s n)
told-at r a b s n q w e h =
    let found = find_incoming-is r q s e in
    let there = kept-Incoming r a s q found.0 w found.1 in
    record {
      maker_ = there.maker_;
      there = there.there;
      holds =
          λ g. record { ident = q; message_id = found.0; incoming = there; final = h };
    }

close_at-right : (r a b : List Fact) (now : ℕ) (x : Option ℕ) (q : Text) (n : ℕ) → Keeps r a → find_incoming r q ≡ x
    → IsFinal b q n
    → Allows a b (close_at now x n r)
close_at-right r a b now None q n w e h = tt
close_at-right r a b now (Some s) q n w e h =
    one-allowed a b (is_over r s now) (Closed s Peer n) tt (told-at r a b s n q w e h)

terminate_at-right : (r a b : List Fact) (now : ℕ) (x : Option ℕ) (q : Text) (n : ℕ) → Keeps r a
    → find_incoming r q ≡ x → IsFinal b q n
    → Allows a b (terminate_at now x n r)
terminate_at-right r a b now None q n w e h = tt
terminate_at-right r a b now (Some s) q n w e h =
    one-allowed a b (is_ended r s now) (Ended s Peer n) tt (told-at r a b s n q w e h)

pub closed_at-right : (r a b : List Fact) (x : Option ℕ) → Allows a b (closed_at x r)
closed_at-right r a b None = tt
closed_at-right r a b (Some s) = by_phase (phase r s)
  where
    by_phase : (p : OutPhase) → Allows a b (closed_in s p)
    by_phase out.Closing = (tt, tt, tt)
    by_phase _ = tt

pub ended_at-right : (r a b : List Fact) (x : Option ℕ) → Allows a b (ended_at x r)
ended_at-right r a b None = tt
ended_at-right r a b (Some s) = by_phase (phase r s)
  where
    by_phase : (p : OutPhase) → Allows a b (ended_in s p)
    by_phase out.Ending = (tt, tt, tt)
    by_phase _ = tt

refused_row-right : (r a b : List Fact) (t : Option Text) → Allows a b (refused_row t r)
refused_row-right r a b None = tt
refused_row-right r a b (Some t) = by_found (find_creating r t)
  where
    by_found : (x : Option ℕ) → Allows a b (refused_at x r)
    by_found None = tt
    by_found (Some s) = (tt, tt, drop_at-right r (a ++ Failed s 17 ∷ []) b s)

failed_at-right : (r a b : List Fact) (fault : ℕ) (x : Option ℕ) → Allows a b (failed_at fault x r)
failed_at-right r a b fault None = tt
failed_at-right r a b fault (Some s) = by_phase (phase r s)
  where
    by_phase : (p : OutPhase) → Allows a b (failed_in fault s p)
    by_phase out.Ending = (tt, tt, tt)
    by_phase out.Open = (tt, tt, tt)
    by_phase out.Closing = (tt, tt, tt)
    by_phase out.Closed = (tt, tt, tt)
    by_phase _ = tt

shut_at-right : (r a b : List Fact) (x : Option ℕ) → Allows a b (shut_at x r)
shut_at-right r a b None = tt
shut_at-right r a b (Some s) = if-allowed a b (is_sending (phase r s)) (ClosedOut s) tt tt

pub fault_row-right : (r a b : List Fact) (t : Option Text) (subcode : Option Expanded) (detail : List Element)
    → Allows a b (fault_row t subcode detail r)
fault_row-right r a b t subcode detail =
    chosen (is_fault _ subcode) (is_fault _ subcode) (is_fault _ subcode) (is_fault _ subcode) (is_fault _ subcode)
  where
    chosen : (v w x y z : Bool) → Allows a b (cond v (refused_row t r) (cond w (failed_at 14 (named_in r detail) r)
        (cond x (failed_at 13 (named_in r detail) r)
        (cond y (failed_at 11 (named_in r detail) r) (cond z (shut_at (named_in r detail) r) [])))))
    chosen true w x y z = refused_row-right r a b t
    chosen false true x y z = failed_at-right r a b 14 (named_in r detail)
    chosen false false true y z = failed_at-right r a b 13 (named_in r detail)
    chosen false false false true z = failed_at-right r a b 11 (named_in r detail)
    chosen false false false false true = shut_at-right r a b (named_in r detail)
    chosen false false false false false = tt

body_row-right : (b : List Fact) (terms : Terms) (now : ℕ) (y : Behaviour) (m : Message) (content : Body)
    → SaysData b m.sequence content
    → SaysCreate b m.addressing.message_id content → SaysResponse b m.addressing.relates content → SaysFinal b content
    → IsRightRow b (body_row terms now y m content)
body_row-right b terms now y m (body.Payload p) d c p2 f n r a w o = data_row-right b now m.sequence p d n r a w o
body_row-right b terms now y m (body.Lifecycle (life.Create x)) d c p f n r a w o =
    create_row-right b terms now y m.addressing.message_id x c n r a w o
body_row-right b terms now y m (body.Lifecycle (life.CreateResponse x)) d c p f n r a w o =
    response_row-right b m.addressing.relates x p n r a w o
body_row-right b terms now y m (body.Lifecycle (life.Close x)) d c p f n r a w o =
    close_at-right r a b now (find_incoming r x.ident) x.ident (last_of x.last_number) w refl f
body_row-right b terms now y m (body.Lifecycle (life.Terminate x)) d c p f n r a w o =
    terminate_at-right r a b now (find_incoming r x.ident) x.ident (last_of x.last_number) w refl f
body_row-right b terms now y m (body.Lifecycle (life.CloseResponse q)) d c p f n r a w o =
    closed_at-right r a b (find_outgoing r q)
body_row-right b terms now y m (body.Lifecycle (life.TerminateResponse q)) d c p f n r a w o =
    ended_at-right r a b (find_outgoing r q)
body_row-right b terms now y m (body.Fault x) d c p f n r a w o =
    fault_row-right r a b m.addressing.relates x.subcode x.detail
body_row-right b terms now y m (body.Lifecycle (life.Make x)) d c p f n r a w o = tt
body_row-right b terms now y m body.Empty d c p f n r a w o = tt

-- all rows
pub rows-right : (b : List Fact) (terms : Terms) (now : ℕ) (y : Behaviour) (m : Message) → Says b m
    → IsRightRow b (rows terms now y m)
rows-right b terms now y m h =
    then_row-right b (ack_rows m.acks) (body_row terms now y m m.body) (ack_rows-right b m.acks h.acks)
    (body_row-right b terms now y m m.body h.data_ h.create h.response h.final)
