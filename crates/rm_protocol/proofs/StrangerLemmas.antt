-- A message that the other node of a pair didn't say, and that names nothing of the pair, brings what may be added.
use Rattle.std.proofs.Common.{◌≡◌, ℕ, ◌+◌, ◌-◌, ◌≤◌, ◌&&◌, ◌||◌, not, nat_lt, cond, Bool, true, false}
use Rattle.std.proofs.Common.{List, [], ◌∷◌, ◌++◌}
use Rattle.std.proofs.Common.{length}
use Rattle.std.proofs.Common.{refl, sym, ap, ◌∙◌, append-nil, append_assoc}
use Rattle.std.specs.Prelude.{Option, Some, None, IfSome, is_none}
use Rattle.std.specs.List.{AllByRecursion}
use Rattle.rm_base.specs.Limits.{most_sequences, window}
use Rattle.rm_base.specs.Numbered.{numbered}
use Rattle.rm_base.specs.NumberSet.{has_number}
use Rattle.rm_base.specs.declared.message.Behaviour.{Behaviour}
use Rattle.rm_base.specs.declared.message.Cause.TheVariants.{Peer}
use Rattle.rm_base.specs.declared.message.Payload.{Payload}
use Rattle.rm_sides.specs.Ranges.Changes.{covers_all, united}
use Rattle.rm_sides.specs.Ranges.Ranges.{in_range, in_ranges}
use Rattle.rm_sides.specs.declared.ranges.range.Range.{Range}
use Rattle.rm_message.specs.declared.elements.header.AckBlock.{AckBlock}
use Rattle.rm_message.specs.declared.elements.header.SeqHeader.{SeqHeader}
use Rattle.rm_message.specs.declared.elements.lifecycle.CreateResponse.{CreateResponse}
use Rattle.rm_message.specs.declared.elements.lifecycle.CreateSequence.{CreateSequence}
use Rattle.rm_message.specs.declared.elements.lifecycle.Lifecycle.TheVariants as life
use Rattle.rm_message.specs.declared.elements.lifecycle.Offer.{Offer}
use Rattle.rm_message.specs.declared.message.Body.{Body}
use Rattle.rm_message.specs.declared.message.Body.TheVariants as body
use Rattle.rm_message.specs.declared.message.Message.{Message}
use Rattle.record_batch.specs.declared.record.PeerOffer.{PeerOffer}
use Rattle.record_batch.specs.Fact.{Fact, Created, Acked, Received, ClosedOut, Closed, Ended}
use Rattle.record_batch.specs.Snapshot.Same.{AreProper}
use Rattle.record_batch.specs.Sequences.Words.{Text, first_or}
use Rattle.record_batch.specs.Sequences.Idents.{issue}
use Rattle.record_batch.specs.Sequences.Makers.{makers, makers_of, maker, nodes_of, number, created}
use Rattle.record_batch.specs.Sequences.Makers.{ident_in, seq_in}
use Rattle.record_batch.specs.Sequences.Sources.{acked}
use Rattle.record_batch.specs.Sequences.Destinations.{held, front, is_ended, is_over}
use Rattle.record_batch.specs.Sequences.Find.{incoming_of, find_creating, find_grant, find_incoming}
use Rattle.record_batch.specs.Sequences.Find.{find_outgoing}
use Rattle.rm_protocol.specs.Addresses.{is_anonymous, is_nowhere}
use Rattle.rm_protocol.specs.Next.{HasRanges, IsNumberRange}
use Rattle.rm_protocol.specs.Pair.{AsksNone, IsForeignBlock, IsForeignCreate, IsForeignData, IsForeignEnd}
use Rattle.rm_protocol.specs.Pair.{IsForeignResponse, IsStranger, ReceivesNone, SendsNone}
use Rattle.rm_protocol.specs.Rows.{ranges_of, last_of, ack_at, ack_row, final_row, ack_rows, data_row_at}
use Rattle.rm_protocol.specs.Rows.{data_row, taken_of, create_at, create_row, response_at, response_row, close_at}
use Rattle.rm_protocol.specs.Rows.{terminate_at, body_row, rows}
use Rattle.rm_protocol.specs.Sound.{Allows, IfWith, Keeps, Owns}
use Rattle.rm_protocol.specs.Terms.{Terms}
use Rattle.rm_protocol.proofs.ListLemmas.{All-weaker}
use Rattle.rm_protocol.proofs.NumberLemmas.{in-lower}
use Rattle.rm_protocol.proofs.Growth.{created-add}
use Rattle.rm_protocol.proofs.Adds.{Allows-then, Owns-adds}
use Rattle.rm_protocol.proofs.Kept.{Keeps-adds, kept-Asked, kept-Incoming, kept-counter, kept-found, kept-ident}
use Rattle.rm_protocol.proofs.Kept.{kept-maker}
use Rattle.rm_protocol.proofs.RangeLemmas.{united-proper}
use Rattle.rm_protocol.proofs.RowLemmas.{closed_at-right, drop_unless-right, ended_at-right, fault_row-right}
use Rattle.rm_protocol.proofs.RowLemmas.{final_row-right, find_creating-is, find_incoming-is, one-allowed}
use Rattle.rm_protocol.proofs.NewLemmas.{AreAcks, ack_rows-acks, calm_after, calm_makers, calm_nodes}
use Rattle.rm_protocol.proofs.NewLemmas.{one_row-acks}

-- a fact that is asked of the sequences with the other node alone holds of any other
found-aside : (r a b : List Fact) (s : ℕ) (q : Text) (P : Type 0) → Keeps r a → ReceivesNone a b q
    → find_incoming r q ≡ Some s → IfWith a b s P
found-aside r a b s q P w f e =
    let found = find_incoming-is r q s e in
    let k = kept-Incoming r a s q found.0 w found.1 in
    record { maker_ = k.maker_; there = k.there; holds = λ w. absurd (f s k.maker_ found.0 k.there w k) }

-- ranges of message numbers each have a number
ranges-proper : (ranges : List Range) → AllByRecursion IsNumberRange ranges → AreProper ranges
ranges-proper ranges h =
    All-weaker IsNumberRange (λ (x : Range). x.lower ≤ x.upper) (λ x n. n.rises) ranges h

first-number : (x : Range) (xs : List Range) → x.lower ≤ x.upper → in_ranges (x ∷ xs) x.lower ≡ true
first-number x xs le = either (in_range x x.lower) (in_ranges xs x.lower) (in-lower x.lower x.upper le)
  where
    either : (a b : Bool) → a ≡ true → (a || b) ≡ true
    either true b e = refl
    either false b e = absurd (cc)

ack_row-strange : (n : ℕ) (r a b : List Fact) (k : AckBlock) → Keeps r a → Owns n a → IsForeignBlock a b k
    → HasRanges k → Allows a b (ack_row k r)
ack_row-strange n r a b k w o f h = by_found (find_outgoing r k.ident) refl
  where
    by_ranges : (s : ℕ) (ranges : List Range)
        → ((n : ℕ) → in_ranges ranges n ≡ true → SendsNone a b k.ident) → AreProper ranges
        → find_outgoing r k.ident ≡ Some s → Allows a b (ack_at (Some s) ranges r)
    by_ranges s [] f p e = tt
    by_ranges s (x ∷ xs) f p e =
        let out = o.found s k.ident (kept-found r a k.ident (Some s) w e) in
        let made = o.made s k.ident out in
        let none : SendsNone a b k.ident = f x.lower (first-number x xs p.0) in
        one-allowed a b (covers_all (united [] (acked r s)) (x ∷ xs)) (Acked s (united [] (x ∷ xs)))
        (united-proper [] (x ∷ xs) tt p)
        (record { maker_ = made.0; there = made.1; holds = λ g. absurd (none s made.0 made.1 g out) })

    by_found : (x : Option ℕ) → find_outgoing r k.ident ≡ x → Allows a b (ack_at x (ranges_of k.kind) r)
    by_found None e = tt
    by_found (Some s) e = by_ranges s (ranges_of k.kind) f (ranges-proper (ranges_of k.kind) h) e

-- acknowledgements make no sequence and no identifier, so what is foreign stays so
created-calm : (a d : List Fact) → AreAcks d → created (a ++ d) ≡ created a
created-calm a [] h = ap created (append-nil a)
created-calm a (Acked s ns ∷ d) h =
    ap created (sym (append_assoc a (Acked s ns ∷ []) d)) ∙ created-calm (a ++ Acked s ns ∷ []) d h.1
    ∙ created-add a (Acked s ns) ∙ append-nil (created a)
created-calm a (ClosedOut s ∷ d) h =
    ap created (sym (append_assoc a (ClosedOut s ∷ []) d)) ∙ created-calm (a ++ ClosedOut s ∷ []) d h.1
    ∙ created-add a (ClosedOut s) ∙ append-nil (created a)
created-calm a (_ ∷ d) h = absurd h.0

makers-calm : (a d : List Fact) → AreAcks d → makers (a ++ d) ≡ makers a
makers-calm a d h = calm_after makers_of calm_makers a d h

number-calm : (a d : List Fact) → AreAcks d → number (a ++ d) ≡ number a
number-calm a d h = ap (first_or 0) (calm_after nodes_of calm_nodes a d h)

ReceivesNone-calm : (a b d : List Fact) (q : Text) → AreAcks d → ReceivesNone a b q → ReceivesNone (a ++ d) b q
ReceivesNone-calm a b d q h f =
    let ms : makers (a ++ d) ≡ makers a = makers-calm a d h in
    let ns : number (a ++ d) ≡ number a = number-calm a d h in
    λ s m t e g o. f s m t (ap (λ z. numbered z s) (sym ms) ∙ e) g (record {
      counter = o.counter;
      maker_ = o.maker_;
      there = ap (λ z. numbered z s) (sym ms) ∙ o.there;
      made = ap (λ z. incoming_of z o.maker_) (sym ns) ∙ o.made;
      is = o.is ∙ ap (λ z. issue z o.counter) ns;
    })

SendsNone-calm : (a b d : List Fact) (q : Text) → AreAcks d → SendsNone a b q → SendsNone (a ++ d) b q
SendsNone-calm a b d q h f =
    let ms : makers (a ++ d) ≡ makers a = makers-calm a d h in
    λ s m e g o. f s m (ap (λ z. numbered z s) (sym ms) ∙ e) g
    (record { is = ap (λ z. ident_in z s) (sym (created-calm a d h)) ∙ o.is })

AsksNone-calm : (a b d : List Fact) (t : Text) → AreAcks d → AsksNone a b t → AsksNone (a ++ d) b t
AsksNone-calm a b d t h f =
    let ms : makers (a ++ d) ≡ makers a = makers-calm a d h in
    let ns : number (a ++ d) ≡ number a = number-calm a d h in
    λ s m e g o. f s m (ap (λ z. numbered z s) (sym ms) ∙ e) g (record {
      ticket = o.ticket;
      maker_ = o.maker_;
      there = ap (λ z. numbered z s) (sym ms) ∙ o.there;
      asked = o.asked;
      is = o.is ∙ ap (λ z. issue z o.ticket) ns;
    })

-- a block of a foreign sequence with proper numbers
record IsAside (a b : List Fact) (k : AckBlock) : Type 0 where
  foreign : IsForeignBlock a b k
  ranges : HasRanges k

ack_rows-strange : (n : ℕ) (r a b : List Fact) (ks : List AckBlock) → Keeps r a → Owns n a
    → AllByRecursion (IsAside a b) ks → Allows a b (ack_rows ks r)
ack_rows-strange n r a b [] w o h = tt
ack_rows-strange n r a b (k ∷ ks) w o h =
    let one = ack_row k r in
    let first : Allows a b one = ack_row-strange n r a b k w o h.0.foreign h.0.ranges in
    let two = final_row k (r ++ one) in
    let second : Allows (a ++ one) b two = final_row-right b k n (r ++ one) (a ++ one) (Keeps-adds r a b one first w)
    (Owns-adds n a b one first o) in
    let both : Allows a b (one ++ two) = Allows-then a b one two first second in
    let calm = one_row-acks k r in
    Allows-then a b (one ++ two) (ack_rows ks (r ++ (one ++ two))) both
    (ack_rows-strange n (r ++ (one ++ two)) (a ++ (one ++ two)) b ks (Keeps-adds r a b (one ++ two) both w)
    (Owns-adds n a b (one ++ two) both o)
    (All-weaker (IsAside a b) (IsAside (a ++ (one ++ two)) b)
    (λ z g. record {
      foreign = λ n e. SendsNone-calm a b (one ++ two) z.ident calm (g.foreign n e);
      ranges = g.ranges;
    }) ks h.1))

data_row-strange : (r a d b : List Fact) (now : ℕ) (h : Option SeqHeader) (p : Payload) → AreAcks d
    → Keeps r (a ++ d) → IsForeignData a b h (body.Payload p) → Allows (a ++ d) b (data_row now h p r)
data_row-strange r a d b now None p c w f = tt
data_row-strange r a d b now (Some h) p c w f = by_found (find_incoming r h.ident) refl
  where
    chosen : (s : ℕ) (x y z : Bool)
        → (has_number (held r s) h.number ≡ false → Allows (a ++ d) b (Received s h.number p ∷ []))
        → has_number (held r s) h.number ≡ x
        → Allows (a ++ d) b (cond x [] (cond y [] (cond z [] (Received s h.number p ∷ []))))
    chosen s false false false k e = k e
    chosen s _ _ _ k e = tt

    by_found : (x : Option ℕ) → find_incoming r h.ident ≡ x → Allows (a ++ d) b (data_row_at now x h.number p r)
    by_found None e = tt
    by_found (Some s) e =
        chosen s (has_number (held r s) h.number) (is_over r s now) (nat_lt (front r s + window) h.number)
        (λ new. (
          sym ((w.same.got s).held_ h.number) ∙ new,
          found-aside r (a ++ d) b s h.ident _ w (ReceivesNone-calm a b d h.ident c f) e,
          tt,
        )) refl

taken-new : (r a : List Fact) (offer : Option Offer) → Keeps r a
    → IfSome (taken_of r offer) (λ (q : PeerOffer). seq_in (created a) q.ident ≡ None)
taken-new r a None w = tt
taken-new r a (Some q) w =
    by_found (find_outgoing r q.ident)
    (not (is_anonymous q.endpoint.address)
    && (not (is_nowhere q.endpoint.address) && nat_lt (length (makers r)) (most_sequences - 1))) refl
  where
    by_found : (x : Option ℕ) (y : Bool) → find_outgoing r q.ident ≡ x
        → IfSome (cond (is_none x && y) (Some (record { ident = q.ident; endpoint = q.endpoint })) None)
        (λ (q : PeerOffer). seq_in (created a) q.ident ≡ None)
    by_found None true e = kept-found r a q.ident None w e
    by_found None false e = tt
    by_found (Some s) y e = tt

create_row-strange : (r a b : List Fact) (terms : Terms) (now : ℕ) (y : Behaviour) (t : Option Text)
    (c : CreateSequence) → Keeps r a → IsForeignCreate b t (body.Lifecycle (life.Create c))
    → Allows a b (create_row terms now y t c r)
create_row-strange r a b terms now y None c w h = tt
create_row-strange r a b terms now y (Some t) c w h = by_found (find_grant r t)
  where
    by_found : (x : Option ℕ) → Allows a b (create_at terms now y x t c r)
    by_found None = ((ap (λ z. z + 1) (kept-counter r a w), taken-new r a c.offer w), (λ i. absurd (h i)), tt)
    by_found (Some s) = tt

response_row-strange : (r a d b : List Fact) (t : Option Text) (c : CreateResponse) → AreAcks d
    → Keeps r (a ++ d) → IsForeignResponse a b t (body.Lifecycle (life.CreateResponse c))
    → Allows (a ++ d) b (response_row t c r)
response_row-strange r a d b None c calm w h = tt
response_row-strange r a d b (Some t) c calm w h = by_found (find_creating r t) (find_outgoing r c.ident) refl refl
  where
    z : List Fact
    z = a ++ d

    by_found : (x y : Option ℕ) → find_creating r t ≡ x → find_outgoing r c.ident ≡ y
        → Allows z b (response_at x y c r)
    by_found (Some s) None e f =
        let found = find_creating-is r t s e in
        let there : maker z s ≡ Some found.2.0 = kept-maker r z s (Some found.2.0) w found.2.1 in (
          ((found.2.0, there), kept-found r z c.ident None w f, kept-ident r z s None w found.1),
          record {
            maker_ = found.2.0;
            there = there;
            holds = λ g. absurd (AsksNone-calm a b d t calm h s found.2.0 there g (kept-Asked r z s t w found.0));
          },
          drop_unless-right r (z ++ Created s c.ident c.accept ∷ []) b c.accept s,
        )
    by_found (Some s) (Some k) e f = tt
    by_found None y e f = tt

close_at-strange : (r a b : List Fact) (now : ℕ) (x : Option ℕ) (q : Text) (n : ℕ) → Keeps r a → ReceivesNone a b q
    → find_incoming r q ≡ x → Allows a b (close_at now x n r)
close_at-strange r a b now None q n w f e = tt
close_at-strange r a b now (Some s) q n w f e =
    one-allowed a b (is_over r s now) (Closed s Peer n) tt (found-aside r a b s q _ w f e)

terminate_at-strange : (r a b : List Fact) (now : ℕ) (x : Option ℕ) (q : Text) (n : ℕ) → Keeps r a
    → ReceivesNone a b q → find_incoming r q ≡ x → Allows a b (terminate_at now x n r)
terminate_at-strange r a b now None q n w f e = tt
terminate_at-strange r a b now (Some s) q n w f e =
    one-allowed a b (is_ended r s now) (Ended s Peer n) tt (found-aside r a b s q _ w f e)

-- what the body brings, behind the acknowledgements d
body_row-strange : (r a d b : List Fact) (terms : Terms) (now : ℕ) (y : Behaviour) (m : Message) (content : Body)
    → AreAcks d → Keeps r (a ++ d) → IsForeignData a b m.sequence content
    → IsForeignCreate b m.addressing.message_id content → IsForeignResponse a b m.addressing.relates content
    → IsForeignEnd a b content → Allows (a ++ d) b (body_row terms now y m content r)
body_row-strange r a d b terms now y m (body.Payload p) c w h i l f =
    data_row-strange r a d b now m.sequence p c w h
body_row-strange r a d b terms now y m (body.Lifecycle (life.Create x)) c w h i l f =
    create_row-strange r (a ++ d) b terms now y m.addressing.message_id x w i
body_row-strange r a d b terms now y m (body.Lifecycle (life.CreateResponse x)) c w h i l f =
    response_row-strange r a d b m.addressing.relates x c w l
body_row-strange r a d b terms now y m (body.Lifecycle (life.Close x)) c w h i l f =
    close_at-strange r (a ++ d) b now (find_incoming r x.ident) x.ident (last_of x.last_number) w
    (ReceivesNone-calm a b d x.ident c f) refl
body_row-strange r a d b terms now y m (body.Lifecycle (life.Terminate x)) c w h i l f =
    terminate_at-strange r (a ++ d) b now (find_incoming r x.ident) x.ident (last_of x.last_number) w
    (ReceivesNone-calm a b d x.ident c f) refl
body_row-strange r a d b terms now y m (body.Lifecycle (life.CloseResponse q)) c w h i l f =
    closed_at-right r (a ++ d) b (find_outgoing r q)
body_row-strange r a d b terms now y m (body.Lifecycle (life.TerminateResponse q)) c w h i l f =
    ended_at-right r (a ++ d) b (find_outgoing r q)
body_row-strange r a d b terms now y m (body.Fault x) c w h i l f =
    fault_row-right r (a ++ d) b m.addressing.relates x.subcode x.detail
body_row-strange r a d b terms now y m (body.Lifecycle (life.Make x)) c w h i l f = tt
body_row-strange r a d b terms now y m body.Empty c w h i l f = tt

both-all : {A : Type 0} (P Q R : A → Type 0) → ((x : A) → P x → Q x → R x) → (xs : List A) → AllByRecursion P xs
    → AllByRecursion Q xs → AllByRecursion R xs
both-all P Q R f [] h k = tt
both-all P Q R f (x ∷ xs) h k = (f x h.0 k.0, both-all P Q R f xs h.1 k.1)

-- what the message of a stranger makes the node write may be written
pub rows-strange : (n : ℕ) (terms : Terms) (r a b : List Fact) (now : ℕ) (y : Behaviour) (m : Message) → Keeps r a
    → Owns n a → IsStranger a b m → Allows a b (rows terms now y m r)
rows-strange n terms r a b now y m w o h =
    let acks = ack_rows m.acks r in
    let first : Allows a b acks = ack_rows-strange n r a b m.acks w o
    (both-all (IsForeignBlock a b) HasRanges (IsAside a b) (λ k f g. record { foreign = f; ranges = g }) m.acks h.acks
    h.numbers.acks) in
    Allows-then a b acks (body_row terms now y m m.body (r ++ acks)) first
    (body_row-strange (r ++ acks) a acks b terms now y m m.body (ack_rows-acks m.acks r)
    (Keeps-adds r a b acks first w) h.data_ h.create h.response h.final)
