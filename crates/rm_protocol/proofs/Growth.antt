-- Facts stay when records are added, and so does what is built of them.
use Rattle.std.proofs.Common.{◌≡◌, ℕ, ◌+◌, ◌==◌, cond, true, false, List, [], ◌∷◌, ◌++◌, length, refl, sym, ap, ◌∙◌}
use Rattle.std.proofs.Common.{arith, subst, map, append-nil, append_assoc, length-append, inl, inr}
use Rattle.std.specs.Prelude.{Option, Some, None}
use Rattle.std.specs.List.{flat_map}
use Rattle.std.proofs.lemmas.Bool.{eqb-true}
use Rattle.std.proofs.lemmas.List.{map-append}
use Rattle.std.proofs.lemmas.List.Concat.{flat_map-append}
use Rattle.rm_sides.specs.declared.ranges.range.Range.{Range}
use Rattle.rm_base.specs.Numbered.{numbered}
use Rattle.rm_base.specs.NumberSet.{has_number}
use Rattle.rm_base.specs.declared.message.Cause.TheVariants.{Peer}
use Rattle.rm_base.specs.declared.message.Payload.{Payload}
use Rattle.rm_message.specs.declared.elements.header.AckBlock.{AckBlock}
use Rattle.rm_message.specs.declared.elements.header.SeqHeader.{SeqHeader}
use Rattle.rm_message.specs.declared.elements.lifecycle.Lifecycle.TheVariants as life
use Rattle.rm_message.specs.declared.elements.lifecycle.Offer.{Offer}
use Rattle.rm_message.specs.declared.message.Body.{Body}
use Rattle.rm_message.specs.declared.message.Body.TheVariants as body
use Rattle.rm_message.specs.declared.message.Message.{Message}
use Rattle.record_batch.specs.declared.record.PeerOffer.{PeerOffer}
use Rattle.record_batch.specs.Fact.{Fact, Made, Created, Granted, Accepted, Acked, Received, Closed, Ended}
use Rattle.rm_sides.specs.Destination.Messages.{is_empty, numbers_of}
use Rattle.record_batch.specs.Sequences.Words.{Text, at_seq, first_or}
use Rattle.record_batch.specs.Sequences.Idents.{issue}
use Rattle.record_batch.specs.Sequences.Makers.{Maker, Outgoing, Offered, Incoming, Taken, makers, makers_of, maker}
use Rattle.record_batch.specs.Sequences.Makers.{counter}
use Rattle.record_batch.specs.Sequences.Makers.{nodes_of, number, addresses_of, address, created, created_of}
use Rattle.record_batch.specs.Sequences.Makers.{created_from}
use Rattle.record_batch.specs.Sequences.Makers.{draws_of}
use Rattle.record_batch.specs.Sequences.Makers.{ident_in}
use Rattle.record_batch.specs.Sequences.Sources.{accepted, accepted_of, mark_of, marks}
use Rattle.record_batch.specs.Sequences.Destinations.{received, received_of, behaviour}
use Rattle.record_batch.specs.Sequences.Find.{IsOutgoing, IsIncoming, incoming_of, acks_to}
use Rattle.rm_protocol.specs.Sound.{IsAsked, IsAccepted, IsHeld, IsGranted, HasAsked, AreHeld, IsFinal, SaysData}
use Rattle.rm_protocol.specs.Sound.{SaysBlock, SaysCreate, SaysName, SaysPlace, SaysResponse, SaysFinal, Says}
use Rattle.rm_protocol.specs.Sound.{IsAgreed, IsRequest}
use Rattle.rm_protocol.specs.Sound.{IsSourced}
use Rattle.rm_protocol.specs.Sound.{AreKept, IsIssuedBy, IsTold, IsWith, IfWith, Justified, Fresh, Allows}
use Rattle.rm_protocol.specs.Rows.{ranges_of, last_of}
use Rattle.rm_protocol.proofs.ListLemmas.{IfSome-weaker, All-weaker, numbered-append, has_number-append}
use Rattle.rm_protocol.proofs.ListLemmas.{ident_in-append, at_seq-append, is_empty-append}

-- identifiers come in the order of the records
created_from-add : (k : ℕ) (r : List Fact) (rec : Fact)
    → created_from k (r ++ rec ∷ []) ≡ created_from k r ++ created_of (k + length (makers r)) rec
created_from-add k [] rec = let e : k + 0 ≡ k = omega arith in rw e (append-nil (created_of k rec))
created_from-add k (x ∷ r) rec =
    let sum : k + length (makers_of x) + length (makers r) ≡ k + length (makers (x ∷ r)) =
    omega (arith, length-append (makers_of x) (makers r)) in
    ap (λ z. created_of k x ++ z) (created_from-add (k + length (makers_of x)) r rec
    ∙ ap (λ z. created_from (k + length (makers_of x)) r ++ created_of z rec) sum)
    ∙ sym (append_assoc (created_of k x) (created_from (k + length (makers_of x)) r)
    (created_of (k + length (makers (x ∷ r))) rec))

pub created-add : (r : List Fact) (rec : Fact)
    → created (r ++ rec ∷ []) ≡ created r ++ created_of (length (makers r)) rec
created-add r rec =
    let e : 0 + length (makers r) ≡ length (makers r) = omega arith in
    created_from-add 0 r rec ∙ ap (λ z. created r ++ created_of z rec) e

-- each fact of the old records is one of the new
pub record Grows (old new : List Fact) : Type 0 where
  pub final : (s : ℕ) → is_empty (marks old s) ≡ false → (is_empty (marks new s) ≡ false)
      × (accepted new s ≡ accepted old s)
  pub number : number new ≡ number old
  pub address : address new ≡ address old
  pub makers : (s : ℕ) (m : Maker) → maker old s ≡ Some m → maker new s ≡ Some m
  pub created : (s : ℕ) (q : Text) → ident_in (created old) s ≡ Some q → ident_in (created new) s ≡ Some q
  pub accepted : (s i : ℕ) (p : Text) → numbered (accepted old s) i ≡ Some p → numbered (accepted new s) i ≡ Some p
  pub held : (s i : ℕ) → has_number (numbers_of (received old s)) i ≡ true
      → has_number (numbers_of (received new s)) i ≡ true
  pub draws : (k : ℕ) → has_number (flat_map draws_of old) k ≡ true → has_number (flat_map draws_of new) k ≡ true

pub Grows-same : (r : List Fact) → Grows r r
Grows-same r = record {
  number = refl;
  address = refl;
  makers = λ s m h. h;
  created = λ s q h. h;
  accepted =
      λ s i p h. h;
  held = λ s i h. h;
  final = λ s h. (h, refl);
  draws = λ k h. h;
}

pub Grows-then : (a b c : List Fact) → Grows a b → Grows b c → Grows a c
Grows-then a b c g h = record {
  number = h.number ∙ g.number;
  address = h.address ∙ g.address;
  makers = λ s m e. h.makers s m (g.makers s m e);
  created = λ s q e. h.created s q (g.created s q e);
  accepted = λ s i p e. h.accepted s i p (g.accepted s i p e);
  held = λ s i e. h.held s i (g.held s i e);
  final = λ s e. let first = g.final s e in let next = h.final s first.0 in (next.0, next.1 ∙ first.1);
  draws = λ k e. h.draws k (g.draws k e);
}

-- only Made names the node
no_node : (r : List Fact) (rec : Fact) → Fresh r rec → nodes_of rec ≡ []
no_node r (Made n a) f = absurd f
no_node r _ f = refl

no_address : (r : List Fact) (rec : Fact) → Fresh r rec → addresses_of rec ≡ []
no_address r (Made n a) f = absurd f
no_address r _ f = refl

-- no payload is accepted where the node goes on no more
no_payload : (r : List Fact) (rec : Fact) (s : ℕ) → Fresh r rec → is_empty (marks r s) ≡ false → accepted_of s rec ≡ []
no_payload r (Accepted t p) s f e =
    elim (t == s) as (λ b. (t == s) ≡ b → cond b (p ∷ []) [] ≡ []) [
      | true ↦ λ d. let same : t ≡ s = eqb-true t s d in
          let open_ : is_empty (marks r s) ≡ true = subst (λ z. is_empty (marks r z) ≡ true) same f in absurd (cc)
      | false ↦ λ d. refl
    ] refl
no_payload r _ s f e = refl

-- one record more
pub Grows-add : (r : List Fact) (rec : Fact) → Fresh r rec → Grows r (r ++ rec ∷ [])
Grows-add r rec f = record {
  number =
      let none : nodes_of rec ≡ [] = no_node r rec f in
      ap (first_or 0) (flat_map-append nodes_of r (rec ∷ []) ∙ ap (λ z. flat_map nodes_of r ++ (z ++ [])) none
      ∙ append-nil (flat_map nodes_of r));
  address =
      let none : addresses_of rec ≡ [] = no_address r rec f in
      ap (first_or []) (flat_map-append addresses_of r (rec ∷ []) ∙ ap (λ z. flat_map addresses_of r ++ (z ++ [])) none
      ∙ append-nil (flat_map addresses_of r));
  makers = λ s m e. rw (flat_map-append makers_of r (rec ∷ []))
      (numbered-append (makers r) (flat_map makers_of (rec ∷ [])) s m e);
  created = λ s q e. rw (created-add r rec) (ident_in-append (created r) (created_of (length (makers r)) rec) s q e);
  accepted = λ s i p e. rw (flat_map-append (accepted_of s) r (rec ∷ []))
      (numbered-append (accepted r s) (flat_map (accepted_of s) (rec ∷ [])) i p e);
  held = λ s i e.
      let get : ℕ × Payload → ℕ = λ m. m.0 in
      let more = flat_map (received_of s) (rec ∷ []) in
      rw (flat_map-append (received_of s) r (rec ∷ []), map-append get (received r s) more)
      (has_number-append (numbers_of (received r s)) (map get more) i e);
  final = λ s e.
      let none : accepted_of s rec ≡ [] = no_payload r rec s f e in (
        ap (λ z. is_empty (at_seq s z)) (flat_map-append mark_of r (rec ∷ []))
            ∙ ap is_empty (at_seq-append s (flat_map mark_of r) (flat_map mark_of (rec ∷ [])))
            ∙ is_empty-append (marks r s) (at_seq s (flat_map mark_of (rec ∷ []))) e,
        flat_map-append (accepted_of s) r (rec ∷ []) ∙ ap (λ z. accepted r s ++ (z ++ [])) none
            ∙ append-nil (accepted r s),
      );
  draws = λ k e. rw (flat_map-append draws_of r (rec ∷ []))
      (has_number-append (flat_map draws_of r) (flat_map draws_of (rec ∷ [])) k e);
}

pub IsOutgoing-grows : (a b : List Fact) (s : ℕ) (q : Text) → Grows a b → IsOutgoing a s q → IsOutgoing b s q
IsOutgoing-grows a b s q g h = record { is = g.created s q h.is }

pub IsIncoming-grows : (a b : List Fact) (s : ℕ) (q t : Text) → Grows a b → IsIncoming a s q t → IsIncoming b s q t
IsIncoming-grows a b s q t g h = record {
  counter = h.counter;
  maker_ = h.maker_;
  there = g.makers s _ h.there;
  made = ap (λ n. incoming_of n h.maker_) g.number ∙ h.made;
  is = h.is ∙ ap (λ n. issue n h.counter) (sym g.number);
}

pub IsAsked-grows : (a b : List Fact) (s : ℕ) (t : Text) → Grows a b → IsAsked a s t → IsAsked b s t
IsAsked-grows a b s t g h = record {
  ticket = h.ticket;
  maker_ = h.maker_;
  there = g.makers s _ h.there;
  asked = h.asked;
  is = h.is ∙ ap (λ n. issue n h.ticket) (sym g.number);
}

pub IsAccepted-grows : (a b : List Fact) (q : Text) (i : ℕ) (p : Text) → Grows a b → IsAccepted a q i p
    → IsAccepted b q i p
IsAccepted-grows a b q i p g h = record {
  seq = h.seq;
  outgoing = IsOutgoing-grows a b h.seq q g h.outgoing;
  item = g.accepted h.seq i p h.item;
}

pub IsHeld-grows : (a b : List Fact) (q : Text) (i : ℕ) → Grows a b → IsHeld a q i → IsHeld b q i
IsHeld-grows a b q i g h = record {
  seq = h.seq;
  message_id = h.message_id;
  incoming = IsIncoming-grows a b h.seq q h.message_id g h.incoming;
  has = g.held h.seq i h.has;
}

pub IsGranted-grows : (a b : List Fact) (t q : Text) → Grows a b → IsGranted a t q → IsGranted b t q
IsGranted-grows a b t q g h = record { seq = h.seq; incoming = IsIncoming-grows a b h.seq q t g h.incoming }

pub HasAsked-grows : (a b : List Fact) (t : Text) → Grows a b → HasAsked a t → HasAsked b t
HasAsked-grows a b t g h = record { seq = h.seq; asked = IsAsked-grows a b h.seq t g h.asked }

pub AreHeld-grows : (a b : List Fact) (q : Text) (ranges : List Range) → Grows a b → AreHeld a q ranges
    → AreHeld b q ranges
AreHeld-grows a b q ranges g h = λ n e. IsHeld-grows a b q n g (h n e)

SaysData-grows : (a b : List Fact) (h : Option SeqHeader) (content : Body) → Grows a b → SaysData a h content
    → SaysData b h content
SaysData-grows a b None content g s = s
SaysData-grows a b (Some h) (body.Payload p) g s = IsAccepted-grows a b h.ident h.number p.bytes g s
SaysData-grows a b (Some h) _ g s = s

SaysCreate-grows : (a b : List Fact) (t : Option Text) (content : Body) → Grows a b → SaysCreate a t content
    → SaysCreate b t content
SaysCreate-grows a b (Some t) (body.Lifecycle (life.Create c)) g s = (
  HasAsked-grows a b t g s.0,
  IfSome-weaker (λ (o : Offer). IsGranted a t o.ident) (λ (o : Offer). IsGranted b t o.ident)
      (λ o h. IsGranted-grows a b t o.ident g h) c.offer s.1,
)
SaysCreate-grows a b _ _ g s = s

SaysResponse-grows : (a b : List Fact) (t : Option Text) (content : Body) → Grows a b → SaysResponse a t content
    → SaysResponse b t content
SaysResponse-grows a b (Some t) (body.Lifecycle (life.CreateResponse c)) g s = IsGranted-grows a b t c.ident g s
SaysResponse-grows a b _ _ g s = s

IsFinal-grows : (a b : List Fact) (q : Text) (n : ℕ) → Grows a b → IsFinal a q n → IsFinal b q n
IsFinal-grows a b q n g h =
    let more = g.final h.seq h.stopped in
    record {
      seq = h.seq;
      outgoing = IsOutgoing-grows a b h.seq q g h.outgoing;
      stopped = more.0;
      count =
          ap length more.1 ∙ h.count;
    }

SaysFinal-grows : (a b : List Fact) (content : Body) → Grows a b → SaysFinal a content → SaysFinal b content
SaysFinal-grows a b (body.Lifecycle (life.Close f)) g h = IsFinal-grows a b f.ident (last_of f.last_number) g h
SaysFinal-grows a b (body.Lifecycle (life.Terminate f)) g h = IsFinal-grows a b f.ident (last_of f.last_number) g h
SaysFinal-grows a b _ g h = h

IsTold-grows : (a b c d : List Fact) (s n : ℕ) → Grows a c → Grows b d → IsTold a b s n → IsTold c d s n
IsTold-grows a b c d s n g k h = record {
  ident = h.ident;
  message_id = h.message_id;
  incoming = IsIncoming-grows a c s h.ident h.message_id g h.incoming;
  final = IsFinal-grows b d h.ident n k h.final;
}

SaysPlace-grows : (a b : List Fact) (to : Text) (content : Body) → Grows a b → SaysPlace a to content
    → SaysPlace b to content
SaysPlace-grows a b to (body.Lifecycle (life.Create c)) g h = record {
  seq = h.seq;
  ticket = h.ticket;
  via = h.via;
  lapse = h.lapse;
  there = g.makers h.seq (Outgoing h.ticket to h.via h.lapse) h.there;
}
SaysPlace-grows a b to _ g h = h

IsRequest-grows : (a b : List Fact) (t : Text) → Grows a b → IsRequest a t → IsRequest b t
IsRequest-grows a b t g h = record {
  ticket = h.ticket;
  drawn = elim h.drawn [ inl none ↦ inl none | inr there ↦ inr (g.draws h.ticket there) ];
  is = h.is ∙ ap (λ n. issue n h.ticket) (sym g.number);
}

SaysName-grows : (a b : List Fact) (content : Body) (t : Option Text) → Grows a b → SaysName a content t
    → SaysName b content t
SaysName-grows a b (body.Payload p) t g h =
    IfSome-weaker (IsRequest a) (IsRequest b) (λ u k. IsRequest-grows a b u g k) t h
SaysName-grows a b (body.Lifecycle (life.Close f)) t g h =
    IfSome-weaker (IsRequest a) (IsRequest b) (λ u k. IsRequest-grows a b u g k) t h
SaysName-grows a b (body.Lifecycle (life.Terminate f)) t g h =
    IfSome-weaker (IsRequest a) (IsRequest b) (λ u k. IsRequest-grows a b u g k) t h
SaysName-grows a b _ t g h = h

pub SaysBlock-grows : (a b : List Fact) (block : AckBlock) → Grows a b → SaysBlock a block → SaysBlock b block
SaysBlock-grows a b block g h = (AreHeld-grows a b block.ident (ranges_of block.kind) g h.0, h.1)

pub Says-grows : (a b : List Fact) (m : Message) → Grows a b → Says a m → Says b m
Says-grows a b m g h = record {
  data_ = SaysData-grows a b m.sequence m.body g h.data_;
  acks = All-weaker (SaysBlock a) (SaysBlock b) (λ k e. SaysBlock-grows a b k g e) m.acks h.acks;
  create = SaysCreate-grows a b m.addressing.message_id m.body g h.create;
  place = SaysPlace-grows a b m.addressing.to m.body g h.place;
  response = SaysResponse-grows a b m.addressing.relates m.body g h.response;
  final = SaysFinal-grows a b m.body g h.final;
  name = SaysName-grows a b m.body m.addressing.message_id g h.name;
}

pub IsWith-grows : (b d : List Fact) → Grows b d → (m : Maker) → IsWith b m → IsWith d m
IsWith-grows b d g (Outgoing ticket to via lapse) h = h ∙ sym g.address
IsWith-grows b d g (Offered ticket counter to behaviour) h = h ∙ sym g.address
IsWith-grows b d g (Incoming counter t acks_to behaviour deadline lapse) h =
    subst (λ n. IsIssuedBy n t) (sym g.number) h
IsWith-grows b d g (Taken t q endpoint) h = subst (λ n. IsIssuedBy n t) (sym g.number) h

pub IsWith-back : (b d : List Fact) → Grows b d → (m : Maker) → IsWith d m → IsWith b m
IsWith-back b d g (Outgoing ticket to via lapse) h = h ∙ g.address
IsWith-back b d g (Offered ticket counter to behaviour) h = h ∙ g.address
IsWith-back b d g (Incoming counter t acks_to behaviour deadline lapse) h = subst (λ n. IsIssuedBy n t) g.number h
IsWith-back b d g (Taken t q endpoint) h = subst (λ n. IsIssuedBy n t) g.number h

IfWith-grows : (a b c d : List Fact) (s : ℕ) (P Q : Type 0) → Grows a c → Grows b d → (P → Q) → IfWith a b s P
    → IfWith c d s Q
IfWith-grows a b c d s P Q g k f h =
    record {
      maker_ = h.maker_;
      there = g.makers s h.maker_ h.there;
      holds =
          λ w. f (h.holds (IsWith-back b d k h.maker_ w));
    }

IsAgreed-grows : (a b c d : List Fact) (s : ℕ) (q : Text) → Grows a c → Grows b d → IsAgreed a b s q → IsAgreed c d s q
IsAgreed-grows a b c d s q g k h = record {
  message_id = h.message_id;
  asked = IsAsked-grows a c s h.message_id g h.asked;
  granted = IsGranted-grows b d h.message_id q k h.granted;
}

AreKept-grows : (a b c d : List Fact) (s : ℕ) (ns : List Range) → Grows a c → Grows b d → AreKept a b s ns
    → AreKept c d s ns
AreKept-grows a b c d s ns g k h = record {
  ident = h.ident;
  outgoing = IsOutgoing-grows a c s h.ident g h.outgoing;
  each = AreHeld-grows b d h.ident ns k h.each;
}

IsSourced-grows : (a b c d : List Fact) (s i : ℕ) (p : Text) → Grows a c → Grows b d → IsSourced a b s i p
    → IsSourced c d s i p
IsSourced-grows a b c d s i p g k h = record {
  ident = h.ident;
  message_id = h.message_id;
  incoming = IsIncoming-grows a c s h.ident h.message_id g h.incoming;
  sent = IsAccepted-grows b d h.ident i p k h.sent;
}

pub Justified-grows : (a b c d : List Fact) → Grows a c → Grows b d → (rec : Fact) → Justified a b rec
    → Justified c d rec
Justified-grows a b c d g k (Created s q accept) h = IfWith-grows a b c d s _ _ g k (IsAgreed-grows a b c d s q g k) h
Justified-grows a b c d g k (Closed s Peer n) h = IfWith-grows a b c d s _ _ g k (IsTold-grows a b c d s n g k) h
Justified-grows a b c d g k (Ended s Peer n) h = IfWith-grows a b c d s _ _ g k (IsTold-grows a b c d s n g k) h
Justified-grows a b c d g k (Granted n t acks_to y deadline lapse offer) h = λ i.
    let old = h (subst (λ n. IsIssuedBy n t) k.number i) in (
      HasAsked-grows b d t k old.0,
      IfSome-weaker (λ (o : PeerOffer). IsGranted b t o.ident)
          (λ (o : PeerOffer). IsGranted d t o.ident) (λ o e. IsGranted-grows b d t o.ident k e) offer old.1,
    )
Justified-grows a b c d g k (Acked s ns) h = IfWith-grows a b c d s _ _ g k (AreKept-grows a b c d s ns g k) h
Justified-grows a b c d g k (Received s i p) h =
    IfWith-grows a b c d s _ _ g k (IsSourced-grows a b c d s i p.bytes g k) h
Justified-grows a b c d g k _ h = h

-- what may be added at one node stays so when the other goes on
pub Allows-grows : (a b c : List Fact) → Grows b c → (delta : List Fact) → Allows a b delta → Allows a c delta
Allows-grows a b c g [] h = h
Allows-grows a b c g (rec ∷ delta) h =
    (h.0, Justified-grows a b a c (Grows-same a) g rec h.1, Allows-grows (a ++ rec ∷ []) b c g delta h.2)
