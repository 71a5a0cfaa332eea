-- A pair of nodes names nothing that one of them has yet to issue.
use Rattle.std.proofs.Common.{◌≡◌, ◌⊎◌, ◌∙◌, ℕ, ◌+◌, ◌<◌, ◌≤◌, ◌==◌, ◌^◌, true, List, [], ◌∷◌, ◌++◌, length, refl}
use Rattle.std.proofs.Common.{sym, ap, subst, arith, length-append, append-nil, inl, inr, Option, Some, None, map}
use Rattle.std.proofs.Common.{◌||◌, cond, false}
use Rattle.std.specs.Prelude.{IfSome, Ok, Err}
use Rattle.std.specs.List.{AllByRecursion, flat_map}
use Rattle.std.proofs.lemmas.Bool.{and_parts, eqb-true}
use Rattle.std.proofs.lemmas.List.Concat.{flat_map-append}
use Rattle.timers.specs.Pending.Waiting.{Queue, Waiting}
use Rattle.rm_base.specs.Numbered.{numbered}
use Rattle.rm_base.specs.NumberSet.{has_number}
use Rattle.rm_message.specs.declared.elements.header.SeqHeader.{SeqHeader}
use Rattle.rm_message.specs.declared.elements.lifecycle.CreateSequence.{CreateSequence}
use Rattle.rm_message.specs.declared.elements.lifecycle.Lifecycle.TheVariants as life
use Rattle.rm_message.specs.declared.elements.lifecycle.Offer.{Offer}
use Rattle.rm_message.specs.declared.message.Body.{Body}
use Rattle.rm_message.specs.declared.message.Body.TheVariants as body
use Rattle.rm_message.specs.declared.message.Message.{Message}
use Rattle.record_batch.specs.declared.record.PeerOffer.{PeerOffer}
use Rattle.record_batch.specs.Fact.{Fact, Creating, Created, Granted, Closing, Ending, Consumed}
use Rattle.record_batch.specs.Sequences.Find.{IsIncoming, IsOutgoing}
use Rattle.record_batch.specs.Sequences.Fits.{all_fit, fits, offer_fits}
use Rattle.record_batch.specs.Sequences.Idents.{IssuesOnce, issue}
use Rattle.record_batch.specs.Sequences.Makers.{counter, created, created_from, created_of, draws_of, ident_in, makers}
use Rattle.record_batch.specs.Sequences.Makers.{makers_of, number}
use Rattle.record_batch.specs.Sequences.Words.{Text}
use Rattle.rm_protocol.specs.Calls.{Wish}
use Rattle.rm_protocol.specs.FitInduction.{fit-induction}
use Rattle.rm_protocol.specs.Heard.{Heard, IsOffered}
use Rattle.rm_protocol.specs.Node.{Node, State, Up, Writing, Compacting, node_end, records}
use Rattle.rm_protocol.specs.Pair.{Act, AreBrought, Creates, Grants, Sends, Ticks, Closes, Ends, AsksAck}
use Rattle.rm_protocol.specs.Pair.{NacksMissing, Polls, Consumes, Receives, Compacts, Arms, Crashes, Gained, IsAmong}
use Rattle.rm_protocol.specs.Pair.{IsPair, IsPairNode, IsQuiet, IsWished, IssuedByOne, StaysAPair, acted}
use Rattle.rm_protocol.specs.Pair.{left}
use Rattle.rm_protocol.specs.PollLemmas.{AllWaiting}
use Rattle.rm_protocol.specs.Settled.{AreSettled, BringsSettled, ComesSettled, HasSettled, HeardSettled, IsSettled}
use Rattle.rm_protocol.specs.Settled.{IsSettledNode, IsToCome, MadeAreSettled, NamesSettled, OwnSettled, SaysSettled}
use Rattle.rm_protocol.specs.Settled.{StaysSettled, WritesSettled}
use Rattle.rm_protocol.specs.Sound.{AreSaid, IsAsked, IsFinal, IsGranted, IsRequest, Owns}
use Rattle.rm_protocol.specs.Sound.{Says, SaysCreate, SaysData, SaysFinal, SaysName, SaysResponse, StandFor, drawn}
use Rattle.rm_protocol.specs.Sound.{highest}
use Rattle.rm_protocol.specs.Terms.{Terms}
use Rattle.rm_protocol.proofs.CallLemmas.{asked-drawn}
use Rattle.rm_protocol.proofs.HeadlineLemmas.{drawn-at}
use Rattle.rm_protocol.proofs.Kept.{kept-counter}
use Rattle.rm_protocol.proofs.ListLemmas.{All-append, All-numbered, All-weaker, IfSome-weaker, Rises-below}
use Rattle.rm_protocol.proofs.ListLemmas.{numbered-map}
use Rattle.rm_protocol.proofs.RunLemmas.{small-counter}
use Rattle.rm_protocol.proofs.TellLemmas.{a-pair-turns}

-- ---- numbers that were drawn are at most the counter

abbrev UpTo : ℕ → ℕ → Type 0
UpTo n k = k ≤ n

counter-both : (r d : List Fact) → counter (r ++ d) ≡ counter r + counter d
counter-both r d =
    ap length (flat_map-append draws_of r d) ∙ length-append (flat_map draws_of r) (flat_map draws_of d)

next-drawn : (r : List Fact) (rec : Fact) → fits r rec ≡ true
    → AllByRecursion (UpTo (counter r + length (draws_of rec))) (draws_of rec)
next-drawn r (Creating ticket to via lapse None) h =
    let t : ticket ≡ counter r + 1 = eqb-true ticket (counter r + 1) (and_parts (ticket == counter r + 1) _ h).0 in
    (omega (arith, t), tt)
next-drawn r (Creating ticket to via lapse (Some offer)) h =
    let p = and_parts (ticket == counter r + 1) _ h in
    let t : ticket ≡ counter r + 1 = eqb-true ticket (counter r + 1) p.0 in
    let q = and_parts (offer_fits (counter r) (Some offer)) _ p.1 in
    let o : offer.counter ≡ counter r + 2 = eqb-true offer.counter (counter r + 2) q.0 in
    (omega (arith, t), (omega (arith, o), tt))
next-drawn r (Granted c t acks_to y deadline lapse offer) h =
    let t : c ≡ counter r + 1 = eqb-true c (counter r + 1) (and_parts (c == counter r + 1) _ h).0 in
    (omega (arith, t), tt)
next-drawn r (Closing s ticket) h =
    let t : ticket ≡ counter r + 1 = eqb-true ticket (counter r + 1) (and_parts (ticket == counter r + 1) _ h).0 in
    (omega (arith, t), tt)
next-drawn r (Ending s ticket) h =
    let t : ticket ≡ counter r + 1 = eqb-true ticket (counter r + 1) (and_parts (ticket == counter r + 1) _ h).0 in
    (omega (arith, t), tt)
next-drawn r _ h = tt

abbrev AreDrawn : List Fact → Type 0
AreDrawn r = AllByRecursion (UpTo (counter r)) (flat_map draws_of r)

drawn-more : (r : List Fact) (rec : Fact) → AreDrawn r → fits r rec ≡ true → AreDrawn (r ++ rec ∷ [])
drawn-more r rec h fit =
    let n = counter (r ++ rec ∷ []) in
    let one : counter (rec ∷ []) ≡ length (draws_of rec) = ap length (append-nil (draws_of rec)) in
    let count : n ≡ counter r + length (draws_of rec) = omega (arith, counter-both r (rec ∷ []), one) in
    let old : AllByRecursion (UpTo n) (flat_map draws_of r) =
    All-weaker (UpTo (counter r)) (UpTo n) (λ k le. omega (arith, le, count)) (flat_map draws_of r) h in
    let new : AllByRecursion (UpTo n) (draws_of rec) =
    subst (λ c. AllByRecursion (UpTo c) (draws_of rec)) (sym count) (next-drawn r rec fit) in
    subst (AllByRecursion (UpTo n)) (sym (flat_map-append draws_of r (rec ∷ [])))
    (All-append (UpTo n) (flat_map draws_of r) (draws_of rec ++ []) old
    (subst (AllByRecursion (UpTo n)) (sym (append-nil (draws_of rec))) new))

fit-drawn : (r : List Fact) → all_fit [] r ≡ true → AreDrawn r
fit-drawn r fit = fit-induction AreDrawn tt drawn-more r fit

-- of all that a node ever had
whole-drawn : (r a : List Fact) → StandFor r a → AreDrawn a
whole-drawn r a h =
    subst (λ n. AllByRecursion (UpTo n) (flat_map draws_of a)) (kept-counter r a h.kept)
    (subst (AllByRecursion (UpTo (counter r))) h.kept.same.frame.draws (fit-drawn r h.fit))

-- ---- what was issued is not to come

-- what is known of the numbers of two nodes
pub record AreApart (a b : List Fact) : Type 0 where
  pub one : number a < 2 ^ 60
  pub two : number b < 2 ^ 60
  pub apart : number a ≡ number b → ⊥
  pub few : counter a < 2 ^ 62

drawn-settled : IssuesOnce → IssuedByOne → (a b : List Fact) (k : ℕ) (t : Text) → AreApart a b → k ≤ counter a
    → t ≡ issue (number a) k → IsSettled a b t
drawn-settled once apart a b k t h le is =
    let few : counter a < 2 ^ 62 = h.few in
    let bits : k < 2 ^ 62 = omega arith in
    record {
      one = λ later.
          let same : k ≡ later.drawn = once (number a) k later.drawn h.one bits later.bits (sym is ∙ later.is) in
          let above : counter a < later.drawn = later.later in absurd (omega arith);
      two = λ later. h.apart (apart (number a) (number b) t h.one h.two (record { drawn = k; bits = bits; is = is })
          (record { drawn = later.drawn; bits = later.bits; is = later.is }));
    }

settled-turn : (a b : List Fact) (t : Text) → IsSettled a b t → IsSettled b a t
settled-turn a b t h = record { one = h.two; two = h.one }

-- the lists grow
pub record MoreDrawn (a c : List Fact) : Type 0 where
  pub number_ : number c ≡ number a
  pub counter_ : counter a ≤ counter c

come-back : (a c : List Fact) (t : Text) → MoreDrawn a c → IsToCome c t → IsToCome a t
come-back a c t g h =
    let above : counter c < h.drawn = h.later in
    let more : counter a ≤ counter c = g.counter_ in
    record {
      drawn = h.drawn;
      later = omega arith;
      bits = h.bits;
      is = h.is ∙ ap (λ n. issue n h.drawn) g.number_;
    }

settled-grows : (a b c d : List Fact) → MoreDrawn a c → MoreDrawn b d → (t : Text) → IsSettled a b t → IsSettled c d t
settled-grows a b c d g k t h = record {
  one = λ later. h.one (come-back a c t g later);
  two = λ later. h.two (come-back b d t k later);
}

heard-grows : (a b c d : List Fact) → MoreDrawn a c → MoreDrawn b d → (rec : Fact) → HeardSettled a b rec
    → HeardSettled c d rec
heard-grows a b c d g k (Created s q accept) h = settled-grows a b c d g k q h
heard-grows a b c d g k (Granted n t acks_to y deadline lapse offer) h = (
  settled-grows a b c d g k t h.0,
  IfSome-weaker (λ (taken : PeerOffer). IsSettled a b taken.ident) (λ (taken : PeerOffer). IsSettled c d taken.ident)
      (λ taken s. settled-grows a b c d g k taken.ident s) offer h.1,
)
heard-grows a b c d g k _ h = tt

-- ---- the records of a node

own-one : IssuesOnce → IssuedByOne → (a b : List Fact) → AreApart a b → (rec : Fact)
    → AllByRecursion (UpTo (counter a)) (draws_of rec) → OwnSettled a b rec
own-one once apart a b h (Granted c t acks_to y deadline lapse offer) le =
    drawn-settled once apart a b c (issue (number a) c) h le.0 refl
own-one once apart a b h _ le = tt

front-all : (P : ℕ → Type 0) (xs ys : List ℕ) → AllByRecursion P (xs ++ ys)
    → AllByRecursion P xs × AllByRecursion P ys
front-all P [] ys h = (tt, h)
front-all P (x ∷ xs) ys h = let rest = front-all P xs ys h.1 in ((h.0, rest.0), rest.1)

-- with what each has of a message
all-settled : IssuesOnce → IssuedByOne → (a b : List Fact) → AreApart a b → (r : List Fact)
    → AllByRecursion (UpTo (counter a)) (flat_map draws_of r) → AllByRecursion (HeardSettled a b) r
    → AllByRecursion (HasSettled a b) r
all-settled once apart a b h [] le heard = tt
all-settled once apart a b h (rec ∷ r) le heard =
    let parts = front-all (UpTo (counter a)) (draws_of rec) (flat_map draws_of r) le in
    ((own-one once apart a b h rec parts.0, heard.0), all-settled once apart a b h r parts.1 heard.1)

all-heard : (a b r : List Fact) → AllByRecursion (HasSettled a b) r → AllByRecursion (HeardSettled a b) r
all-heard a b r h = All-weaker (HasSettled a b) (HeardSettled a b) (λ rec s. s.1) r h

-- ---- the identifiers of what a node sends on

created-one : (a b : List Fact) (k : ℕ) (rec : Fact) → HeardSettled a b rec
    → AllByRecursion (λ (c : ℕ × Text). IsSettled a b c.1) (created_of k rec)
created-one a b k (Created s q accept) h = (h, tt)
created-one a b k (Granted c t acks_to y deadline lapse None) h = tt
created-one a b k (Granted c t acks_to y deadline lapse (Some offer)) h = (h.1, tt)
created-one a b k _ h = tt

created-settled : (a b : List Fact) (k : ℕ) (r : List Fact) → AllByRecursion (HeardSettled a b) r
    → AllByRecursion (λ (c : ℕ × Text). IsSettled a b c.1) (created_from k r)
created-settled a b k [] h = tt
created-settled a b k (rec ∷ r) h =
    All-append (λ (c : ℕ × Text). IsSettled a b c.1) (created_of k rec) (created_from (k + length (makers_of rec)) r)
    (created-one a b k rec h.0) (created-settled a b (k + length (makers_of rec)) r h.1)

ident-of : (P : Text → Type 0) (cs : List (ℕ × Text)) (s : ℕ) (q : Text)
    → AllByRecursion (λ (c : ℕ × Text). P c.1) cs → ident_in cs s ≡ Some q → P q
ident-of P [] s q h e = absurd cc
ident-of P (c ∷ cs) s q h e =
    elim (c.0 == s) as (λ b. cond b (Some c.1) (ident_in cs s) ≡ Some q → P q) [
      | true ↦ λ d. let same : c.1 ≡ q = cc in subst P same h.0
      | false ↦ λ d. ident-of P cs s q h.1 d
    ] e

outgoing-settled : (a b : List Fact) (s : ℕ) (q : Text) → AllByRecursion (HeardSettled a b) a → IsOutgoing a s q
    → IsSettled a b q
outgoing-settled a b s q h o = ident-of (IsSettled a b) (created a) s q (created-settled a b 0 a h) o.is

-- ---- what a node says

-- of a node with these records, beside one with those
pub record KnowsSettled (a b : List Fact) : Type 0 where
  pub once : IssuesOnce
  pub by_one : IssuedByOne
  pub numbers : AreApart a b
  pub drawn_ : AreDrawn a
  pub heard : AllByRecursion (HeardSettled a b) a

drawn-le : (n : ℕ) (xs : List ℕ) (k : ℕ) → AllByRecursion (UpTo n) xs → has_number xs k ≡ true → k ≤ n
drawn-le n [] k h e = absurd cc
drawn-le n (x ∷ xs) k h e =
    elim (x == k) as (λ b. (x == k) ≡ b → (b || has_number xs k) ≡ true → k ≤ n) [
      | true ↦ λ d g. let same : x ≡ k = eqb-true x k d in let le : x ≤ n = h.0 in omega arith
      | false ↦ λ d g. drawn-le n xs k h.1 g
    ] refl e

request-settled : (a b : List Fact) (t : Text) → KnowsSettled a b → IsRequest a t → IsSettled a b t
request-settled a b t k h =
    drawn-settled k.once k.by_one a b h.ticket t k.numbers (by_drawn h.drawn) h.is
  where
    by_drawn : (h.ticket ≡ 0) ⊎ (has_number (flat_map draws_of a) h.ticket ≡ true) → h.ticket ≤ counter a
    by_drawn (inl none) = omega (arith, none)
    by_drawn (inr there) = drawn-le (counter a) (flat_map draws_of a) h.ticket k.drawn_ there

name-settled : (a b : List Fact) (t : Option Text) → KnowsSettled a b → IfSome t (IsRequest a)
    → IfSome t (IsSettled a b)
name-settled a b t k h = IfSome-weaker (IsRequest a) (IsSettled a b) (λ u r. request-settled a b u k r) t h

final-settled : (a b : List Fact) (q : Text) (n : ℕ) → KnowsSettled a b → IsFinal a q n → IsSettled a b q
final-settled a b q n k h = outgoing-settled a b h.seq q k.heard h.outgoing

data-settled : (a b : List Fact) (header : Option SeqHeader) (content : Body) → KnowsSettled a b
    → SaysData a header content → IfSome header (λ (h : SeqHeader). IsSettled a b h.ident)
data-settled a b None content k h = tt
data-settled a b (Some header) (body.Payload p) k h = outgoing-settled a b h.seq header.ident k.heard h.outgoing
data-settled a b (Some header) _ k h = absurd h

says-by : (a b : List Fact) (header : Option SeqHeader) (t : Option Text) (content : Body) → KnowsSettled a b
    → SaysData a header content → SaysName a content t → SaysFinal a content → SaysSettled a b header t content
says-by a b header t (body.Payload p) k data_ name final =
    (data-settled a b header (body.Payload p) k data_, name-settled a b t k name)
says-by a b header t (body.Lifecycle (life.Close f)) k data_ name final =
    (final-settled a b f.ident _ k final, name-settled a b t k name)
says-by a b header t (body.Lifecycle (life.Terminate f)) k data_ name final =
    (final-settled a b f.ident _ k final, name-settled a b t k name)
says-by a b header t _ k data_ name final = tt

pub says-settled : (a b : List Fact) (m : Message) → KnowsSettled a b → Says a m → NamesSettled a b m
says-settled a b m k h = says-by a b m.sequence m.addressing.message_id m.body k h.data_ h.name h.final

waits-settled : (a b : List Fact) (w : Waiting Message) → KnowsSettled a b → AreSaid a w
    → AllWaiting (NamesSettled a b) w
waits-settled a b w k h =
    All-weaker (λ (q : Queue Message). AllByRecursion (Says a) q.packets)
    (λ (q : Queue Message). AllByRecursion (NamesSettled a b) q.packets)
    (λ q all. All-weaker (Says a) (NamesSettled a b) (λ m s. says-settled a b m k s) q.packets all) w.queues h

-- ---- what the other one's message brings

incoming-settled : IssuesOnce → IssuedByOne → (n : ℕ) (a b : List Fact) (s : ℕ) (q t : Text) → AreApart a b → Owns n a
    → IsIncoming a s q t → IsSettled a b q
incoming-settled once apart n a b s q t h o i =
    let below : i.counter ≤ highest 0 (map drawn (makers a)) =
    Rises-below (map drawn (makers a)) s i.counter o.rising (drawn-at a s q t i) in
    let counted : highest 0 (map drawn (makers a)) ≤ counter a = o.below in
    drawn-settled once apart a b i.counter q h (omega arith) i.is

asked-settled : IssuesOnce → IssuedByOne → (n : ℕ) (a b : List Fact) (s : ℕ) (t : Text) → AreApart a b → Owns n a
    → IsAsked a s t → IsSettled a b t
asked-settled once apart n a b s t h o i =
    let there : numbered (map drawn (makers a)) s ≡ Some (Some i.ticket) =
    numbered-map drawn (makers a) s i.maker_ i.there ∙ ap Some (asked-drawn i.maker_ i.ticket i.asked) in
    let below : i.ticket ≤ highest 0 (map drawn (makers a)) =
    Rises-below (map drawn (makers a)) s i.ticket o.rising there in
    let counted : highest 0 (map drawn (makers a)) ≤ counter a = o.below in
    drawn-settled once apart a b i.ticket t h (omega arith) i.is

-- what the node with records b said brings this
heard-other : IssuesOnce → IssuedByOne → (n : ℕ) (b a : List Fact) (m : Message) → AreApart b a → Owns n b → Says b m
    → (rec : Fact) → Heard m rec → HeardSettled b a rec
heard-other once apart n b a m h o says (Granted c t acks_to y deadline lapse offer) e =
    (asked-settled once apart n b a create.0.seq t h o create.0.asked, by_offer offer e.1.2)
  where
    asked : CreateSequence
    asked = e.1.0

    create : SaysCreate b (Some t) (body.Lifecycle (life.Create asked))
    create = subst (λ z. SaysCreate b z (body.Lifecycle (life.Create asked))) e.0
        (subst (SaysCreate b m.addressing.message_id) e.1.1 says.create)

    by_offer : (offer : Option PeerOffer) → IfSome offer (IsOffered asked.offer)
        → IfSome offer (λ (taken : PeerOffer). IsSettled b a taken.ident)
    by_offer None f = tt
    by_offer (Some taken) f =
        let made : Offer = f.0 in
        let granted : IsGranted b t made.ident =
        subst (λ z. IfSome z (λ (o : Offer). IsGranted b t o.ident)) f.1 create.1 in
        subst (IsSettled b a) (sym f.2)
        (incoming-settled once apart n b a granted.seq made.ident t h o granted.incoming)
heard-other once apart n b a m h o says (Created s q accept) e =
    subst (IsSettled b a) (sym e.1.2)
    (incoming-settled once apart n b a granted.seq e.1.0.ident e.0.0 h o granted.incoming)
  where
    granted : IsGranted b e.0.0 e.1.0.ident
    granted = subst (λ z. SaysResponse b z (body.Lifecycle (life.CreateResponse e.1.0))) e.0.1
        (subst (SaysResponse b m.addressing.relates) e.1.1 says.response)
heard-other once apart n b a m h o says _ e = tt

-- what a stranger said brings this
heard-stranger : (a b : List Fact) (m : Message) → BringsSettled a b m.addressing.message_id m.body → (rec : Fact)
    → Heard m rec → HeardSettled a b rec
heard-stranger a b m h (Granted c t acks_to y deadline lapse offer) e = (brings.0, by_offer offer e.1.2)
  where
    asked : CreateSequence
    asked = e.1.0

    brings : BringsSettled a b (Some t) (body.Lifecycle (life.Create asked))
    brings = subst (λ z. BringsSettled a b z (body.Lifecycle (life.Create asked))) e.0
        (subst (BringsSettled a b m.addressing.message_id) e.1.1 h)

    by_offer : (offer : Option PeerOffer) → IfSome offer (IsOffered asked.offer)
        → IfSome offer (λ (taken : PeerOffer). IsSettled a b taken.ident)
    by_offer None f = tt
    by_offer (Some taken) f =
        subst (IsSettled a b) (sym f.2)
        (subst (λ z. IfSome z (λ (o : Offer). IsSettled a b o.ident)) f.1 brings.1)
heard-stranger a b m h (Created s q accept) e =
    subst (IsSettled a b) (sym e.1.2) (subst (BringsSettled a b m.addressing.message_id) e.1.1 h)
heard-stranger a b m h _ e = tt

-- ---- what befalls one of the two brings nothing that is to come

quiet-settled : (a b : List Fact) (rec : Fact) → IsQuiet rec → HeardSettled a b rec
quiet-settled a b (Granted c t acks_to y deadline lapse offer) h = absurd h
quiet-settled a b (Created s q accept) h = absurd h
quiet-settled a b _ h = tt

wished-settled : (a b : List Fact) (wish : Wish) (rec : Fact) → IsWished wish rec → HeardSettled a b rec
wished-settled a b wish (Granted c t acks_to y deadline lapse offer) h = absurd h
wished-settled a b wish (Created s q accept) h = absurd h
wished-settled a b wish _ h = tt

-- what may be heard brings none
abbrev HearsSettled : List Fact → List Fact → Act → Type 0
HearsSettled a b act =
    (m : Message) → act ≡ Receives (Ok m) → (rec : Fact) → Heard m rec → HeardSettled a b rec

batch-settled : (a b : List Fact) (act : Act) → HearsSettled a b act → (d : List Fact) → AreBrought act d
    → AllByRecursion (HeardSettled a b) d
batch-settled a b (Creates wish) f d h = All-weaker (IsWished wish) (HeardSettled a b) (wished-settled a b wish) d h
batch-settled a b (Grants y) f d h = All-weaker IsQuiet (HeardSettled a b) (quiet-settled a b) d h
batch-settled a b (Sends s text) f d (inl e) = subst (AllByRecursion (HeardSettled a b)) (sym e) tt
batch-settled a b (Sends s text) f d (inr e) = subst (AllByRecursion (HeardSettled a b)) (sym e) (tt, tt)
batch-settled a b (Ticks now) f d h = All-weaker IsQuiet (HeardSettled a b) (quiet-settled a b) d h
batch-settled a b (Closes s) f d h = All-weaker IsQuiet (HeardSettled a b) (quiet-settled a b) d h
batch-settled a b (Ends s) f d h = All-weaker IsQuiet (HeardSettled a b) (quiet-settled a b) d h
batch-settled a b (AsksAck s) f d h = All-weaker IsQuiet (HeardSettled a b) (quiet-settled a b) d h
batch-settled a b (NacksMissing s) f d h = All-weaker IsQuiet (HeardSettled a b) (quiet-settled a b) d h
batch-settled a b (Polls to) f d h = All-weaker IsQuiet (HeardSettled a b) (quiet-settled a b) d h
batch-settled a b (Consumes s upto) f d h =
    All-weaker (λ (rec : Fact). rec ≡ Consumed s upto) (HeardSettled a b)
    (λ rec e. subst (HeardSettled a b) (sym e) tt) d h
batch-settled a b (Receives (Ok m)) f d h = All-weaker (Heard m) (HeardSettled a b) (f m refl) d h
batch-settled a b (Receives (Err refusal)) f d h = All-weaker IsQuiet (HeardSettled a b) (quiet-settled a b) d h
batch-settled a b Compacts f d h = All-weaker IsQuiet (HeardSettled a b) (quiet-settled a b) d h
batch-settled a b (Arms calls) f d h = All-weaker IsQuiet (HeardSettled a b) (quiet-settled a b) d h
batch-settled a b (Crashes kept) f d h = All-weaker IsQuiet (HeardSettled a b) (quiet-settled a b) d h

heard-turn : (a b : List Fact) (rec : Fact) → HeardSettled b a rec → HeardSettled a b rec
heard-turn a b (Created s q accept) h = settled-turn b a q h
heard-turn a b (Granted c t acks_to y deadline lapse offer) h = (
  settled-turn b a t h.0,
  IfSome-weaker (λ (taken : PeerOffer). IsSettled b a taken.ident) (λ (taken : PeerOffer). IsSettled a b taken.ident)
      (λ taken s. settled-turn b a taken.ident s) offer h.1,
)
heard-turn a b _ h = tt

comes-settled : IssuesOnce → IssuedByOne → (n : ℕ) (a b : List Fact) (ys : List Message) (act : Act) → AreApart b a
    → Owns n b → AllByRecursion (Says b) ys → ComesSettled a b ys act → HearsSettled a b act
comes-settled once apart n a b ys act h o says c m e rec heard = by_case (subst (ComesSettled a b ys) e c)
  where
    by_case : IsAmong ys m ⊎ BringsSettled a b m.addressing.message_id m.body → HeardSettled a b rec
    by_case (inl among) = heard-turn a b rec
        (heard-other once apart n b a m h o (All-numbered (Says b) ys among.0 m says among.1) rec heard)
    by_case (inr brings) = heard-stranger a b m brings rec heard

-- ---- a step of one of the two

apart-of : (terms : Terms) (n m : ℕ) (x y : Node) (xs ys : List Message) → IsPair terms n m x y xs ys
    → AreApart x.whole y.whole
apart-of terms n m x y xs ys h = record {
  one = subst (λ k. k < 2 ^ 60) (sym h.agree.owns.number) h.numbers.0;
  two = subst (λ k. k < 2 ^ 60) (sym h.agree.others.number) h.numbers.1;
  apart = λ e. h.numbers.2 (sym h.agree.owns.number ∙ e ∙ h.agree.others.number);
  few = small-counter (counter x.whole) (node_end terms x) h.one.bounded.below h.one.bounded.store;
}

-- a node of a pair, by what its records have of messages
settled-node : (terms : Terms) (x : Node) (b : List Fact) (said : List Message) → KnowsSettled x.whole b
    → IsPairNode terms x b said → WritesSettled x.whole b x.state → IsSettledNode x b said
settled-node terms x b said k n w = record {
  records_ = all-settled k.once k.by_one x.whole b k.numbers x.whole k.drawn_ k.heard;
  writes = w;
  says = All-weaker (Says x.whole) (NamesSettled x.whole b) (λ m s. says-settled x.whole b m k s) said n.says;
  waits = waits-settled x.whole b x.polled k n.waits;
}

writes-grow : (a b c d : List Fact) → MoreDrawn a c → MoreDrawn b d → (state : State) → WritesSettled a b state
    → WritesSettled c d state
writes-grow a b c d g k (Writing delta) h =
    All-weaker (HeardSettled a b) (HeardSettled c d) (heard-grows a b c d g k) delta h
writes-grow a b c d g k Up h = tt
writes-grow a b c d g k (Compacting start) h = tt

settled-by : IssuesOnce → IssuedByOne → (terms : Terms) (n m : ℕ) (x y z : Node) (xs ys said : List Message)
    (act : Act) → IsPair terms n m x y xs ys → IsPair terms n m z y said ys → Gained act x z
    → AreSettled x y xs ys → HearsSettled x.whole y.whole act → AreSettled z y said ys
settled-by once apart terms n m x y z xs ys said act old new gained s hears = record {
  one = settled-node terms z y.whole said mine new.one (by_state z.state refl);
  two = settled-node terms y z.whole ys theirs new.two
      (writes-grow y.whole x.whole y.whole z.whole same grown y.state s.two.writes);
}
  where
    grown : MoreDrawn x.whole z.whole
    grown =
        let count : counter z.whole ≡ counter (x.whole ++ gained.delta) = ap counter gained.is in
        let both : counter (x.whole ++ gained.delta) ≡ counter x.whole + counter gained.delta =
        counter-both x.whole gained.delta in
        record { number_ = new.agree.owns.number ∙ sym old.agree.owns.number; counter_ = omega arith }

    same : MoreDrawn y.whole y.whole
    same = record { number_ = refl; counter_ = let le : counter y.whole ≤ counter y.whole = omega arith in le }

    later : (d : List Fact) → AllByRecursion (HeardSettled x.whole y.whole) d
        → AllByRecursion (HeardSettled z.whole y.whole) d
    later d h = All-weaker (HeardSettled x.whole y.whole) (HeardSettled z.whole y.whole)
        (heard-grows x.whole y.whole z.whole y.whole grown same) d h

    brought : (d : List Fact) → AreBrought act d ⊎ (x.state ≡ Writing d)
        → AllByRecursion (HeardSettled z.whole y.whole) d
    brought d (inl new) = later d (batch-settled x.whole y.whole act hears d new)
    brought d (inr pending) = later d (subst (WritesSettled x.whole y.whole) pending s.one.writes)

    heard : AllByRecursion (HeardSettled z.whole y.whole) z.whole
    heard = subst (AllByRecursion (HeardSettled z.whole y.whole)) (sym gained.is)
        (All-append (HeardSettled z.whole y.whole) x.whole gained.delta
        (later x.whole (all-heard x.whole y.whole x.whole s.one.records_)) (brought gained.delta gained.from))

    mine : KnowsSettled z.whole y.whole
    mine = record {
      once = once;
      by_one = apart;
      numbers = apart-of terms n m z y said ys new;
      drawn_ = whole-drawn (records z) z.whole new.one.stands;
      heard = heard;
    }

    theirs : KnowsSettled y.whole z.whole
    theirs = record {
      once = once;
      by_one = apart;
      numbers = apart-of terms m n y z ys said (a-pair-turns terms n m z y said ys new);
      drawn_ = whole-drawn (records y) y.whole new.two.stands;
      heard = All-weaker (HeardSettled y.whole x.whole) (HeardSettled y.whole z.whole)
          (heard-grows y.whole x.whole y.whole z.whole same grown) y.whole
          (all-heard y.whole x.whole y.whole s.two.records_);
    }

    by_state : (state : State) → z.state ≡ state → WritesSettled z.whole y.whole state
    by_state Up e = tt
    by_state (Compacting start) e = tt
    by_state (Writing d) e = brought d (gained.next d e).1

pub stays-settled : StaysAPair → IssuesOnce → IssuedByOne → StaysSettled
stays-settled pairs once apart terms n m x y xs ys act t h s c f =
    let step = pairs terms n m x y xs ys act t h c in
    settled-by once apart terms n m x y (acted terms x act).node xs ys (xs ++ left (acted terms x act)) act h step.pair
    step.gained s (comes-settled once apart m x.whole y.whole ys act
    (apart-of terms m n y x ys xs (a-pair-turns terms n m x y xs ys h)) h.agree.others h.two.says f)

pub made-settled : MadeAreSettled
made-settled n m one two = record {
  one = record { records_ = ((tt, tt), tt); writes = tt; says = tt; waits = tt };
  two = record { records_ = ((tt, tt), tt); writes = tt; says = tt; waits = tt };
}
