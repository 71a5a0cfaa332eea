-- No acknowledgement of a sound world has a number past what its source accepted.
use Rattle.std.proofs.Common.{◌≡◌, ◌⊎◌, ℕ, suc, ◌≤◌, ◌==◌, ◌||◌, nat_lt, cond, Bool, true}
use Rattle.std.proofs.Common.{false, List, [], ◌∷◌, ◌++◌, length, refl, sym, ap, ◌∙◌, subst, arith, inl, inr}
use Rattle.std.specs.Prelude.{Option, Some, None}
use Rattle.std.specs.List.{AllByRecursion}
use Rattle.std.proofs.lemmas.Bool.{eqb-true}
use Rattle.std.proofs.lemmas.Bool.Decides.{nat_tests}
use Rattle.rm_base.specs.Message.{max_number}
use Rattle.rm_base.specs.Numbered.{numbered}
use Rattle.rm_base.specs.NumberSet.{has_number}
use Rattle.rm_message.specs.declared.elements.header.AckBlock.{AckBlock}
use Rattle.rm_sides.specs.declared.ranges.range.Range.{Range}
use Rattle.rm_sides.specs.Destination.Messages.{numbers_of}
use Rattle.rm_sides.specs.Ranges.Laws.{UnionHasBoth}
use Rattle.rm_sides.specs.Ranges.Ranges.{in_range, in_ranges}
use Rattle.wsa_headers.specs.declared.endpoint.Epr.{Epr}
use Rattle.record_batch.specs.Fact.{Fact, Received}
use Rattle.record_batch.specs.Snapshot.AckedLemmas.{unions}
use Rattle.record_batch.specs.Snapshot.Same.{AreProper, HaveProper}
use Rattle.record_batch.specs.Sequences.Words.{Text, first_or}
use Rattle.record_batch.specs.Sequences.Idents.{issue}
use Rattle.record_batch.specs.Sequences.Makers.{Maker, ident_in, maker, makers, number}
use Rattle.record_batch.specs.Sequences.Sources.{accepted, accepted_count, acked, out_ident}
use Rattle.record_batch.specs.Sequences.Destinations.{received}
use Rattle.record_batch.specs.Sequences.Fits.{all_fit}
use Rattle.record_batch.specs.Sequences.Find.{IsIncoming, IsOutgoing, find_outgoing, incoming_of}
use Rattle.rm_protocol.specs.Messages.{ack_message}
use Rattle.rm_protocol.specs.Node.{records}
use Rattle.rm_protocol.specs.Rows.{ranges_of}
use Rattle.rm_protocol.specs.Sound.{AreWith, IfWith, IsSound, IsSourced, IsWith, Justified, Owns, SaysBlock, SaysPacket}
use Rattle.rm_protocol.specs.Sound.{StandFor}
use Rattle.rm_protocol.specs.Terms.{Terms}
use Rattle.rm_protocol.specs.Verdict.{is_above, is_invalid, is_invalid_at}
use Rattle.rm_protocol.specs.World.{One, Side, Two, World, node, other}
use Rattle.rm_arrival.proofs.MemberLemmas.{all-numbered, numbered-within}
use Rattle.rm_arrival.proofs.WaitLemmas.{Has}

-- ---- what a sound world knows of a node and of the other one

pub record Sees (w : World) (side : Side) : Type 0 where
  pub digit : ℕ
  pub owns : Owns (suc digit) (node w side).whole
  pub others : AllByRecursion (Justified (node w (other side)).whole (node w side).whole) (node w (other side)).whole
  pub with_ : AreWith (node w side).whole (node w (other side)).whole
  pub stands : StandFor (records (node w side)) (node w side).whole

pub sees : (terms : Terms) (w : World) (side : Side) → IsSound terms w → Sees w side
sees terms w One h = record {
  digit = 0;
  owns = h.agree.owns;
  others = h.agree.others_justified;
  with_ = h.two.with_;
  stands = h.one.stands;
}
sees terms w Two h = record {
  digit = 1;
  owns = h.agree.others;
  others = h.agree.justified;
  with_ = h.one.with_;
  stands = h.two.stands;
}

pub number-at : (w : World) (side : Side) (it : Sees w side)
    → number (records (node w side)) ≡ suc it.digit
number-at w side it = ap (λ ns. first_or 0 ns) it.stands.kept.same.frame.nodes ∙ it.owns.number

-- ---- what was received came from the other node

or-either : (x y : Bool) → (x || y) ≡ true → (x ≡ true) ⊎ (y ≡ true)
or-either true y h = inl refl
or-either false y h = inr h

or-first : (x y : Bool) → x ≡ true → (x || y) ≡ true
or-first true y h = refl
or-first false y h = absurd (cc (h))

or-second : (x y : Bool) → y ≡ true → (x || y) ≡ true
or-second true y h = refl
or-second false y h = h

-- the message came from the other node with some payload
record Came (b a : List Fact) (t n : ℕ) : Type 0 where
  payload : Text
  from : IsSourced b a t n payload

came : (b a : List Fact) (t n : ℕ) → ((m : Maker) → maker b t ≡ Some m → IsWith a m) → (r : List Fact)
    → AllByRecursion (Justified b a) r → has_number (numbers_of (received r t)) n ≡ true → Came b a t n
came b a t n w [] h e = absurd (cc (e))
came b a t n w (Received s i p ∷ r) h e =
    elim (s == t) as (λ z. (s == t) ≡ z
    → has_number (numbers_of (cond z ((i, p) ∷ []) [] ++ received r t)) n ≡ true → Came b a t n) [
      | true ↦ λ d k. elim (or-either (i == n) (has_number (numbers_of (received r t)) n) k) [
        | inl x ↦
            let at = subst (λ y. IfWith b a y (IsSourced b a y i p.bytes)) (eqb-true s t d) h.0 in
            let here : IsSourced b a t i p.bytes = at.holds (w at.maker_ at.there) in
            record { payload = p.bytes; from = subst (λ y. IsSourced b a t y p.bytes) (eqb-true i n x) here }
        | inr x ↦ came b a t n w r h.1 x
      ]
      | false ↦ λ d k. came b a t n w r h.1 k
    ] refl e
came b a t n w (rec ∷ r) h e = came b a t n w r h.1 e

abbrev first_in : ℕ → Option (ℕ × Text) → ℕ
first_in c None = c
first_in c (Some x) = x.0

-- an incoming sequence has one identifier
same-ident : (r : List Fact) (t : ℕ) (q p u v : Text) → IsIncoming r t q u → IsIncoming r t p v → q ≡ p
same-ident r t q p u v h k =
    let maker_ : h.maker_ ≡ k.maker_ = cc (h.there, k.there) in
    let made : incoming_of (number r) h.maker_ ≡ incoming_of (number r) k.maker_ = ap (incoming_of (number r)) maker_ in
    let same : h.counter ≡ k.counter = ap (first_in h.counter) (sym h.made ∙ made ∙ k.made) in
    h.is ∙ ap (issue (number r)) same ∙ sym k.is

-- ---- the numbers of ranges that each have one

none-above : (c : ℕ) (ranges : List Range) → AreProper ranges
    → ((n : ℕ) → in_ranges ranges n ≡ true → n ≤ c) → is_above c ranges ≡ false
none-above c [] proper h = refl
none-above c (x ∷ ranges) proper h =
    let rises : x.lower ≤ x.upper = proper.0 in
    let inside : in_range x x.upper ≡ true = grind (arith, nat_tests, rises) in
    let le : x.upper ≤ c = h x.upper (or-first (in_range x x.upper) (in_ranges ranges x.upper) inside) in
    let off : nat_lt c x.upper ≡ false = grind (arith, nat_tests, le) in
    ap (λ b. b || is_above c ranges) off
    ∙ none-above c ranges proper.1 (λ n e. h n (or-second (in_range x n) (in_ranges ranges n) e))

-- the numbers that a node says it holds, the other one accepted
bounded-by : (w : World) (side : Side) (it : Sees w side) (s n : ℕ) (block : AckBlock)
    → SaysBlock (node w (other side)).whole block
    → out_ident (records (node w side)) s ≡ Some block.ident
    → in_ranges (ranges_of block.kind) n ≡ true
    → n ≤ accepted_count (records (node w side)) s
bounded-by w side it s n block says known e =
    let b = (node w (other side)).whole in
    let a = (node w side).whole in
    let held = says.0 n e in
    let it_came = came b a held.seq n (λ m is. all-numbered (IsWith a) (makers b) held.seq m it.with_ is) b it.others
    held.has in
    let from = it_came.from in
    let same : from.ident ≡ block.ident =
    same-ident b held.seq from.ident block.ident from.message_id held.message_id from.incoming held.incoming in
    let outgoing : IsOutgoing a s block.ident =
    record { is = sym (ap (λ cs. ident_in cs s) it.stands.kept.same.frame.created_) ∙ known } in
    let seq : s ≡ from.sent.seq =
    it.owns.unique s from.sent.seq block.ident outgoing
    (subst (λ q. IsOutgoing a from.sent.seq q) same from.sent.outgoing) in
    let within : n ≤ length (accepted a from.sent.seq) =
    numbered-within (accepted a from.sent.seq) n it_came.payload from.sent.item in
    let here : n ≤ length (accepted a s) = subst (λ z. n ≤ length (accepted a z)) (sym seq) within in
    let count = (it.stands.kept.same.sent s).count in
    omega (arith, here, count)

-- an acknowledgement on the wire is no invalid one for the node that it goes to
pub not-invalid : (terms : Terms) (w : World) (side : Side) (s k : ℕ) (to : Epr) (block : AckBlock) → IsSound terms w
    → numbered w.packets k ≡ Some (record { from = other side; message = ack_message to (block ∷ []) })
    → out_ident (records (node w side)) s ≡ Some block.ident
    → find_outgoing (records (node w side)) block.ident ≡ Some s
    → is_invalid (records (node w side)) block ≡ false
not-invalid terms w side s k to block sound there known found =
    let says : SaysPacket w (record { from = other side; message = ack_message to (block ∷ []) }) =
    all-numbered (SaysPacket w) w.packets k _ sound.packets there in
    let r = records (node w side) in
    ap (λ o. is_invalid_at r (ranges_of block.kind) o) found
    ∙ none-above (accepted_count r s) (ranges_of block.kind) says.acks.0.1
    (λ n e. bounded-by w side (sees terms w side sound) s n block says.acks.0 known e)

-- ---- the acknowledged numbers, put together, are the acknowledged numbers

pub has-is-acked : UnionHasBoth → (r : List Fact) (s n : ℕ) → all_fit [] r ≡ true → HaveProper r → Has r s n
    → in_ranges (acked r s) n ≡ true
has-is-acked both r s n fit proper h =
    let few : accepted_count [] s ≤ max_number = omega arith in
    sym ((unions both [] r s [] tt fit few proper).same n) ∙ h
