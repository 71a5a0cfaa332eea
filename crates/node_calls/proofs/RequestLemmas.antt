-- What is said after one more record: the request that a sequence waits with then, or its last message.
use Rattle.std.proofs.Common.{◌≡◌, ℕ, ◌+◌, ◌-◌, true, cond, List, [], ◌∷◌, ◌++◌, length}
use Rattle.std.proofs.Common.{suc, refl, ap, ◌∙◌, arith, Option, Some, None}
use Rattle.std.specs.Prelude.{codes, slice_get}
use Rattle.std.specs.Option.{option_or}
use Rattle.std.proofs.lemmas.Bool.{eq-eqb}
use Rattle.std.proofs.lemmas.List.{length-append}
use Rattle.rm_base.specs.Numbered.{numbered}
use Rattle.rm_base.specs.declared.lapse.Lapse.{Lapse}
use Rattle.rm_message.specs.declared.elements.lifecycle.Lifecycle.TheVariants as life
use Rattle.rm_message.specs.declared.elements.lifecycle.Offer.{Offer}
use Rattle.rm_sides.specs.declared.source.phase.OutPhase.{OutPhase}
use Rattle.rm_sides.specs.declared.source.phase.OutPhase.TheVariants as out
use Rattle.rm_sides.specs.Source.Outgoing.{Sending}
use Rattle.record_batch.specs.declared.record.OwnOffer.{OwnOffer}
use Rattle.record_batch.specs.declared.record.Via.{Via}
use Rattle.record_batch.specs.Fact.{Fact, Creating, Accepted, Closing, Ending}
use Rattle.record_batch.specs.Sequences.Words.{Text, at_seq, last_or}
use Rattle.record_batch.specs.Sequences.Makers.{Outgoing, makers, makers_of, maker}
use Rattle.record_batch.specs.Sequences.Sources.{accepted, accepted_count, accepted_of, dropped, first_phase, mark_of}
use Rattle.record_batch.specs.Sequences.Sources.{marks, out_ident, payload_at, phase, ticket_of, tickets}
use Rattle.record_batch.specs.Sequences.Find.{peer, plain_endpoint}
use Rattle.record_batch.specs.Sequences.Fits.{all_fit}
use Rattle.record_batch.specs.Sequences.GatherLemmas.{at_seq-more, flat_map-more, last_or-append}
use Rattle.record_batch.specs.Sequences.NameLemmas.{NamesUpTo, names-fit, names-more, unnamed_ident}
use Rattle.record_batch.specs.Sequences.NodeLemmas.{one_more}
use Rattle.record_batch.specs.Sequences.PhaseLemmas.{out_ident-more}
use Rattle.record_batch.specs.Sequences.ToldLemmas.{sending-unnamed}
use Rattle.rm_message.specs.declared.message.Message.{Message}
use Rattle.rm_protocol.specs.Addresses.{own_address}
use Rattle.rm_protocol.specs.Messages.{create_request, finish_request, offer_by, request_at, request_by, request_of}
use Rattle.node_messages.specs.Requests.{create_with, offer_with}
use Rattle.node_calls.proofs.DrawnLemmas.{numbered-next}

-- ---- a record of a sequence that is there

one_of : {A : Type 0} (s : ℕ) (a : A) → at_seq s ((s, a) ∷ []) ≡ a ∷ []
one_of s a = ap (λ b. cond b (a ∷ []) []) (eq-eqb s s refl)

-- a phase record tells the phase
phase-told : (r : List Fact) (s : ℕ) (p : OutPhase) (f : Fact) → mark_of f ≡ (s, p) ∷ [] → phase (r ++ f ∷ []) s ≡ p
phase-told r s p f is =
    let first = first_phase (out_ident (r ++ f ∷ []) s) in
    ap (last_or first)
    (at_seq-more s mark_of r f ∙ ap (λ ms. marks r s ++ at_seq s ms) is ∙ ap (λ ps. marks r s ++ ps) (one_of s p))
    ∙ last_or-append first (marks r s) (p ∷ [])

-- a request's record tells the last ticket
ticket-told : (r : List Fact) (s t : ℕ) (f : Fact) → ticket_of f ≡ (s, t) ∷ [] → last_or 0 (tickets (r ++ f ∷ []) s) ≡ t
ticket-told r s t f is =
    ap (last_or 0)
    (at_seq-more s ticket_of r f ∙ ap (λ ms. tickets r s ++ at_seq s ms) is
    ∙ ap (λ ts. tickets r s ++ ts) (one_of s t))
    ∙ last_or-append 0 (tickets r s) (t ∷ [])

pub closing-ticket : (r : List Fact) (s t : ℕ) → last_or 0 (tickets (r ++ Closing s t ∷ []) s) ≡ t
closing-ticket r s t = ticket-told r s t (Closing s t) refl

pub ending-ticket : (r : List Fact) (s t : ℕ) → last_or 0 (tickets (r ++ Ending s t ∷ []) s) ≡ t
ending-ticket r s t = ticket-told r s t (Ending s t) refl

pub closing-request : (r : List Fact) (s t : ℕ) → request_at (r ++ Closing s t ∷ []) s
    ≡ finish_request (r ++ Closing s t ∷ []) s (peer (r ++ Closing s t ∷ []) s) (out_ident (r ++ Closing s t ∷ []) s)
    (codes "CloseSequence") life.Close
closing-request r s t =
    ap (request_by (r ++ Closing s t ∷ []) s) (phase-told r s out.Closing (Closing s t) refl)

pub ending-request : (r : List Fact) (s t : ℕ) → request_at (r ++ Ending s t ∷ []) s
    ≡ finish_request (r ++ Ending s t ∷ []) s (peer (r ++ Ending s t ∷ []) s) (out_ident (r ++ Ending s t ∷ []) s)
    (codes "TerminateSequence") life.Terminate
ending-request r s t = ap (request_by (r ++ Ending s t ∷ []) s) (phase-told r s out.Ending (Ending s t) refl)

-- ---- a payload

accepted-more : (r : List Fact) (s : ℕ) (p : Text) → accepted (r ++ Accepted s p ∷ []) s ≡ accepted r s ++ p ∷ []
accepted-more r s p =
    flat_map-more (accepted_of s) r (Accepted s p)
    ∙ ap (λ b. accepted r s ++ cond b (p ∷ []) []) (eq-eqb s s refl)

accepted-length : (r : List Fact) (s : ℕ) (p : Text)
    → length (accepted (r ++ Accepted s p ∷ []) s) ≡ length (accepted r s) + 1
accepted-length r s p = ap length (accepted-more r s p) ∙ length-append (accepted r s) (p ∷ [])

get_behind : {A : Type 0} (xs ys : List A) (k : ℕ) → slice_get (xs ++ ys) (length xs + k) ≡ slice_get ys k
get_behind [] ys k = let same : 0 + k ≡ k = omega arith in ap (slice_get ys) same
get_behind (x ∷ xs) ys k =
    let next : length (x ∷ xs) + k ≡ suc (length xs + k) = omega arith in
    ap (slice_get (x ∷ (xs ++ ys))) next ∙ get_behind xs ys k

-- the items behind others
numbered-behind : {A : Type 0} (xs ys : List A) (k n : ℕ) → n ≡ length xs + k + 1
    → numbered (xs ++ ys) n ≡ slice_get ys k
numbered-behind xs ys k n is =
    ap (numbered (xs ++ ys)) is ∙ numbered-next (xs ++ ys) (length xs + k) ∙ get_behind xs ys k

pub accepted-last : (r : List Fact) (s : ℕ) (p : Text)
    → payload_at (r ++ Accepted s p ∷ []) s (accepted_count (r ++ Accepted s p ∷ []) s) ≡ Some p
accepted-last r s p =
    let now = r ++ Accepted s p ∷ [] in
    let more = accepted-length r s p in
    ap (λ xs. numbered xs (accepted_count now s - dropped now s)) (accepted-more r s p)
    ∙ numbered-behind (accepted r s) (p ∷ []) 0 _ (omega (arith, more))

-- ---- a new sequence

new-phase : (r : List Fact) (t : ℕ) (to : Text) (via : Via) (lapse : Lapse) (offer : Option OwnOffer)
    → all_fit [] r ≡ true
    → phase (r ++ Creating t to via lapse offer ∷ []) (length (makers r) + 1) ≡ out.Creating
new-phase r t to via lapse offer fit =
    let n = length (makers r) in
    let f = Creating t to via lapse offer in
    let up : NamesUpTo n r = names-fit r fit in
    let bare : out_ident r (n + 1) ≡ None = unnamed_ident n (n + 1) 0 r up (omega arith) (omega arith) in
    let none : out_ident (r ++ f ∷ []) (n + 1) ≡ None =
    out_ident-more r f (n + 1) ∙ ap (λ o. option_or o None) bare in
    ap (λ (x : Sending). x.phase)
    (sending-unnamed n (n + 1) (r ++ f ∷ []) (names-more n r f up (omega arith)) (omega arith))
    ∙ ap first_phase none

new-maker : (r : List Fact) (t : ℕ) (to : Text) (via : Via) (lapse : Lapse) (offer : Option OwnOffer) (k : ℕ)
    → maker (r ++ Creating t to via lapse offer ∷ []) (length (makers r) + k + 1)
    ≡ slice_get (makers_of (Creating t to via lapse offer)) k
new-maker r t to via lapse offer k =
    ap (λ ms. numbered ms (length (makers r) + k + 1)) (one_more.makers_ r (Creating t to via lapse offer))
    ∙ numbered-behind (makers r) (makers_of (Creating t to via lapse offer)) k _ refl

first_made : (t : ℕ) (to : Text) (via : Via) (lapse : Lapse) (offer : Option OwnOffer)
    → slice_get (makers_of (Creating t to via lapse offer)) 0 ≡ Some (Outgoing t to via lapse)
first_made t to via lapse None = refl
first_made t to via lapse (Some offer) = refl

second_offered : (now : List Fact) (t : ℕ) (to : Text) (via : Via) (lapse : Lapse) (offer : Option OwnOffer)
    → offer_by now via t (slice_get (makers_of (Creating t to via lapse offer)) 1) ≡ offer_with now via offer
second_offered now t to via lapse None = refl
second_offered now t to via lapse (Some own) =
    ap (λ b. cond b (offer_with now via (Some own)) None) (eq-eqb t t refl)

-- the request for a sequence, with an offer
abbrev pub with_offer : List Fact → Text → Via → ℕ → Lapse → Option Offer → Message
with_offer r to via ticket lapse offer =
    request_of r (plain_endpoint to) via ticket (codes "CreateSequence") (life.Create (record {
      acks_to = plain_endpoint (own_address r via);
      expires = lapse;
      offer = offer;
    }))

pub creating-request : (r : List Fact) (t : ℕ) (to : Text) (via : Via) (lapse : Lapse) (offer : Option OwnOffer)
    → all_fit [] r ≡ true
    → request_at (r ++ Creating t to via lapse offer ∷ []) (length (makers r) + 1)
    ≡ Some (create_with (r ++ Creating t to via lapse offer ∷ []) to via t lapse offer)
creating-request r t to via lapse offer fit =
    let n = length (makers r) in
    let now = r ++ Creating t to via lapse offer ∷ [] in
    let zero_more : n + 1 ≡ n + 0 + 1 = omega arith in
    let made : maker now (n + 1) ≡ Some (Outgoing t to via lapse) =
    ap (maker now) zero_more ∙ new-maker r t to via lapse offer 0 ∙ first_made t to via lapse offer in
    let offered : offer_by now via t (maker now (n + 1 + 1)) ≡ offer_with now via offer =
    ap (offer_by now via t) (new-maker r t to via lapse offer 1) ∙ second_offered now t to via lapse offer in
    ap (request_by now (n + 1)) (new-phase r t to via lapse offer fit)
    ∙ ap (create_request now (n + 1)) made
    ∙ ap (λ (o : Option Offer). Some (with_offer now to via t lapse o)) offered
