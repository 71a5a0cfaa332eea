-- Requests that wait are there to be said, and their responses end the wait.
use Rattle.std.proofs.Common.{◌≡◌, ℕ, zero, suc, ◌+◌, ◌==◌, ◌&&◌, not, cond, true, false, List, []}
use Rattle.std.proofs.Common.{◌∷◌, ◌++◌, length, refl, sym, ap, ◌∙◌, subst, arith, inl, inr, append-nil, append_assoc}
use Rattle.std.specs.Prelude.{Option, Some, None, codes, is_none, is_some}
use Rattle.std.specs.List.{flat_map}
use Rattle.std.specs.Option.{option_or}
use Rattle.std.specs.Str.{bytes_eq}
use Rattle.std.proofs.lemmas.Bool.{and_parts, eq-eqb, false≢true}
use Rattle.std.proofs.lemmas.List.Concat.{flat_map-append}
use Rattle.rm_base.specs.Numbered.{numbered}
use Rattle.rm_base.specs.declared.message.Cause.TheVariants.{NotTaken}
use Rattle.rm_message.specs.declared.elements.lifecycle.CreateResponse.{CreateResponse}
use Rattle.rm_message.specs.declared.elements.lifecycle.Lifecycle.TheVariants as life
use Rattle.rm_sides.specs.Destination.Messages.{is_empty}
use Rattle.rm_sides.specs.declared.source.phase.OutPhase.{OutPhase}
use Rattle.rm_sides.specs.declared.source.phase.OutPhase.TheVariants as out
use Rattle.wsa_headers.specs.declared.endpoint.Epr.{Epr}
use Rattle.record_batch.specs.Fact.{Fact, ClosedOut, Created, Creating, Ended, EndedOut, Granted}
use Rattle.record_batch.specs.Sequences.GatherLemmas.{at_seq-more, last_or-append}
use Rattle.record_batch.specs.Sequences.PhaseLemmas.{creating-bare, out_ident-more}
use Rattle.record_batch.specs.Sequences.Words.{Text, at_seq, last_or}
use Rattle.record_batch.specs.Sequences.Makers.{Maker, Incoming, Offered, Outgoing, Taken, created_from, created_of}
use Rattle.record_batch.specs.Sequences.Makers.{ident_in, maker, makers, number}
use Rattle.record_batch.specs.Sequences.Sources.{first_phase, mark_of, marks, out_ident, phase}
use Rattle.record_batch.specs.Sequences.Find.{find_creating, find_outgoing, is_creating, is_offered, peer, peer_of}
use Rattle.record_batch.specs.Sequences.Find.{plain_endpoint}
use Rattle.record_batch.specs.Sequences.Destinations.{has_end}
use Rattle.record_batch.specs.Sequences.Idents.{issue}
use Rattle.record_batch.specs.Sequences.Fits.{all_fit}
use Rattle.rm_protocol.specs.Messages.{create_request, finish_request, request_at, request_by}
use Rattle.rm_protocol.specs.Rows.{closed_at, closed_in, drop_unless, ended_at, ended_in, response_at}
use Rattle.rm_protocol.specs.Rows.{response_row}
use Rattle.rm_protocol.specs.Waiting.{is_requesting, is_waiting, key, waits_of}
use Rattle.rm_arrival.specs.Requests.{HasRequest, RequestIsSaid, ResponsesEnd}
use Rattle.rm_arrival.proofs.ArriveLemmas.{find_from-is}
use Rattle.rm_arrival.proofs.MemberLemmas.{numbered-next}
use Rattle.rm_arrival.proofs.SentLemmas.{IsThere, named-in, said-of}
use Rattle.rm_arrival.proofs.StayLemmas.{out_ident-stays}

-- ---- a sequence that was taken has an identifier

-- the sequence has none
abbrev IsBare : List (ℕ × Text) → ℕ → Type 0
IsBare cs s = ident_in cs s ≡ None

bare-back : (cs ds : List (ℕ × Text)) (s : ℕ) → IsBare (cs ++ ds) s → IsBare ds s
bare-back [] ds s h = h
bare-back (c ∷ cs) ds s h = elim (c.0 == s) as (λ b. cond b (Some c.1) (ident_in (cs ++ ds) s) ≡ None → IsBare ds s) [
  | true ↦ λ e. absurd (cc (e))
  | false ↦ λ e. bare-back cs ds s e
] h

numbered-second : {A : Type 0} (x : A) (xs : List A) (j : ℕ) → numbered (x ∷ xs) (suc (suc j)) ≡ numbered xs (suc j)
numbered-second x xs j = numbered-next (x ∷ xs) (suc j) ∙ sym (numbered-next xs j)

-- made by the taking of an offer
abbrev IsTakenOne : Maker → Type 0
IsTakenOne (Taken message_id ident endpoint) = Unit {0}
IsTakenOne _ = ⊥

first-is : {A : Type 0} (x y : A) (xs : List A) → numbered (x ∷ xs) 1 ≡ Some y → x ≡ y
first-is x y xs e = cc (sym (numbered-next (x ∷ xs) 0) ∙ e)

taken-named : (k : ℕ) (r : List Fact) (j : ℕ) (m : Maker) → IsTakenOne m → numbered (makers r) j ≡ Some m
    → IsBare (created_from k r) (k + j) → ⊥
taken-named k r zero m is e bare = absurd (cc (e))
taken-named k [] (suc j) m is e bare = absurd (cc (sym (numbered-next [] j) ∙ e))
taken-named k (Creating ticket to via lapse None ∷ r) (suc zero) m is e bare =
    subst IsTakenOne (sym (first-is (Outgoing ticket to via lapse) m (makers r) e)) is
taken-named k (Creating ticket to via lapse None ∷ r) (suc (suc j)) m is e bare =
    taken-named (k + 1) r (suc j) m is (sym (numbered-second (Outgoing ticket to via lapse) (makers r) j) ∙ e)
    (subst (λ n. IsBare (created_from (k + 1) r) n) (place k j) bare)
  where
    place : (k j : ℕ) → k + suc (suc j) ≡ k + 1 + suc j
    place k j = omega arith
taken-named k (Creating ticket to via lapse (Some offer) ∷ r) (suc zero) m is e bare =
    subst IsTakenOne (sym (first-is (Outgoing ticket to via lapse) m
    (Offered ticket offer.counter to offer.behaviour ∷ makers r) e)) is
taken-named k (Creating ticket to via lapse (Some offer) ∷ r) (suc (suc zero)) m is e bare =
    subst IsTakenOne (sym (first-is (Offered ticket offer.counter to offer.behaviour) m (makers r)
    (sym (numbered-second (Outgoing ticket to via lapse)
    (Offered ticket offer.counter to offer.behaviour ∷ makers r) 0) ∙ e))) is
taken-named k (Creating ticket to via lapse (Some offer) ∷ r) (suc (suc (suc j))) m is e bare =
    taken-named (k + 2) r (suc j) m is
    (sym (numbered-second (Outgoing ticket to via lapse)
    (Offered ticket offer.counter to offer.behaviour ∷ makers r) (suc j)
    ∙ numbered-second (Offered ticket offer.counter to offer.behaviour) (makers r) j) ∙ e)
    (subst (λ n. IsBare (created_from (k + 2) r) n) (place k j) bare)
  where
    place : (k j : ℕ) → k + suc (suc (suc j)) ≡ k + 2 + suc j
    place k j = omega arith
taken-named k (Granted c t acks y deadline lapse None ∷ r) (suc zero) m is e bare =
    subst IsTakenOne (sym (first-is (Incoming c t acks y deadline lapse) m (makers r) e)) is
taken-named k (Granted c t acks y deadline lapse None ∷ r) (suc (suc j)) m is e bare =
    taken-named (k + 1) r (suc j) m is (sym (numbered-second (Incoming c t acks y deadline lapse) (makers r) j) ∙ e)
    (subst (λ n. IsBare (created_from (k + 1) r) n) (place k j) bare)
  where
    place : (k j : ℕ) → k + suc (suc j) ≡ k + 1 + suc j
    place k j = omega arith
taken-named k (Granted c t acks y deadline lapse (Some offer) ∷ r) (suc zero) m is e bare =
    subst IsTakenOne (sym (first-is (Incoming c t acks y deadline lapse) m
    (Taken t offer.ident offer.endpoint ∷ makers r) e)) is
taken-named k (Granted c t acks y deadline lapse (Some offer) ∷ r) (suc (suc zero)) m is e bare =
    let same : (k + 2 == k + 2) ≡ true = eq-eqb (k + 2) (k + 2) refl in
    absurd (cc (sym (ap (λ b. cond b (Some offer.ident) (ident_in (created_from (k + 2) r) (k + 2))) same) ∙ bare))
taken-named k (Granted c t acks y deadline lapse (Some offer) ∷ r) (suc (suc (suc j))) m is e bare =
    taken-named (k + 2) r (suc j) m is
    (sym (numbered-second (Incoming c t acks y deadline lapse) (Taken t offer.ident offer.endpoint ∷ makers r) (suc j)
    ∙ numbered-second (Taken t offer.ident offer.endpoint) (makers r) j) ∙ e)
    (subst (λ n. IsBare (created_from (k + 2) r) n) (place k j)
    (bare-back ((k + 2, offer.ident) ∷ []) (created_from (k + 2) r) (k + suc (suc (suc j))) bare))
  where
    place : (k j : ℕ) → k + suc (suc (suc j)) ≡ k + 2 + suc j
    place k j = omega arith
taken-named k (rec ∷ r) (suc j) m is e bare =
    taken-named (k + 0) r (suc j) m is e
    (subst (λ n. IsBare (created_from (k + 0) r) n) (place k j)
    (bare-back (created_of k rec) (created_from (k + 0) r) (k + suc j) bare))
  where
    place : (k j : ℕ) → k + suc j ≡ k + 0 + suc j
    place k j = omega arith

-- ---- a request that waits is there

some-there : {A : Type 0} (o : Option A) → is_some o ≡ true → IsThere o
some-there None e = absurd (false≢true e)
some-there (Some x) e = record { item = x; is = refl }

request-there : (r : List Fact) (s : ℕ) → is_some (request_at r s) ≡ true → HasRequest r s
request-there r s e = let it = some-there (request_at r s) e in record { request = it.item; is = it.is }

-- in a phase in which it waits, where it has a peer
requested : (r : List Fact) (s : ℕ) (to : Epr) → all_fit [] r ≡ true → peer r s ≡ Some to
    → (phase r s ≡ out.Creating → HasRequest r s) → is_requesting (phase r s) ≡ true → HasRequest r s
requested r s to fit peer_ creating h = by_phase (phase r s) refl h
  where
    by_phase : (p : OutPhase) → phase r s ≡ p → is_requesting p ≡ true → HasRequest r s
    by_phase out.Creating at k = creating at
    by_phase out.Closing at k =
        let q = named-in r s fit (λ u. elim u [ inl x ↦ cc (sym at ∙ x) | inr x ↦ cc (sym at ∙ x) ]) in
        request-there r s (ap (λ p. is_some (request_by r s p)) at
        ∙ ap (λ o. is_some (finish_request r s o (out_ident r s) (codes "CloseSequence") life.Close)) peer_
        ∙ ap (λ o. is_some (finish_request r s (Some to) o (codes "CloseSequence") life.Close)) q.is)
    by_phase out.Ending at k =
        let q = named-in r s fit (λ u. elim u [ inl x ↦ cc (sym at ∙ x) | inr x ↦ cc (sym at ∙ x) ]) in
        request-there r s (ap (λ p. is_some (request_by r s p)) at
        ∙ ap (λ o. is_some (finish_request r s o (out_ident r s) (codes "TerminateSequence") life.Terminate)) peer_
        ∙ ap (λ o. is_some (finish_request r s (Some to) o (codes "TerminateSequence") life.Terminate)) q.is)
    by_phase _ at k = absurd (false≢true k)

pub has-request : (r : List Fact) (s : ℕ) → all_fit [] r ≡ true → is_waiting r (key s 0) ≡ true → HasRequest r s
has-request r s fit h = by_maker (maker r s) refl h
  where
    bare-at : phase r s ≡ out.Creating → ident_in (created_from 0 r) (0 + s) ≡ None
    bare-at at =
        let place : 0 + s ≡ s = omega arith in
        ap (λ n. ident_in (created_from 0 r) n) place ∙ (creating-bare r s at).0

    by_maker : (o : Option Maker) → maker r s ≡ o → waits_of r s 0 o ≡ true → HasRequest r s
    by_maker (Some (Outgoing ticket to via lapse)) e k =
        requested r s (plain_endpoint to) fit (ap peer_of e)
        (λ at. request-there r s (ap (λ p. is_some (request_by r s p)) at
        ∙ ap (λ o. is_some (create_request r s o)) e)) k
    by_maker (Some (Taken message_id ident endpoint)) e k =
        requested r s endpoint fit (ap peer_of e)
        (λ at. absurd (taken-named 0 r s (Taken message_id ident endpoint) tt e (bare-at at))) k
    by_maker _ e k = absurd (false≢true k)

pub request-said : RequestIsSaid
request-said r s keys fit h due =
    let it = has-request r s fit h in
    (it, said-of r keys s 0 it.request it.is due)

-- ---- what a response ends

silent-by : (r : List Fact) (s : ℕ) → is_requesting (phase r s) ≡ false → is_waiting r (key s 0) ≡ false
silent-by r s e = by_maker (maker r s)
  where
    by_maker : (o : Option Maker) → waits_of r s 0 o ≡ false
    by_maker (Some (Outgoing ticket to via lapse)) = e
    by_maker (Some (Taken message_id ident endpoint)) = e
    by_maker _ = refl

last-mark : (r : List Fact) (f : Fact) (s : ℕ) (p : OutPhase) → at_seq s (mark_of f) ≡ p ∷ []
    → phase (r ++ f ∷ []) s ≡ p
last-mark r f s p e =
    let first = first_phase (out_ident (r ++ f ∷ []) s) in
    ap (λ ps. last_or first ps) (at_seq-more s mark_of r f ∙ ap (λ ps. marks r s ++ ps) e)
    ∙ last_or-append first (marks r s) (p ∷ [])

own-mark : (s : ℕ) (p : OutPhase) → at_seq s ((s, p) ∷ []) ≡ p ∷ []
own-mark s p = ap (λ b. cond b (p ∷ []) []) (eq-eqb s s refl)

closed-ends : (r : List Fact) (q : Text) (s : ℕ) → find_outgoing r q ≡ Some s → phase r s ≡ out.Closing
    → is_waiting (r ++ closed_at (find_outgoing r q) r) (key s 0) ≡ false
closed-ends r q s found at =
    subst (λ o. is_waiting (r ++ closed_at o r) (key s 0) ≡ false) (sym found)
    (subst (λ p. is_waiting (r ++ closed_in s p) (key s 0) ≡ false) (sym at)
    (silent-by (r ++ ClosedOut s ∷ []) s
    (ap is_requesting (last-mark r (ClosedOut s) s out.Closed (own-mark s out.Closed)))))

ended-ends : (r : List Fact) (q : Text) (s : ℕ) → find_outgoing r q ≡ Some s → phase r s ≡ out.Ending
    → is_waiting (r ++ ended_at (find_outgoing r q) r) (key s 0) ≡ false
ended-ends r q s found at =
    subst (λ o. is_waiting (r ++ ended_at o r) (key s 0) ≡ false) (sym found)
    (subst (λ p. is_waiting (r ++ ended_in s p) (key s 0) ≡ false) (sym at)
    (silent-by (r ++ EndedOut s ∷ []) s
    (ap is_requesting (last-mark r (EndedOut s) s out.Ended (own-mark s out.Ended)))))

-- a sequence that was found Creating has no identifier and no later mark
record IsNewOne (r : List Fact) (s : ℕ) : Type 0 where
  bare : out_ident r s ≡ None
  unmarked : marks r s ≡ []

none-is : {A : Type 0} (o : Option A) → is_none o ≡ true → o ≡ None
none-is None e = refl
none-is (Some x) e = absurd (false≢true e)

empty-is : {A : Type 0} (xs : List A) → is_empty xs ≡ true → xs ≡ []
empty-is [] e = refl
empty-is (x ∷ xs) e = absurd (false≢true e)

creating-new : (r : List Fact) (t : Text) (s : ℕ) (m : Maker) → is_creating r t s m ≡ true → IsNewOne r s
creating-new r t s (Outgoing ticket to via lapse) e =
    let parts = and_parts (is_none (out_ident r s)) (is_empty (marks r s))
    (and_parts (bytes_eq (issue (number r) ticket) t) (is_none (out_ident r s) && is_empty (marks r s)) e).1 in
    record { bare = none-is (out_ident r s) parts.0; unmarked = empty-is (marks r s) parts.1 }
creating-new r t s _ e = absurd (false≢true e)

no-marks : (s n : ℕ) (r : List Fact) (accept : Option Epr) → flat_map mark_of (drop_unless accept n r) ≡ []
no-marks s n r None =
    elim (is_offered (maker r (n + 1)) && not (has_end r (n + 1))) as (λ b.
    flat_map mark_of (cond b (Ended (n + 1) NotTaken 0 ∷ []) []) ≡ []) [
      | true ↦ refl
      | false ↦ refl
    ]
no-marks s n r (Some endpoint) = refl

created-ends : (r : List Fact) (t : Text) (c : CreateResponse) (s : ℕ) → find_creating r t ≡ Some s
    → find_outgoing r c.ident ≡ None → is_waiting (r ++ response_row (Some t) c r) (key s 0) ≡ false
created-ends r t c s found new =
    let it = find_from-is (is_creating r t) 0 (makers r) s found in
    let fresh_ = creating-new r t s it.maker_ it.passes in
    let f = Created s c.ident c.accept in
    let d = drop_unless c.accept s r in
    let own : ident_in (created_of (length (makers r)) f) s ≡ Some c.ident =
    ap (λ b. cond b (Some c.ident) None) (eq-eqb s s refl) in
    let named : out_ident (r ++ f ∷ []) s ≡ Some c.ident =
    out_ident-more r f s
    ∙ ap (λ o. option_or o (ident_in (created_of (length (makers r)) f) s)) fresh_.bare ∙ own in
    let later : out_ident (r ++ f ∷ d) s ≡ Some c.ident =
    subst (λ z. out_ident z s ≡ Some c.ident) (append_assoc r (f ∷ []) d)
    (out_ident-stays (r ++ f ∷ []) d s c.ident named) in
    let unmarked : marks (r ++ f ∷ d) s ≡ [] =
    ap (λ ms. at_seq s ms) (flat_map-append mark_of r (f ∷ d)
    ∙ ap (λ ms. flat_map mark_of r ++ ms) (no-marks s s r c.accept))
    ∙ ap (λ ms. at_seq s ms) (append-nil (flat_map mark_of r)) ∙ fresh_.unmarked in
    let opens : phase (r ++ f ∷ d) s ≡ out.Open =
    ap (λ o. last_or (first_phase o) (marks (r ++ f ∷ d) s)) later
    ∙ ap (λ ps. last_or (first_phase (Some c.ident)) ps) unmarked in
    subst (λ o. is_waiting (r ++ response_at o (find_outgoing r c.ident) c r) (key s 0) ≡ false) (sym found)
    (subst (λ o. is_waiting (r ++ response_at (Some s) o c r) (key s 0) ≡ false) (sym new)
    (silent-by (r ++ f ∷ d) s (ap is_requesting opens)))

pub responses-end : ResponsesEnd
responses-end = record { created = created-ends; closed = closed-ends; ended = ended-ends }
