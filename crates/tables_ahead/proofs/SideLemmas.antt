-- Records that fit are of sequences on their side: of a sequence on the other side, or of none, nothing is known.
use Rattle.std.proofs.Common.{◌≡◌, ◌≢◌, ℕ, ◌+◌, ◌-◌, ◌==◌, Bool, true, false, cond, List, [], ◌∷◌, ◌++◌}
use Rattle.std.proofs.Common.{length, refl, sym, ap, subst, ◌∙◌, arith, Option, Some, None}
use Rattle.std.specs.Prelude.{◌&&◌, nat_le, nat_lt, not, slice_get}
use Rattle.std.specs.List.{flat_map, list_all}
use Rattle.std.specs.Option.{option_or}
use Rattle.std.proofs.lemmas.Bool.{and_parts, false≢true, leb-true, ne_eqb}
use Rattle.std.proofs.lemmas.List.{append-nil, append_assoc, map-append}
use Rattle.rm_base.specs.declared.message.Payload.{Payload}
use Rattle.wsa_headers.specs.declared.endpoint.Epr.{Epr}
use Rattle.rm_sides.specs.Destination.Incoming.{Receiving}
use Rattle.rm_sides.specs.declared.source.phase.OutPhase.TheVariants as out
use Rattle.record_batch.specs.Fact.{Fact, Made, Creating, Created, Granted, Accepted, Acked, Received}
use Rattle.record_batch.specs.Fact.{Closing}
use Rattle.record_batch.specs.Fact.{ClosedOut, Closed, Ending, EndedOut, Ended, Failed, Consumed, Dropped, Purged}
use Rattle.rm_sides.specs.Destination.Messages.{items_of, numbers_of}
use Rattle.record_batch.specs.Sequences.Words.{Text, at_seq, first_or, last_or}
use Rattle.record_batch.specs.Sequences.Makers.{Maker, Outgoing, Offered, Incoming, Taken, makers, makers_of, maker}
use Rattle.record_batch.specs.Sequences.Makers.{counter}
use Rattle.record_batch.specs.Sequences.Makers.{created_of, created_from, ident_in}
use Rattle.record_batch.specs.Sequences.Sources.{accepted_count, accepted_of, acked, acked_of, dropped_of, first_phase}
use Rattle.record_batch.specs.Sequences.Sources.{mark_of}
use Rattle.record_batch.specs.Sequences.Sources.{out_ident, phase}
use Rattle.record_batch.specs.Sequences.Destinations.{close_of, closes, has_end, is_stopped, items, purged_of, received}
use Rattle.record_batch.specs.Sequences.Destinations.{received_of}
use Rattle.record_batch.specs.Sequences.Find.{accept_of, accepted_by}
use Rattle.record_batch.specs.Sequences.Fits.{fits, all_fit, follows, follows_at, is_outgoing_side, is_incoming_side}
use Rattle.record_batch.specs.Sequences.Fits.{is_up_to}
use Rattle.record_batch.specs.Sequences.Told.{names}
use Rattle.record_batch.specs.Sequences.GatherLemmas.{at_seq-append, ident_in-append}
use Rattle.record_batch.specs.Sequences.NameLemmas.{names-within, elsewhere_accepted, elsewhere_acked}
use Rattle.record_batch.specs.Sequences.NameLemmas.{elsewhere_received}
use Rattle.record_batch.specs.Sequences.NameLemmas.{elsewhere_mark, elsewhere_close, elsewhere_accept}
use Rattle.record_batch.specs.Sequences.NameLemmas.{elsewhere_dropped}
use Rattle.record_batch.specs.Sequences.NameLemmas.{elsewhere_purged}
use Rattle.record_batch.specs.Sequences.PhaseLemmas.{created-creating, creating-bare, out_ident-more}
use Rattle.node_tables.specs.Reads.{incoming_in, incoming_of, outgoing_in, outgoing_of}
use Rattle.tables_ahead.specs.Known.{AreNumbers}
use Rattle.tables_ahead.proofs.GatheredLemmas.{gathered_at, makers-count}
use Rattle.tables_ahead.proofs.FoundLemmas.{maker-ahead, maker-known}

-- a sequence that was made so is on the side of the record
abbrev suits : Option Maker → Fact → Bool
suits o (Created seq ident accept) = is_outgoing_side o
suits o (Accepted seq payload) = is_outgoing_side o
suits o (Acked seq ranges) = is_outgoing_side o
suits o (Received seq n payload) = is_incoming_side o
suits o (Closing seq ticket) = is_outgoing_side o
suits o (ClosedOut seq) = is_outgoing_side o
suits o (Closed seq cause last) = is_incoming_side o
suits o (Ending seq ticket) = is_outgoing_side o
suits o (EndedOut seq) = is_outgoing_side o
suits o (Ended seq cause last) = is_incoming_side o
suits o (Failed seq fault) = is_outgoing_side o
suits o (Consumed seq upto) = is_incoming_side o
suits o (Dropped seq upto) = is_outgoing_side o
suits o (Purged seq ranges) = is_incoming_side o
suits o _ = true

-- the sequence that a record names is on the record's side
abbrev OnSide : List Fact → Fact → Type 0
OnSide r f = suits (maker r (names f)) f ≡ true

-- so is that of each record
abbrev AllOnSide : List Fact → List Fact → Type 0
AllOnSide r [] = Unit {0}
AllOnSide r (f ∷ d) = OnSide r f × AllOnSide r d

follows_side : (r : List Fact) (s : ℕ) (f : Fact) → follows_at r s f ≡ true → is_outgoing_side (maker r s) ≡ true
follows_side r s f h = (and_parts (is_outgoing_side (maker r s)) (follows (phase r s) f) h).0

on_side : (r : List Fact) (f : Fact) → fits r f ≡ true → OnSide r f
on_side r (Created seq ident accept) h = follows_side r seq (Created seq ident accept) h
on_side r (Accepted seq payload) h =
    follows_side r seq (Accepted seq payload)
    (and_parts (follows_at r seq (Accepted seq payload)) (nat_lt (accepted_count r seq) 9223372036854775807) h).0
on_side r (Acked seq ranges) h =
    (and_parts (is_outgoing_side (maker r seq)) (list_all (is_up_to (accepted_count r seq)) ranges) h).0
on_side r (Received seq n payload) h = (and_parts (is_incoming_side (maker r seq)) _ h).0
on_side r (Closing seq ticket) h =
    follows_side r seq (Closing seq ticket)
    (and_parts (ticket == counter r + 1) (follows_at r seq (Closing seq ticket)) h).1
on_side r (ClosedOut seq) h = follows_side r seq (ClosedOut seq) h
on_side r (Closed seq cause last) h = (and_parts (is_incoming_side (maker r seq)) (not (is_stopped r seq)) h).0
on_side r (Ending seq ticket) h =
    follows_side r seq (Ending seq ticket)
    (and_parts (ticket == counter r + 1) (follows_at r seq (Ending seq ticket)) h).1
on_side r (EndedOut seq) h = follows_side r seq (EndedOut seq) h
on_side r (Ended seq cause last) h = (and_parts (is_incoming_side (maker r seq)) (not (has_end r seq)) h).0
on_side r (Failed seq fault) h = follows_side r seq (Failed seq fault) h
on_side r (Consumed seq upto) h = (and_parts (is_incoming_side (maker r seq)) _ h).0
on_side r (Dropped seq upto) h =
    follows_side r seq (Dropped seq upto) (and_parts (follows_at r seq (Dropped seq upto)) _ h).0
on_side r (Purged seq ranges) h = (and_parts (is_incoming_side (maker r seq)) _ h).0
on_side r (Made node address) h = refl
on_side r (Creating ticket to via lapse offer) h = refl
on_side r (Granted drawn message_id acks_to behaviour deadline lapse offer) h = refl

all_on_side : (r d : List Fact) → all_fit r d ≡ true → AllOnSide (r ++ d) d
all_on_side r [] h = tt
all_on_side r (f ∷ d) h =
    let parts = and_parts (fits r f) (all_fit (r ++ f ∷ []) d) h in
    let rest = subst (λ rs. AllOnSide rs d) (append_assoc r (f ∷ []) d) (all_on_side (r ++ f ∷ []) d parts.1) in
    let same = maker-known r (f ∷ d) (names f) (names-within r f parts.0) in
    (subst (λ o. suits o f ≡ true) (sym same) (on_side r f parts.0), rest)

-- sequences of which a test gives different answers are different
apart : (p : Option Maker → Bool) (r : List Fact) (n s : ℕ) → p (maker r n) ≡ true → p (maker r s) ≡ false → n ≢ s
apart p r n s h g = λ e. absurd (false≢true (sym g ∙ subst (λ k. p (maker r k) ≡ true) e h))

-- nothing is gathered where each record gives nothing
no_more : {A : Type 0} (r : List Fact) (h : Fact → List A) → ((f : Fact) → OnSide r f → h f ≡ []) → (d : List Fact)
    → AllOnSide r d → flat_map h d ≡ []
no_more r h each [] all = refl
no_more r h each (f ∷ d) all =
    ap (λ xs. xs ++ flat_map h d) (each f all.0) ∙ no_more r h each d all.1

no_more_at : {A : Type 0} (r : List Fact) (s : ℕ) (g : Fact → List (ℕ × A))
    → ((f : Fact) → OnSide r f → at_seq s (g f) ≡ []) → (d : List Fact) → AllOnSide r d → at_seq s (flat_map g d) ≡ []
no_more_at r s g each [] all = refl
no_more_at r s g each (f ∷ d) all =
    at_seq-append s (g f) (flat_map g d) ∙ ap (λ xs. xs ++ at_seq s (flat_map g d)) (each f all.0)
    ∙ no_more_at r s g each d all.1

not_accepted : (r : List Fact) (s : ℕ) (f : Fact) → is_outgoing_side (maker r s) ≡ false → OnSide r f
    → accepted_of s f ≡ []
not_accepted r s (Accepted seq payload) g h =
    elsewhere_accepted (Accepted seq payload) s (apart is_outgoing_side r seq s h g)
not_accepted r s _ g h = refl

not_acked : (r : List Fact) (s : ℕ) (f : Fact) → is_outgoing_side (maker r s) ≡ false → OnSide r f
    → acked_of s f ≡ []
not_acked r s (Acked seq ranges) g h =
    elsewhere_acked (Acked seq ranges) s (apart is_outgoing_side r seq s h g)
not_acked r s (Dropped seq upto) g h =
    elsewhere_acked (Dropped seq upto) s (apart is_outgoing_side r seq s h g)
not_acked r s _ g h = refl

not_dropped : (r : List Fact) (s : ℕ) (f : Fact) → is_outgoing_side (maker r s) ≡ false → OnSide r f
    → dropped_of s f ≡ []
not_dropped r s (Dropped seq upto) g h =
    elsewhere_dropped (Dropped seq upto) s (apart is_outgoing_side r seq s h g)
not_dropped r s _ g h = refl

not_purged : (r : List Fact) (s : ℕ) (f : Fact) → is_incoming_side (maker r s) ≡ false → OnSide r f
    → purged_of s f ≡ []
not_purged r s (Purged seq ranges) g h =
    elsewhere_purged (Purged seq ranges) s (apart is_incoming_side r seq s h g)
not_purged r s _ g h = refl

not_marked : (r : List Fact) (s : ℕ) (f : Fact) → is_outgoing_side (maker r s) ≡ false → OnSide r f
    → at_seq s (mark_of f) ≡ []
not_marked r s (Closing seq ticket) g h =
    elsewhere_mark (Closing seq ticket) s (apart is_outgoing_side r seq s h g)
not_marked r s (ClosedOut seq) g h = elsewhere_mark (ClosedOut seq) s (apart is_outgoing_side r seq s h g)
not_marked r s (Ending seq ticket) g h = elsewhere_mark (Ending seq ticket) s (apart is_outgoing_side r seq s h g)
not_marked r s (EndedOut seq) g h = elsewhere_mark (EndedOut seq) s (apart is_outgoing_side r seq s h g)
not_marked r s (Failed seq fault) g h = elsewhere_mark (Failed seq fault) s (apart is_outgoing_side r seq s h g)
not_marked r s _ g h = refl

not_received : (r : List Fact) (s : ℕ) (f : Fact) → is_incoming_side (maker r s) ≡ false → OnSide r f
    → received_of s f ≡ []
not_received r s (Received seq n payload) g h =
    elsewhere_received (Received seq n payload) s (apart is_incoming_side r seq s h g)
not_received r s _ g h = refl

not_closed : (r : List Fact) (s : ℕ) (f : Fact) → is_incoming_side (maker r s) ≡ false → OnSide r f
    → at_seq s (close_of f) ≡ []
not_closed r s (Closed seq cause last) g h =
    elsewhere_close (Closed seq cause last) s (apart is_incoming_side r seq s h g)
not_closed r s (Ended seq cause last) g h =
    elsewhere_close (Ended seq cause last) s (apart is_incoming_side r seq s h g)
not_closed r s _ g h = refl

-- a record gives an identifier to outgoing sequences alone
not_named : (done d : List Fact) (f : Fact) (s : ℕ) → is_outgoing_side (maker (done ++ f ∷ d) s) ≡ false
    → OnSide (done ++ f ∷ d) f → ident_in (created_of (length (makers done)) f) s ≡ None
not_named done d (Created seq ident accept) s g h =
    ap (λ b. cond b (Some ident) None)
    (ne_eqb seq s (apart is_outgoing_side (done ++ Created seq ident accept ∷ d) seq s h g))
not_named done d (Granted drawn message_id acks_to behaviour deadline lapse (Some offer)) s g h =
    let f : Fact = Granted drawn message_id acks_to behaviour deadline lapse (Some offer) in
    let k = length (makers done) in
    let one : k + 2 - k - 1 ≡ 1 = omega arith in
    let taken : maker (done ++ f ∷ d) (k + 2) ≡ Some (Taken message_id offer.ident offer.endpoint) =
    maker-ahead done (f ∷ d) (k + 2) (omega arith) ∙ ap (slice_get (makers (f ∷ d))) one in
    ap (λ b. cond b (Some offer.ident) None)
    (ne_eqb (k + 2) s (apart is_outgoing_side (done ++ f ∷ d) (k + 2) s (ap is_outgoing_side taken) g))
not_named done d _ s g h = refl

none_named : (done d : List Fact) (s : ℕ) → is_outgoing_side (maker (done ++ d) s) ≡ false → AllOnSide (done ++ d) d
    → ident_in (created_from (length (makers done)) d) s ≡ None
none_named done [] s g all = refl
none_named done (f ∷ d) s g all =
    let k = length (makers done) in
    let whole = append_assoc done (f ∷ []) d in
    let count : length (makers (done ++ f ∷ [])) ≡ k + length (makers_of f) =
    makers-count done (f ∷ []) ∙ ap (λ ms. k + length ms) (append-nil (makers_of f)) in
    let rest : ident_in (created_from (length (makers (done ++ f ∷ []))) d) s ≡ None =
    none_named (done ++ f ∷ []) d s
    (subst (λ rs. is_outgoing_side (maker rs s) ≡ false) (sym whole) g)
    (subst (λ rs. AllOnSide rs d) (sym whole) all.1) in
    ident_in-append (created_of k f) (created_from (k + length (makers_of f)) d) s
    ∙ ap (λ o. option_or o (ident_in (created_from (k + length (makers_of f)) d) s)) (not_named done d f s g all.0)
    ∙ ap (λ n. ident_in (created_from n d) s) (sym count) ∙ rest

-- of a sequence that doesn't send
pub record DoesNotSend (r : List Fact) (s : ℕ) : Type 0 where
  pub count : accepted_count r s ≡ 0
  pub acked_ : acked r s ≡ []
  pub phase_ : phase r s ≡ out.Creating

-- of a sequence that doesn't receive
pub record DoesNotReceive (r : List Fact) (s : ℕ) : Type 0 where
  pub items_ : items r s ≡ []
  pub closes_ : closes r s ≡ []

does_not_send : (r : List Fact) (s : ℕ) → all_fit [] r ≡ true → is_outgoing_side (maker r s) ≡ false → DoesNotSend r s
does_not_send r s fit g =
    let all = all_on_side [] r fit in
    record {
      count = omega (
        arith,
        ap length (no_more r (accepted_of s) (λ f h. not_accepted r s f g h) r all),
        ap (λ ds. last_or 0 ds) (no_more r (dropped_of s) (λ f h. not_dropped r s f g h) r all),
      );
      acked_ = no_more r (acked_of s) (λ f h. not_acked r s f g h) r all;
      phase_ =
          ap (λ ps. last_or (first_phase (out_ident r s)) ps)
          (no_more_at r s mark_of (λ f h. not_marked r s f g h) r all)
          ∙ ap first_phase (none_named [] r s g all);
    }

does_not_receive : (r : List Fact) (s : ℕ) → all_fit [] r ≡ true → is_incoming_side (maker r s) ≡ false
    → DoesNotReceive r s
does_not_receive r s fit g =
    let all = all_on_side [] r fit in
    record {
      items_ =
          ap (λ ps. items_of ps (received r s)) (no_more r (purged_of s) (λ f h. not_purged r s f g h) r all)
          ∙ ap (λ ms. items_of [] ms) (no_more r (received_of s) (λ f h. not_received r s f g h) r all);
      closes_ = no_more_at r s close_of (λ f h. not_closed r s f g h) r all;
    }

no_sender : (r : List Fact) (s : ℕ) (o : Option Maker) → outgoing_of r s o ≡ None → is_outgoing_side o ≡ false
no_sender r s None e = refl
no_sender r s (Some (Outgoing ticket to via lapse)) e = absurd (cc)
no_sender r s (Some (Taken message_id ident endpoint)) e = absurd (cc)
no_sender r s (Some (Incoming counter message_id acks_to behaviour deadline lapse)) e = refl
no_sender r s (Some (Offered ticket counter to behaviour)) e = refl

no_receiver : (r : List Fact) (s : ℕ) (o : Option Maker) → incoming_of r s o ≡ None → is_incoming_side o ≡ false
no_receiver r s None e = refl
no_receiver r s (Some (Outgoing ticket to via lapse)) e = refl
no_receiver r s (Some (Taken message_id ident endpoint)) e = refl
no_receiver r s (Some (Incoming counter message_id acks_to behaviour deadline lapse)) e = absurd (cc)
no_receiver r s (Some (Offered ticket counter to behaviour)) e = absurd (cc)

-- where the tables have no side that sends
pub not-sending : (r : List Fact) (s : ℕ) → all_fit [] r ≡ true → outgoing_in r s ≡ None → DoesNotSend r s
not-sending r s fit e = does_not_send r s fit (no_sender r s (maker r s) e)

-- where they have none that receives
pub not-receiving : (r : List Fact) (s : ℕ) → all_fit [] r ≡ true → incoming_in r s ≡ None → DoesNotReceive r s
not-receiving r s fit e = does_not_receive r s fit (no_receiver r s (maker r s) e)

some_none : (q : Text) → Some q ≡ None → ⊥
some_none q e = cc

none_left : (o p : Option Text) → option_or o p ≡ None → (o ≡ None) × (p ≡ None)
none_left None p e = (refl, e)
none_left (Some q) p e = absurd (cc)

not_accepting : (seq s : ℕ) (ident : Text) (a : Option Epr) → cond (seq == s) (Some ident) None ≡ None
    → cond (seq == s) (a ∷ []) [] ≡ []
not_accepting seq s ident a e =
    elim (seq == s) as (λ b. cond b (Some ident) None ≡ None → cond b (a ∷ []) [] ≡ []) [
      | true ↦ λ h. absurd (cc)
      | false ↦ λ h. refl
    ] e

no_accept : (k : ℕ) (f : Fact) (s : ℕ) → ident_in (created_of k f) s ≡ None → at_seq s (accept_of f) ≡ []
no_accept k (Created seq ident accept) s e = not_accepting seq s ident accept e
no_accept k _ s e = refl

-- without an identifier there is no Accept
no_accepts : (k : ℕ) (r : List Fact) (s : ℕ) → ident_in (created_from k r) s ≡ None
    → at_seq s (flat_map accept_of r) ≡ []
no_accepts k [] s e = refl
no_accepts k (f ∷ r) s e =
    let rest = created_from (k + length (makers_of f)) r in
    let parts = none_left (ident_in (created_of k f) s) (ident_in rest s)
    (sym (ident_in-append (created_of k f) rest s) ∙ e) in
    at_seq-append s (accept_of f) (flat_map accept_of r)
    ∙ ap (λ xs. xs ++ at_seq s (flat_map accept_of r)) (no_accept k f s parts.0)
    ∙ no_accepts (k + length (makers_of f)) r s parts.1

-- where there is one, no record that fits gives another
once : (r : List Fact) (f : Fact) (s : ℕ) → fits r f ≡ true → (out_ident r s ≡ None → ⊥)
    → at_seq s (accept_of f) ≡ []
once r (Created seq ident accept) s fit named =
    elsewhere_accept (Created seq ident accept) s (λ e. absurd (named (creating-bare r s
    (subst (λ n. phase r n ≡ out.Creating) e (created-creating r seq ident accept fit))).0))
once r _ s fit named = refl

accepts_once : (r d : List Fact) (s : ℕ) → all_fit r d ≡ true → (out_ident r s ≡ None → ⊥)
    → at_seq s (flat_map accept_of d) ≡ []
accepts_once r [] s fit named = refl
accepts_once r (f ∷ d) s fit named =
    let parts = and_parts (fits r f) (all_fit (r ++ f ∷ []) d) fit in
    at_seq-append s (accept_of f) (flat_map accept_of d)
    ∙ ap (λ xs. xs ++ at_seq s (flat_map accept_of d)) (once r f s parts.0 named)
    ∙ accepts_once (r ++ f ∷ []) d s parts.1
    (λ e. named (none_left (out_ident r s) _ (sym (out_ident-more r f s) ∙ e)).0)

-- an Accept is in the records or ahead of them, not in both
pub accept-both : (r d : List Fact) (s : ℕ) → all_fit r d ≡ true
    → accepted_by (r ++ d) s ≡ first_or (accepted_by r s) (at_seq s (flat_map accept_of d))
accept-both r d s fit =
    let mine = at_seq s (flat_map accept_of r) in
    let ahead = at_seq s (flat_map accept_of d) in
    ap (first_or None) (gathered_at s accept_of r d)
    ∙ elim (out_ident r s) as (λ o. out_ident r s ≡ o
    → first_or None (mine ++ ahead) ≡ first_or (first_or None mine) ahead) [
      | None ↦ λ e.
          let none : mine ≡ [] = no_accepts 0 r s e in
          rw none refl
      | Some q ↦ λ e.
          let none : ahead ≡ [] = accepts_once r d s fit (λ g. absurd (some_none q (sym e ∙ g))) in
          rw none (ap (first_or None) (append-nil mine))
    ] refl

number_of : (r : List Fact) (f : Fact) (s : ℕ) → fits r f ≡ true → AreNumbers (numbers_of (received_of s f))
number_of r (Received seq n payload) s fit =
    let one = (and_parts (is_incoming_side (maker r seq)) _ fit).1 in
    let most = (and_parts (nat_le 1 n) _ one).1 in
    let low = leb-true 1 n (and_parts (nat_le 1 n) _ one).0 in
    let high = leb-true n 9223372036854775807 (and_parts (nat_le n 9223372036854775807) _ most).0 in
    elim (seq == s) as (λ b. AreNumbers (numbers_of (cond b ((n, payload) ∷ []) []))) [
      | true ↦ ((low, high), tt)
      | false ↦ tt
    ]
number_of r _ s fit = tt

numbers_both : (xs ys : List ℕ) → AreNumbers xs → AreNumbers ys → AreNumbers (xs ++ ys)
numbers_both [] ys h g = g
numbers_both (x ∷ xs) ys h g = (h.0, numbers_both xs ys h.1 g)

-- what records that fit receive are message numbers
pub numbers-fit : (r d : List Fact) (s : ℕ) → all_fit r d ≡ true → AreNumbers (numbers_of (received d s))
numbers-fit r [] s fit = tt
numbers-fit r (f ∷ d) s fit =
    let parts = and_parts (fits r f) (all_fit (r ++ f ∷ []) d) fit in
    subst AreNumbers (sym (map-append (λ (m : ℕ × Payload). m.0) (received_of s f) (received d s)))
    (numbers_both (numbers_of (received_of s f)) (numbers_of (received d s)) (number_of r f s parts.0)
    (numbers-fit (r ++ f ∷ []) d s parts.1))

receives_side : (r : List Fact) (s : ℕ) (o : Option Maker) (f : Receiving) → incoming_of r s o ≡ Some f
    → is_incoming_side o ≡ true
receives_side r s None f e = absurd (cc)
receives_side r s (Some (Outgoing ticket to via lapse)) f e = absurd (cc)
receives_side r s (Some (Taken message_id ident endpoint)) f e = absurd (cc)
receives_side r s (Some (Incoming counter message_id acks_to behaviour deadline lapse)) f e = refl
receives_side r s (Some (Offered ticket counter to behaviour)) f e = refl

not_both : (a b : Bool) → a ≡ true → not (a && not b) ≡ b
not_both true true h = refl
not_both true false h = refl
not_both false b h = absurd (false≢true h)

-- an incoming sequence that a record closed or ended may not be closed
pub stopped-shut : (r : List Fact) (s : ℕ) (f : Receiving) → incoming_in r s ≡ Some f
    → not (is_incoming_side (maker r s) && not (is_stopped r s)) ≡ is_stopped r s
stopped-shut r s f e = not_both _ _ (receives_side r s (maker r s) f e)

-- one that a record ended may not be ended
pub ended-shut : (r : List Fact) (s : ℕ) (f : Receiving) → incoming_in r s ≡ Some f
    → not (is_incoming_side (maker r s) && not (has_end r s)) ≡ has_end r s
ended-shut r s f e = not_both _ _ (receives_side r s (maker r s) f e)
