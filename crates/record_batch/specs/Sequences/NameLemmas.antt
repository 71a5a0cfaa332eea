-- Records name sequences that are there, and say nothing of others.
use Rattle.std.proofs.Common.{◌≡◌, ◌≢◌, ℕ, ◌+◌, ◌-◌, ◌<◌, ◌≤◌, ◌==◌, Bool, true, false, cond, List, []}
use Rattle.std.proofs.Common.{◌∷◌, ◌++◌, length, refl, sym, ap, subst, ◌∙◌, arith, inl, inr, Option, Some, None}
use Rattle.std.specs.Prelude.{not, nat_lt, slice_get}
use Rattle.std.specs.List.{flat_map, list_all}
use Rattle.std.proofs.lemmas.Bool.{and_parts, cases_eq, ne_eqb, false≢true}
use Rattle.std.proofs.lemmas.List.{append_assoc, length-append}
use Rattle.std.proofs.lemmas.Grind.{flat_map-append}
use Rattle.std.proofs.lemmas.Option.{slice_get_cases}
use Rattle.rm_base.specs.Message.{max_number}
use Rattle.rm_base.specs.Numbered.{numbered}
use Rattle.rm_base.specs.declared.message.Cause.TheVariants.{Peer}
use Rattle.record_batch.specs.Fact.{Fact, Creating, Created, Granted, Accepted, Acked, Received, Closing}
use Rattle.record_batch.specs.Fact.{ClosedOut, Closed, Ending, EndedOut, Ended, Failed, Consumed, Dropped, Purged}
use Rattle.record_batch.specs.Sequences.Words.{at_seq}
use Rattle.record_batch.specs.Sequences.Makers.{Maker, makers, makers_of, maker, counter, created_from, ident_in}
use Rattle.record_batch.specs.Sequences.Sources.{accepted_count, accepted_of, acked_of, dropped_of, mark_of, phase}
use Rattle.record_batch.specs.Sequences.Sources.{ticket_of}
use Rattle.record_batch.specs.Sequences.Destinations.{close_of, cursor_of, has_end, is_stopped, purged_of, received_of}
use Rattle.record_batch.specs.Sequences.Destinations.{told_of}
use Rattle.record_batch.specs.Sequences.Find.{accept_of}
use Rattle.record_batch.specs.Sequences.Fits.{fits, all_fit, follows, follows_at, is_outgoing_side, is_incoming_side}
use Rattle.record_batch.specs.Sequences.Fits.{is_up_to}
use Rattle.record_batch.specs.Sequences.Told.{names}
use Rattle.record_batch.specs.Sequences.GatherLemmas.{at_seq-append}

-- a sequence is there where a test holds of its maker that doesn't hold of none
there_within : (ms : List Maker) (s : ℕ) (p : Option Maker → Bool) → p None ≡ false → p (numbered ms s) ≡ true
    → s ≤ length ms
there_within ms s p none h =
    elim (cases_eq s 0) [
      | inl e ↦ omega (arith, e)
      | inr ne ↦
          let at : p (slice_get ms (s - 1)) ≡ true =
          subst (λ b. p (cond b None (slice_get ms (s - 1))) ≡ true) (ne_eqb s 0 ne) h in
          elim (slice_get_cases ms (s - 1)).1 [
            | inl within ↦ omega (arith, within.1)
            | inr past ↦ absurd (false≢true (sym none ∙ ap p (sym past.1) ∙ at))
          ]
    ]

outgoing_within : (r : List Fact) (s : ℕ) → is_outgoing_side (maker r s) ≡ true → s ≤ length (makers r)
outgoing_within r s h = there_within (makers r) s (λ o. is_outgoing_side o) refl h

incoming_within : (r : List Fact) (s : ℕ) → is_incoming_side (maker r s) ≡ true → s ≤ length (makers r)
incoming_within r s h = there_within (makers r) s (λ o. is_incoming_side o) refl h

follows_within : (r : List Fact) (s : ℕ) (f : Fact) → follows_at r s f ≡ true → s ≤ length (makers r)
follows_within r s f h = outgoing_within r s (and_parts (is_outgoing_side (maker r s)) (follows (phase r s) f) h).0

-- the sequence that a record names is there where the record fits
pub names-within : (r : List Fact) (f : Fact) → fits r f ≡ true → names f ≤ length (makers r)
names-within r (Created seq ident accept) h = follows_within r seq (Created seq ident accept) h
names-within r (Accepted seq payload) h =
    follows_within r seq (Accepted seq payload)
    (and_parts (follows_at r seq (Accepted seq payload)) (nat_lt (accepted_count r seq) max_number) h).0
names-within r (Acked seq ranges) h =
    outgoing_within r seq
    (and_parts (is_outgoing_side (maker r seq)) (list_all (is_up_to (accepted_count r seq)) ranges) h).0
names-within r (Received seq n payload) h = incoming_within r seq (and_parts (is_incoming_side (maker r seq)) _ h).0
names-within r (Closing seq ticket) h =
    follows_within r seq (Closing seq ticket)
    (and_parts (ticket == counter r + 1) (follows_at r seq (Closing seq ticket)) h).1
names-within r (ClosedOut seq) h = follows_within r seq (ClosedOut seq) h
names-within r (Closed seq cause last) h =
    incoming_within r seq (and_parts (is_incoming_side (maker r seq)) (not (is_stopped r seq)) h).0
names-within r (Ending seq ticket) h =
    follows_within r seq (Ending seq ticket)
    (and_parts (ticket == counter r + 1) (follows_at r seq (Ending seq ticket)) h).1
names-within r (EndedOut seq) h = follows_within r seq (EndedOut seq) h
names-within r (Ended seq cause last) h =
    incoming_within r seq (and_parts (is_incoming_side (maker r seq)) (not (has_end r seq)) h).0
names-within r (Failed seq fault) h = follows_within r seq (Failed seq fault) h
names-within r (Consumed seq upto) h = incoming_within r seq (and_parts (is_incoming_side (maker r seq)) _ h).0
names-within r (Dropped seq upto) h =
    follows_within r seq (Dropped seq upto) (and_parts (follows_at r seq (Dropped seq upto)) _ h).0
names-within r (Purged seq ranges) h = incoming_within r seq (and_parts (is_incoming_side (maker r seq)) _ h).0
names-within r _ h = omega arith

-- each record names a sequence up to n, or none
abbrev pub NamesUpTo : ℕ → List Fact → Type 0
NamesUpTo n [] = Unit {0}
NamesUpTo n (f ∷ r) = (names f ≤ n) × NamesUpTo n r

pub names-more : (n : ℕ) (r : List Fact) (f : Fact) → NamesUpTo n r → names f ≤ n → NamesUpTo n (r ++ f ∷ [])
names-more n [] f h le = (le, tt)
names-more n (x ∷ r) f h le = (h.0, names-more n r f h.1 le)

fit_named : (r xs : List Fact) → all_fit r xs ≡ true → NamesUpTo (length (makers (r ++ xs))) xs
fit_named r [] h = tt
fit_named r (f ∷ xs) h =
    let parts = and_parts (fits r f) (all_fit (r ++ f ∷ []) xs) h in
    let rest : NamesUpTo (length (makers ((r ++ f ∷ []) ++ xs))) xs = fit_named (r ++ f ∷ []) xs parts.1 in
    let same : (r ++ f ∷ []) ++ xs ≡ r ++ f ∷ xs = append_assoc r (f ∷ []) xs in
    let longer : length (makers (r ++ f ∷ xs)) ≡ length (makers r) + length (makers (f ∷ xs)) =
    ap length (flat_map-append makers_of r (f ∷ xs)) ∙ length-append (makers r) (makers (f ∷ xs)) in
    (omega (arith, names-within r f parts.0, longer), subst (λ rs. NamesUpTo (length (makers rs)) xs) same rest)

-- records that fit one after the other name sequences that are there
pub names-fit : (r : List Fact) → all_fit [] r ≡ true → NamesUpTo (length (makers r)) r
names-fit r h = fit_named [] r h

-- what a record says of a sequence that it doesn't name
pub elsewhere_accepted : (f : Fact) (s : ℕ) → names f ≢ s → accepted_of s f ≡ []
elsewhere_accepted (Accepted seq payload) s ne = rw (ne_eqb seq s ne) refl
elsewhere_accepted _ s ne = refl

pub elsewhere_acked : (f : Fact) (s : ℕ) → names f ≢ s → acked_of s f ≡ []
elsewhere_acked (Acked seq ranges) s ne = rw (ne_eqb seq s ne) refl
elsewhere_acked (Dropped seq upto) s ne = rw (ne_eqb seq s ne) refl
elsewhere_acked _ s ne = refl

pub elsewhere_received : (f : Fact) (s : ℕ) → names f ≢ s → received_of s f ≡ []
elsewhere_received (Received seq n payload) s ne = rw (ne_eqb seq s ne) refl
elsewhere_received _ s ne = refl

pub elsewhere_dropped : (f : Fact) (s : ℕ) → names f ≢ s → dropped_of s f ≡ []
elsewhere_dropped (Dropped seq upto) s ne = rw (ne_eqb seq s ne) refl
elsewhere_dropped _ s ne = refl

pub elsewhere_purged : (f : Fact) (s : ℕ) → names f ≢ s → purged_of s f ≡ []
elsewhere_purged (Purged seq ranges) s ne = rw (ne_eqb seq s ne) refl
elsewhere_purged _ s ne = refl

pub elsewhere_cursor : (f : Fact) (s : ℕ) → names f ≢ s → cursor_of s f ≡ []
elsewhere_cursor (Consumed seq upto) s ne = rw (ne_eqb seq s ne) refl
elsewhere_cursor (Purged seq ranges) s ne = rw (ne_eqb seq s ne) refl
elsewhere_cursor _ s ne = refl

pub elsewhere_mark : (f : Fact) (s : ℕ) → names f ≢ s → at_seq s (mark_of f) ≡ []
elsewhere_mark (Closing seq ticket) s ne = rw (ne_eqb seq s ne) refl
elsewhere_mark (ClosedOut seq) s ne = rw (ne_eqb seq s ne) refl
elsewhere_mark (Ending seq ticket) s ne = rw (ne_eqb seq s ne) refl
elsewhere_mark (EndedOut seq) s ne = rw (ne_eqb seq s ne) refl
elsewhere_mark (Failed seq fault) s ne = rw (ne_eqb seq s ne) refl
elsewhere_mark _ s ne = refl

pub elsewhere_ticket : (f : Fact) (s : ℕ) → names f ≢ s → at_seq s (ticket_of f) ≡ []
elsewhere_ticket (Closing seq ticket) s ne = rw (ne_eqb seq s ne) refl
elsewhere_ticket (Ending seq ticket) s ne = rw (ne_eqb seq s ne) refl
elsewhere_ticket _ s ne = refl

pub elsewhere_close : (f : Fact) (s : ℕ) → names f ≢ s → at_seq s (close_of f) ≡ []
elsewhere_close (Closed seq cause last) s ne = rw (ne_eqb seq s ne) refl
elsewhere_close (Ended seq cause last) s ne = rw (ne_eqb seq s ne) refl
elsewhere_close _ s ne = refl

pub elsewhere_told : (f : Fact) (s : ℕ) → names f ≢ s → at_seq s (told_of f) ≡ []
elsewhere_told (Closed seq Peer last) s ne = rw (ne_eqb seq s ne) refl
elsewhere_told (Ended seq Peer last) s ne = rw (ne_eqb seq s ne) refl
elsewhere_told _ s ne = refl

pub elsewhere_accept : (f : Fact) (s : ℕ) → names f ≢ s → at_seq s (accept_of f) ≡ []
elsewhere_accept (Created seq ident accept) s ne = rw (ne_eqb seq s ne) refl
elsewhere_accept _ s ne = refl

-- nothing is gathered for a sequence past those that are named
pub unnamed : {A : Type 0} (h : Fact → List A) (n s : ℕ) → ((f : Fact) → names f ≢ s → h f ≡ []) → n < s
    → (r : List Fact) → NamesUpTo n r → flat_map h r ≡ []
unnamed h n s each lt [] up = refl
unnamed h n s each lt (f ∷ r) up =
    let none : h f ≡ [] = each f (λ e. absurd (omega (arith, e, up.0, lt))) in
    rw none (unnamed h n s each lt r up.1)

pub unnamed_at : {A : Type 0} (g : Fact → List (ℕ × A)) (n s : ℕ) → ((f : Fact) → names f ≢ s → at_seq s (g f) ≡ [])
    → n < s → (r : List Fact) → NamesUpTo n r → at_seq s (flat_map g r) ≡ []
unnamed_at g n s each lt [] up = refl
unnamed_at g n s each lt (f ∷ r) up =
    let none : at_seq s (g f) ≡ [] = each f (λ e. absurd (omega (arith, e, up.0, lt))) in
    at_seq-append s (g f) (flat_map g r) ∙ rw none (unnamed_at g n s each lt r up.1)

-- no identifier is given to a sequence past those that are named and those that are there
pub unnamed_ident : (n s k : ℕ) (r : List Fact) → NamesUpTo n r → n < s → k + length (makers r) < s
    → ident_in (created_from k r) s ≡ None
unnamed_ident n s k [] up lt past = refl
unnamed_ident n s k (Created seq ident accept ∷ r) up lt past =
    let other : (seq == s) ≡ false = ne_eqb seq s (λ e. absurd (omega (arith, e, up.0, lt))) in
    let none : ident_in (created_from (k + 0) r) s ≡ None =
    unnamed_ident n s (k + 0) r up.1 lt (omega (arith, past)) in
    rw other none
unnamed_ident n s k (Granted counter message_id acks_to behaviour deadline lapse (Some offer) ∷ r) up lt past =
    let other : ((k + 2) == s) ≡ false = ne_eqb (k + 2) s (λ e. absurd (omega (arith, e, past))) in
    let none : ident_in (created_from (k + 2) r) s ≡ None =
    unnamed_ident n s (k + 2) r up.1 lt (omega (arith, past)) in
    rw other none
unnamed_ident n s k (Granted counter message_id acks_to behaviour deadline lapse None ∷ r) up lt past =
    unnamed_ident n s (k + 1) r up.1 lt (omega (arith, past))
unnamed_ident n s k (Creating ticket to via lapse (Some offer) ∷ r) up lt past =
    unnamed_ident n s (k + 2) r up.1 lt (omega (arith, past))
unnamed_ident n s k (Creating ticket to via lapse None ∷ r) up lt past =
    unnamed_ident n s (k + 1) r up.1 lt (omega (arith, past))
unnamed_ident n s k (_ ∷ r) up lt past = unnamed_ident n s (k + 0) r up.1 lt (omega (arith, past))
