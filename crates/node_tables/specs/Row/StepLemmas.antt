-- A record that a sequence takes changes it by one step.
use Rattle.std.proofs.Common.{◌≡◌, ℕ, ◌==◌, max, Bool, true, false, cond, List, [], ◌∷◌, ◌++◌, refl, ap, ◌∙◌, Option}
use Rattle.std.proofs.Common.{arith}
use Rattle.std.proofs.lemmas.Bool.{eq-eqb, false≢true}
use Rattle.std.proofs.lemmas.List.{append-nil}
use Rattle.rm_sides.specs.Ranges.Changes.{united}
use Rattle.rm_sides.specs.Ranges.Ranges.{count_of}
use Rattle.rm_base.specs.NumberSet.{greatest_of}
use Rattle.rm_base.specs.declared.message.Cause.{Cause}
use Rattle.rm_base.specs.declared.message.Cause.TheVariants.{Peer}
use Rattle.rm_sides.specs.declared.source.phase.OutPhase.{OutPhase}
use Rattle.rm_sides.specs.declared.source.phase.OutPhase.TheVariants as out
use Rattle.rm_sides.specs.Source.Outgoing.{Sending, first_run}
use Rattle.rm_sides.specs.Destination.Incoming.{Receiving}
use Rattle.record_batch.specs.Fact.{Fact, Created, Accepted, Acked, Received, Closing, ClosedOut, Closed}
use Rattle.record_batch.specs.Fact.{Ending}
use Rattle.record_batch.specs.Fact.{EndedOut, Ended, Failed, Consumed, Dropped, Purged}
use Rattle.record_batch.specs.Sequences.Words.{at_seq, last_or}
use Rattle.record_batch.specs.Sequences.Sources.{accepted_of, acked_of, dropped_of, mark_of, ticket_of}
use Rattle.record_batch.specs.Sequences.Destinations.{close_of, cursor_of, purged_of, received_of, told_of}
use Rattle.record_batch.specs.Sequences.Told.{Told, Side, Sends, Receives, names, last_onto, opened_by, side_after}
use Rattle.record_batch.specs.Sequences.Told.{after}
use Rattle.record_batch.specs.Sequences.ToldLemmas.{same_sending, same_receiving, same_told}
use Rattle.node_tables.specs.Row.Row.{takes, last_told, side_step, ticket_step, step}

here : (s : ℕ) → (s == s) ≡ true
here s = eq-eqb s s refl

at_here : {A : Type 0} (s : ℕ) (x : A) → at_seq s ((s, x) ∷ []) ≡ x ∷ []
at_here s x = ap (λ b. cond b (x ∷ []) []) (here s)

-- a record of a phase
marked : (s : ℕ) (t : Sending) (f : Fact) (p : OutPhase) → last_or (opened_by t.phase s f) (at_seq s (mark_of f)) ≡ p
    → dropped_of s f ≡ [] → accepted_of s f ≡ [] → acked_of s f ≡ []
    → side_after s (Sends t) f ≡ Sends (record t { phase = p })
marked s t f p is none none2 none3 =
    ap (λ x. Sends x) (same_sending _ _ _ _ _ _ _ _ is (ap (λ ns. last_or t.dropped ns) none)
    (ap (λ ps. t.accepted ++ ps) none2 ∙ append-nil t.accepted) (ap (λ rs. united t.acked rs) none3))

phased : (s : ℕ) (q p : OutPhase) → last_or q (at_seq s ((s, p) ∷ [])) ≡ p
phased s q p = ap (λ ps. last_or q ps) (at_here s p)

-- a record of a close or an end
no_further : (c : ℕ) → max c 0 ≡ c
no_further c = omega arith

stops : (s : ℕ) (t : Receiving) (f : Fact) (ends : Bool) (ns : List ℕ) → purged_of s f ≡ [] → received_of s f ≡ []
    → cursor_of s f ≡ [] → at_seq s (close_of f) ≡ ends ∷ [] → at_seq s (told_of f) ≡ ns
    → side_after s (Receives t) f ≡ Receives (record t { closes = t.closes ++ ends ∷ []; told = t.told ++ ns })
stops s t f ends ns none none2 none3 closes told =
    ap (λ x. Receives x) (same_receiving t.behaviour t.deadline _ _ _ _ _ _ _ _ _ _
    (ap (λ rs. t.purged ++ rs) none ∙ append-nil t.purged)
    (ap (λ ms. t.received ++ ms) none2 ∙ append-nil t.received)
    (ap (λ ns. max t.cursor (greatest_of ns)) none3 ∙ no_further t.cursor)
    (ap (λ cs. t.closes ++ cs) closes) (ap (λ xs. t.told ++ xs) told))

told_closed : (s : ℕ) (cause : Cause) (last : ℕ) → at_seq s (told_of (Closed s cause last)) ≡ last_told cause last
told_closed s Peer last = at_here s last
told_closed s _ last = refl

told_ended : (s : ℕ) (cause : Cause) (last : ℕ) → at_seq s (told_of (Ended s cause last)) ≡ last_told cause last
told_ended s Peer last = at_here s last
told_ended s _ last = refl

side_stepped : (x : Side) (f : Fact) → takes x f ≡ true → side_after (names f) x f ≡ side_step x f
side_stepped (Sends t) (Created s ident accept) h =
    marked s t (Created s ident accept) out.Open (ap (λ b. cond b out.Open t.phase) (here s)) refl refl refl
side_stepped (Sends t) (Accepted s payload) h =
    ap (λ x. Sends x) (same_sending _ _ _ _ _ _ _ _ refl refl
    (ap (λ b. t.accepted ++ cond b (payload ∷ []) []) (here s)) refl)
side_stepped (Sends t) (Acked s ranges) h =
    ap (λ x. Sends x) (same_sending _ _ _ _ _ _ _ _ refl refl (append-nil t.accepted)
    (ap (λ b. united t.acked (cond b ranges [])) (here s)))
side_stepped (Sends t) (Dropped s upto) h =
    ap (λ x. Sends x) (same_sending _ _ _ _ _ _ _ _ refl (ap (λ b. last_or t.dropped (cond b (upto ∷ []) [])) (here s))
    (append-nil t.accepted) (ap (λ b. united t.acked (cond b (first_run upto) [])) (here s)))
side_stepped (Sends t) (Closing s ticket) h =
    marked s t (Closing s ticket) out.Closing (phased s t.phase out.Closing) refl refl refl
side_stepped (Sends t) (ClosedOut s) h =
    marked s t (ClosedOut s) out.Closed (phased s t.phase out.Closed) refl refl refl
side_stepped (Sends t) (Ending s ticket) h =
    marked s t (Ending s ticket) out.Ending (phased s t.phase out.Ending) refl refl refl
side_stepped (Sends t) (EndedOut s) h = marked s t (EndedOut s) out.Ended (phased s t.phase out.Ended) refl refl refl
side_stepped (Sends t) (Failed s fault) h =
    marked s t (Failed s fault) out.Failed (phased s t.phase out.Failed) refl refl refl
side_stepped (Sends t) (Received s n payload) h = absurd (false≢true h)
side_stepped (Sends t) (Closed s cause last) h = absurd (false≢true h)
side_stepped (Sends t) (Ended s cause last) h = absurd (false≢true h)
side_stepped (Sends t) (Consumed s upto) h = absurd (false≢true h)
side_stepped (Sends t) (Purged s ranges) h = absurd (false≢true h)
side_stepped (Sends t) f h = marked 0 t f t.phase refl refl refl refl
side_stepped (Receives t) (Received s n payload) h =
    ap (λ x. Receives x) (same_receiving t.behaviour t.deadline _ _ _ _ _ _ _ _ _ _ (append-nil t.purged)
    (ap (λ b. t.received ++ cond b ((n, payload) ∷ []) []) (here s)) (no_further t.cursor)
    (append-nil t.closes) (append-nil t.told))
side_stepped (Receives t) (Consumed s upto) h =
    ap (λ x. Receives x) (same_receiving t.behaviour t.deadline _ _ _ _ _ _ _ _ _ _ (append-nil t.purged)
    (append-nil t.received)
    (ap (λ b. max t.cursor (greatest_of (cond b (upto ∷ []) []))) (here s) ∙ ap (max t.cursor) (no_further upto))
    (append-nil t.closes) (append-nil t.told))
side_stepped (Receives t) (Purged s ranges) h =
    ap (λ x. Receives x) (same_receiving t.behaviour t.deadline _ _ _ _ _ _ _ _ _ _
    (ap (λ b. t.purged ++ cond b ranges []) (here s)) (append-nil t.received)
    (ap (λ b. max t.cursor (greatest_of (cond b (count_of ranges ∷ []) []))) (here s)
    ∙ ap (max t.cursor) (no_further (count_of ranges)))
    (append-nil t.closes) (append-nil t.told))
side_stepped (Receives t) (Closed s cause last) h =
    stops s t (Closed s cause last) false (last_told cause last) refl refl refl (at_here s false)
    (told_closed s cause last)
side_stepped (Receives t) (Ended s cause last) h =
    stops s t (Ended s cause last) true (last_told cause last) refl refl refl (at_here s true) (told_ended s cause last)
side_stepped (Receives t) _ h = absurd (false≢true h)

ticket_stepped : (o : Option ℕ) (f : Fact) → last_onto o (at_seq (names f) (ticket_of f)) ≡ ticket_step o f
ticket_stepped o (Closing s ticket) = ap (λ ts. last_onto o ts) (at_here s ticket)
ticket_stepped o (Ending s ticket) = ap (λ ts. last_onto o ts) (at_here s ticket)
ticket_stepped o _ = refl

pub after-step : (t : Told) (f : Fact) → takes t.side f ≡ true → after (names f) t f ≡ step t f
after-step t f h = same_told _ _ _ _ (ticket_stepped t.ticket f) (side_stepped t.side f h)
