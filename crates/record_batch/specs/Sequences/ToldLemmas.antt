-- What the records say of one sequence, after one more record.
use Rattle.std.proofs.Common.{◌≡◌, ◌≢◌, ℕ, ◌<◌, ◌≤◌, Bool, true, List, []}
use Rattle.std.proofs.Common.{◌∷◌, ◌++◌, length, refl, ap, ◌∙◌, arith, Option, None, max}
use Rattle.std.specs.List.{flat_map}
use Rattle.std.proofs.lemmas.Bool.{ne_eqb}
use Rattle.std.proofs.lemmas.List.{append-nil}
use Rattle.rm_sides.specs.declared.ranges.range.Range.{Range}
use Rattle.rm_sides.specs.Ranges.Changes.{united}
use Rattle.rm_base.specs.declared.message.Behaviour.{Behaviour}
use Rattle.rm_base.specs.declared.message.Payload.{Payload}
use Rattle.rm_base.specs.NumberSet.{greatest_of}
use Rattle.rm_sides.specs.declared.source.phase.OutPhase.{OutPhase}
use Rattle.rm_sides.specs.Source.Outgoing.{Sending}
use Rattle.rm_sides.specs.Destination.Incoming.{Receiving}
use Rattle.record_batch.specs.Fact.{Fact, Created}
use Rattle.record_batch.specs.Sequences.Words.{at_seq, last_or}
use Rattle.record_batch.specs.Sequences.Makers.{Maker, Outgoing, Offered, Incoming, Taken, makers}
use Rattle.record_batch.specs.Sequences.Sources.{accepted_of, dropped_of, acked, acked_of, mark_of, out_ident}
use Rattle.record_batch.specs.Sequences.Sources.{first_phase, ticket_of, tickets}
use Rattle.record_batch.specs.Sequences.Destinations.{close_of, received_of, told_of}
use Rattle.record_batch.specs.Sequences.Destinations.{cursor_of, purged_of}
use Rattle.record_batch.specs.Sequences.Fits.{fits}
use Rattle.record_batch.specs.Sequences.Told.{Side, Sends, Receives, Told, last_onto, names, sending, receiving}
use Rattle.record_batch.specs.Sequences.Told.{side_of}
use Rattle.record_batch.specs.Sequences.Told.{first_ticket, told_by, opened_by, sending_after, receiving_after}
use Rattle.record_batch.specs.Sequences.Told.{side_after}
use Rattle.record_batch.specs.Sequences.Told.{after}
use Rattle.record_batch.specs.Sequences.GatherLemmas.{flat_map-more, at_seq-more, last_onto-append, last_or-append}
use Rattle.record_batch.specs.Sequences.GatherLemmas.{greatest_of-append, united-append}
use Rattle.record_batch.specs.Sequences.PhaseLemmas.{phase-more}
use Rattle.record_batch.specs.Sequences.NameLemmas.{NamesUpTo, elsewhere_accepted, elsewhere_acked, elsewhere_received}
use Rattle.record_batch.specs.Sequences.NameLemmas.{elsewhere_dropped, elsewhere_purged, elsewhere_cursor}
use Rattle.record_batch.specs.Sequences.NameLemmas.{elsewhere_mark, elsewhere_ticket, elsewhere_close, elsewhere_told}
use Rattle.record_batch.specs.Sequences.NameLemmas.{unnamed, unnamed_at}

-- the value of these fields
abbrev pub sending_with : OutPhase → ℕ → List (List ℕ) → List Range → Sending
sending_with p d a k = record { phase = p; dropped = d; accepted = a; acked = k }

pub same_sending : (p p2 : OutPhase) (d d2 : ℕ) (a a2 : List (List ℕ)) (k k2 : List Range) → p ≡ p2 → d ≡ d2
    → a ≡ a2 → k ≡ k2 → sending_with p d a k ≡ sending_with p2 d2 a2 k2
same_sending p p2 d d2 a a2 k k2 ep ed ea ek =
    ap (λ x. sending_with x d a k) ep ∙ ap (λ x. sending_with p2 x a k) ed ∙ ap (λ x. sending_with p2 d2 x k) ea
    ∙ ap (λ x. sending_with p2 d2 a2 x) ek

-- the value of these fields
abbrev pub receiving_with : Behaviour → Option ℕ → List Range → List (ℕ × Payload) → ℕ → List Bool → List ℕ → Receiving
receiving_with b d ps ms c cs ns =
    record { behaviour = b; deadline = d; purged = ps; received = ms; cursor = c; closes = cs; told = ns }

pub same_receiving : (b : Behaviour) (d : Option ℕ) (ps ps2 : List Range) (ms ms2 : List (ℕ × Payload)) (c c2 : ℕ)
    (cs cs2 : List Bool) (ns ns2 : List ℕ) → ps ≡ ps2 → ms ≡ ms2 → c ≡ c2 → cs ≡ cs2 → ns ≡ ns2
    → receiving_with b d ps ms c cs ns ≡ receiving_with b d ps2 ms2 c2 cs2 ns2
same_receiving b d ps ps2 ms ms2 c c2 cs cs2 ns ns2 ep em eu ec en =
    ap (λ x. receiving_with b d x ms c cs ns) ep
    ∙ ap (λ x. receiving_with b d ps2 x c cs ns) em
    ∙ ap (λ x. receiving_with b d ps2 ms2 x cs ns) eu
    ∙ ap (λ x. receiving_with b d ps2 ms2 c2 x ns) ec
    ∙ ap (λ x. receiving_with b d ps2 ms2 c2 cs2 x) en

-- the value of these fields
abbrev pub told_with : Option ℕ → Side → Told
told_with t x = record { ticket = t; side = x }

pub same_told : (t t2 : Option ℕ) (x x2 : Side) → t ≡ t2 → x ≡ x2 → told_with t x ≡ told_with t2 x2
same_told t t2 x x2 et ex = ap (λ y. told_with y x) et ∙ ap (λ y. told_with t2 y) ex

pub sending-more : (r : List Fact) (f : Fact) (s : ℕ) → s ≤ length (makers r) → fits r f ≡ true
    → sending (r ++ f ∷ []) s ≡ sending_after s (sending r s) f
sending-more r f s le fit =
    same_sending _ _ _ _ _ _ _ _ (phase-more r f s le fit)
    (ap (λ ns. last_or 0 ns) (flat_map-more (dropped_of s) r f)
    ∙ last_or-append 0 (flat_map (dropped_of s) r) (dropped_of s f))
    (flat_map-more (accepted_of s) r f)
    (ap (λ rs. united [] rs) (flat_map-more (acked_of s) r f) ∙ united-append [] (acked r s) (acked_of s f))

pub receiving-more : (r : List Fact) (f : Fact) (s : ℕ) (b : Behaviour) (d : Option ℕ)
    → receiving (r ++ f ∷ []) s b d ≡ receiving_after s (receiving r s b d) f
receiving-more r f s b d =
    same_receiving b d _ _ _ _ _ _ _ _ _ _ (flat_map-more (purged_of s) r f)
    (flat_map-more (received_of s) r f)
    (ap greatest_of (flat_map-more (cursor_of s) r f) ∙ greatest_of-append (flat_map (cursor_of s) r) (cursor_of s f))
    (at_seq-more s close_of r f)
    (at_seq-more s told_of r f)

side-more : (r : List Fact) (f : Fact) (s : ℕ) (m : Maker) → s ≤ length (makers r) → fits r f ≡ true
    → side_of (r ++ f ∷ []) s m ≡ side_after s (side_of r s m) f
side-more r f s (Outgoing ticket to via lapse) le fit = ap (λ x. Sends x) (sending-more r f s le fit)
side-more r f s (Taken message_id ident endpoint) le fit = ap (λ x. Sends x) (sending-more r f s le fit)
side-more r f s (Incoming counter message_id acks_to behaviour deadline lapse) le fit =
    ap (λ x. Receives x) (receiving-more r f s behaviour deadline)
side-more r f s (Offered ticket counter to behaviour) le fit =
    ap (λ x. Receives x) (receiving-more r f s behaviour None)

-- one more record, of a sequence that is there
pub told-more : (r : List Fact) (f : Fact) (s : ℕ) (m : Maker) → s ≤ length (makers r) → fits r f ≡ true
    → told_by (r ++ f ∷ []) s m ≡ after s (told_by r s m) f
told-more r f s m le fit =
    same_told _ _ _ _
    (ap (λ ts. last_onto (first_ticket m) ts) (at_seq-more s ticket_of r f)
    ∙ last_onto-append (first_ticket m) (tickets r s) (at_seq s (ticket_of f)))
    (side-more r f s m le fit)

max_zero : (n : ℕ) → max n 0 ≡ n
max_zero n = omega arith

opened_elsewhere : (p : OutPhase) (s : ℕ) (f : Fact) → names f ≢ s → opened_by p s f ≡ p
opened_elsewhere p s (Created seq ident accept) ne = rw (ne_eqb seq s ne) refl
opened_elsewhere p s _ ne = refl

side_elsewhere : (s : ℕ) (x : Side) (f : Fact) → names f ≢ s → side_after s x f ≡ x
side_elsewhere s (Sends t) f ne =
    ap (λ x. Sends x) (same_sending _ _ _ _ _ _ _ _
    (ap (λ ps. last_or (opened_by t.phase s f) ps) (elsewhere_mark f s ne) ∙ opened_elsewhere t.phase s f ne)
    (ap (λ ps. last_or t.dropped ps) (elsewhere_dropped f s ne))
    (ap (λ ps. t.accepted ++ ps) (elsewhere_accepted f s ne) ∙ append-nil t.accepted)
    (ap (λ rs. united t.acked rs) (elsewhere_acked f s ne)))
side_elsewhere s (Receives t) f ne =
    ap (λ x. Receives x) (same_receiving t.behaviour t.deadline _ _ _ _ _ _ _ _ _ _
    (ap (λ ms. t.purged ++ ms) (elsewhere_purged f s ne) ∙ append-nil t.purged)
    (ap (λ ms. t.received ++ ms) (elsewhere_received f s ne) ∙ append-nil t.received)
    (ap (λ ns. max t.cursor (greatest_of ns)) (elsewhere_cursor f s ne) ∙ max_zero t.cursor)
    (ap (λ cs. t.closes ++ cs) (elsewhere_close f s ne) ∙ append-nil t.closes)
    (ap (λ ns. t.told ++ ns) (elsewhere_told f s ne) ∙ append-nil t.told))

-- a record that names another sequence, or none
pub after-elsewhere : (s : ℕ) (t : Told) (f : Fact) → names f ≢ s → after s t f ≡ t
after-elsewhere s t f ne =
    same_told _ _ _ _ (ap (λ ts. last_onto t.ticket ts) (elsewhere_ticket f s ne)) (side_elsewhere s t.side f ne)

-- of a sequence that no record names, nothing is known but its identifier
pub sending-unnamed : (n s : ℕ) (r : List Fact) → NamesUpTo n r → n < s
    → sending r s ≡ sending_with (first_phase (out_ident r s)) 0 [] []
sending-unnamed n s r up lt =
    same_sending _ _ _ _ _ _ _ _
    (ap (λ ps. last_or (first_phase (out_ident r s)) ps) (unnamed_at mark_of n s (λ f. elsewhere_mark f s) lt r up))
    (ap (λ ns. last_or 0 ns) (unnamed (dropped_of s) n s (λ f. elsewhere_dropped f s) lt r up))
    (unnamed (accepted_of s) n s (λ f. elsewhere_accepted f s) lt r up)
    (ap (λ rs. united [] rs) (unnamed (acked_of s) n s (λ f. elsewhere_acked f s) lt r up))

pub receiving-unnamed : (n s : ℕ) (r : List Fact) (b : Behaviour) (d : Option ℕ) → NamesUpTo n r → n < s
    → receiving r s b d ≡ receiving_with b d [] [] 0 [] []
receiving-unnamed n s r b d up lt =
    same_receiving b d _ _ _ _ _ _ _ _ _ _ (unnamed (purged_of s) n s (λ f. elsewhere_purged f s) lt r up)
    (unnamed (received_of s) n s (λ f. elsewhere_received f s) lt r up)
    (ap greatest_of (unnamed (cursor_of s) n s (λ f. elsewhere_cursor f s) lt r up))
    (unnamed_at close_of n s (λ f. elsewhere_close f s) lt r up)
    (unnamed_at told_of n s (λ f. elsewhere_told f s) lt r up)

pub tickets-unnamed : (n s : ℕ) (r : List Fact) → NamesUpTo n r → n < s → tickets r s ≡ []
tickets-unnamed n s r up lt = unnamed_at ticket_of n s (λ f. elsewhere_ticket f s) lt r up
