-- What the tables say of a sequence gives the text of what the records say of it.
use Rattle.std.proofs.Common.{◌≡◌, ℕ, suc, ◌+◌, ◌-◌, ◌<◌, ◌≤◌, true, false, cond, List, [], ◌++◌}
use Rattle.std.proofs.Common.{length, get_or, refl, sym, ap, subst, ◌∙◌, arith, Option, None, Some}
use Rattle.std.specs.Prelude.{slice_get}
use Rattle.std.proofs.lemmas.Bool.{ne_eqb}
use Rattle.std.proofs.lemmas.Option.{none-some, same_Some, slice_get-get_or}
use Rattle.rm_base.specs.declared.message.Behaviour.{Behaviour}
use Rattle.rm_sides.specs.Source.Outgoing.{Sending, accepted_count}
use Rattle.rm_sides.specs.Destination.Incoming.{Receiving, phase_of, held as held_in, inbox as inbox_in}
use Rattle.rm_sides.specs.Destination.Incoming.{discarded as discarded_in}
use Rattle.rm_sides.specs.Destination.Messages.{Item, ranges_onto}
use Rattle.rm_sides.specs.declared.destination.outcome.InPhase.{InPhase}
use Rattle.rm_sides.specs.declared.destination.outcome.InPhase.TheVariants.{Open, Closed, Ended}
use Rattle.record_batch.specs.Fact.{Fact}
use Rattle.record_batch.specs.Sequences.Makers.{Maker, Outgoing, Offered, Incoming, Taken, maker, makers}
use Rattle.record_batch.specs.Sequences.Destinations.{behaviour, behaviour_of, cursor, discarded, held, inbox}
use Rattle.record_batch.specs.Sequences.Destinations.{is_ended}
use Rattle.record_batch.specs.Sequences.Fits.{is_outgoing_side}
use Rattle.node_tables.specs.Kept.{no_maker}
use Rattle.node_tables.specs.Laws.{IncomingIsAsRecorded, IsAsRecorded, OutgoingIsAsRecorded, is_end, is_shut}
use Rattle.node_tables.specs.Reads.{incoming_in, incoming_of, outgoing_in, outgoing_of}
use Rattle.rm_script.specs.Report.Report.{consumed_text, in_text, out_text}
use Rattle.rm_replay.specs.Summary.Summary.{in_phase, incoming_text, items_text, outgoing_text, place}
use Rattle.rm_replay.specs.Summary.Summary.{sequence_text, sequences_text}

-- one more sequence
pub sequences_text-next : (node : ℕ) (r : List Fact) (now n : ℕ)
    → sequences_text node r now (n + 1) ≡ sequences_text node r now n ++ sequence_text node r now (n + 1)
sequences_text-next node r now n =
    let next : suc n ≡ n + 1 = omega arith in
    subst (λ k. sequences_text node r now k ≡ sequences_text node r now n ++ sequence_text node r now k) next refl

sends : (r : List Fact) (s : ℕ) (t : Sending) (o : Option Maker) → outgoing_of r s o ≡ Some t
    → is_outgoing_side o ≡ true
sends r s t None e = absurd (none-some t e)
sends r s t (Some (Outgoing ticket to via lapse)) e = refl
sends r s t (Some (Taken message_id ident endpoint)) e = refl
sends r s t (Some (Incoming counter message_id acks_to behaviour deadline lapse)) e = absurd (none-some t e)
sends r s t (Some (Offered ticket counter to behaviour)) e = absurd (none-some t e)

receives : (r : List Fact) (s : ℕ) (f : Receiving) (o : Option Maker) → incoming_of r s o ≡ Some f
    → is_outgoing_side o ≡ false
receives r s f None e = absurd (none-some f e)
receives r s f (Some (Outgoing ticket to via lapse)) e = absurd (none-some f e)
receives r s f (Some (Taken message_id ident endpoint)) e = absurd (none-some f e)
receives r s f (Some (Incoming counter message_id acks_to behaviour deadline lapse)) e = refl
receives r s f (Some (Offered ticket counter to behaviour)) e = refl

-- what was announced for a sequence that receives
announced : (r : List Fact) (s : ℕ) (f : Receiving) (o : Option Maker) → incoming_of r s o ≡ Some f
    → f.behaviour ≡ behaviour_of o
announced r s f None e = absurd (none-some f e)
announced r s f (Some (Outgoing ticket to via lapse)) e = absurd (none-some f e)
announced r s f (Some (Taken message_id ident endpoint)) e = absurd (none-some f e)
announced r s f (Some (Incoming counter message_id acks_to behaviour deadline lapse)) e =
    ap (λ (g : Receiving). g.behaviour) (sym (same_Some _ f e))
announced r s f (Some (Offered ticket counter to behaviour)) e =
    ap (λ (g : Receiving). g.behaviour) (sym (same_Some _ f e))

no_side : (r : List Fact) (s : ℕ) (o : Option Maker) (m : Maker) → o ≡ Some m → outgoing_of r s o ≡ None
    → incoming_of r s o ≡ None → ⊥
no_side r s None m there e g = absurd (cc)
no_side r s (Some (Outgoing ticket to via lapse)) m there e g = absurd (cc)
no_side r s (Some (Taken message_id ident endpoint)) m there e g = absurd (cc)
no_side r s (Some (Incoming counter message_id acks_to behaviour deadline lapse)) m there e g = absurd (cc)
no_side r s (Some (Offered ticket counter to behaviour)) m there e g = absurd (cc)

-- each sequence sends or receives
pub has-side : (r : List Fact) (s : ℕ) → 0 < s → s ≤ length (makers r) → outgoing_in r s ≡ None
    → incoming_in r s ≡ None → ⊥
has-side r s low high e g =
    let m = get_or (makers r) (s - 1) no_maker in
    let there : maker r s ≡ Some m =
    ap (λ b. cond b None (slice_get (makers r) (s - 1))) (ne_eqb s 0 (λ z. absurd (omega (arith, z))))
    ∙ slice_get-get_or (makers r) (s - 1) no_maker (omega arith) in
    no_side r s (maker r s) m there e g

-- a phase, by whether it is after the end and whether it is after the close
by_marks : (p : InPhase) → p ≡ cond (is_end p) Ended (cond (is_shut p) Closed Open)
by_marks Open = refl
by_marks Closed = refl
by_marks Ended = refl

same_phase : (r : List Fact) (s now : ℕ) (f : Receiving) → IsAsRecorded r s f → phase_of f now ≡ in_phase r s now
same_phase r s now f is =
    by_marks (phase_of f now)
    ∙ ap (λ b. cond b Ended (cond (is_shut (phase_of f now)) Closed Open)) (is.ended now)
    ∙ ap (λ b. cond (is_ended r s now) Ended (cond b Closed Open)) (is.over now)

-- the text of a sequence that receives
abbrev known_text : ℕ → ℕ → InPhase → Behaviour → List ℕ → List Item → List Item → ℕ → List ℕ
known_text node s phase behaviour numbers inbox discarded cursor =
    in_text (place node s) phase behaviour (ranges_onto [] numbers) (length inbox) (length discarded)
    ++ (consumed_text (place node s) cursor ++ items_text (place node s) 0 inbox)

pub outgoing-text : (node : ℕ) (r : List Fact) (now s : ℕ) (t : Sending) → OutgoingIsAsRecorded
    → outgoing_in r s ≡ Some t
    → out_text (place node s) t.phase (accepted_count t) t.acked ≡ sequence_text node r now s
outgoing-text node r now s t law e =
    ap (λ (u : Sending). out_text (place node s) u.phase (accepted_count u) u.acked) (law r s t e)
    ∙ ap (λ b. cond b (outgoing_text node r s) (incoming_text node r now s)) (sym (sends r s t (maker r s) e))

pub incoming-text : (node : ℕ) (r : List Fact) (now s : ℕ) (f : Receiving) → IncomingIsAsRecorded
    → incoming_in r s ≡ Some f
    → known_text node s (phase_of f now) f.behaviour (held_in f) (inbox_in f) (discarded_in f) f.cursor
    ≡ sequence_text node r now s
incoming-text node r now s f law e =
    let is = law r s f e in
    ap (λ p. known_text node s p f.behaviour (held_in f) (inbox_in f) (discarded_in f) f.cursor)
    (same_phase r s now f is)
    ∙ ap (λ b. known_text node s (in_phase r s now) b (held_in f) (inbox_in f) (discarded_in f) f.cursor)
    (announced r s f (maker r s) e)
    ∙ ap (λ ns. known_text node s (in_phase r s now) (behaviour r s) ns (inbox_in f) (discarded_in f) f.cursor)
    is.numbers
    ∙ ap (λ items. known_text node s (in_phase r s now) (behaviour r s) (held r s) items (discarded_in f) f.cursor)
    is.inbox_
    ∙ ap (λ items. known_text node s (in_phase r s now) (behaviour r s) (held r s) (inbox r s) items f.cursor)
    is.discarded_
    ∙ ap (λ n. known_text node s (in_phase r s now) (behaviour r s) (held r s) (inbox r s) (discarded r s) n)
    is.cursor_
    ∙ ap (λ b. cond b (outgoing_text node r s) (incoming_text node r now s)) (sym (receives r s f (maker r s) e))
