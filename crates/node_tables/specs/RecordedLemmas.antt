-- What an incoming sequence of the tables is, in the words of the records.
use Rattle.std.proofs.Common.{◌≡◌, ℕ, ◌<◌, Bool, true, false, cond, List, [], ◌∷◌, length, drop, refl}
use Rattle.std.proofs.Common.{sym, ap, subst, ◌∙◌, arith, Option, Some, None}
use Rattle.std.specs.Prelude.{◌||◌, not}
use Rattle.std.proofs.lemmas.Bool.{false≢true}
use Rattle.std.proofs.lemmas.Option.{none-some, same_Some}
use Rattle.rm_sides.specs.Source.Outgoing.{Sending}
use Rattle.rm_sides.specs.Destination.Incoming.{Receiving, inbox_of, is_past, items, phase_of}
use Rattle.rm_sides.specs.declared.destination.outcome.InPhase.TheVariants.{Open as is_open, Closed as is_closed}
use Rattle.rm_sides.specs.declared.destination.outcome.InPhase.TheVariants.{Ended as is_ended}
use Rattle.rm_sides.specs.Destination.Messages.{Item, any_true, contents_of, is_empty}
use Rattle.record_batch.specs.Fact.{Fact, Made}
use Rattle.record_batch.specs.Sequences.Makers.{Maker, Outgoing, Offered, Incoming, Taken, address, maker}
use Rattle.record_batch.specs.Sequences.Makers.{number}
use Rattle.record_batch.specs.Sequences.Destinations.{behaviour_of, closes, deadline_of, messages, told}
use Rattle.record_batch.specs.Sequences.Told.{receiving, sending}
use Rattle.node_tables.specs.Laws.{IsAsRecorded, is_end, is_shut}
use Rattle.node_tables.specs.Reads.{address_in, incoming_in, incoming_of, outgoing_in, outgoing_of}

any_some : (xs : List Bool) → any_true xs ≡ true → not (is_empty xs) ≡ true
any_some [] h = h
any_some (x ∷ xs) h = refl

shut : (f : Receiving) (now : ℕ)
    → is_shut (phase_of f now) ≡ ((any_true f.closes || is_past f.deadline now) || not (is_empty f.closes))
shut f now =
    elim (any_true f.closes || is_past f.deadline now)
    as (λ e. is_shut (cond e is_ended (cond (not (is_empty f.closes)) is_closed is_open))
    ≡ (e || not (is_empty f.closes))) [
      | true ↦ refl
      | false ↦
          elim (not (is_empty f.closes)) as (λ b. is_shut (cond b is_closed is_open) ≡ b) [
            | true ↦ refl
            | false ↦ refl
          ]
    ]

end_of : (f : Receiving) (now : ℕ)
    → is_end (phase_of f now) ≡ (any_true f.closes || is_past f.deadline now)
end_of f now =
    elim (any_true f.closes || is_past f.deadline now)
    as (λ e. is_end (cond e is_ended (cond (not (is_empty f.closes)) is_closed is_open)) ≡ e) [
      | true ↦ refl
      | false ↦
          elim (not (is_empty f.closes)) as (λ b. is_end (cond b is_closed is_open) ≡ false) [
            | true ↦ refl
            | false ↦ refl
          ]
    ]

or_true : (b : Bool) → (b || true) ≡ true
or_true true = refl
or_true false = refl

or_false : (b : Bool) → (b || false) ≡ b
or_false true = refl
or_false false = refl

-- ended, expired or stopped is expired or stopped, where an end is a stop
over_of : (any past stopped : Bool) → (any ≡ true → stopped ≡ true) → ((any || past) || stopped) ≡ (stopped || past)
over_of any past true h = or_true (any || past)
over_of true past false h = absurd (false≢true (h refl))
over_of false past false h = or_false past

recorded : (r : List Fact) (s : ℕ) (m : Maker) → maker r s ≡ Some m
    → IsAsRecorded r s (receiving r s (behaviour_of (Some m)) (deadline_of (Some m)))
recorded r s m there =
    let f = receiving r s (behaviour_of (Some m)) (deadline_of (Some m)) in
    let inbox_same : inbox_of f.behaviour f.told (items f)
    ≡ inbox_of (behaviour_of (maker r s)) (told r s) (items f) =
    ap (λ (o : Option Maker). inbox_of (behaviour_of o) (told r s) (items f)) (sym there) in
    let late : (now : ℕ) → is_past f.deadline now ≡ is_past (deadline_of (maker r s)) now =
    λ now. ap (λ (o : Option Maker). is_past (deadline_of o) now) (sym there) in
    record {
      numbers = refl;
      front_ = refl;
      inbox_ = inbox_same;
      cursor_ = refl;
      discarded_ =
          ap (λ (ps : List Item). cond (not (is_empty (closes r s)))
          (drop (length ps) (contents_of (messages r s))) []) inbox_same;
      stopped = refl;
      end = refl;
      over = λ now.
          shut f now
          ∙ over_of (any_true (closes r s)) (is_past f.deadline now) (not (is_empty (closes r s)))
          (any_some (closes r s))
          ∙ ap (λ b. not (is_empty (closes r s)) || b) (late now);
      ended = λ now. end_of f now ∙ ap (λ b. any_true (closes r s) || b) (late now);
    }

incoming_made : (r : List Fact) (s : ℕ) (f : Receiving) (o : Option Maker) → maker r s ≡ o → incoming_of r s o ≡ Some f
    → IsAsRecorded r s f
incoming_made r s f None there e = absurd (none-some f e)
incoming_made r s f (Some (Outgoing ticket to via lapse)) there e = absurd (none-some f e)
incoming_made r s f (Some (Taken message_id ident endpoint)) there e = absurd (none-some f e)
incoming_made r s f (Some (Incoming counter message_id acks_to behaviour deadline lapse)) there e =
    subst (IsAsRecorded r s) (same_Some _ f e)
    (recorded r s (Incoming counter message_id acks_to behaviour deadline lapse) there)
incoming_made r s f (Some (Offered ticket counter to behaviour)) there e =
    subst (IsAsRecorded r s) (same_Some _ f e) (recorded r s (Offered ticket counter to behaviour) there)

pub incoming-recorded : (r : List Fact) (s : ℕ) (f : Receiving) → incoming_in r s ≡ Some f → IsAsRecorded r s f
incoming-recorded r s f e = incoming_made r s f (maker r s) refl e

outgoing_made : (r : List Fact) (s : ℕ) (t : Sending) (o : Option Maker) → outgoing_of r s o ≡ Some t → t ≡ sending r s
outgoing_made r s t None e = absurd (none-some t e)
outgoing_made r s t (Some (Outgoing ticket to via lapse)) e = sym (same_Some _ t e)
outgoing_made r s t (Some (Taken message_id ident endpoint)) e = sym (same_Some _ t e)
outgoing_made r s t (Some (Incoming counter message_id acks_to behaviour deadline lapse)) e = absurd (none-some t e)
outgoing_made r s t (Some (Offered ticket counter to behaviour)) e = absurd (none-some t e)

pub outgoing-recorded : (r : List Fact) (s : ℕ) (t : Sending) → outgoing_in r s ≡ Some t → t ≡ sending r s
outgoing-recorded r s t e = outgoing_made r s t (maker r s) e

pub numbered-addressed : (r : List Fact) → 0 < number r → address_in r ≡ Some (address r)
numbered-addressed [] h = absurd (omega (arith, h))
numbered-addressed (Made node to ∷ r) h = refl
numbered-addressed (f ∷ r) h = numbered-addressed r h
