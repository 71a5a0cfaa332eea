-- Ends of incoming sequences change nothing of what outgoing ones say.
use Rattle.std.proofs.Common.{◌≡◌, ℕ, ◌+◌, Bool, true, false, cond, List, [], ◌∷◌, ◌++◌, refl, ap, ◌∙◌, append-nil}
use Rattle.std.proofs.Common.{Option, Some, None}
use Rattle.std.specs.Prelude.{◌&&◌, not}
use Rattle.std.specs.List.{AllByRecursion, flat_map}
use Rattle.std.proofs.lemmas.Grind.{flat_map-append}
use Rattle.rm_base.specs.Numbered.{numbered}
use Rattle.rm_base.specs.declared.message.Cause.TheVariants.{Expired}
use Rattle.record_batch.specs.Fact.{Fact, Ended}
use Rattle.record_batch.specs.Sequences.Words.{at_seq, last_or}
use Rattle.record_batch.specs.Sequences.Makers.{Maker, Outgoing, Offered, Incoming, Taken, makers, makers_of, maker}
use Rattle.record_batch.specs.Sequences.Sources.{accepted, accepted_of, dropped, dropped_of, out_ident, phase}
use Rattle.record_batch.specs.Sequences.Sources.{ticket_of}
use Rattle.record_batch.specs.Sequences.Sources.{tickets}
use Rattle.record_batch.specs.Sequences.Find.{peer}
use Rattle.rm_sides.specs.Destination.Incoming.{is_past}
use Rattle.record_batch.specs.Sequences.Destinations.{deadline_of, has_end, is_over}
use Rattle.rm_message.specs.declared.message.Message.{Message}
use Rattle.rm_protocol.specs.Calls.{Answer, Done, NotOpen, adds, ask_ack, ask_out, ask_to, expired_from, made_by}
use Rattle.rm_protocol.specs.Calls.{may_end}
use Rattle.rm_protocol.specs.Calls.{messages_at, nack_by, nack_in, nack_missing, on_incoming, on_outgoing, refusal}
use Rattle.rm_protocol.specs.Calls.{tick_with, ticked}
use Rattle.rm_protocol.specs.Terms.{Terms}
use Rattle.rm_protocol.specs.Verdict.{has_room}
use Rattle.timers.specs.declared.slots.timers.Key.{Key}
use Rattle.tables_ahead.specs.Known.{KnownRecords, all_records, may_go_ahead}
use Rattle.node_calls.specs.Comes.{fitting}
use Rattle.node_calls.specs.Records.{IsEnding}

none-gathered : {A : Type 0} (g : Fact → List A) (d : List Fact) → ((f : Fact) → IsEnding f → g f ≡ [])
    → AllByRecursion IsEnding d → flat_map g d ≡ []
none-gathered g [] none h = refl
none-gathered g (f ∷ d) none h =
    ap (λ xs. xs ++ flat_map g d) (none f h.0) ∙ none-gathered g d none h.1

gathered : {A : Type 0} (g : Fact → List A) (r d : List Fact) → ((f : Fact) → IsEnding f → g f ≡ [])
    → AllByRecursion IsEnding d → flat_map g (r ++ d) ≡ flat_map g r
gathered g r d none h =
    flat_map-append g r d ∙ ap (λ xs. flat_map g r ++ xs) (none-gathered g d none h) ∙ append-nil (flat_map g r)

makers-none : (f : Fact) → IsEnding f → makers_of f ≡ []
makers-none (Ended seq cause last) h = refl
makers-none _ h = absurd h

accepted-none : (s : ℕ) (f : Fact) → IsEnding f → accepted_of s f ≡ []
accepted-none s (Ended seq cause last) h = refl
accepted-none s _ h = absurd h

dropped-none : (s : ℕ) (f : Fact) → IsEnding f → dropped_of s f ≡ []
dropped-none s (Ended seq cause last) h = refl
dropped-none s _ h = absurd h

ticket-none : (f : Fact) → IsEnding f → ticket_of f ≡ []
ticket-none (Ended seq cause last) h = refl
ticket-none _ h = absurd h

pub maker-ends : (r d : List Fact) (s : ℕ) → AllByRecursion IsEnding d → maker (r ++ d) s ≡ maker r s
maker-ends r d s h = ap (λ (ms : List Maker). numbered ms s) (gathered makers_of r d makers-none h)

pub accepted-ends : (r d : List Fact) (s : ℕ) → AllByRecursion IsEnding d → accepted (r ++ d) s ≡ accepted r s
accepted-ends r d s h = gathered (accepted_of s) r d (accepted-none s) h

pub dropped-ends : (r d : List Fact) (s : ℕ) → AllByRecursion IsEnding d → dropped (r ++ d) s ≡ dropped r s
dropped-ends r d s h = ap (last_or 0) (gathered (dropped_of s) r d (dropped-none s) h)

pub tickets-ends : (r d : List Fact) (s : ℕ) → AllByRecursion IsEnding d → tickets (r ++ d) s ≡ tickets r s
tickets-ends r d s h = ap (at_seq s) (gathered ticket_of r d ticket-none h)

-- such a record may go ahead
pub ending-ahead : (r : List Fact) (f : Fact) → IsEnding f → may_go_ahead r f ≡ true
ending-ahead r (Ended seq cause last) h = refl
ending-ahead r _ h = absurd h

-- ---- the batch of a tick has no others

pub expired-ends : (r : List Fact) (now k : ℕ) (ms : List Maker) → AllByRecursion IsEnding (expired_from r now k ms)
expired-ends r now k [] = tt
expired-ends r now k (m ∷ ms) =
    let rest = expired-ends r now (k + 1) ms in
    elim (is_past (deadline_of (Some m)) now && not (has_end r (k + 1))) as (λ b. AllByRecursion IsEnding (cond b
    (Ended (k + 1) Expired 0 ∷ expired_from r now (k + 1) ms) (expired_from r now (k + 1) ms))) [
      | true ↦ (tt, rest)
      | false ↦ rest
    ]

-- a tick comes to what its batch, where it fits, and its keys make of it
pub ticked-is : (terms : Terms) (r : List Fact) (place now : ℕ) (keys : List Key)
    → ticked r now keys (fitting terms place (expired_from r now 0 (makers r))) ≡ tick_with terms r place now keys
ticked-is terms r place now keys = chosen (has_room terms place ends)
  where
    ends : List Fact
    ends = expired_from r now 0 (makers r)

    chosen : (b : Bool) → ticked r now keys (cond b (expired_from r now 0 (makers r)) [])
        ≡ cond b (ticked r now keys (expired_from r now 0 (makers r))) (ticked r now keys [])
    chosen true = refl
    chosen false = refl

-- what a tick answers, with its batch ahead
pub ticked-by : (r d : List Fact) (now : ℕ) (keys urged : List Key) (k : KnownRecords) (batch : List Fact)
    (outs : List Message) → k.records ≡ r → k.delta ≡ d → urged ≡ [] → batch ≡ k.delta
    → outs ≡ messages_at (all_records k) keys
    → record {
      outcome = Done;
      delta = batch;
      fetched = None;
      outs = outs;
      moves = record { urged = urged; emitted = keys; time = now };
    } ≡ ticked r now keys d
ticked-by r d now keys urged k batch outs records delta none is said =
    let answer : List Key → List Fact → List Message → Answer = λ us ds ms. record {
      outcome = Done;
      delta = ds;
      fetched = None;
      outs = ms;
      moves = record { urged = us; emitted = keys; time = now };
    } in
    let all : k.records ++ k.delta ≡ r ++ d =
    ap (λ (rs : List Fact). rs ++ k.delta) records ∙ ap (λ (ds : List Fact). r ++ ds) delta in
    ap (λ (us : List Key). answer us batch outs) none
    ∙ ap (λ (ds : List Fact). answer [] ds outs) (is ∙ delta)
    ∙ ap (answer [] d) (said ∙ ap (λ (rs : List Fact). messages_at rs keys) all)

-- ---- calls that add nothing

ask-refused : (m : Option Maker) (a : Answer) → a.delta ≡ [] → (on_outgoing m a).delta ≡ []
ask-refused None a h = refl
ask-refused (Some (Outgoing ticket to via lapse)) a h = h
ask-refused (Some (Taken message_id ident endpoint)) a h = h
ask-refused (Some (Offered ticket n to behaviour)) a h = refl
ask-refused (Some (Incoming n message_id acks_to behaviour deadline lapse)) a h = refl

nack-refused : (m : Option Maker) (a : Answer) → a.delta ≡ [] → (on_incoming m a).delta ≡ []
nack-refused None a h = refl
nack-refused (Some (Outgoing ticket to via lapse)) a h = refl
nack-refused (Some (Taken message_id ident endpoint)) a h = refl
nack-refused (Some (Offered ticket n to behaviour)) a h = h
nack-refused (Some (Incoming n message_id acks_to behaviour deadline lapse)) a h = h

chosen : (b : Bool) (x y : Answer) → x.delta ≡ [] → y.delta ≡ [] → (cond b x y).delta ≡ []
chosen true x y h k = h
chosen false x y h k = k

pub ask-delta : (r : List Fact) (s : ℕ) → (ask_ack r s).delta ≡ []
ask-delta r s =
    ask-refused (maker r s) (ask_out r s)
    (chosen (may_end (phase r s)) (adds r [] (λ after. ask_to (peer after s) (out_ident after s)))
    (refusal NotOpen) refl
    refl)

pub nack-delta : (r : List Fact) (s now : ℕ) → (nack_missing r s now).delta ≡ []
nack-delta r s now =
    nack-refused (maker r s) (nack_in r s now)
    (chosen (is_over r s now) (refusal NotOpen)
    (adds r [] (λ after. nack_by after s (made_by after (maker after s)))) refl refl)
