-- Where no line arms a disk, none fails and no node is down.
use Rattle.std.proofs.Common.{◌≡◌, ◌∙◌, ◌+◌, ℕ, List, ◌∷◌, ◌++◌, length, Option, Some, None, refl, sym, ap, subst, []}
use Rattle.std.specs.List.{AllByRecursion}
use Rattle.rm_protocol.specs.Calls.{Cause, NoSequence, WrongSide, PayloadTooLong, BadPayload, NotOpen}
use Rattle.rm_protocol.specs.Calls.{WindowFull, NodeFull, Rollover, TooManySequences, StoreFull, PastInbox, Done}
use Rattle.rm_protocol.specs.Calls.{Refused, Judged}
use Rattle.rm_protocol.specs.Node.{Answered, DiskFault, IsDown}
use Rattle.rm_protocol.specs.Sent.{LineOutcome, Called, NoCall, NoPacket, outcome_of}
use Rattle.rm_protocol.specs.Terms.{Terms}
use Rattle.rm_protocol.specs.Unarmed.{AreUnarmed, IsFaultless, IsUnarmed}
use Rattle.rm_protocol.specs.World.{Event, World, happens, run, start}
use Rattle.rm_script.specs.declared.event.Event.{Event as Said}
use Rattle.rm_script.specs.declared.event.Event.TheVariants as said
use Rattle.record_batch.specs.Sequences.Words.{Text}
use Rattle.rm_replay.specs.Actor.Outcomes.{refusal_told}
use Rattle.rm_replay.specs.AllLemmas.{all_append}
use Rattle.rm_replay.specs.Meaning.{Means, comes_out, outcome_told, report_of, silent, stepped}
use Rattle.rm_replay.specs.Played.{Played, Story, more, none, start_world}
use Rattle.rm_replay.specs.Shows.{address_one, address_two}
use Rattle.rm_replay.specs.Unarmed.{ArmsNone, IsCalm, TellsCalm}
use Rattle.rm_replay.proofs.PlayedLemmas.{RunGoesOn}

-- no event of a run without an arm has a fault
abbrev pub RunsAreFaultless : Type 0
RunsAreFaultless =
    (terms : Terms) (one two : Text) (events : List Event) (event : Event) → AreUnarmed events
    → IsFaultless (outcome_of terms (run terms events (start one two)) event)

-- ---- how a line comes out

calm_refusal : (cause : Cause) → IsCalm (refusal_told cause)
calm_refusal NoSequence = tt
calm_refusal WrongSide = tt
calm_refusal (PayloadTooLong len) = tt
calm_refusal BadPayload = tt
calm_refusal NotOpen = tt
calm_refusal (WindowFull unacked) = tt
calm_refusal (NodeFull unacked) = tt
calm_refusal Rollover = tt
calm_refusal (TooManySequences count) = tt
calm_refusal (StoreFull end needed) = tt
calm_refusal (PastInbox have) = tt

calm_told : (outcome : LineOutcome) → IsFaultless outcome → IsCalm (outcome_told outcome)
calm_told (Called (Answered Done)) free = tt
calm_told (Called (Answered (Refused cause))) free = calm_refusal cause
calm_told (Called (Answered (Judged kind))) free = tt
calm_told (Called DiskFault) free = absurd free
calm_told (Called IsDown) free = absurd free
calm_told NoPacket free = tt
calm_told NoCall free = tt

calm_silent : (number : ℕ) (line : Said) (w : World) → AllByRecursion TellsCalm (report_of number (silent line) w)
calm_silent number said.Nothing w = tt
calm_silent number (said.Create at expires polled offer) w = (tt, tt)
calm_silent number (said.Grant at behaviour) w = (tt, tt)
calm_silent number (said.Send at seq text) w = (tt, tt)
calm_silent number (said.Tick at now) w = (tt, tt)
calm_silent number (said.Deliver packet) w = (tt, tt)
calm_silent number (said.Close at seq) w = (tt, tt)
calm_silent number (said.End at seq) w = (tt, tt)
calm_silent number (said.Ask at seq) w = (tt, tt)
calm_silent number (said.Nack at seq) w = (tt, tt)
calm_silent number (said.Poll at) w = (tt, tt)
calm_silent number (said.Compact at) w = (tt, tt)
calm_silent number (said.Consume at seq upto) w = (tt, tt)
calm_silent number (said.Arm at calls) w = (tt, tt)
calm_silent number (said.Crash at choice) w = (tt, tt)
calm_silent number (said.Noise at bytes) w = (tt, tt)

calm_line : (terms : Terms) (w v : World) (number : ℕ) (line : Said) (event : Option Event)
    → ((e : Event) → IsFaultless (outcome_of terms w e))
    → AllByRecursion TellsCalm (report_of number (comes_out terms w line event) v)
calm_line terms w v number line None free = calm_silent number line v
calm_line terms w v number line (Some e) free = (calm_told (outcome_of terms w e) (free e), tt)

-- ---- which event a line means

-- it arms no disk
abbrev pub IsUnarmedStep : Option Event → Type 0
IsUnarmedStep None = Unit {0}
IsUnarmedStep (Some event) = IsUnarmed event

unarmed_step : (line : Said) (event : Option Event) → ArmsNone line → Means line event → IsUnarmedStep event
unarmed_step said.Nothing event arms means = subst IsUnarmedStep (sym means) tt
unarmed_step (said.Create at expires polled offer) event arms means = subst IsUnarmedStep (sym means) tt
unarmed_step (said.Grant at behaviour) event arms means = subst IsUnarmedStep (sym means) tt
unarmed_step (said.Send at seq text) event arms means = subst IsUnarmedStep (sym means) tt
unarmed_step (said.Tick at now) event arms means = subst IsUnarmedStep (sym means) tt
unarmed_step (said.Deliver packet) event arms means = subst IsUnarmedStep (sym means) tt
unarmed_step (said.Close at seq) event arms means = subst IsUnarmedStep (sym means) tt
unarmed_step (said.End at seq) event arms means = subst IsUnarmedStep (sym means) tt
unarmed_step (said.Ask at seq) event arms means = subst IsUnarmedStep (sym means) tt
unarmed_step (said.Nack at seq) event arms means = subst IsUnarmedStep (sym means) tt
unarmed_step (said.Poll at) event arms means = subst IsUnarmedStep (sym means) tt
unarmed_step (said.Compact at) event arms means = subst IsUnarmedStep (sym means) tt
unarmed_step (said.Consume at seq upto) event arms means = subst IsUnarmedStep (sym means) tt
unarmed_step (said.Arm at calls) event arms means = absurd arms
unarmed_step (said.Crash at choice) event arms means = subst IsUnarmedStep (sym means.1) tt
unarmed_step (said.Noise at bytes) None arms means = tt
unarmed_step (said.Noise at bytes) (Some event) arms means = subst IsUnarmed (sym means.2) tt

-- ---- a run

-- the world is that of a run without an arm
pub record IsOfUnarmed (terms : Terms) (w : World) : Type 0 where
  pub events : List Event
  pub unarmed : AreUnarmed events
  pub is : w ≡ run terms events start_world

all_front : {A : Type 0} (P : A → Type 0) (xs : List A) (x : A) → AllByRecursion P (xs ++ x ∷ []) → AllByRecursion P xs
all_front P [] x all = tt
all_front P (y ∷ xs) x all = (all.0, all_front P xs x all.1)

all_last : {A : Type 0} (P : A → Type 0) (xs : List A) (x : A) → AllByRecursion P (xs ++ x ∷ []) → P x
all_last P [] x all = all.0
all_last P (y ∷ xs) x all = all_last P xs x all.1

run_on : RunGoesOn → (terms : Terms) (w : World) (event : Option Event) → IsOfUnarmed terms w → IsUnarmedStep event
    → IsOfUnarmed terms (stepped terms w event)
run_on goes terms w None of step = of
run_on goes terms w (Some event) of step = record {
  events = of.events ++ event ∷ [];
  unarmed = all_append IsUnarmed of.events (event ∷ []) of.unarmed (step, tt);
  is = ap (λ (v : World). happens terms v event) of.is ∙ sym (goes terms of.events (event ∷ []) start_world);
}

-- what a script without an arm tells
pub record IsFree (terms : Terms) (s : Story) : Type 0 where
  pub of : IsOfUnarmed terms s.world
  pub calm : AllByRecursion TellsCalm s.report

free_at : RunsAreFaultless → (terms : Terms) (w : World) → IsOfUnarmed terms w → (event : Event)
    → IsFaultless (outcome_of terms w event)
free_at faultless terms w of event =
    subst (λ (v : World). IsFaultless (outcome_of terms v event)) (sym of.is)
    (faultless terms address_one address_two of.events event of.unarmed)

pub free_of : RunGoesOn → RunsAreFaultless → (terms : Terms) (script : List Said) (s : Story)
    → Played terms script s → AllByRecursion ArmsNone script → IsFree terms s
free_of goes faultless terms _ _ none all =
    record { of = record { events = []; unarmed = tt; is = refl }; calm = tt }
free_of goes faultless terms _ _ (more lines s line event played means) all =
    let before = free_of goes faultless terms lines s played (all_front ArmsNone lines line all) in
    record {
      of = run_on goes terms s.world event before.of
          (unarmed_step line event (all_last ArmsNone lines line all) means);
      calm = all_append TellsCalm s.report _ before.calm
          (calm_line terms s.world (stepped terms s.world event) (length lines + 1) line event
          (free_at faultless terms s.world before.of));
    }
