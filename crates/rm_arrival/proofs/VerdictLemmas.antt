-- Why nothing stands against data and against acknowledgements.
use Rattle.std.proofs.Common.{◌≡◌, ℕ, ◌&&◌, ◌||◌, not, cond, Bool, true, false, List, [], ◌∷◌, refl, ap, ◌∙◌, inl}
use Rattle.std.proofs.Common.{inr}
use Rattle.std.specs.Prelude.{Some, None, is_none, is_some}
use Rattle.rm_base.specs.NumberSet.{has_number}
use Rattle.rm_base.specs.declared.message.Behaviour.{Behaviour}
use Rattle.rm_message.specs.declared.elements.header.AckBlock.{AckBlock}
use Rattle.rm_message.specs.declared.refusal.FaultKind.TheVariants.{WsrmRequired, UnknownSequence}
use Rattle.rm_message.specs.declared.refusal.FaultKind.TheVariants.{SequenceTerminated, SequenceClosed}
use Rattle.rm_message.specs.declared.refusal.FaultKind.TheVariants.{InvalidAcknowledgement, CreateSequenceRefused}
use Rattle.rm_message.specs.declared.refusal.FaultKind.TheVariants.{MissingSelection, UnsupportedSelection}
use Rattle.rm_message.specs.declared.refusal.FaultKind.TheVariants.{StoreFull}
use Rattle.wsa_headers.specs.declared.endpoint.Epr.{Epr}
use Rattle.record_batch.specs.Fact.{Fact}
use Rattle.record_batch.specs.Sequences.Words.{Text}
use Rattle.record_batch.specs.Sequences.Destinations.{held, is_ended, is_over}
use Rattle.record_batch.specs.Sequences.Find.{find_incoming, find_outgoing}
use Rattle.rm_protocol.specs.Messages.{ack_message, data_of}
use Rattle.rm_protocol.specs.Rows.{rows}
use Rattle.rm_protocol.specs.Terms.{Terms}
use Rattle.rm_protocol.specs.Verdict.{first_held, has_room, is_ended_at, is_invalid, is_shut_at, verdict}
use Rattle.rm_arrival.specs.Round.{CanTake}

-- where no test holds
no-test : (a b c d e f g h i : Bool) → a ≡ false → b ≡ false → c ≡ false → d ≡ false → e ≡ false → f ≡ false
    → g ≡ false → h ≡ false → i ≡ false
    → first_held ((a, WsrmRequired) ∷ (b, UnknownSequence) ∷ (c, SequenceTerminated) ∷ (d, SequenceClosed)
    ∷ (e, InvalidAcknowledgement) ∷ (f, CreateSequenceRefused) ∷ (g, MissingSelection) ∷ (h, UnsupportedSelection)
    ∷ (i, StoreFull) ∷ [])
    ≡ None
no-test a b c d e f g h i ea eb ec ed ee ef eg eh ei = rw (ea, eb, ec, ed, ee, ef, eg, eh, ei) refl

-- where none but want of room holds
one-test : (a b c d e f g h i : Bool) → a ≡ false → b ≡ false → c ≡ false → d ≡ false → e ≡ false → f ≡ false
    → g ≡ false → h ≡ false
    → first_held ((a, WsrmRequired) ∷ (b, UnknownSequence) ∷ (c, SequenceTerminated) ∷ (d, SequenceClosed)
    ∷ (e, InvalidAcknowledgement) ∷ (f, CreateSequenceRefused) ∷ (g, MissingSelection) ∷ (h, UnsupportedSelection)
    ∷ (i, StoreFull) ∷ [])
    ≡ cond i (Some StoreFull) None
one-test a b c d e f g h i ea eb ec ed ee ef eg eh = rw (ea, eb, ec, ed, ee, ef, eg, eh) refl

none-shut : (b : Bool) → (b && false) ≡ false
none-shut true = refl
none-shut false = refl

open-or-held : (r : List Fact) (t i now : ℕ) → CanTake r t i now
    → (not (has_number (held r t) i) && is_over r t now) ≡ false
open-or-held r t i now can = elim can [
  | inl h ↦ ap (λ b. not b && is_over r t now) h
  | inr h ↦ ap (λ b. not (has_number (held r t) i) && b) h.0 ∙ none-shut (not (has_number (held r t) i))
]

pub data-taken : (terms : Terms) (r : List Fact) (end t i now : ℕ) (y : Behaviour) (q : Text) (to : Epr) (p : Text)
    → find_incoming r q ≡ Some t → is_ended r t now ≡ false → CanTake r t i now
    → has_room terms end (rows terms now y (data_of to q i p) r) ≡ true
    → verdict terms r end now y (data_of to q i p) ≡ None
data-taken terms r end t i now y q to p found going can room =
    no-test _ _ _ _ _ _ _ _ _ refl (ap (λ x. is_none x || false) found)
    (ap (is_ended_at r now) found ∙ going)
    (ap (is_shut_at r now i) found ∙ open-or-held r t i now can) refl refl refl refl (ap not room)

pub ack-taken : (terms : Terms) (r : List Fact) (end s now : ℕ) (y : Behaviour) (to : Epr) (block : AckBlock)
    → find_outgoing r block.ident ≡ Some s → is_invalid r block ≡ false
    → has_room terms end (rows terms now y (ack_message to (block ∷ [])) r) ≡ true
    → verdict terms r end now y (ack_message to (block ∷ [])) ≡ None
ack-taken terms r end s now y to block found valid room =
    no-test _ _ _ _ _ _ _ _ _ refl (ap (λ x. not ((is_some x || false) || false)) found) refl refl
    (ap (λ b. b || false) valid) refl refl refl (ap not room)

-- ---- where only want of room can stand against it

pub data-verdict : (terms : Terms) (r : List Fact) (end t i now : ℕ) (y : Behaviour) (q : Text) (to : Epr) (p : Text)
    → find_incoming r q ≡ Some t → is_ended r t now ≡ false → CanTake r t i now
    → verdict terms r end now y (data_of to q i p)
    ≡ cond (not (has_room terms end (rows terms now y (data_of to q i p) r))) (Some StoreFull) None
data-verdict terms r end t i now y q to p found going can =
    one-test _ _ _ _ _ _ _ _ _ refl (ap (λ x. is_none x || false) found)
    (ap (is_ended_at r now) found ∙ going)
    (ap (is_shut_at r now i) found ∙ open-or-held r t i now can) refl refl refl refl

pub ack-verdict : (terms : Terms) (r : List Fact) (end s now : ℕ) (y : Behaviour) (to : Epr) (block : AckBlock)
    → find_outgoing r block.ident ≡ Some s → is_invalid r block ≡ false
    → verdict terms r end now y (ack_message to (block ∷ []))
    ≡ cond (not (has_room terms end (rows terms now y (ack_message to (block ∷ [])) r))) (Some StoreFull) None
ack-verdict terms r end s now y to block found valid =
    one-test _ _ _ _ _ _ _ _ _ refl (ap (λ x. not ((is_some x || false) || false)) found) refl refl
    (ap (λ b. b || false) valid) refl refl refl
