-- Acknowledgements and Nacks as messages of their own.
use Rattle.std.proofs.Common.{◌≡◌, ℕ, Bool, true, false, cond, List, [], ◌∷◌, refl, sym, ap, ◌∙◌, Option, Some, None}
use Rattle.std.specs.Option.{option_map}
use Rattle.rm_message.specs.declared.elements.header.AckBlock.{AckBlock}
use Rattle.rm_message.specs.declared.elements.header.AckKind.TheVariants as kind
use Rattle.rm_message.specs.declared.message.Message.{Message}
use Rattle.wsa_headers.specs.declared.endpoint.Epr.{Epr}
use Rattle.record_batch.specs.Fact.{Fact}
use Rattle.record_batch.specs.Sequences.Words.{Text}
use Rattle.record_batch.specs.Sequences.Idents.{issue}
use Rattle.record_batch.specs.Sequences.Makers.{number}
use Rattle.record_batch.specs.Sequences.Find.{acks_to}
use Rattle.rm_protocol.specs.Addresses.{is_anonymous}
use Rattle.rm_protocol.specs.Calls.{final_ack, missing_of, nack_by, nack_to}
use Rattle.rm_protocol.specs.Messages.{ack_message, block_of}
use Rattle.rm_protocol.specs.Said.{ack_to, own_messages}

-- it is said where its AcksTo is known, and isn't a connection
pub own-said : (r : List Fact) (s : ℕ) (to : Epr) (block : AckBlock) (m : Message) → Some to ≡ acks_to r s
    → is_anonymous to.address ≡ false → m ≡ ack_message to (block ∷ [])
    → m ∷ [] ≡ own_messages (ack_to (acks_to r s) block)
own-said r s to block m known far is =
    ap (λ (x : Message). x ∷ []) is
    ∙ sym (ap (λ (b : Bool). cond b [] (ack_message to (block ∷ []) ∷ [])) far)
    ∙ ap (λ (x : Option Epr). own_messages (ack_to x block)) known

-- it isn't where that is none, or a connection
pub own-back : (r : List Fact) (s : ℕ) (to : Epr) (block : AckBlock) → Some to ≡ acks_to r s
    → is_anonymous to.address ≡ true → [] ≡ own_messages (ack_to (acks_to r s) block)
own-back r s to block known back =
    sym (ap (λ (b : Bool). cond b [] (ack_message to (block ∷ []) ∷ [])) back)
    ∙ ap (λ (x : Option Epr). own_messages (ack_to x block)) known

pub own-none : (r : List Fact) (s : ℕ) (block : AckBlock) → None ≡ acks_to r s
    → [] ≡ own_messages (ack_to (acks_to r s) block)
own-none r s block none = ap (λ (x : Option Epr). own_messages (ack_to x block)) none

-- the final acknowledgement is such a message
pub final-said : (r : List Fact) (s now n : ℕ) (made : Option (ℕ × Text))
    → Some n ≡ option_map (λ (x : ℕ × Text). x.0) made
    → own_messages (ack_to (acks_to r s) (block_of r s (issue (number r) n) now)) ≡ final_ack r s now made
final-said r s now n None drawn = absurd (cc)
final-said r s now n (Some made) drawn =
    let same : n ≡ made.0 = cc in
    ap (λ (k : ℕ). own_messages (ack_to (acks_to r s) (block_of r s (issue (number r) k) now))) same

-- so is a Nack of numbers
pub nack-said : (r : List Fact) (s n : ℕ) (made : Option (ℕ × Text)) (numbers : List ℕ)
    → Some n ≡ option_map (λ (x : ℕ × Text). x.0) made → numbers ≡ missing_of r s → (numbers ≡ [] → ⊥)
    → own_messages (ack_to (acks_to r s)
    (record { ident = issue (number r) n; kind = kind.Nack numbers; last = false }))
    ≡ nack_by r s made
nack-said r s n None numbers drawn is some = absurd (cc)
nack-said r s n (Some made) numbers drawn is some =
    let same : n ≡ made.0 = cc in
    ap (λ (k : ℕ). own_messages (ack_to (acks_to r s)
    (record { ident = issue (number r) k; kind = kind.Nack numbers; last = false }))) same
    ∙ by_numbers numbers some
    ∙ ap (nack_to (acks_to r s) (issue (number r) made.0)) is
  where
    by_numbers : (ns : List ℕ) → (ns ≡ [] → ⊥) → own_messages (ack_to (acks_to r s)
        (record { ident = issue (number r) made.0; kind = kind.Nack ns; last = false }))
        ≡ nack_to (acks_to r s) (issue (number r) made.0) ns
    by_numbers [] k = absurd (k refl)
    by_numbers (n ∷ ns) k = refl

-- where no number is missing, or the sequence was made for no message, nothing is said
pub nack-none : (r : List Fact) (s : ℕ) (made : Option (ℕ × Text)) → missing_of r s ≡ [] → [] ≡ nack_by r s made
nack-none r s None none = refl
nack-none r s (Some made) none = sym (ap (nack_to (acks_to r s) (issue (number r) made.0)) none)
