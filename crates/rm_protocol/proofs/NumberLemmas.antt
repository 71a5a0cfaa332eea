-- What a node says has message numbers.
use Rattle.std.proofs.Common.{◌≡◌, ℕ, ◌≤◌, ◌==◌, ◌||◌, Bool, true, false, List, [], ◌∷◌, length, refl}
use Rattle.std.proofs.Common.{arith, subst}
use Rattle.std.specs.Prelude.{Option, Some, None, IfSome}
use Rattle.std.specs.List.{AllByRecursion}
use Rattle.std.proofs.lemmas.Bool.{eqb-true}
use Rattle.std.proofs.lemmas.Bool.Decides.{nat_tests}
use Rattle.rm_sides.specs.declared.ranges.range.Range.{Range}
use Rattle.rm_sides.specs.Ranges.Ranges.{in_range, in_ranges}
use Rattle.rm_base.specs.Message.{max_number}
use Rattle.rm_base.specs.NumberSet.{has_number}
use Rattle.rm_base.specs.declared.message.Payload.{Payload}
use Rattle.rm_sides.specs.Destination.Messages.{numbers_of}
use Rattle.rm_message.specs.declared.elements.header.AckBlock.{AckBlock}
use Rattle.rm_message.specs.declared.elements.header.SeqHeader.{SeqHeader}
use Rattle.rm_message.specs.declared.message.Body.{Body}
use Rattle.rm_message.specs.declared.message.Body.TheVariants as body
use Rattle.rm_message.specs.declared.message.Message.{Message}
use Rattle.record_batch.specs.Fact.{Fact}
use Rattle.record_batch.specs.Snapshot.Same.{AreProper}
use Rattle.record_batch.specs.Sequences.Words.{Text}
use Rattle.record_batch.specs.Sequences.Sources.{accepted}
use Rattle.record_batch.specs.Sequences.Destinations.{received}
use Rattle.rm_protocol.specs.FitInduction.{few-accepted}
use Rattle.rm_protocol.specs.Next.{HasNumbers, HasRanges, IsMessageNumber, IsNumberRange}
use Rattle.rm_protocol.specs.Rows.{ranges_of}
use Rattle.rm_protocol.specs.Sound.{AreHeld, Says, SaysBlock, SaysData, StandFor}
use Rattle.rm_protocol.proofs.HeadlineLemmas.{IsNumbered, positive}
use Rattle.rm_protocol.proofs.Kept.{kept-count}
use Rattle.rm_protocol.proofs.ListLemmas.{All-weaker, numbered-within}

-- a sequence of a node has no more messages than there are numbers
pub whole-few : (r a : List Fact) → StandFor r a → (s : ℕ) → length (accepted a s) ≤ max_number
whole-few r a h s = omega (arith, few-accepted r s h.fit, kept-count r a s h.kept)

-- what was received has message numbers
abbrev AreNumbered : List Fact → Type 0
AreNumbered a = (t : ℕ) → AllByRecursion (λ (m : ℕ × Payload). IsNumbered m.0) (received a t)

pub number-of : (ms : List (ℕ × Payload)) (n : ℕ) → AllByRecursion (λ (m : ℕ × Payload). IsNumbered m.0) ms
    → has_number (numbers_of ms) n ≡ true → IsNumbered n
number-of [] n h e = absurd (cc)
number-of (m ∷ ms) n h e = elim (m.0 == n) as (λ b. (m.0 == n) ≡ b → (b || has_number (numbers_of ms) n) ≡ true
    → IsNumbered n) [
      | true ↦ λ d k. subst IsNumbered (eqb-true m.0 n d) h.0
      | false ↦ λ d k. number-of ms n h.1 k
    ] refl e

held-numbered : (a : List Fact) (q : Text) (ranges : List Range) (n : ℕ) → AreNumbered a → AreHeld a q ranges
    → in_ranges ranges n ≡ true → IsNumbered n
held-numbered a q ranges n h held e = let at = held n e in number-of (received a at.seq) n (h at.seq) at.has

or-true : (a b : Bool) → b ≡ true → (a || b) ≡ true
or-true true b e = refl
or-true false b e = e

first-true : (a b : Bool) → a ≡ true → (a || b) ≡ true
first-true true b e = refl
first-true false b e = absurd (cc)

pub in-lower : (l u : ℕ) → l ≤ u → in_range (record { lower = l; upper = u }) l ≡ true
in-lower l u le = grind (arith, nat_tests)

in-upper : (l u : ℕ) → l ≤ u → in_range (record { lower = l; upper = u }) u ≡ true
in-upper l u le = grind (arith, nat_tests)

ranges-numbered : (ranges : List Range) → AreProper ranges → ((n : ℕ) → in_ranges ranges n ≡ true → IsNumbered n)
    → AllByRecursion IsNumberRange ranges
ranges-numbered [] p h = tt
ranges-numbered (x ∷ xs) p h =
    let low = h x.lower (first-true (in_range x x.lower) (in_ranges xs x.lower) (in-lower x.lower x.upper p.0)) in
    let high = h x.upper (first-true (in_range x x.upper) (in_ranges xs x.upper) (in-upper x.lower x.upper p.0)) in (
      record { lower = low.from; rises = p.0; upper = high.upto },
      ranges-numbered xs p.1 (λ n e. h n (or-true (in_range x n) (in_ranges xs n) e)),
    )

block-ranges : (a : List Fact) (block : AckBlock) → AreNumbered a → SaysBlock a block → HasRanges block
block-ranges a block h s = ranges-numbered (ranges_of block.kind) s.1
    (λ n e. held-numbered a block.ident (ranges_of block.kind) n h s.0 e)

data-number : (a : List Fact) (h : Option SeqHeader) (content : Body) → ((s : ℕ) → length (accepted a s) ≤ max_number)
    → SaysData a h content → IfSome h IsMessageNumber
data-number a None content few s = tt
data-number a (Some h) (body.Payload p) few s =
    let upto : h.number ≤ max_number =
    omega (arith, numbered-within (accepted a s.seq) h.number p.bytes s.item, few s.seq) in
    (positive (accepted a s.seq) h.number p.bytes s.item, upto)
data-number a (Some h) _ few s = absurd s

pub says-numbers : (a : List Fact) (m : Message) → ((s : ℕ) → length (accepted a s) ≤ max_number)
    → ((t : ℕ) → AllByRecursion (λ (m : ℕ × Payload). IsNumbered m.0) (received a t)) → Says a m → HasNumbers m
says-numbers a m few h s = record {
  sequence = data-number a m.sequence m.body few s.data_;
  acks = All-weaker (SaysBlock a) HasRanges (λ block e. block-ranges a block h e) m.acks s.acks;
}
