-- Each record that a call adds may come next: what a message must have for it, and the calls one by one.
use Rattle.std.specs.Prelude.{◌≡◌, ℕ, ◌≤◌, true, List, [], IfSome, Result, Ok, Err}
use Rattle.std.specs.List.{AllByRecursion}
use Rattle.rm_sides.specs.declared.ranges.range.Range.{Range}
use Rattle.rm_base.specs.Message.{max_number}
use Rattle.rm_base.specs.declared.message.Behaviour.{Behaviour}
use Rattle.rm_message.specs.declared.elements.header.AckBlock.{AckBlock}
use Rattle.rm_message.specs.declared.elements.header.SeqHeader.{SeqHeader}
use Rattle.rm_message.specs.declared.message.Message.{Message}
use Rattle.rm_message.specs.declared.refusal.Refusal.{Refusal}
use Rattle.record_batch.specs.Fact.{Fact}
use Rattle.record_batch.specs.Sequences.Fits.{all_fit}
use Rattle.record_batch.specs.Sequences.Words.{Text}
use Rattle.rm_protocol.specs.Calls.{Wish, create, send, close, end, tick_with, ask_ack, nack_missing, receive, consume}
use Rattle.rm_protocol.specs.Rows.{ranges_of}
use Rattle.timers.specs.declared.slots.timers.Key.{Key}
use Rattle.rm_protocol.specs.Terms.{Terms, EndsLater}

-- a range of message numbers, which are from 1 to 9223372036854775807: WS-ReliableMessaging 1.2, section 3.9
pub record IsNumberRange (range : Range) : Type 0 where
  pub lower : 1 ≤ range.lower
  pub rises : range.lower ≤ range.upper
  pub upper : range.upper ≤ max_number

-- the ranges of a block are ranges of message numbers
abbrev pub HasRanges : AckBlock → Type 0
HasRanges block = AllByRecursion IsNumberRange (ranges_of block.kind)

-- a MessageNumber is from 1 to 9223372036854775807: WS-ReliableMessaging 1.2, section 3.7
abbrev pub IsMessageNumber : SeqHeader → Type 0
IsMessageNumber header = (1 ≤ header.number) × (header.number ≤ max_number)

-- the numbers of a message are message numbers
pub record HasNumbers (m : Message) : Type 0 where
  pub sequence : IfSome m.sequence IsMessageNumber
  pub acks : AllByRecursion HasRanges m.acks

-- what came is such a message, or was refused when it was read
abbrev pub IsReadable : Result Message Refusal → Type 0
IsReadable (Ok m) = HasNumbers m
IsReadable (Err refusal) = Unit {0}

-- the records that each call adds to r may come next, one after the other
pub record AddsNext (terms : Terms) (r : List Fact) (place : ℕ) : Type 0 where
  pub create_ : (wish : Wish) → all_fit r (create terms r place wish).delta ≡ true
  pub send_ : (s : ℕ) (payload : Text) → all_fit r (send terms r place s payload).delta ≡ true
  pub close_ : (s now : ℕ) → all_fit r (close terms r place s now).delta ≡ true
  pub end_ : (s : ℕ) → all_fit r (end terms r place s).delta ≡ true
  pub tick_ : (now : ℕ) (keys : List Key) → all_fit r (tick_with terms r place now keys).delta ≡ true
  pub ask_ack_ : (s : ℕ) → all_fit r (ask_ack r s).delta ≡ true
  pub nack_missing_ : (s now : ℕ) → all_fit r (nack_missing r s now).delta ≡ true
  pub consume_ : (s upto : ℕ) → all_fit r (consume terms r place s upto).delta ≡ true
  pub receive_ : (now : ℕ) (behaviour : Behaviour) (content : Result Message Refusal)
      → IsReadable content → all_fit r (receive terms r place now behaviour content).delta ≡ true

-- so it is for a list of records each of which could come next
abbrev pub EachMayComeNext : Type 0
EachMayComeNext =
    (terms : Terms) (r : List Fact) (place : ℕ) → EndsLater terms → all_fit [] r ≡ true → AddsNext terms r place
