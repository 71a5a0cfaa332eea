-- What is said of a sequence that is open asks for no end of it, and tells of none.
use Rattle.std.specs.Prelude.{◌≡◌, ℕ, false, List, Some}
use Rattle.std.specs.List.{AllByRecursion}
use Rattle.rm_message.specs.declared.elements.header.AckBlock.{AckBlock}
use Rattle.rm_message.specs.declared.elements.lifecycle.Lifecycle.TheVariants as life
use Rattle.rm_message.specs.declared.message.Body.{Body}
use Rattle.rm_message.specs.declared.message.Body.TheVariants as body
use Rattle.rm_message.specs.declared.message.Message.{Message}
use Rattle.rm_sides.specs.declared.source.phase.OutPhase.TheVariants as out
use Rattle.timers.specs.declared.slots.timers.Key.{Key}
use Rattle.record_batch.specs.Fact.{Fact}
use Rattle.record_batch.specs.Sequences.Words.{Text}
use Rattle.record_batch.specs.Sequences.Sources.{out_ident, phase}
use Rattle.record_batch.specs.Sequences.Destinations.{is_over}
use Rattle.record_batch.specs.Sequences.Find.{find_incoming}
use Rattle.rm_protocol.specs.Calls.{messages_at}
use Rattle.rm_protocol.specs.Said.{said}

-- no CloseSequence and no TerminateSequence of this sequence
abbrev pub AsksNoEnd : Text → Body → Type 0
AsksNoEnd q (body.Lifecycle (life.Close f)) = f.ident ≡ q → ⊥
AsksNoEnd q (body.Lifecycle (life.Terminate f)) = f.ident ≡ q → ⊥
AsksNoEnd q _ = Unit {0}

-- no final acknowledgement of it
abbrev pub TellsNoEnd : Text → AckBlock → Type 0
TellsNoEnd q block = block.ident ≡ q → block.last ≡ false

-- the message has neither
pub record IsPlain (q : Text) (m : Message) : Type 0 where
  pub body_ : AsksNoEnd q m.body
  pub acks : AllByRecursion (TellsNoEnd q) m.acks

-- a sequence of the node with this identifier is open, whether it sends or receives
pub record IsOpenThere (r : List Fact) (q : Text) (now : ℕ) : Type 0 where
  pub source : (s : ℕ) → out_ident r s ≡ Some q → phase r s ≡ out.Open
  pub destination : (t : ℕ) → find_incoming r q ≡ Some t → is_over r t now ≡ false

-- then so is what a tick says, and what is said to a message without a verdict
pub record NoEndIsSaid : Type 0 where
  pub tick : (r : List Fact) (q : Text) (now : ℕ) (keys : List Key) → IsOpenThere r q now
      → AllByRecursion (IsPlain q) (messages_at r keys)
  pub answer : (r : List Fact) (q : Text) (now : ℕ) (m : Message) → IsOpenThere r q now
      → AllByRecursion (IsPlain q) (said r now m)
