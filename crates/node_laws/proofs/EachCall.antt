-- Each call keeps the records of a node such, and what it says keeps the rules.
use Rattle.std.proofs.Common.{◌≡◌, ℕ, max, Bool, true, List, Option, Some, None, refl}
use Rattle.std.specs.Prelude.{IfSome, Result, Ok, Err}
use Rattle.std.specs.List.{AllByRecursion}
use Rattle.rm_sides.specs.declared.ranges.range.Range.{Range}
use Rattle.rm_message.specs.Elements.Writable.{IsAckWritable, IsKindWritable, IsRange, IsSequenceWritable}
use Rattle.rm_message.specs.declared.elements.header.AckKind.{AckKind}
use Rattle.rm_message.specs.declared.elements.header.AckKind.TheVariants as kind
use Rattle.rm_message.specs.declared.elements.header.SeqHeader.{SeqHeader}
use Rattle.rm_message.specs.declared.message.Message.{Message}
use Rattle.rm_message.specs.declared.refusal.Refusal.{Refusal}
use Rattle.soap_envelope.specs.Soap.{soap_space}
use Rattle.message_writer.specs.Rules.{KeepsRules}
use Rattle.record_batch.specs.Fact.{Fact}
use Rattle.record_batch.specs.Sequences.Fits.{all_fit}
use Rattle.rm_protocol.specs.Calls.{Answer, create, send, close, end, tick, ask_ack, nack_missing, receive, consume}
use Rattle.timers.specs.Keys.Waits.{first_due}
use Rattle.rm_protocol.specs.Next.{HasRanges, IsMessageNumber, IsNumberRange, IsReadable, AddsNext, EachMayComeNext}
use Rattle.rm_protocol.specs.Polls.{poll}
use Rattle.rm_protocol.specs.Rows.{ranges_of}
use Rattle.rm_protocol.specs.Terms.{Terms}
use Rattle.node_laws.specs.Keeps.{OfEachCall, LeavesANode, SaysByTheRules, EachCallKeeps, EachIsByTheRules}
use Rattle.node_laws.specs.Keeps.{IsReadBack, SaysWhatIsRead, EachIsReadBack}
use Rattle.node_laws.specs.OwnTerms.{AreOwn}
use Rattle.node_laws.specs.Read.{IsContentRead}
use Rattle.node_laws.specs.Records.{IsKept}
use Rattle.node_laws.proofs.Calls.{Below, IsGoodAnswer, create-good, send-good, close-good, end-good, tick-good}
use Rattle.node_laws.proofs.Calls.{ask_ack-good, nack_missing-good, consume-good, poll-good, receive-good}
use Rattle.node_laws.proofs.Kept.{kept-all}
use Rattle.node_laws.proofs.Owned.{own-later}
use Rattle.node_laws.proofs.Lists.{All-weaker}

-- ---- the numbers of a message that was read

header-numbers : (header : Option SeqHeader) → IfSome header IsSequenceWritable → IfSome header IsMessageNumber
header-numbers None h = tt
header-numbers (Some header) h = (h.number.low, h.number.high)

as_numbers : (range : Range) → IsRange range → IsNumberRange range
as_numbers range is = record { lower = is.lower.low; rises = is.rises; upper = is.upper.high }

kind-numbers : (k : AckKind) (last : Bool) → IsKindWritable k last
    → AllByRecursion IsNumberRange (ranges_of k)
kind-numbers (kind.Ranges rs) last h =
    All-weaker IsRange IsNumberRange as_numbers rs h.1
kind-numbers kind.Nothing last h = tt
kind-numbers (kind.Nack numbers) last h = tt

readable : (content : Result Message Refusal) → IsContentRead content → IsReadable content
readable (Err refused) h = tt
readable (Ok m) h = record {
  sequence = header-numbers m.sequence h.sequence;
  acks = All-weaker IsAckWritable HasRanges (λ block is. kind-numbers block.kind block.last is.kind) m.acks h.acks;
}

-- ---- all calls

-- what an answer leaves, where its records may come next
leaves : Below → (r : List Fact) (answer : Answer) → IsKept r → all_fit r answer.delta ≡ true → IsGoodAnswer r answer
    → LeavesANode r answer
leaves below r answer h fit good = kept-all below.ranges r answer.delta h fit good.allowed

-- and what it says
says : Below → (r : List Fact) (answer : Answer) → IsKept r → all_fit r answer.delta ≡ true → IsGoodAnswer r answer
    → SaysByTheRules answer
says below r answer h fit good = good.says (leaves below r answer h fit good)

-- what follows for an answer whose records may come next and that is good
of-each : Below → EachMayComeNext → (terms : Terms) (r : List Fact) (place : ℕ) (P : Answer → Type 0) → AreOwn terms
    → IsKept r → ((answer : Answer) → all_fit r answer.delta ≡ true → IsGoodAnswer r answer → P answer)
    → OfEachCall terms r place P
of-each below next terms r place P own h step =
    let fit : AddsNext terms r place = next terms r place (own-later terms own) h.node.fit in
    record {
      create_ = λ wish is. step (create terms r place wish) (fit.create_ wish)
          (create-good terms r place wish is);
      send_ = λ s text. step (send terms r place s text) (fit.send_ s text) (send-good terms r place s text own);
      close_ = λ s now. step (close terms r place s now) (fit.close_ s now) (close-good terms r place s now);
      end_ = λ s. step (end terms r place s) (fit.end_ s) (end-good terms r place s);
      tick_ = λ now time waits. step (tick terms r place now time waits)
          (fit.tick_ now (first_due (max time now) waits))
          (tick-good terms r place now time waits);
      ask_ack_ = λ s. step (ask_ack r s) (fit.ask_ack_ s) (ask_ack-good r s);
      nack_missing_ = λ s now. step (nack_missing r s now) (fit.nack_missing_ s now) (nack_missing-good r s now);
      consume_ = λ s upto. step (consume terms r place s upto) (fit.consume_ s upto)
          (consume-good terms r place s upto);
      poll_ = λ to is. step (poll r to) refl (poll-good r to is);
      receive_ = λ now y content is. step (receive terms r place now y content)
          (fit.receive_ now y content (readable content is))
          (receive-good below terms r place now y content own h is);
    }

pub each-keeps : Below → EachMayComeNext → EachCallKeeps
each-keeps below next terms r place own h =
    of-each below next terms r place (LeavesANode r) own h (λ answer. leaves below r answer h)

pub each-says : Below → EachMayComeNext → EachIsByTheRules
each-says below next terms r place own h =
    of-each below next terms r place SaysByTheRules own h (λ answer. says below r answer h)

pub each-is-read : Below → EachMayComeNext → ((m : Message) → KeepsRules soap_space m → IsReadBack m) → EachIsReadBack
each-is-read below next law terms r place own h =
    of-each below next terms r place SaysWhatIsRead own h (λ answer fit good.
    All-weaker (KeepsRules soap_space) IsReadBack law answer.outs (says below r answer h fit good))
