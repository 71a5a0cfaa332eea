-- What waits at a node is so by its records, and so is what a MakeConnection takes out.
use Rattle.std.proofs.Common.{ℕ, Bool, List, ◌++◌, refl}
use Rattle.std.specs.Prelude.{Result}
use Rattle.std.specs.List.{AllByRecursion}
use Rattle.timers.specs.Pending.Waiting.{Queue, Waiting}
use Rattle.rm_message.specs.declared.message.Message.{Message}
use Rattle.rm_message.specs.declared.refusal.Refusal.{Refusal}
use Rattle.record_batch.specs.Fact.{Fact}
use Rattle.record_batch.specs.Sequences.Words.{Text}
use Rattle.rm_protocol.specs.Calls.{Answer}
use Rattle.rm_protocol.specs.Sound.{SaysBlock, Says, AreSaid}
use Rattle.rm_protocol.specs.Terms.{Terms}
use Rattle.rm_protocol.specs.Polls.{blocks_back, poll, polled_after, polls, with_pending}
use Rattle.rm_protocol.proofs.ListLemmas.{All-weaker}
use Rattle.rm_protocol.proofs.Growth.{Grows, Says-grows}
use Rattle.rm_protocol.proofs.Adds.{Grows-adds}
use Rattle.rm_protocol.proofs.SaidLemmas.{with_blocks-says}
use Rattle.rm_protocol.proofs.CallLemmas.{IsRight}
use Rattle.rm_protocol.specs.PollLemmas.{IsOfReplies, blocks-all, fetched-all, outs-all, polled_after-all}

pub AreSaid-grows : (a b : List Fact) (w : Waiting Message) → Grows a b → AreSaid a w → AreSaid b w
AreSaid-grows a b w g h =
    All-weaker (λ (q : Queue Message). AllByRecursion (Says a) q.packets)
    (λ (q : Queue Message). AllByRecursion (Says b) q.packets)
    (λ q k. All-weaker (Says a) (Says b) (λ m s. Says-grows a b m g s) q.packets k) w.queues h

-- what waits after a call
pub polled_after-said : (a : List Fact) (w : Waiting Message) (answer : Answer) → AreSaid a w
    → AllByRecursion (Says a) answer.outs → AreSaid a (polled_after w answer)
polled_after-said a w answer h k = polled_after-all (Says a) w answer h k

pending-says : (a : List Fact) (m : Message) (more : Bool) → Says a m → Says a (with_pending m more)
pending-says a m more h = record {
  data_ = h.data_;
  acks = h.acks;
  create = h.create;
  place = h.place;
  name = h.name;
  response = h.response;
  final = h.final;
}

pub of-replies : (a : List Fact) → IsOfReplies (Says a)
of-replies a = record {
  pending = pending-says a;
  blocks = λ m outs h k. with_blocks-says a m (blocks_back outs) h
      (blocks-all (Says a) (SaysBlock a) (λ x s. s.acks) outs k);
}

-- the answer to a MakeConnection, at a node that said what waits there
pub polls-right : (terms : Terms) (place : ℕ) (a b : List Fact) (w : Waiting Message) (content : Result Message Refusal)
    (answer : Answer) → AreSaid a w → IsRight terms place a b answer
    → IsRight terms place a b (polls w content answer)
polls-right terms place a b w content answer s h =
    let later : AreSaid (a ++ answer.delta) w =
    AreSaid-grows a (a ++ answer.delta) w (Grows-adds a b answer.delta h.allowed.allows) s in
    record {
      allowed = record {
        allows = h.allowed.allows;
        with_ = h.allowed.with_;
        says = outs-all (Says (a ++ answer.delta)) w content answer h.allowed.says;
        fetched = fetched-all (Says (a ++ answer.delta)) (of-replies (a ++ answer.delta)) w content answer later
            h.allowed.says;
      };
      room = h.room;
    }

-- poll
pub poll-right : (terms : Terms) (place : ℕ) (r a b : List Fact) (to : Text) → IsRight terms place a b (poll r to)
poll-right terms place r a b to = record {
  allowed = record {
    allows = tt;
    with_ = tt;
    says = (record { data_ = tt; acks = tt; create = tt; place = tt; name = tt; response = tt; final = tt }, tt);
    fetched = tt;
  };
  room = refl;
}
