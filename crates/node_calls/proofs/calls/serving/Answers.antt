use Rattle.std.proofs.Common.{true, ap, inl}
use Rattle.std.specs.Prelude.{Result, Ok}
use Rattle.rm_message.specs.declared.message.Message.{Message}
use Rattle.rm_message.specs.declared.refusal.Refusal.{Refusal}
use Rattle.rm_protocol.specs.Terms.{ReadsBack}
use Rattle.node_calls.proofs.calls.serving.Goals as goal

pub returns-clause-next : goal.returns-clause-next
returns-clause-next c =
    let there = c.there_are_own_terms.ensures (λ ms m. true) (λ m. Ok m) in
    let reads : ReadsBack there.0 = λ m. inl (ap (λ (f : Message → Result Message Refusal). f m) there.2) in
    record {
      terms = there.0;
      own = there.3;
      next = c.each_record_may_come_next.ensures there.0 c.args.tables.now.records c.args.place
          (c.own_terms_are_terms.ensures there.0 there.3 reads).deadline c.len-count.ensures.sound;
    }
