use Rattle.std.proofs.Common.{◌≡◌, ◌+◌, Bool, cond, length, sym, ap, ◌∙◌, subst, arith}
use Rattle.std.specs.Prelude.{IfOk}
use Rattle.rm_protocol.specs.Calls.{Answer, TooManySequences, if_room, refusal, wanted}
use Rattle.record_batch.specs.Sequences.Makers.{makers}
use Rattle.node_laws.specs.Answers.Answers.{seen, wish_seen}
use Rattle.node_calls.specs.Comes.{asked}
use Rattle.node_calls.proofs.CauseLemmas.{few-enough}
use Rattle.node_calls.proofs.requests.ask.Goals as goal

pub returns-clause-is : goal.returns-clause-is
returns-clause-is c terms own =
    let r = c.args.tables.now.records in
    let w = wish_seen c.args.wish in
    let few = few-enough (length (makers r) + wanted w.offer)
    (omega (arith, c.len-count.ensures.count, c.wanted.ensures.is, c.if-count-wanted-gt-MAX_SEQUENCES.false)) in
    let comes = ap (if_room terms c.args.place) c.in_ok-answer.ensures.is
    ∙ sym (ap (λ (b : Bool). cond b (refusal (TooManySequences (length (makers r))))
    (if_room terms c.args.place (asked r w))) few) in
    subst (λ (x : Answer). IfOk c.if_room.result (λ a. seen a ≡ x)) comes (c.if_room.ensures.is terms own)
