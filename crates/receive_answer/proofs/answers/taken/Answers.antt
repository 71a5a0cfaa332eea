use Rattle.std.proofs.Common.{◌≡◌, ◌<◌, ◌^◌, ◌++◌, true, List, sym, subst, ap, ◌∙◌}
use Rattle.std.specs.Prelude.{IfOk}
use Rattle.record_batch.specs.Fact.{Fact}
use Rattle.record_batch.specs.Sequences.Fits.{all_fit}
use Rattle.record_batch.specs.Sequences.Makers.{counter, number}
use Rattle.rm_protocol.specs.Calls.{Answer}
use Rattle.node_laws.specs.Answers.Answers.{MayBeStored, seen}
use Rattle.receive_answer.specs.Untold.{done_of, full_of}
use Rattle.receive_answer.proofs.FitLemmas.{OwnLaws, added-fit, nothing-stored, stored-by}
use Rattle.receive_answer.proofs.ReceiveLemmas.{answer-full, answer-taken}
use Rattle.receive_answer.proofs.RecordLemmas.{drawn-few, number-made}
use Rattle.receive_answer.proofs.StrippedLemmas.{done-stripped, full-is, full-stripped}
use Rattle.receive_answer.proofs.answers.taken.Goals as goal

pub put_ahead-requires-clause-serves : goal.put_ahead-requires-clause-serves
put_ahead-requires-clause-serves c = c.requires.serves

pub put_ahead-requires-clause-numbers : goal.put_ahead-requires-clause-numbers
put_ahead-requires-clause-numbers c = c.requires.numbers

pub put_ahead-requires-clause-nothing : goal.put_ahead-requires-clause-nothing
put_ahead-requires-clause-nothing c = c.requires.nothing

pub put_ahead-requires-clause-early : goal.put_ahead-requires-clause-early
put_ahead-requires-clause-early c = c.requires.early

pub done-requires-clause-numbered : goal.done-requires-clause-numbered
done-requires-clause-numbered c =
    let d = c.put_ahead.new.ahead.delta in
    subst (λ (r : List Fact). 0 < number (r ++ d)) (sym c.in_ok-put_ahead.ensures.records)
    (number-made c.args.ahead.records d c.requires.serves.begins c.len-sequences.ensures.sound)

pub done-requires-clause-drawn : goal.done-requires-clause-drawn
done-requires-clause-drawn c =
    let d = c.put_ahead.new.ahead.delta in
    subst (λ (r : List Fact). counter (r ++ d) < 2 ^ 62) (sym c.in_ok-put_ahead.ensures.records)
    (drawn-few c.a_byte_for_each_number.ensures c.args.ahead.records d c.args.place c.requires.serves
    (c.in_ok-put_ahead.ensures.room c.if-branch.true))

pub done-requires-clause-fit : goal.done-requires-clause-fit
done-requires-clause-fit c =
    let d = c.put_ahead.new.ahead.delta in
    let laws : OwnLaws = record {
      own = c.own_terms_are_terms.ensures;
      there = c.there_are_own_terms.ensures;
      next = c.each_record_may_come_next.ensures;
    } in
    subst (λ (r : List Fact). all_fit r d ≡ true) (sym c.in_ok-put_ahead.ensures.records)
    (added-fit laws c.args.ahead.records d c.args.place c.args.now c.args.granted c.args.message.now
    c.in_ok-put_ahead.field-0 c.len-sequences.ensures.sound c.requires.numbers
    c.in_ok-put_ahead.ensures.tried
    c.if-branch.true)

pub returns-then-branch-clause-is : goal.returns-then-branch-clause-is
returns-then-branch-clause-is c =
    let r = c.args.ahead.records in
    let d = c.put_ahead.new.ahead.delta in
    let now = c.args.now in
    let m = c.args.message.now in
    let done : done_of c.put_ahead.new.ahead.records d now c.put_ahead.new.message ≡ done_of r d now m =
    ap (λ (records : List Fact). done_of records d now c.put_ahead.new.message) c.in_ok-put_ahead.ensures.records
    ∙ ap (done_of r d now) c.in_ok-put_ahead.ensures.rest ∙ done-stripped r d now m in
    λ terms own.
    subst (λ (answer : Answer). IfOk c.done.result (λ a. seen a ≡ answer))
    (done ∙ sym (answer-taken r d c.args.place now c.args.granted m c.in_ok-put_ahead.field-0
    c.in_ok-put_ahead.ensures.tried c.if-branch.true terms own))
    c.done.ensures.is

pub returns-then-branch-clause-stored : goal.returns-then-branch-clause-stored
returns-then-branch-clause-stored c =
    let r = c.args.ahead.records in
    let d = c.put_ahead.new.ahead.delta in
    let laws : OwnLaws = record {
      own = c.own_terms_are_terms.ensures;
      there = c.there_are_own_terms.ensures;
      next = c.each_record_may_come_next.ensures;
    } in
    let stored : MayBeStored r c.args.place d = record {
      fit = added-fit laws r d c.args.place c.args.now c.args.granted c.args.message.now c.in_ok-put_ahead.field-0
          c.len-sequences.ensures.sound c.requires.numbers c.in_ok-put_ahead.ensures.tried
          c.if-branch.true;
      room = c.in_ok-put_ahead.ensures.room c.if-branch.true;
      typed = c.in_ok-put_ahead.ensures.typed;
    } in
    stored-by r d c.args.place c.done.result stored c.done.ensures.batch

pub returns-else-branch-clause-is : goal.returns-else-branch-clause-is
returns-else-branch-clause-is c =
    let m = c.args.message.now in
    λ terms own.
    subst (λ (answer : Answer). IfOk c.store_full.result (λ a. seen a ≡ answer))
    (full-is c.put_ahead.new.message ∙ ap full_of c.in_ok-put_ahead.ensures.rest ∙ full-stripped m
    ∙ sym (answer-full c.args.ahead.records c.put_ahead.new.ahead.delta c.args.place c.args.now c.args.granted m
    c.in_ok-put_ahead.field-0 c.in_ok-put_ahead.ensures.tried c.if-branch.false terms own))
    c.store_full.ensures.is

pub returns-else-branch-clause-stored : goal.returns-else-branch-clause-stored
returns-else-branch-clause-stored c =
    nothing-stored c.args.ahead.records c.args.place c.store_full.result c.store_full.ensures.nothing
