use Rattle.std.proofs.Common.{◌≡◌, List, ◌++◌, map, sym, ap, subst, ◌∙◌}
use Rattle.std.specs.List.{AllByRecursion}
use Rattle.node_laws.specs.Sizes.Room.{HasRoom}
use Rattle.node_laws.specs.Sizes.Typed.{IsTyped}
use Rattle.record_batch.specs.Fact.{Fact, fact_of}
use Rattle.record_batch.specs.Sequences.Makers.{makers}
use Rattle.rm_protocol.specs.Calls.{expired_from, messages_at, ticked}
use Rattle.tables_ahead.specs.Known.{KnownRecords, all_records}
use Rattle.node_calls.specs.Comes.{fitting}
use Rattle.node_calls.specs.Records.{IsEnding, IsServing}
use Rattle.node_calls.proofs.EndLemmas.{expired-ends, ticked-by, ticked-is}
use Rattle.node_calls.proofs.ticks.tick.Goals as goal

pub fitting-requires : goal.fitting-requires
fitting-requires c =
    subst (AllByRecursion IsEnding) (sym c.in_ok-due.ensures)
    (expired-ends c.new-ahead.result.records c.args.now 0 (makers c.new-ahead.result.records))

pub messages_at-requires-clause-serving : goal.messages_at-requires-clause-serving
messages_at-requires-clause-serving c =
    subst IsServing (sym (c.in_ok-put_ends.ensures.records ∙ ap (λ (k : KnownRecords). k.records) c.new-ahead.ensures))
    c.requires

pub messages_at-requires-clause-ends : goal.messages_at-requires-clause-ends
messages_at-requires-clause-ends c =
    subst (AllByRecursion IsEnding)
    (sym (c.in_ok-put_ends.ensures.ok
    ∙ ap (λ (k : KnownRecords). k.delta ++ map fact_of c.in_ok-ends.ends.items) c.new-ahead.ensures))
    c.in_ok-ends.ensures.ends

pub returns-clause-is : goal.returns-clause-is
returns-clause-is c terms own =
    let r = c.args.tables.now.records in
    let now = c.args.now in
    let keys = c.args.keys.items in
    let ends = map fact_of c.in_ok-ends.ends.items in
    let records = c.in_ok-put_ends.ensures.records ∙ ap (λ (k : KnownRecords). k.records) c.new-ahead.ensures in
    let delta = c.in_ok-put_ends.ensures.ok ∙ ap (λ (k : KnownRecords). k.delta ++ ends) c.new-ahead.ensures in
    let due : map fact_of c.in_ok-due.due.items ≡ expired_from r now 0 (makers r) =
    c.in_ok-due.ensures
    ∙ ap (λ (k : KnownRecords). expired_from k.records now 0 (makers k.records)) c.new-ahead.ensures in
    let said = c.in_ok-outs.ensures
    ∙ ap (messages_at (all_records c.put_ends.new.ahead)) c.as_slice.ensures.value in
    ticked-by r ends now keys c.new.result.items c.put_ends.new.ahead _ c.in_ok-outs.outs.items records delta
    c.new.ensures.items c.into_batch.ensures said
    ∙ ap (ticked r now keys)
    (c.in_ok-ends.ensures.is terms own ∙ ap (λ (ds : List Fact). fitting terms c.args.place ds) due)
    ∙ ticked-is terms r c.args.place now keys

pub returns-clause-room : goal.returns-clause-room
returns-clause-room c =
    subst (HasRoom c.args.place)
    (sym (c.into_batch.ensures ∙ c.in_ok-put_ends.ensures.ok
    ∙ ap (λ (k : KnownRecords). k.delta ++ map fact_of c.in_ok-ends.ends.items) c.new-ahead.ensures))
    c.in_ok-ends.ensures.room

pub returns-clause-typed : goal.returns-clause-typed
returns-clause-typed c =
    subst (AllByRecursion IsTyped)
    (sym (c.into_batch.ensures ∙ c.in_ok-put_ends.ensures.ok
    ∙ ap (λ (k : KnownRecords). k.delta ++ map fact_of c.in_ok-ends.ends.items) c.new-ahead.ensures))
    c.in_ok-ends.ensures.typed
