use Rattle.std.proofs.Common.{◌≡◌, ◌<◌, [], subst, sym}
use Rattle.std.specs.Prelude.{IfOk}
use Rattle.record_batch.specs.Sequences.Makers.{number}
use Rattle.rm_protocol.specs.Calls.{Answer}
use Rattle.node_laws.specs.Answers.Answers.{seen}
use Rattle.tables_ahead.specs.Known.{KnownRecords, all_records}
use Rattle.node_calls.proofs.AskLemmas.{poll-comes}
use Rattle.node_calls.proofs.KeyLemmas.{number-begun}
use Rattle.node_calls.proofs.polls.poll.Goals as goal

pub home-requires : goal.home-requires
home-requires c =
    subst (λ (k : KnownRecords). 0 < number (all_records k)) (sym c.new-ahead.ensures)
    (number-begun c.args.tables.now.records [] c.requires.begins c.requires.fit)

pub returns : goal.returns
returns c =
    let said = c.in_ok-request.ensures (all_records c.new-ahead.result) c.home.ensures.home in
    subst (λ (x : Answer). IfOk c.added.result (λ a. seen a ≡ x))
    (poll-comes c.args.tables.now.records c.args.to c.new-ahead.result c.in_ok-request.request c.new-ahead.ensures said)
    c.added.ensures
