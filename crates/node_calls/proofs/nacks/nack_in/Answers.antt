use Rattle.std.proofs.Common.{◌≡◌, true, sym, ap, subst, ◌∙◌, append-nil}
use Rattle.std.specs.Prelude.{IfOk}
use Rattle.record_batch.specs.Sequences.Fits.{is_incoming_side}
use Rattle.record_batch.specs.Sequences.Makers.{maker}
use Rattle.rm_protocol.specs.Calls.{Answer}
use Rattle.tables_ahead.specs.Known.{KnownRecords, all_records}
use Rattle.node_laws.specs.Answers.Answers.{seen}
use Rattle.node_calls.specs.Records.{IsServing}
use Rattle.node_calls.proofs.AskLemmas.{nack-comes}
use Rattle.node_calls.proofs.nacks.nack_in.Goals as goal

pub nack-requires-clause-serving : goal.nack-requires-clause-serving
nack-requires-clause-serving c =
    subst IsServing (sym (ap all_records c.new-ahead.ensures ∙ append-nil c.args.tables.now.records)) c.requires.serving

pub nack-requires-clause-nothing : goal.nack-requires-clause-nothing
nack-requires-clause-nothing c = ap (λ (k : KnownRecords). k.delta) c.new-ahead.ensures

pub nack-requires-clause-side : goal.nack-requires-clause-side
nack-requires-clause-side c =
    subst (λ (k : KnownRecords). is_incoming_side (maker k.records c.args.seq) ≡ true) (sym c.new-ahead.ensures)
    c.requires.side

pub returns : goal.returns
returns c =
    let comes = nack-comes c.args.tables.now.records c.args.seq c.args.now c.new-ahead.result c.in_ok-message.message
    c.new-ahead.ensures (sym c.is_over.ensures ∙ c.if-is_over.false) c.in_ok-message.ensures in
    subst (λ (x : Answer). IfOk c.added.result (λ a. seen a ≡ x)) comes c.added.ensures
