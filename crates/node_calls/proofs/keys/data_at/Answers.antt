use Rattle.std.proofs.Common.{◌≡◌, Option, Some, subst, sym, ◌∙◌}
use Rattle.std.specs.Prelude.{IfOk}
use Rattle.rm_message.specs.declared.message.Message.{Message}
use Rattle.record_batch.specs.Sequences.Find.{peer}
use Rattle.record_batch.specs.Sequences.Makers.{maker}
use Rattle.tables_ahead.specs.Known.{all_records}
use Rattle.node_calls.proofs.KeyLemmas.{data-known, sends-to}
use Rattle.node_calls.proofs.keys.data_at.Goals as goal

pub returns : goal.returns
returns c =
    let r = all_records c.args.ahead.now in
    let s = c.args.seq in
    let to = c.in-Some.to in
    let ident = c.in-Some-ident.ident.now in
    let there : Some to ≡ peer r s = sym c.in-Some.is ∙ c.in_ok-to.ensures in
    let known = data-known r s c.args.number to ident _ there c.in-Some-ident.ensures
    (c.payload_at.ensures (sends-to (maker r s) to there)) in
    subst (λ (x : Option Message). IfOk c.data_by.result (λ m. m ≡ x)) known c.data_by.ensures
