use Rattle.std.proofs.Common.{◌≡◌, Option, subst}
use Rattle.std.specs.Prelude.{IfOk}
use Rattle.rm_message.specs.declared.message.Message.{Message}
use Rattle.tables_ahead.specs.Known.{all_records}
use Rattle.node_calls.proofs.KeyLemmas.{data-key, request-key}
use Rattle.node_calls.proofs.keys.message_at.Goals as goal

pub returns-then-key-eq0 : goal.returns-then-key-eq0
returns-then-key-eq0 c =
    subst (λ (x : Option Message). IfOk c.request_at.result (λ m. m ≡ x))
    (request-key (all_records c.args.ahead.now) c.args.key.seq c.args.key.number c.if-key-eq0.true)
    c.request_at.ensures

pub returns : goal.returns
returns c =
    subst (λ (x : Option Message). IfOk c.data_at.result (λ m. m ≡ x))
    (data-key (all_records c.args.ahead.now) c.args.key.seq c.args.key.number c.if-key-eq0.false) c.data_at.ensures
