use Rattle.std.proofs.Common.{ℕ, ◌++◌, ◌^◌, ◌<◌, sym, subst, ◌∙◌}
use Rattle.receive_answer.proofs.RecordsLemmas.AckLemmas.{only-acks, refuses_create-same}
use Rattle.receive_answer.proofs.records.rows.put_rows.Goals as goal
use Rattle.tables_ahead.specs.Known.{all_records}

pub body_row-requires-clause-nothing : goal.body_row-requires-clause-nothing
body_row-requires-clause-nothing c =
    (only-acks c.as_slice.result.now c.args.ahead.now c.ack_rows.new.ahead c.requires.nothing
    c.in_ok-ack_rows.ensures.records c.in_ok-ack_rows.ensures.delta).received_

pub body_row-requires-clause-drawn : goal.body_row-requires-clause-drawn
body_row-requires-clause-drawn c =
    let same = (only-acks c.as_slice.result.now c.args.ahead.now c.ack_rows.new.ahead c.requires.nothing
    c.in_ok-ack_rows.ensures.records c.in_ok-ack_rows.ensures.delta).counter_ in
    subst (λ (n : ℕ). n < 2 ^ 62) (sym same) c.requires.drawn

pub body_row-requires-clause-granted : goal.body_row-requires-clause-granted
body_row-requires-clause-granted c =
    let same = (only-acks c.as_slice.result.now c.args.ahead.now c.ack_rows.new.ahead c.requires.nothing
    c.in_ok-ack_rows.ensures.records c.in_ok-ack_rows.ensures.delta).makers_ in
    refuses_create-same (all_records c.ack_rows.new.ahead) c.args.ahead.now.records
    c.args.message.now.addressing.message_id c.args.message.now.body same
    ∙ c.requires.granted
