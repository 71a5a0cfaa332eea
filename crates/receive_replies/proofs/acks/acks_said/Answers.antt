use Rattle.std.proofs.Common.{◌≡◌, ◌++◌, [], List, ap, ◌∙◌}
use Rattle.record_batch.specs.Sequences.Words.{Text}
use Rattle.rm_protocol.specs.Said.{Ack, ask_acks, data_acks, data_ident, found_in, given_with}
use Rattle.receive_replies.proofs.GivenLemmas.{ask_acks-same}
use Rattle.receive_replies.proofs.acks.acks_said.Goals as goal
use Rattle.tables_ahead.specs.Known.{all_records}

pub returns : goal.returns
returns c =
    let r = all_records c.args.ahead.now in
    let now = c.args.now in
    let m = c.args.message.now in
    let d = data_ident m.sequence m.body in
    let given = c.data_acks.new.given.items in
    c.in_ok-ask_acks.ensures
    ∙ ap (λ (qs : List Text). c.data_acks.new.acks.items ++ ask_acks r now given qs) c.as_slice-asks.ensures
    ∙ ap (λ (xs : List Ack). xs ++ ask_acks r now given m.asks) (c.in_ok-data_acks.ensures.said
    ∙ ap (λ (xs : List Ack). xs ++ data_acks r now d) c.new-acks.ensures.items)
    ∙ ap (λ (xs : List Ack). data_acks r now d ++ xs)
    (ask_acks-same r now given (given_with (found_in r d) []) m.asks c.in_ok-data_acks.ensures.given)
