use Rattle.std.proofs.Common.{List, [], ◌∷◌, ◌++◌, sym, ap, ◌∙◌}
use Rattle.rm_message.specs.declared.elements.header.AckBlock.{AckBlock}
use Rattle.wsa_headers.specs.declared.endpoint.Epr.{Epr}
use Rattle.rm_protocol.specs.Addresses.{is_anonymous}
use Rattle.rm_protocol.specs.Messages.{ack_message}
use Rattle.node_calls.proofs.AckLemmas.{own-said}
use Rattle.node_calls.proofs.acks.own_ack.Goals as goal
use Rattle.tables_ahead.specs.Known.{all_records}

pub returns : goal.returns
returns c =
    let r = all_records c.args.ahead.now in
    let to = c.in-Some.to.now in
    let far = sym (c.is_anonymous.ensures ∙ ap is_anonymous c.as_slice.ensures.bytes) ∙ c.if-is_anonymous.false in
    let blocks = c.in_ok-push.ensures.ok
    ∙ ap (λ (bs : List AckBlock). bs ++ c.args.block ∷ []) c.new-blocks.ensures in
    let message = c.in_ok-ack_message.ensures
    ∙ ap (λ (e : Epr). ack_message e c.push.new.self) c.in_ok-to.ensures ∙ ap (ack_message to) blocks in
    own-said r c.args.seq to c.args.block c.in_ok-ack_message.field-0 c.in-Some.ensures far message
