use Rattle.std.proofs.Common.{◌≡◌, ℕ, List, ap, subst, ◌∙◌}
use Rattle.std.specs.Prelude.{IfOk}
use Rattle.std.specs.Option.{option_to_list}
use Rattle.rm_message.specs.declared.elements.header.AckBlock.{AckBlock}
use Rattle.rm_message.specs.declared.message.Message.{Message}
use Rattle.record_batch.specs.Sequences.Words.{Text}
use Rattle.record_batch.specs.Sequences.Idents.{issue}
use Rattle.record_batch.specs.Sequences.Find.{acks_to}
use Rattle.rm_protocol.specs.Messages.{block_of}
use Rattle.rm_protocol.specs.Said.{ack_to, own_messages}
use Rattle.node_calls.proofs.AckLemmas.{final-said}
use Rattle.node_calls.proofs.acks.final_ack.Goals as goal
use Rattle.tables_ahead.specs.Known.{all_records}

pub returns : goal.returns
returns c =
    let r = all_records c.args.ahead.now in
    let s = c.args.seq in
    let ident = c.in_ok-ident.ensures ∙ ap (λ (k : ℕ). issue k c.in-Some.counter) c.number.ensures.value in
    let block = c.in_ok-block.ensures ∙ ap (λ (q : Text). block_of r s q c.args.now) ident in
    let said = ap (λ (b : AckBlock). own_messages (ack_to (acks_to r s) b)) block
    ∙ final-said r s c.args.now c.in-Some.counter _ c.in-Some.ensures.is in
    subst (λ (ms : List Message). IfOk c.own_ack.result (λ m. option_to_list m ≡ ms)) said c.own_ack.ensures
