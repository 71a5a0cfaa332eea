use Rattle.std.proofs.Common.{◌≡◌, true, false, List, refl, sym, ap, subst, arith, ◌∙◌}
use Rattle.std.specs.Prelude.{IfOk}
use Rattle.std.specs.Option.{option_to_list}
use Rattle.rm_message.specs.declared.elements.header.AckBlock.{AckBlock}
use Rattle.rm_message.specs.declared.elements.header.AckKind.TheVariants as kind
use Rattle.rm_message.specs.declared.message.Message.{Message}
use Rattle.record_batch.specs.Fact.{Fact}
use Rattle.record_batch.specs.Sequences.Words.{Text}
use Rattle.record_batch.specs.Sequences.Idents.{issue}
use Rattle.record_batch.specs.Sequences.Find.{acks_to}
use Rattle.record_batch.specs.Sequences.Fits.{all_fit, is_incoming_side}
use Rattle.record_batch.specs.Sequences.Makers.{maker}
use Rattle.rm_protocol.specs.Calls.{missing_of}
use Rattle.rm_protocol.specs.Said.{ack_to, own_messages}
use Rattle.tables_ahead.specs.Known.{all_records}
use Rattle.node_calls.proofs.AckLemmas.{nack-none, nack-said}
use Rattle.node_calls.proofs.AskLemmas.{bare}
use Rattle.node_calls.proofs.nacks.nack.Goals as goal

pub counter_of-requires-clause-fit : goal.counter_of-requires-clause-fit
counter_of-requires-clause-fit c =
    subst (λ (ds : List Fact). all_fit c.args.ahead.now.records ds ≡ true) (sym c.requires.nothing) refl

pub counter_of-requires-clause-drawn : goal.counter_of-requires-clause-drawn
counter_of-requires-clause-drawn c = let drawn = c.requires.serving.drawn in omega (arith, drawn)

pub missing_of-requires : goal.missing_of-requires
missing_of-requires c =
    subst (λ (rs : List Fact). is_incoming_side (maker rs c.args.seq) ≡ true) (sym c.tables.ensures) c.requires.side

pub own_ack-requires : goal.own_ack-requires
own_ack-requires c = record {
  fit = subst (λ (ds : List Fact). all_fit c.args.ahead.now.records ds ≡ true) (sym c.requires.nothing) refl;
}

pub returns-then-is_empty : goal.returns-then-is_empty
returns-then-is_empty c =
    let r = all_records c.args.ahead.now in
    let missing = c.in_ok-missing.ensures
    ∙ ap (λ (rs : List Fact). missing_of rs c.args.seq)
    (c.tables.ensures ∙ sym (bare c.args.ahead.now c.requires.nothing)) in
    nack-none r c.args.seq _ (sym missing ∙ c.is_empty.ensures.0 c.if-is_empty.true)

pub returns : goal.returns
returns c =
    let r = all_records c.args.ahead.now in
    let s = c.args.seq in
    let missing = c.in_ok-missing.ensures
    ∙ ap (λ (rs : List Fact). missing_of rs s) (c.tables.ensures ∙ sym (bare c.args.ahead.now c.requires.nothing)) in
    let ident = c.in_ok-ident.ensures ∙ ap (λ k. issue k c.in-Some.counter) c.number.ensures.value in
    let block : Text → AckBlock =
    λ q. record { ident = q; kind = kind.Nack c.in_ok-missing.missing; last = false } in
    let said = ap (λ (q : Text). own_messages (ack_to (acks_to r s) (block q))) ident
    ∙ nack-said r s c.in-Some.counter _ c.in_ok-missing.missing c.in-Some.ensures.is missing
    (λ none. absurd (cc (c.is_empty.ensures.1 none, c.if-is_empty.false))) in
    subst (λ (ms : List Message). IfOk c.own_ack.result (λ m. option_to_list m ≡ ms)) said c.own_ack.ensures
