use Rattle.std.proofs.Common.{◌≡◌, ◌+◌, ◌<◌, ◌++◌, ◌∷◌, drop, length, rules, sym, ap, ◌∙◌, append_assoc}
use Rattle.std.proofs.lemmas.List.{at_drop_more}
use Rattle.record_batch.specs.Sequences.Words.{Text}
use Rattle.record_batch.specs.Sequences.Find.{find_incoming}
use Rattle.rm_protocol.specs.Said.{ask_ack, ask_acks, given_with}
use Rattle.receive_replies.proofs.GivenLemmas.{ask_acks-same}
use Rattle.receive_replies.proofs.acks.ask_acks.Goals as goal
use Rattle.tables_ahead.specs.Known.{all_records}

pub loop-ident-preserved : goal.loop-ident-preserved
loop-ident-preserved c =
    let r = all_records c.args.ahead.now in
    let now = c.args.now in
    let i = c.loop-ident.ident-index in
    let qs = c.args.asks.now in
    let q = c.ident-item.result in
    let acks = c.loop-ident.acks.items in
    let given = c.loop-ident.given.items in
    let lt : i < length qs = search rules in
    let one = ask_ack r now given q (find_incoming r q) in
    ap (λ xs. xs ++ ask_acks r now c.ask_ack.new.given.items (drop (i + 1) qs)) c.in_ok-ask_ack.ensures.said
    ∙ ap (λ xs. (acks ++ one) ++ xs) (ask_acks-same r now c.ask_ack.new.given.items
    (given_with (find_incoming r q) given) (drop (i + 1) qs) c.in_ok-ask_ack.ensures.given)
    ∙ append_assoc acks one (ask_acks r now (given_with (find_incoming r q) given) (drop (i + 1) qs))
    ∙ sym (at_drop_more (λ xs. acks ++ ask_acks r now given xs) qs i q lt
    ∙ ap (λ (x : Text). acks ++ ask_acks r now given (x ∷ drop (i + 1) qs)) (sym c.ident-item.is))
    ∙ c.loop-ident.invariant
