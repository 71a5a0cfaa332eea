use Rattle.std.proofs.Common.{◌≡◌, ◌++◌, ◌∷◌, [], Some, rules, ap, ◌∙◌}
use Rattle.rm_base.specs.NumberSet.{has_number}
use Rattle.record_batch.specs.Sequences.Find.{find_incoming}
use Rattle.rm_protocol.specs.Said.{given_with}
use Rattle.receive_replies.proofs.GivenLemmas.{given-push}
use Rattle.receive_replies.proofs.acks.ask_ack.Goals as goal
use Rattle.tables_ahead.specs.Known.{all_records}

pub returns-clause-given : goal.returns-clause-given
returns-clause-given c = λ n.
    let r = all_records c.args.ahead.now in
    let given = c.args.given.now.items in
    let s = c.in-Some.seq in
    let pushed : c.push.new.self.items ≡ given ++ s ∷ [] = search rules in
    let found : Some s ≡ find_incoming r c.args.ident.now = cc in
    ap (λ xs. has_number xs n) pushed ∙ given-push given s n ∙ ap (λ o. has_number (given_with o given) n) found
