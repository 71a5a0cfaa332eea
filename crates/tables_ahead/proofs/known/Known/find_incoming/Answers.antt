use Rattle.std.proofs.Common.{◌∙◌, ◌++◌, length, map, sym, ap}
use Rattle.std.specs.Option.{option_or}
use Rattle.record_batch.specs.Fact.{fact_of}
use Rattle.record_batch.specs.Sequences.Find.{find_from, find_incoming, is_incoming}
use Rattle.record_batch.specs.Sequences.Makers.{makers, number}
use Rattle.tables_ahead.proofs.FoundLemmas.{incoming-ahead}
use Rattle.tables_ahead.proofs.known.Known.find_incoming.Goals as goal
use Rattle.tables_ahead.specs.Known.{all_records, find_ahead, KnownRecords}

pub returns-in-Some : goal.returns-in-Some
returns-in-Some c =
    let r = c.self.inside.tables.now.records in
    let d = map fact_of c.self.inside.batch.items in
    let q = c.args.ident.now in
    let more = find_from (is_incoming (number (r ++ d)) q) (length (makers r)) (makers d) in
    ap (λ o. option_or o more) c.in-Some.ensures ∙ sym (incoming-ahead r d q c.self.invariant.nodes)
    ∙ ap (λ (k : KnownRecords). find_incoming (all_records k) q) c.self.view_is

pub returns-in-None : goal.returns-in-None
returns-in-None c =
    let r = c.self.inside.tables.now.records in
    let d = map fact_of c.self.inside.batch.items in
    let q = c.args.ident.now in
    let more = find_from (is_incoming (number (r ++ d)) q) (length (makers r)) (makers d) in
    c.incoming_ahead.ensures
    ∙ ap (λ (k : KnownRecords). find_ahead (is_incoming (number (all_records k)) q) k) (sym c.self.view_is)
    ∙ ap (λ o. option_or o more) c.in-None.ensures ∙ sym (incoming-ahead r d q c.self.invariant.nodes)
    ∙ ap (λ (k : KnownRecords). find_incoming (all_records k) q) c.self.view_is
