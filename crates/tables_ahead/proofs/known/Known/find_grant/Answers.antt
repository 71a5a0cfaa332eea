use Rattle.std.proofs.Common.{◌∙◌, ◌++◌, length, map, sym, ap}
use Rattle.std.specs.Option.{option_or}
use Rattle.record_batch.specs.Fact.{fact_of}
use Rattle.record_batch.specs.Sequences.Find.{find_from, find_grant, is_granted}
use Rattle.record_batch.specs.Sequences.Makers.{makers}
use Rattle.tables_ahead.proofs.FoundLemmas.{find-ahead}
use Rattle.tables_ahead.proofs.known.Known.find_grant.Goals as goal
use Rattle.tables_ahead.specs.Known.{all_records, find_ahead, KnownRecords}

pub returns-in-Some : goal.returns-in-Some
returns-in-Some c =
    let r = c.self.inside.tables.now.records in
    let d = map fact_of c.self.inside.batch.items in
    let t = c.args.message_id.now in
    ap (λ o. option_or o (find_from (is_granted t) (length (makers r)) (makers d))) c.in-Some.ensures
    ∙ sym (find-ahead (is_granted t) r d) ∙ ap (λ (k : KnownRecords). find_grant (all_records k) t) c.self.view_is

pub returns-in-None : goal.returns-in-None
returns-in-None c =
    let r = c.self.inside.tables.now.records in
    let d = map fact_of c.self.inside.batch.items in
    let t = c.args.message_id.now in
    c.grant_ahead.ensures ∙ ap (λ q. find_ahead (is_granted q) c.args.self.now) c.as_slice.ensures.bytes
    ∙ ap (λ (k : KnownRecords). find_ahead (is_granted t) k) (sym c.self.view_is)
    ∙ ap (λ o. option_or o (find_from (is_granted t) (length (makers r)) (makers d))) c.in-None.ensures
    ∙ sym (find-ahead (is_granted t) r d) ∙ ap (λ (k : KnownRecords). find_grant (all_records k) t) c.self.view_is
