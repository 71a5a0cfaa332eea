use Rattle.std.proofs.Common.{◌≡◌, [], ◌++◌, List, map, true, sym, subst, ap, ◌∙◌}
use Rattle.rm_sides.specs.Destination.Messages.{numbers_of, ranges_onto}
use Rattle.record_batch.specs.declared.record.Record.{Record}
use Rattle.record_batch.specs.Fact.{fact_of}
use Rattle.record_batch.specs.Sequences.Destinations.{held, received}
use Rattle.record_batch.specs.Sequences.Fits.{all_fit}
use Rattle.tables_ahead.specs.Known.{all_records, KnownRecords, AreNumbers}
use Rattle.tables_ahead.proofs.GatheredLemmas.{held-both, ranges_onto-append}
use Rattle.tables_ahead.proofs.SideLemmas.{numbers-fit}
use Rattle.tables_ahead.proofs.known.Known.received.Goals as goal

pub insert_received-requires : goal.insert_received-requires
insert_received-requires c =
    let r = c.self.inside.tables.now.records in
    let d = map fact_of c.self.inside.batch.items in
    let s = c.args.seq in
    let fit : all_fit r d ≡ true =
    subst (λ (k : KnownRecords). all_fit k.records k.delta ≡ true) (sym c.self.view_is) c.requires in
    subst (λ (xs : List Record). AreNumbers (numbers_of (received (map fact_of xs) s))) (sym c.as_slice.ensures.value)
    (numbers-fit r d s fit)

pub returns : goal.returns
returns c =
    let r = c.self.inside.tables.now.records in
    let d = map fact_of c.self.inside.batch.items in
    let s = c.args.seq in
    c.in_ok-insert_received.ensures
    ∙ ap (λ rs. ranges_onto rs (numbers_of (received (map fact_of c.as_slice.result.now) s))) c.in_ok-numbers.ensures
    ∙ ap (λ (xs : List Record). ranges_onto (ranges_onto [] (held r s)) (numbers_of (received (map fact_of xs) s)))
    c.as_slice.ensures.value
    ∙ sym (ap (ranges_onto []) (held-both r d s c.self.invariant.live)
    ∙ ranges_onto-append [] (held r s) (numbers_of (received d s)))
    ∙ ap (λ (k : KnownRecords). ranges_onto [] (held (all_records k) s)) c.self.view_is
