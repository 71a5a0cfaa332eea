use Rattle.std.proofs.Common.{◌++◌, ◌≤◌, length, arith}
use Rattle.record_batch.specs.Sequences.Makers.{makers}
use Rattle.receive_answer.proofs.RecordsLemmas.OfferLemmas.{drop_at-last}
use Rattle.receive_answer.proofs.records.offers.drop_offer.Goals as goal
use Rattle.tables_ahead.specs.Known.{all_records}

pub returns-then-len-seq-clause-delta : goal.returns-then-len-seq-clause-delta
returns-then-len-seq-clause-delta c =
    let k = c.args.ahead.now in
    let le : length (makers (all_records k)) ≤ c.args.seq =
    omega (arith, c.len.ensures.count, c.if-len-seq.true) in
    drop_at-last c.args.seq k le
