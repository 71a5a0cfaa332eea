use Rattle.std.proofs.Common.{◌≡◌, IfOk, subst, sym}
use Rattle.record_batch.specs.Fact.{Received, fact_of}
use Rattle.node_tables.proofs.CopyLemmas.{payload_at}
use Rattle.node_tables.proofs.copies.copy_message.Goals as goal

pub returns : goal.returns
returns c =
    let message = c.index-messages-place.result in
    let at = c.in-Some.ensures.found in
    let is = payload_at _ c.in-Some.place c.args.number message c.requires.once at.within at.is in
    subst (λ p. IfOk c.copy_received.result (λ copy. fact_of copy ≡ Received c.args.seq c.args.number p)) (sym is)
    c.copy_received.ensures
