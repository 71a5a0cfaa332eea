use Rattle.std.proofs.Common.{◌+◌, Ok, length}
use Rattle.record_batch.specs.Sequences.Makers.{makers}
use Rattle.rm_station.specs.Works.{begins, called}
use Rattle.rm_station.specs.declared.ask.Ask.TheVariants.{Offers}
use Rattle.rm_station.proofs.SaidLemmas.{made-said, of-outs, tells-so, up-outlived}
use Rattle.rm_station.proofs.said.begin.Goals as goal

pub returns-clause-tells : goal.returns-clause-tells
returns-clause-tells g c =
    let a = c.args in
    let s = a.node.now.stored in
    let made = c.create-made in (
      _,
      made.ensures.makes,
      tells-so a.now s (Ok (Offers a.to a.next a.payload.now)) _ _ c.said_made.result
          (called (Offers a.to a.next a.payload.now) _ _ _ (begins a.to a.payload.now a.next c.requires.first)
          (of-outs (λ m. m.outs) made.result made.ensures.of_call))
          (made-said (length (makers s.records) + 1) made.result c.said_made.result made.ensures.seq
          c.said_made.ensures.ok c.said_made.ensures.err),
    )

pub returns-clause-up : goal.returns-clause-up
returns-clause-up g c =
    up-outlived _ c.create-made.result c.said_made.result c.create-made.ensures.up c.said_made.ensures.lasts
