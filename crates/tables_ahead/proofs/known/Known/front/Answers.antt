use Rattle.std.proofs.Common.{◌≡◌, true, [], length, sym, ap, subst, ◌∙◌}
use Rattle.std.specs.List.{list_all}
use Rattle.node_tables.specs.Room.{has_room}
use Rattle.record_batch.specs.Sequences.Destinations.{front}
use Rattle.rm_sides.specs.Destination.Messages.{sorted_onto, without_gap}
use Rattle.tables_ahead.specs.Known.{KnownRecords}
use Rattle.tables_ahead.proofs.GatheredLemmas.{items-first}
use Rattle.tables_ahead.proofs.known.Known.front.Goals as goal

pub returns : goal.returns
returns c =
    let s = c.args.seq in
    let k = c.args.self.now in
    let live = subst (λ (x : KnownRecords). list_all has_room x.delta ≡ true) c.self.view_is c.self.invariant.live in
    c.front.ensures ∙ ap (λ (k : KnownRecords). front k.records s) c.self.view_is
    ∙ sym (ap (λ ms. length (without_gap 0 (sorted_onto [] ms))) (items-first k.records k.delta s live c.requires))
