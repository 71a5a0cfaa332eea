use Rattle.std.proofs.Common.{◌≡◌, true, sym, ap, ◌∙◌}
use Rattle.node_tables.specs.Row.Row.{Seen, takes_purged, side_in}
use Rattle.node_tables.specs.declared.row.row.Core.{Core}
use Rattle.node_tables.proofs.RowLemmas.GoneLemmas.{purged-run}
use Rattle.node_tables.proofs.row.row.Row.purge.Goals as goal

pub restore-requires-clause-run : goal.restore-requires-clause-run
restore-requires-clause-run c = λ ordered.
    let given = c.args.numbers.now.ranges in
    let so : takes_purged (side_in c.self.inside.core) given ≡ true
    = ap (λ (s : Seen). takes_purged s.told.side given) c.self.view_is ∙ c.requires in
    purged-run c.in-Receives.incoming.facts given
    (ap (λ (x : Core). takes_purged (side_in x) given) (sym c.in-Receives.is) ∙ so) ordered
