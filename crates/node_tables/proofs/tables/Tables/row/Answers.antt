use Rattle.std.proofs.Common.{◌∙◌, refl, ap}
use Rattle.std.specs.Option.{option_map}
use Rattle.rm_base.specs.Numbered.{numbered}
use Rattle.node_tables.specs.Row.Row.{Seen}
use Rattle.node_tables.specs.Kept.{Tabled, told_in}
use Rattle.node_tables.proofs.RowsLemmas.{row-seen}
use Rattle.node_tables.proofs.tables.Tables.row.Goals as goal

pub returns : goal.returns
returns c =
    ap (λ o. option_map (λ (r : Seen). r.told) o) c.numbered.ensures
    ∙ ap (λ rs. option_map (λ (r : Seen). r.told) (numbered rs c.args.seq)) c.as_slice.ensures.value
    ∙ row-seen c.self.inside.rows.items _ c.args.seq refl c.self.invariant.holds
    ∙ ap (λ (t : Tabled). told_in t.records c.args.seq) c.self.view_is
