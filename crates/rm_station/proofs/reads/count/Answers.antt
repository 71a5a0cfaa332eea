use Rattle.std.proofs.Common.{◌∙◌, ap, inr}
use Rattle.std.specs.Prelude.{Ok}
use Rattle.rm_station.specs.Reads.{counts_text}
use Rattle.rm_station.proofs.reads.count.Goals as goal

pub returns : goal.returns
returns c =
    inr (ap (λ t. Ok t)
    (c.in_ok-counts.ensures
    ∙ ap (λ r. counts_text r c.entries.result) c.tables.ensures
    ∙ ap (λ n. counts_text c.args.node.now.stored.records n) c.entries.ensures))
