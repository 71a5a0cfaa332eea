use Rattle.rm_script.proofs.SoakLemmas.SummaryLemmas.{counts-add}
use Rattle.rm_script.proofs.soak.laws.the_counts_add_up.Goals as goal

pub returns : goal.returns
returns c = counts-add
