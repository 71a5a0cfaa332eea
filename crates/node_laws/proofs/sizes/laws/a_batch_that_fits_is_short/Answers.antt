use Rattle.node_laws.proofs.SizesLemmas.ShortLemmas.{short-batch}
use Rattle.node_laws.proofs.sizes.laws.a_batch_that_fits_is_short.Goals as goal

pub returns : goal.returns
returns c = short-batch
