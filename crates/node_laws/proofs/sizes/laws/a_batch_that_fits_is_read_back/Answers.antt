use Rattle.node_laws.proofs.SizesLemmas.ShortLemmas.{kept-batch}
use Rattle.node_laws.proofs.sizes.laws.a_batch_that_fits_is_read_back.Goals as goal

pub returns : goal.returns
returns c = kept-batch c.parameters_are_read_back.ensures
