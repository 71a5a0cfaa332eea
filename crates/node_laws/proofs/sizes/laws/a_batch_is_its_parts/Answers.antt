use Rattle.node_laws.proofs.SizesLemmas.SizeLemmas.{batch_text_length}
use Rattle.node_laws.proofs.sizes.laws.a_batch_is_its_parts.Goals as goal

pub returns : goal.returns
returns c = batch_text_length
