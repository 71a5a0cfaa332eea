use Rattle.rm_protocol.proofs.LineLemmas.{image-crash}
use Rattle.rm_protocol.proofs.laws.an_image_is_one_more_crash.Goals as goal

pub returns : goal.returns
returns c = image-crash
