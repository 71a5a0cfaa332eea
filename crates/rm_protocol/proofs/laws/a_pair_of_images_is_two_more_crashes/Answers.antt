use Rattle.rm_protocol.proofs.LineLemmas.{images-crashes}
use Rattle.rm_protocol.proofs.laws.a_pair_of_images_is_two_more_crashes.Goals as goal

pub returns : goal.returns
returns c = images-crashes
