use Rattle.rm_protocol.proofs.AnnounceLemmas.{announces-still}
use Rattle.rm_protocol.proofs.laws.what_is_announced_stays.Goals as goal

pub returns : goal.returns
returns c = announces-still
