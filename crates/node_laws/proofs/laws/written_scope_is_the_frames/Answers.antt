use Rattle.node_laws.proofs.Messages.{scope-is}
use Rattle.node_laws.proofs.laws.written_scope_is_the_frames.Goals as goal

pub returns : goal.returns
returns c = scope-is
