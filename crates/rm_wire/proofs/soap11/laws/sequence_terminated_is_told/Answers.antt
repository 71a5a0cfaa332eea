use Rattle.std.proofs.Common.{refl}
use Rattle.soap_writer.specs.Nodes.Node.{tag_name, begin_text, close_text}
use Rattle.rm_wire.proofs.soap11.laws.sequence_terminated_is_told.Goals as goal

pub returns : goal.returns
unfolding tag_name begin_text close_text
returns c = refl
