use Rattle.std.proofs.Common.{refl, arith}
use Rattle.soap_pieces.proofs.Depths.{entered_depth}
use Rattle.soap_pieces.proofs.depth.DepthHandler.open.Goals as goal

pub returns-clause-made : goal.returns-clause-made
returns-clause-made c = λ top below h. entered_depth c.args.self.now _ top _ below (omega arith) refl h
