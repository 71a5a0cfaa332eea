use Rattle.std.proofs.Common.{arith}
use Rattle.soap_document.specs.Tree.{onto, none}
use Rattle.soap_pieces.proofs.Depths.{grown_depth}
use Rattle.soap_pieces.proofs.depth.DepthHandler.text.Goals as goal

pub returns-clause-made : goal.returns-clause-made
returns-clause-made c = λ top below h.
    grown_depth c.args.self.now top below (onto c.args._text.now none) (omega arith) h
