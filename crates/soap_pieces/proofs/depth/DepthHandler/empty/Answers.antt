use Rattle.std.proofs.Common.{refl, arith}
use Rattle.soap_pieces.proofs.Depths.{empty_root, grown_depth}
use Rattle.soap_pieces.proofs.depth.DepthHandler.empty.Goals as goal

pub returns-then-open-gt0-clause-made : goal.returns-then-open-gt0-clause-made
returns-then-open-gt0-clause-made c = λ top below h. grown_depth c.args.self.now top below _ (omega arith) h

pub returns-clause-made : goal.returns-clause-made
returns-clause-made c = λ top below h.
    empty_root c.args.self.now _ top below _ (omega arith) refl c.if-self.false refl h
