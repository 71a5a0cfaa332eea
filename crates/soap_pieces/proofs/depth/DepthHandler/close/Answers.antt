use Rattle.std.proofs.Common.{refl, arith}
use Rattle.soap_pieces.proofs.Depths.{closed_root, left_depth}
use Rattle.soap_pieces.proofs.depth.DepthHandler.close.Goals as goal

pub returns-then-open-gt0-clause-made : goal.returns-then-open-gt0-clause-made
returns-then-open-gt0-clause-made c = λ top outer below h.
    left_depth c.args.self.now _ top outer below _ (omega arith) (omega arith) refl h

pub returns-clause-made : goal.returns-clause-made
returns-clause-made c = λ top outer below h.
    closed_root c.args.self.now _ top outer below _ (omega arith) (omega arith) c.if-self.false refl h
