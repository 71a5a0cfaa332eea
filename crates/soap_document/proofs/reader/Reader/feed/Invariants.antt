use Rattle.std.proofs.Common.{length}
use Rattle.soap_document.proofs.Seeing.{Going}
use Rattle.soap_document.proofs.reader.Reader.feed.Given as goal

abbrev pub invariant-loop-rest : goal.invariant-loop-rest
invariant-loop-rest g l = Going g.H.Handler.stands g.H.Handler.depth l.initial.self l.piece l.self l.rest

abbrev pub decreases-loop-rest : goal.decreases-loop-rest
decreases-loop-rest g l = length l.rest
