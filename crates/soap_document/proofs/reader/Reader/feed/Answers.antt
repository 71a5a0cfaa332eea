use Rattle.soap_document.proofs.Seeing.{starts, goes_further}
use Rattle.soap_document.proofs.reader.Reader.feed.Goals as goal

pub loop-rest-init : goal.loop-rest-init
loop-rest-init g c = starts g.H.Handler.stands g.H.Handler.depth c.args.self.now c.args.piece.now c.requires.told

pub loop-rest-preserved : goal.loop-rest-preserved
loop-rest-preserved g c =
    let place = c.in_ok-taken.ensures.place in
    goes_further g.H.Handler.stands _ c.in_ok-taken.taken c.loop-rest.invariant c.in_ok-taken.ensures.told place.1
    place.2 c.in_ok-taken.ensures.sees
