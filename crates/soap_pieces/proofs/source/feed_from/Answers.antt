use Rattle.std.proofs.KnownBytes.{Consumes-trans}
use Rattle.soap_pieces.proofs.source.feed_from.Goals as goal

pub returns-clause-fed : goal.returns-clause-fed
returns-clause-fed g c = λ old h. record {
  bytes = _;
  fed = c.in_ok-feed.ensures.fed h.bytes h.fed;
  taken = Consumes-trans _ _ _ h.bytes _ h.taken c.in_ok-count.ensures.moved.0;
}
