use Rattle.std.proofs.Common.{arith}
use Rattle.soap_pieces.proofs.Ends.{ends_at, known_utf8, payload_fits}
use Rattle.soap_pieces.proofs.ended.answered.Goals as goal

pub whole-front-requires : goal.whole-front-requires
whole-front-requires c =
    known_utf8 c.document_is_read.ensures c.document_is_utf8.ensures c.args.bytes.now c.requires.known.some

pub returns-clause-ended : goal.returns-clause-ended
returns-clause-ended c =
    ends_at c.document_is_read.ensures _ c.args.bytes.now c.requires.known.some c.requires.fits c.requires.reads
    c.requires.known.known c.in_ok-tail.ensures.sees c.whole-front.ensures.is

pub returns-clause-sound : goal.returns-clause-sound
returns-clause-sound c = record {
  told = c.in_ok-tail.ensures.told;
  place = omega (arith, c.in_ok-tail.ensures.place);
  len = c.whole-front.ensures.len;
  small = c.whole-front.ensures.small;
  payload = payload_fits c.whole-front.result c.args.bytes.now c.args.answer c.requires.reads c.whole-front.ensures.is;
}
