use Rattle.soap_pieces.proofs.Hopeless.{no_document, no_envelope, stays_hopeless}
use Rattle.soap_pieces.proofs.laws.hopeless_stays.Goals as goal

pub returns : goal.returns
returns c = record {
  stays = stays_hopeless c.pieces_are_joined.ensures c.refused_stays.ensures.stays;
  none = no_envelope c.pieces_are_joined.ensures c.refused_stays.ensures.none c.document_is_read.ensures
      c.content_stands_between.ensures;
  no_document = no_document c.pieces_are_joined.ensures c.refused_stays.ensures.none c.document_is_read.ensures;
}
