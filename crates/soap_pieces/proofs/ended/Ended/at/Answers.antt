use Rattle.soap_pieces.proofs.Ends.{found_some, reads_by}
use Rattle.soap_pieces.proofs.ended.Ended.at.Goals as goal

pub answered-requires : goal.answered-requires
answered-requires c =
    let bytes = c.args.bytes.now in
    let placed = c.requires.placed in record {
      fits = c.requires.fits;
      reads = reads_by bytes c.envelope_of-answer.result (
        c.requires.fits,
        c.document_is_utf8.ensures bytes placed.raw placed.is,
      ) c.envelope_of-answer.ensures;
      known = record {
        some = found_some c.document_is_read.ensures bytes placed.raw placed.is;
        known = c.is_out-is_short.ensures c.if-is_short.false;
      };
    }
