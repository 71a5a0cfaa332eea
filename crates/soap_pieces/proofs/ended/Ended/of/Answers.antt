use Rattle.soap_pieces.specs.Answer.{Reads}
use Rattle.soap_pieces.proofs.Ends.{known_by}
use Rattle.soap_pieces.proofs.ended.Ended.of.Goals as goal

pub answered-requires : goal.answered-requires
answered-requires c =
    let bytes = c.args.bytes.now in
    let answer = c.read_envelope-answer.result in
    let told = c.read_envelope-answer.ensures in
    let reads : Reads bytes answer = record {
      ok = told.ok;
      fits = told.fits;
      too_long = told.too_long;
      not_utf8 = told.not_utf8;
      not_profile = told.not_profile;
      wrong_version = told.wrong_version;
      not_envelope = told.not_envelope;
    } in record {
      fits = c.requires;
      reads = reads;
      known = known_by c.document_is_read.ensures bytes answer reads (c.in_ok-is_whole.ensures c.if-is_whole.true);
    }
