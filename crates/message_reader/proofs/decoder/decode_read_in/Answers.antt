use Rattle.message_reader.proofs.MessageLemmas.{spelled_of, refused_of, early_of}
use Rattle.message_reader.proofs.decoder.decode_read_in.Goals as goal

pub returns-in-Ok-clause-ok : goal.returns-in-Ok-clause-ok
returns-in-Ok-clause-ok c =
    λ bytes reading. spelled_of c.args.soap.now bytes c.args.read c.in-Ok.envelope c.decode_envelope.result c.in-Ok.is
    c.decode_envelope.ensures reading

pub returns-in-Ok-clause-err : goal.returns-in-Ok-clause-err
returns-in-Ok-clause-err c =
    λ bytes reading. refused_of c.args.soap.now bytes c.args.read c.in-Ok.envelope c.decode_envelope.result c.in-Ok.is
    c.decode_envelope.ensures reading

pub returns-in-Err-clause-err : goal.returns-in-Err-clause-err
returns-in-Err-clause-err c =
    λ bytes reading. early_of c.args.soap.now bytes c.args.read c.in-Err.error c.unread.result c.in-Err.is
    c.unread.ensures reading
