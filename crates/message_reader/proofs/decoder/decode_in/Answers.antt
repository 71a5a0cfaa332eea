use Rattle.message_reader.proofs.decoder.decode_in.Goals as goal
use Rattle.message_reader.specs.Reading.{IsReadingIn}

pub returns-clause-ok : goal.returns-clause-ok
returns-clause-ok c = let e = c.read_envelope_in.ensures in c.decode_read_in.ensures.ok c.args.bytes.now (record {
  ok = e.ok;
  fits = e.fits;
  too_long = λ len is. (e.too_long len).0 is;
  not_utf8 = λ place is. (e.not_utf8 place).0 is;
  not_profile = e.not_profile;
  wrong_version = e.wrong_version;
  not_envelope = e.not_envelope;
})

pub returns-clause-err : goal.returns-clause-err
returns-clause-err c = let e = c.read_envelope_in.ensures in c.decode_read_in.ensures.err c.args.bytes.now (record {
  ok = e.ok;
  fits = e.fits;
  too_long = λ len is. (e.too_long len).0 is;
  not_utf8 = λ place is. (e.not_utf8 place).0 is;
  not_profile = e.not_profile;
  wrong_version = e.wrong_version;
  not_envelope = e.not_envelope;
})
