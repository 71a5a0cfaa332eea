use Rattle.soap_writer.specs.Values.TextLaws.{text_is, no_text}
use Rattle.soap_writer.proofs.values.texts.read_uri.Goals as goal

pub returns-in-Ok : goal.returns-in-Ok
returns-in-Ok c = rw c.in-Ok.ensures.ok (text_is 2048 c.args.bytes.now c.in-Ok.ensures.is_text)

pub returns-in-Err : goal.returns-in-Err
returns-in-Err c = rw c.flaw_of.ensures (no_text 2048 c.args.bytes.now c.in-Err.error c.in-Err.ensures.err)
