use Rattle.soap_document.specs.Inside.{around}
use Rattle.soap_document.specs.Machine.{run, start}
use Rattle.soap_document.proofs.profile.payload.read_around.Goals as goal

pub returns : goal.returns
returns c = c.root_read.ensures (run start (around c.args.bytes.now)) (c.in_ok-feed_around.ensures
    (c.new-reader.ensures.sees c.in_ok-new.ensures.stands))
