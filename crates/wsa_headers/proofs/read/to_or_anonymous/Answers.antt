use Rattle.std.proofs.Common.{refl}
use Rattle.soap_writer.specs.Values.TextLaws.{literal_is_text, text_is}
use Rattle.wsa_headers.specs.Addressing.{anonymous}
use Rattle.wsa_headers.proofs.read.to_or_anonymous.Goals as goal

pub returns-in-None : goal.returns-in-None
returns-in-None c =
    let is = literal_is_text 2048 anonymous refl refl refl refl refl refl in
    rw c.in-None.is (rw (text_is 2048 anonymous is) at c.read_uri.ensures)
