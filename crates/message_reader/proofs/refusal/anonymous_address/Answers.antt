use Rattle.std.proofs.Common.{refl}
use Rattle.soap_writer.specs.Values.TextLaws.{literal_is_text, text_is}
use Rattle.wsa_headers.specs.Addressing.{anonymous}
use Rattle.message_reader.proofs.refusal.anonymous_address.Goals as goal

pub returns : goal.returns
returns c =
    let is = literal_is_text 2048 anonymous refl refl refl refl refl refl in
    rw (text_is 2048 anonymous is) at c.read_uri.ensures
