use Rattle.soap_writer.proofs.Back.{nothing_back, text_alone, child_more}
use Rattle.soap_writer.proofs.Raws.{Known}
use Rattle.soap_writer.proofs.laws.content_is_read_back.Goals as goal

pub returns : goal.returns
returns c =
    let known : Known = record { text = c.text_is_read_back.ensures; value = c.value_is_read_back.ensures } in
    record { nothing = nothing_back known; words = text_alone known; more = child_more known }
