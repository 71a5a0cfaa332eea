use Rattle.soap_envelope.proofs.FrameLemmas.BodyTag.{tag_by}
use Rattle.soap_envelope.proofs.frame.laws.declaring_body_is_body.Goals as goal

pub returns : goal.returns
returns c = tag_by
