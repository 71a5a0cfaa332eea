use Rattle.http_endpoint.specs.OneMessage.{one-response}
use Rattle.http_endpoint.proofs.laws.a_response_has_one_answer.Goals as goal

pub returns : goal.returns
returns c = one-response
