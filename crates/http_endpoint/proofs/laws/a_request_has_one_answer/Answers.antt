use Rattle.http_endpoint.specs.OneMessage.{one-request}
use Rattle.http_endpoint.proofs.laws.a_request_has_one_answer.Goals as goal

pub returns : goal.returns
returns c = one-request
