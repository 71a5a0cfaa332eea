use Rattle.node_store.proofs.EndpointLemmas.{endpoint_answers}
use Rattle.node_store.proofs.endpoints.is_endpoint_kept.Goals as goal

pub returns : goal.returns
returns c =
    endpoint_answers c.elements_may_be_written.ensures c.args.endpoint.now c.requires c.may_go.result c.may_go.ensures
