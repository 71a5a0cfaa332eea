use Rattle.std.proofs.Common.{ap, ◌∙◌}
use Rattle.rm_protocol.specs.Polls.{awaited, said_beside}
use Rattle.node_waits.proofs.FetchLemmas.{said_beside-fetched}
use Rattle.node_waits.proofs.fetch.polls.Goals as goal

pub returns-clause-outs : goal.returns-clause-outs
returns-clause-outs c =
    let said = c.args.said.items in
    let t = awaited c.args.waits.now.waits c.args.at in
    c.in_ok-outs.ensures
    ∙ (ap (λ f. said_beside f said) c.in_ok-fetched.ensures ∙ said_beside-fetched t c.as_slice.result.now said)
