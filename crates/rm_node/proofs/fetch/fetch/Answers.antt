use Rattle.std.proofs.Common.{◌∙◌, List, Option, ap}
use Rattle.rm_message.specs.declared.message.Message.{Message}
use Rattle.rm_protocol.specs.Calls.{Answer, Fetched}
use Rattle.rm_protocol.specs.Polls.{awaited, fetched_with, said_beside}
use Rattle.node_laws.specs.Answers.Answers.{outcome_seen, seen}
use Rattle.rm_node.specs.Fetching.{if_taken}
use Rattle.rm_node.proofs.fetch.fetch.Goals as goal

pub returns-clause-is : goal.returns-clause-is
returns-clause-is c =
    let given = c.args.answer in
    let said = given.outs.items in
    let at = if_taken (outcome_seen given.outcome) c.args.at in
    let asked = ap (awaited c.args.waits.now.waits) c.taken.ensures in
    let with : Option Fetched → List Message → Answer = λ f ms. record (seen given) { outs = ms; fetched = f } in
    let polled = c.in_ok-fetched.ensures in
    ap (λ (f : Option Fetched). with f c.in_ok-fetched.field-0.outs.items)
    (polled.fetched ∙ ap (λ (t : Option Fetched). fetched_with t said) asked)
    ∙ ap (with (fetched_with (awaited c.args.waits.now.waits at) said))
    (polled.outs ∙ ap (λ (t : Option Fetched). said_beside t said) asked)
