use Rattle.std.proofs.Common.{◌∙◌, ap}
use Rattle.timers.specs.Pending.Waiting.{Pended}
use Rattle.rm_message.specs.declared.message.Message.{Message}
use Rattle.rm_protocol.specs.Polls.{puts_all}
use Rattle.node_waits.specs.Held.{messages_of}
use Rattle.rm_node.proofs.after.go_on.Goals as goal

pub wait_on-requires-clause-spare : goal.wait_on-requires-clause-spare
wait_on-requires-clause-spare c = rw (c.as_slice.ensures.value) c.requires.spare

pub keep-requires-clause-ready : goal.keep-requires-clause-ready
keep-requires-clause-ready c = ap (λ (p : Pended Message). p.ready) c.take.ensures ∙ c.requires.room

pub returns-clause-waits : goal.returns-clause-waits
returns-clause-waits c = rw (← c.as_slice.ensures.value) c.wait_on.ensures.waits

pub returns-clause-polled : goal.returns-clause-polled
returns-clause-polled c =
    c.keep.ensures.waits
    ∙ ap (λ (p : Pended Message). puts_all p.waits (messages_of c.args.ready.held.items)) c.take.ensures
