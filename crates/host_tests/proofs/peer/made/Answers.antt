use Rattle.host_tests.proofs.peer.made.Goals as goal

pub returns : goal.returns
returns g c = record { ready = λ t up. (_, (c.in_ok-node.ensures.has t).holds) }
