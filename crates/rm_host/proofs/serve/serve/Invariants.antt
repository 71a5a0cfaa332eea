use Rattle.std.proofs.Common.{◌≡◌, ◌+◌, false, true}
use Rattle.rm_serve.specs.Steps.{IsUp, place_of}
use Rattle.rm_host.specs.Ends.{Reason, faults_of}
use Rattle.rm_host.specs.HostSteps.{StandsAt}
use Rattle.rm_host.specs.Words.{behaviour_of}
use Rattle.rm_host.proofs.ServeLemmas.{Since}
use Rattle.rm_host.proofs.serve.serve.Given as goal

abbrev pub invariant-loop-left : goal.invariant-loop-left
invariant-loop-left g l =
    let told = g.D.Disk.told in
    let net = g.L.Link.told in
    let faults = faults_of told net in
    record {
      up : IsUp g.D.Disk.tells (place_of (told l.host.disk) l.node);
      since : Since l.fn.media (g.C.Clock.next l.fn.host.clock) g.D.Disk.tells (told l.fn.host.disk)
          (behaviour_of l.fn.service.grant) (place_of (told l.host.disk) l.node)
          l.fn.service.port l.fn.service.count l.left l.tally (net l.fn.host.link) (net l.host.link);
      clock : StandsAt (g.C.Clock.next l.fn.host.clock) (g.C.Clock.next l.host.clock);
      reason : Reason (faults l.fn.host) (faults l.host) false false true;
      count : l.tally.done + l.tally.dropped + l.left ≡ l.fn.service.count;
    }

abbrev pub decreases-loop-left : goal.decreases-loop-left
decreases-loop-left g l = l.left
