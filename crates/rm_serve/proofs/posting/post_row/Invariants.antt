use Rattle.std.proofs.Common.{◌≡◌, ◌+◌, ◌≤◌}
use Rattle.rm_serve.specs.Limits as limits
use Rattle.rm_serve.specs.Steps.{IsReady, place_of}
use Rattle.rm_serve.proofs.PostLemmas.{Far}
use Rattle.rm_serve.proofs.posting.post_row.Given as goal

abbrev pub invariant-loop-left : goal.invariant-loop-left
invariant-loop-left g l =
    let net = g.L.Link.told in
    record {
      far : Far l.media g.D.Disk.tells l.now (place_of (g.D.Disk.told l.fn.disk) l.fn.node)
          (place_of (g.D.Disk.told l.disk) l.node) l.fn.outs l.queue.items l.posted l.left
          (net l.fn.link) (net l.link);
      count : l.posted.sent + l.posted.missed + l.left ≡ limits.most_posts;
      dials : l.posted.undialled ≤ l.posted.missed;
      ready : IsReady g.D.Disk.tells (place_of (g.D.Disk.told l.disk) l.node);
      up : l.node.stored.journal.is_down ≡ l.fn.node.stored.journal.is_down;
      faults : (g.D.Disk.told l.disk).faults ≡ (g.D.Disk.told l.fn.disk).faults;
    }

abbrev pub decreases-loop-left : goal.decreases-loop-left
decreases-loop-left g l = l.left
