use Rattle.std.proofs.Common.{◌∙◌, ◌∷◌, ℕ, Err, Ok, ap, refl, sym, subst}
use Rattle.std.proofs.lemmas.Result.{err_from_is_err_and}
use Rattle.rm_base.specs.declared.message.Behaviour.TheVariants.{FollowingFirstGap}
use Rattle.http_endpoint.specs.Link.Lines.{Net}
use Rattle.rm_node.specs.Asked.{Tick}
use Rattle.rm_serve.specs.Steps.{Place, place_of}
use Rattle.rm_host.proofs.RecordLemmas.{acted-so}
use Rattle.rm_host.proofs.RowLemmas.{then-all}
use Rattle.rm_host.specs.Ends.{faults_of}
use Rattle.rm_host.specs.HostSteps.{CallsOnce, Commands, IsShown, Pushes, fails, own_step, posts, unfound}
use Rattle.rm_host.proofs.EndLemmas.{hands, then}
use Rattle.rm_host.proofs.commands.push.Goals as goal

pub returns-in_err-outs-clause-reason : goal.returns-in_err-outs-clause-reason
returns-in_err-outs-clause-reason g c =
    let seen = faults_of g.D.Disk.told g.L.Link.told in
    let r = c.from_residual-in_err-outs in
    let p = err_from_is_err_and r.result r.ensures.1 in
    hands (seen c.args.host.now) (seen c.mount.new.host) (seen c.tick.new.host) c.in_err-outs.field-0.0 r.result
    (p.1 ∙ ap Err p.2) c.in_ok-node.ensures.reason c.in_err-outs.ensures.reason

pub returns-clause-reason : goal.returns-clause-reason
returns-clause-reason g c =
    let seen = faults_of g.D.Disk.told g.L.Link.told in
    let first = seen c.args.host.now in
    let asked = seen c.tick.new.host in
    then first asked (seen c.told.new.host) _ _ _
    (then first (seen c.mount.new.host) asked _ _ _ c.in_ok-node.ensures.reason c.in_ok-outs.ensures.reason)
    c.told.ensures.reason

pub returns-in_err-node-clause-does : goal.returns-in_err-node-clause-does
returns-in_err-node-clause-does g c =
    let r = c.from_residual in
    let p = err_from_is_err_and r.result r.ensures.1 in
    let why = c.in_err-node.ensures.unfound in
    subst (λ x. Commands g.D.Disk.tells (g.D.Disk.told c.args.host.now.disk) (g.D.Disk.told c.mount.new.host.disk)
    (g.L.Link.told c.args.host.now.link) (g.L.Link.told c.mount.new.host.link) FollowingFirstGap
    (λ (x z : Place). Pushes (g.C.Clock.next c.args.host.now.clock) (λ (moment : ℕ). Tick moment)
    (g.L.Link.told c.args.host.now.link) (g.L.Link.told c.mount.new.host.link)) x)
    (sym ((p.1 ∙ ap Err p.2) ∙ ap Err why.1)) (unfound why.0 why.2 c.in_err-node.ensures.link)

pub returns-in_err-outs-clause-does : goal.returns-in_err-outs-clause-does
returns-in_err-outs-clause-does g c =
    let told = g.D.Disk.told in
    let net = g.L.Link.told in
    let r = c.from_residual-in_err-outs in
    let p = err_from_is_err_and r.result r.ensures.1 in
    let calls = c.in_err-outs.ensures.calls in
    let e = c.in_err-outs.field-0.0 in
    acted-so c.a_command_leaves_its_records.ensures
    (place_of (told c.mount.new.host.disk) _) (place_of (told c.tick.new.host.disk) _) _ r.result
    c.in_ok-node.ensures.mounted refl calls.steps
    (record {
      moment = c.now-now.result;
      clock = subst (λ k. IsShown (g.C.Clock.next k) c.now-now.result) c.in_ok-node.ensures.clock
          c.now-now.ensures.told;
      posted = Err e;
      calls = fails e c.in_err-outs.ensures.of_call (calls.link ∙ c.in_ok-node.ensures.link);
      told = p.1 ∙ ap Err p.2;
    })

pub returns-clause-does : goal.returns-clause-does
returns-clause-does g c =
    let told = g.D.Disk.told in
    let net = g.L.Link.told in
    let calls = c.in_ok-outs.ensures.calls in
    let did = c.told.ensures.posts in
    let outs = c.in_ok-outs.outs in
    acted-so c.a_command_leaves_its_records.ensures
    (place_of (told c.mount.new.host.disk) _) (place_of (told c.told.new.host.disk) _) _ c.told.result
    c.in_ok-node.ensures.mounted refl
    (then-all g.D.Disk.tells _ _ _ _ did.0 calls.steps did.1)
    (record {
      moment = c.now-now.result;
      clock = subst (λ k. IsShown (g.C.Clock.next k) c.now-now.result) c.in_ok-node.ensures.clock
          c.now-now.ensures.told;
      posted = did.2;
      calls = subst (λ (n : Net). CallsOnce c.now-now.result c.now-now.result (Tick c.now-now.result) n
          (net c.told.new.host.link)
          (own_step c.now-now.result (Tick c.now-now.result) (Ok outs) ∷ did.0) did.2)
          (calls.link ∙ c.in_ok-node.ensures.link) (posts outs did.0 did.2 did.3);
      told = did.4;
    })
