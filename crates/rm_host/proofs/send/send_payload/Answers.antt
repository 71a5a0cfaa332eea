use Rattle.std.proofs.Common.{◌≡◌, ◌∙◌, ℕ, Err, Ok, Option, ap, arith, false, refl, subst, sym}
use Rattle.std.proofs.lemmas.Result.{err_from_is_err_and}
use Rattle.rm_base.specs.declared.message.Behaviour.TheVariants.{FollowingFirstGap}
use Rattle.rm_serve.specs.Steps.{Place, place_of}
use Rattle.rm_host.proofs.RowLemmas.{then-all}
use Rattle.rm_host.specs.Ends.{faults_of, is_outer}
use Rattle.rm_host.specs.HostSteps.{Commands, StandsAt, unfound}
use Rattle.rm_host.specs.SendSteps.{SendsAfter, SendsTo, at_once, sends, sends_not}
use Rattle.rm_host.proofs.EndLemmas.{hands, lost, rose-after, rose-before, then}
use Rattle.rm_host.proofs.RecordLemmas.{acted-so}
use Rattle.rm_host.proofs.SendLemmas.{failed-after, if-open-from, lost-after, reached-from, sends-from}
use Rattle.rm_host.proofs.send.send_payload.Goals as goal

pub returns-in_err-send_if_open-clause-reason : goal.returns-in_err-send_if_open-clause-reason
returns-in_err-send_if_open-clause-reason g c =
    let seen = faults_of g.D.Disk.told g.L.Link.told in
    let r = c.from_residual-in_err-send_if_open in
    let p = err_from_is_err_and r.result r.ensures.1 in
    let first = seen c.args.host.now in
    let reached = seen c.reach.new.host in
    hands first reached (seen c.send_if_open.new.host) c.in_err-send_if_open.field-0.0 r.result (p.1 ∙ ap Err p.2)
    (then first (seen c.mount.new.host) reached _ _ _ c.in_ok-node.ensures.reason c.in_ok-seq.ensures.reason)
    c.in_err-send_if_open.ensures.reason

pub returns-in_err-send_if_open-clause-inner : goal.returns-in_err-send_if_open-clause-inner
returns-in_err-send_if_open-clause-inner g c =
    let r = c.from_residual-in_err-send_if_open in
    let p = err_from_is_err_and r.result r.ensures.1 in
    subst (λ x. is_outer x ≡ false) (sym (p.1 ∙ ap Err p.2)) c.in_err-send_if_open.ensures.inner

pub returns-clause-reason : goal.returns-clause-reason
returns-clause-reason g c =
    let seen = faults_of g.D.Disk.told g.L.Link.told in
    let first = seen c.args.host.now in
    let mounted = seen c.mount.new.host in
    let reached = seen c.reach.new.host in
    let last = seen c.send_if_open.new.host in
    let mounts = c.in_ok-node.ensures.reason in
    let sends = c.in_ok-send_if_open.ensures.reason in
    lost first last
    (then first reached last _ _ _ (then first mounted reached _ _ _ mounts c.in_ok-seq.ensures.reason) sends)
    (rose-before first.link mounted.link last.link (mounts.later refl)
    (rose-after mounted.link reached.link last.link
    (c.in_ok-seq.ensures.undialled (omega (arith, c.if-missed-eq0.false))) (sends.later refl)))

pub returns-in_err-seq-clause-reason : goal.returns-in_err-seq-clause-reason
returns-in_err-seq-clause-reason g c =
    let seen = faults_of g.D.Disk.told g.L.Link.told in
    let r = c.from_residual-in_err-seq in
    let p = err_from_is_err_and r.result r.ensures.1 in
    hands (seen c.args.host.now) (seen c.mount.new.host) (seen c.reach.new.host) c.in_err-seq.field-0.0 r.result
    (p.1 ∙ ap Err p.2) c.in_ok-node.ensures.reason c.in_err-seq.ensures.reason

pub returns-then-missed-eq0-clause-reason : goal.returns-then-missed-eq0-clause-reason
returns-then-missed-eq0-clause-reason g c =
    let seen = faults_of g.D.Disk.told g.L.Link.told in
    let first = seen c.args.host.now in
    let reached = seen c.reach.new.host in
    then first reached (seen c.send_on.new.host) _ _ _
    (then first (seen c.mount.new.host) reached _ _ _ c.in_ok-node.ensures.reason c.in_ok-seq.ensures.reason)
    c.send_on.ensures.reason

pub returns-in_err-node-clause-does : goal.returns-in_err-node-clause-does
returns-in_err-node-clause-does g c =
    let r = c.from_residual in
    let p = err_from_is_err_and r.result r.ensures.1 in
    let why = c.in_err-node.ensures.unfound in
    subst (λ x. Commands g.D.Disk.tells (g.D.Disk.told c.args.host.now.disk) (g.D.Disk.told c.mount.new.host.disk)
    (g.L.Link.told c.args.host.now.link) (g.L.Link.told c.mount.new.host.link) FollowingFirstGap
    (λ (x z : Place). SendsTo g.D.Disk.tells x z c.args.to c.args.payload
    (g.C.Clock.next c.args.host.now.clock) (g.L.Link.told c.args.host.now.link)
    (g.L.Link.told c.mount.new.host.link)) x)
    (sym ((p.1 ∙ ap Err p.2) ∙ ap Err why.1)) (unfound why.0 why.2 c.in_err-node.ensures.link)

pub returns-in_err-seq-clause-does : goal.returns-in_err-seq-clause-does
returns-in_err-seq-clause-does g c =
    let r = c.from_residual-in_err-seq in
    let p = err_from_is_err_and r.result r.ensures.1 in
    let told = g.D.Disk.told in
    let net = g.L.Link.told in
    let old = net c.args.host.now.link in
    let x = place_of (told c.mount.new.host.disk) c.in_ok-node.node in
    let z = place_of (told c.reach.new.host.disk) c.reach.new.node in
    let did = c.in_err-seq.ensures.reached in
    let e = c.in_err-seq.field-0.0 in
    subst (λ x. Commands g.D.Disk.tells (told c.args.host.now.disk) (told c.reach.new.host.disk) old
    (net c.reach.new.host.link) FollowingFirstGap
    (λ (x z : Place). SendsTo g.D.Disk.tells x z c.args.to c.args.payload
    (g.C.Clock.next c.args.host.now.clock) old (net c.reach.new.host.link)) x)
    (sym (p.1 ∙ ap Err p.2))
    (acted-so c.a_command_leaves_its_records.ensures x z did.0 (Err e) c.in_ok-node.ensures.mounted refl did.1
    (sends_not did.0 e (reached-from x.node.stored.records c.args.to _ _ old _ (net c.reach.new.host.link) did.0 (Err e)
    (ap g.C.Clock.next c.in_ok-node.ensures.clock) c.in_ok-node.ensures.link did.2)))

pub returns-then-missed-eq0-clause-does : goal.returns-then-missed-eq0-clause-does
returns-then-missed-eq0-clause-does g c =
    let told = g.D.Disk.told in
    let net = g.L.Link.told in
    let old = net c.args.host.now.link in
    let x = place_of (told c.mount.new.host.disk) c.in_ok-node.node in
    let mid = net c.reach.new.host.link in
    let y = place_of (told c.reach.new.host.disk) c.reach.new.node in
    let z = place_of (told c.send_on.new.host.disk) c.send_on.new.node in
    let did = c.in_ok-seq.ensures.reached in
    let on = c.send_on.ensures.sends in
    let shown = g.C.Clock.next c.args.host.now.clock in
    let shows = g.C.Clock.next c.reach.new.host.clock in
    let stands : StandsAt shown shows = subst (λ (s : Option ℕ). StandsAt s shows)
    (ap g.C.Clock.next c.in_ok-node.ensures.clock) c.in_ok-seq.ensures.stands in
    let seq = c.in_ok-seq.seq in
    acted-so c.a_command_leaves_its_records.ensures x z _ c.send_on.result c.in_ok-node.ensures.mounted refl
    (then-all g.D.Disk.tells x y z did.0 on.0 did.1 on.1)
    (sends y mid seq c.in_ok-seq.missed did.0 on.0 c.send_on.result did.1
    (reached-from x.node.stored.records c.args.to _ _ old _ mid did.0 (Ok (seq, c.in_ok-seq.missed))
    (ap g.C.Clock.next c.in_ok-node.ensures.clock) c.in_ok-node.ensures.link did.2)
    (subst (λ (u : ℕ). SendsAfter y z seq c.args.payload shown mid (net c.send_on.new.host.link) u on.0
    c.send_on.result) (sym c.if-missed-eq0.true)
    (at_once on.0 c.send_on.result
    (sends-from y z seq c.args.payload shown shows mid (net c.send_on.new.host.link) on.0 c.send_on.result stands
    on.2))))

pub returns-in_err-send_if_open-clause-does : goal.returns-in_err-send_if_open-clause-does
returns-in_err-send_if_open-clause-does g c =
    let r = c.from_residual-in_err-send_if_open in
    let p = err_from_is_err_and r.result r.ensures.1 in
    let told = g.D.Disk.told in
    let net = g.L.Link.told in
    let old = net c.args.host.now.link in
    let x = place_of (told c.mount.new.host.disk) c.in_ok-node.node in
    let mid = net c.reach.new.host.link in
    let new = net c.send_if_open.new.host.link in
    let y = place_of (told c.reach.new.host.disk) c.reach.new.node in
    let z = place_of (told c.send_if_open.new.host.disk) c.send_if_open.new.node in
    let did = c.in_ok-seq.ensures.reached in
    let on = c.in_err-send_if_open.ensures.sends in
    let shown = g.C.Clock.next c.args.host.now.clock in
    let shows = g.C.Clock.next c.reach.new.host.clock in
    let stands : StandsAt shown shows = subst (λ (s : Option ℕ). StandsAt s shows)
    (ap g.C.Clock.next c.in_ok-node.ensures.clock) c.in_ok-seq.ensures.stands in
    let e = c.in_err-send_if_open.field-0.0 in
    let seq = c.in_ok-seq.seq in
    subst (λ x. Commands g.D.Disk.tells (told c.args.host.now.disk) (told c.send_if_open.new.host.disk) old new
    FollowingFirstGap (λ (x z : Place). SendsTo g.D.Disk.tells x z c.args.to c.args.payload
    (g.C.Clock.next c.args.host.now.clock) old new) x)
    (sym (p.1 ∙ ap Err p.2))
    (acted-so c.a_command_leaves_its_records.ensures x z _ (Err e) c.in_ok-node.ensures.mounted refl
    (then-all g.D.Disk.tells x y z did.0 on.0 did.1 on.1)
    (sends y mid seq c.in_ok-seq.missed did.0 on.0 (Err e) did.1
    (reached-from x.node.stored.records c.args.to _ _ old _ mid did.0 (Ok (seq, c.in_ok-seq.missed))
    (ap g.C.Clock.next c.in_ok-node.ensures.clock) c.in_ok-node.ensures.link did.2)
    (failed-after y z seq c.in_ok-seq.missed c.args.payload shown mid new on.0 e
    (omega (arith, c.if-missed-eq0.false))
    (if-open-from y z seq c.args.payload shown shows mid new on.0 (Err e) stands on.2))))

pub returns-clause-does : goal.returns-clause-does
returns-clause-does g c =
    let told = g.D.Disk.told in
    let net = g.L.Link.told in
    let old = net c.args.host.now.link in
    let x = place_of (told c.mount.new.host.disk) c.in_ok-node.node in
    let mid = net c.reach.new.host.link in
    let new = net c.send_if_open.new.host.link in
    let y = place_of (told c.reach.new.host.disk) c.reach.new.node in
    let z = place_of (told c.send_if_open.new.host.disk) c.send_if_open.new.node in
    let did = c.in_ok-seq.ensures.reached in
    let on = c.in_ok-send_if_open.ensures.sends in
    let shown = g.C.Clock.next c.args.host.now.clock in
    let shows = g.C.Clock.next c.reach.new.host.clock in
    let stands : StandsAt shown shows = subst (λ (s : Option ℕ). StandsAt s shows)
    (ap g.C.Clock.next c.in_ok-node.ensures.clock) c.in_ok-seq.ensures.stands in
    let seq = c.in_ok-seq.seq in
    acted-so c.a_command_leaves_its_records.ensures x z _ (Err _) c.in_ok-node.ensures.mounted refl
    (then-all g.D.Disk.tells x y z did.0 on.0 did.1 on.1)
    (sends y mid seq c.in_ok-seq.missed did.0 on.0 (Err _) did.1
    (reached-from x.node.stored.records c.args.to _ _ old _ mid did.0 (Ok (seq, c.in_ok-seq.missed))
    (ap g.C.Clock.next c.in_ok-node.ensures.clock) c.in_ok-node.ensures.link did.2)
    (lost-after y z seq c.in_ok-seq.missed c.args.payload shown mid new on.0 (omega (arith, c.if-missed-eq0.false))
    (if-open-from y z seq c.args.payload shown shows mid new on.0 (Ok tt) stands on.2)))
