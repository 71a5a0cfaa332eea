use Rattle.std.proofs.Common.{◌≡◌, ◌∙◌, ◌-◌, ℕ, Err, Ok, ap, arith, inl, inr, refl, sym, subst}
use Rattle.std.proofs.lemmas.Result.{err_from_is_err_and}
use Rattle.rm_serve.specs.Steps.{Place, place_of}
use Rattle.rm_host.specs.Ends.{faults_of}
use Rattle.rm_host.specs.HostSteps.{Commands}
use Rattle.rm_host.specs.ServeSteps.{Serves, hears}
use Rattle.rm_host.specs.Words.{behaviour_of}
use Rattle.rm_host.specs.declared.serve.Tally.{Tally}
use Rattle.rm_host.proofs.EndLemmas.{hands, then, wants}
use Rattle.rm_host.proofs.ClockLemmas.{stands-alike, stands-on, stands-still}
use Rattle.rm_host.proofs.RecordLemmas.{acted-so}
use Rattle.rm_host.proofs.ServeLemmas.{Far, far-first, far-on, far-over, far-stop, stays-deaf, turn-from}
use Rattle.rm_host.proofs.serve.serve.Goals as goal

pub loop-left-init : goal.loop-left-init
loop-left-init g c =
    let x = place_of (g.D.Disk.told c.open.new.host.disk) c.in_ok-node.node in
    let mid = g.L.Link.told c.open.new.host.link in
    let next = g.C.Clock.next in
    let shown = next c.args.host.now.clock in
    record {
      up = c.in_ok-node.ensures.up;
      since = record {
        x = x;
        found = c.in_ok-node.ensures.found;
        mid = mid;
        listens = c.in_ok-node.ensures.listens;
        far = far-first c.args.media shown g.D.Disk.tells x c.args.service.count mid;
      };
      clock = stands-alike shown shown (next c.open.new.host.clock) (stands-still shown)
          (ap next c.in_ok-node.ensures.clock);
      reason = c.in_ok-node.ensures.reason;
      count = omega arith;
    }

pub loop-left-preserved : goal.loop-left-preserved
loop-left-preserved g c =
    let seen = faults_of g.D.Disk.told g.L.Link.told in
    let l = c.loop-left in
    let since = l.invariant.since in
    let turn = c.in_ok-finish.ensures.turn in
    let y = place_of (g.D.Disk.told l.host.disk) l.node in
    let z = place_of (g.D.Disk.told c.turn.new.host.disk) c.turn.new.node in
    let next = g.C.Clock.next in
    let shown = next c.args.host.now.clock in
    let net = g.L.Link.told in
    record {
      up = c.in_ok-finish.ensures.up;
      since = record {
        x = since.x;
        found = since.found;
        mid = since.mid;
        listens = since.listens;
        far = subst (λ (t : Tally). Far c.args.media shown g.D.Disk.tells since.x z c.args.service.count
            (l.left - 1) t since.mid (net c.turn.new.host.link)) (sym c.counted-tally.ensures.is)
            (far-on c.args.media shown g.D.Disk.tells since.x y z c.args.service.count l.left l.tally since.mid
            (net l.host.link) (net c.turn.new.host.link) turn.0 c.in_ok-finish.finish
            (omega (arith, c.loop-left-test.true)) since.far turn.1
            (turn-from c.args.media shown (next l.host.clock) (net l.host.link) (net c.turn.new.host.link) turn.0
            (Ok c.in_ok-finish.finish) l.invariant.clock turn.2));
      };
      clock = stands-on shown (next l.host.clock) (next c.turn.new.host.clock) l.invariant.clock
          c.in_ok-finish.ensures.stands;
      reason = then (seen c.args.host.now) (seen l.host) (seen c.turn.new.host) _ _ _ l.invariant.reason
          c.in_ok-finish.ensures.reason;
      count = omega (arith, l.invariant.count, c.counted-tally.ensures.all, c.loop-left-test.true);
    }

pub returns-in_err-finish-clause-reason : goal.returns-in_err-finish-clause-reason
returns-in_err-finish-clause-reason g c =
    let seen = faults_of g.D.Disk.told g.L.Link.told in
    let r = c.from_residual-in_err-finish in
    let p = err_from_is_err_and r.result r.ensures.1 in
    let l = c.loop-left in
    hands (seen c.args.host.now) (seen l.host) (seen c.turn.new.host) c.in_err-finish.field-0.0 r.result
    (p.1 ∙ ap Err p.2) l.invariant.reason c.in_err-finish.ensures.reason

pub returns-in_err-tally_text-clause-reason : goal.returns-in_err-tally_text-clause-reason
returns-in_err-tally_text-clause-reason g c =
    let seen = faults_of g.D.Disk.told g.L.Link.told in
    let r = c.from_residual-in_err-tally_text in
    let p = err_from_is_err_and r.result r.ensures.1 in
    let l = c.loop-left in
    wants (seen c.args.host.now) (seen l.host) r.result (p.1 ∙ ap Err p.2) l.invariant.reason

pub returns-clause-reason : goal.returns-clause-reason
returns-clause-reason g c = c.loop-left.invariant.reason

pub returns-clause-tally : goal.returns-clause-tally
returns-clause-tally g c =
    let l = c.loop-left in (
      l.tally.done,
      l.tally.dropped,
      omega (arith, l.invariant.count, c.loop-left-test.false),
      c.in_ok-tally_text.ensures,
    )

pub returns-in_err-node-clause-does : goal.returns-in_err-node-clause-does
returns-in_err-node-clause-does g c =
    let r = c.from_residual in
    let p = err_from_is_err_and r.result r.ensures.1 in
    let told = g.D.Disk.told in
    let net = g.L.Link.told in
    let media = c.args.media in
    let asked = c.args.service in
    subst (λ x. Commands g.D.Disk.tells (told c.args.host.now.disk) (told c.open.new.host.disk)
    (net c.args.host.now.link) (net c.open.new.host.link) (behaviour_of asked.grant)
    (λ (x z : Place). Serves media (g.C.Clock.next c.args.host.now.clock) asked.port asked.count
    (net c.args.host.now.link) (net c.open.new.host.link)) x)
    (sym (p.1 ∙ ap Err p.2))
    (stays-deaf c.a_command_leaves_its_records.ensures media (g.C.Clock.next c.args.host.now.clock) g.D.Disk.tells
    (told c.args.host.now.disk)
    (told c.open.new.host.disk) (net c.args.host.now.link) (net c.open.new.host.link) asked.port asked.count
    (behaviour_of asked.grant) c.in_err-node.field-0.0 c.in_err-node.ensures.deaf)

pub returns-in_err-finish-clause-does : goal.returns-in_err-finish-clause-does
returns-in_err-finish-clause-does g c =
    let r = c.from_residual-in_err-finish in
    let p = err_from_is_err_and r.result r.ensures.1 in
    let l = c.loop-left in
    let since = l.invariant.since in
    let turn = c.in_err-finish.ensures.turn in
    let told = g.D.Disk.told in
    let net = g.L.Link.told in
    let media = c.args.media in
    let asked = c.args.service in
    let e = c.in_err-finish.field-0.0 in
    let z = place_of (told c.turn.new.host.disk) c.turn.new.node in
    let next = g.C.Clock.next in
    let shown = next c.args.host.now.clock in
    let all = far-stop media shown g.D.Disk.tells since.x (place_of (told l.host.disk) l.node) z asked.count l.left
    l.tally since.mid (net l.host.link) (net c.turn.new.host.link) turn.0 e (omega (arith, c.loop-left-test.true))
    since.far turn.1
    (turn-from media shown (next l.host.clock) (net l.host.link) (net c.turn.new.host.link) turn.0 (Err e)
    l.invariant.clock turn.2) in
    acted-so c.a_command_leaves_its_records.ensures since.x z all.0 r.result since.found refl all.1
    (hears since.mid all.0 (Err e) r.result since.listens all.2 (p.1 ∙ ap Err p.2))

pub returns-in_err-tally_text-clause-does : goal.returns-in_err-tally_text-clause-does
returns-in_err-tally_text-clause-does g c =
    let r = c.from_residual-in_err-tally_text in
    let p = err_from_is_err_and r.result r.ensures.1 in
    let l = c.loop-left in
    let since = l.invariant.since in
    let told = g.D.Disk.told in
    let net = g.L.Link.told in
    let media = c.args.media in
    let asked = c.args.service in
    let z = place_of (told l.host.disk) l.node in
    let none : l.left ≡ 0 = omega (arith, c.loop-left-test.false) in
    let shown = g.C.Clock.next c.args.host.now.clock in
    let all = far-over media shown g.D.Disk.tells since.x z asked.count l.tally since.mid (net l.host.link)
    (subst (λ (n : ℕ). Far media shown g.D.Disk.tells since.x z asked.count n l.tally since.mid (net l.host.link)) none
    since.far) in
    acted-so c.a_command_leaves_its_records.ensures since.x z all.0 r.result since.found refl all.1
    (hears since.mid all.0 (Ok l.tally) r.result since.listens all.2 (inr (p.1 ∙ ap Err p.2)))

pub returns-clause-does : goal.returns-clause-does
returns-clause-does g c =
    let l = c.loop-left in
    let since = l.invariant.since in
    let told = g.D.Disk.told in
    let net = g.L.Link.told in
    let media = c.args.media in
    let asked = c.args.service in
    let z = place_of (told l.host.disk) l.node in
    let none : l.left ≡ 0 = omega (arith, c.loop-left-test.false) in
    let shown = g.C.Clock.next c.args.host.now.clock in
    let all = far-over media shown g.D.Disk.tells since.x z asked.count l.tally since.mid (net l.host.link)
    (subst (λ (n : ℕ). Far media shown g.D.Disk.tells since.x z asked.count n l.tally since.mid (net l.host.link)) none
    since.far) in
    acted-so c.a_command_leaves_its_records.ensures
    since.x z all.0 (Ok c.in_ok-tally_text.field-0) since.found refl all.1
    (hears since.mid all.0 (Ok l.tally) (Ok c.in_ok-tally_text.field-0) since.listens all.2
    (inl (ap Ok c.in_ok-tally_text.ensures)))
