use Rattle.std.proofs.Common.{◌≡◌, ◌∙◌, Err, Some, None, ap, refl, sym, subst, true}
use Rattle.std.specs.Prelude.{IfErr}
use Rattle.std.proofs.lemmas.Result.{err_from_is_err_and}
use Rattle.rm_node.specs.Asked.{Create, Tick}
use Rattle.rm_serve.specs.Steps.{place_of}
use Rattle.rm_host.specs.Ends.{is_of_call}
use Rattle.rm_host.specs.HostSteps.{back_wish}
use Rattle.rm_host.specs.SendSteps.{Begins, begins, reuses}
use Rattle.rm_host.specs.Sequences.{IsFirstTo}
use Rattle.rm_host.specs.declared.end.End.{End}
use Rattle.rm_host.proofs.ClockLemmas.{stands-alike, stands-still}
use Rattle.rm_host.proofs.send.begin.Goals as goal

pub returns-in_err-tick-in-Some-clause-begins : goal.returns-in_err-tick-in-Some-clause-begins
returns-in_err-tick-in-Some-clause-begins g c =
    let told = g.D.Disk.told in
    let net = g.L.Link.told in
    let r = c.from_residual in
    let p = err_from_is_err_and r.result r.ensures.1 in
    subst (λ x. Begins g.D.Disk.tells (place_of (told c.args.host.now.disk) c.args.node.now)
    (place_of (told c.tick.new.host.disk) c.tick.new.node) c.args.to
    (g.C.Clock.next c.args.host.now.clock) (net c.args.host.now.link)
    (net c.tick.new.host.link) x) (sym (p.1 ∙ ap Err p.2))
    (record {
      moment = c.now-now.result;
      seq = c.in-Some.seq;
      asked = Tick c.now-now.result;
      reaches = reuses c.in-Some.seq
          (subst (λ records. IsFirstTo records c.args.to (Some c.in-Some.seq)) c.tables.ensures c.in-Some.ensures)
          c.now-now.ensures.told;
      calls = c.in_err-tick-in-Some.ensures.calls;
      is = tt;
    })

pub returns-in_ok-tick-in-Some-clause-begins : goal.returns-in_ok-tick-in-Some-clause-begins
returns-in_ok-tick-in-Some-clause-begins g c = record {
  moment = c.now-now.result;
  seq = c.in-Some.seq;
  asked = Tick c.now-now.result;
  reaches = reuses c.in-Some.seq
      (subst (λ records. IsFirstTo records c.args.to (Some c.in-Some.seq)) c.tables.ensures c.in-Some.ensures)
      c.now-now.ensures.told;
  calls = c.in_ok-tick-in-Some.ensures.calls;
  is = refl;
}

pub returns-in_err-made-in-None-clause-begins : goal.returns-in_err-made-in-None-clause-begins
returns-in_err-made-in-None-clause-begins g c =
    let told = g.D.Disk.told in
    let net = g.L.Link.told in
    let r = c.from_residual-in_err-made-in-None in
    let p = err_from_is_err_and r.result r.ensures.1 in
    subst (λ x. Begins g.D.Disk.tells (place_of (told c.args.host.now.disk) c.args.node.now)
    (place_of (told c.create.new.host.disk) c.create.new.node) c.args.to
    (g.C.Clock.next c.args.host.now.clock) (net c.args.host.now.link)
    (net c.create.new.host.link) x) (sym (p.1 ∙ ap Err p.2))
    (record {
      moment = 0;
      seq = _;
      asked = Create (back_wish c.args.to);
      reaches = begins (subst (λ records. IsFirstTo records c.args.to None) c.tables.ensures c.in-None.ensures);
      calls = c.in_err-made-in-None.ensures.calls;
      is = tt;
    })

pub returns-in_ok-made-in-None-clause-begins : goal.returns-in_ok-made-in-None-clause-begins
returns-in_ok-made-in-None-clause-begins g c = record {
  moment = 0;
  seq = _;
  asked = Create (back_wish c.args.to);
  reaches = begins (subst (λ records. IsFirstTo records c.args.to None) c.tables.ensures c.in-None.ensures);
  calls = c.in_ok-made-in-None.ensures.calls;
  is = c.in_ok-made-in-None.ensures.seq;
}

pub returns-in_err-tick-in-Some-clause-of_call : goal.returns-in_err-tick-in-Some-clause-of_call
returns-in_err-tick-in-Some-clause-of_call g c =
    let r = c.from_residual in
    let p = err_from_is_err_and r.result r.ensures.1 in
    subst (λ x. IfErr x (λ (e : End). is_of_call e ≡ true)) (sym (p.1 ∙ ap Err p.2))
    c.in_err-tick-in-Some.ensures.of_call

pub returns-in_err-made-in-None-clause-of_call : goal.returns-in_err-made-in-None-clause-of_call
returns-in_err-made-in-None-clause-of_call g c =
    let r = c.from_residual-in_err-made-in-None in
    let p = err_from_is_err_and r.result r.ensures.1 in
    subst (λ x. IfErr x (λ (e : End). is_of_call e ≡ true)) (sym (p.1 ∙ ap Err p.2))
    c.in_err-made-in-None.ensures.of_call

pub returns-in_ok-tick-in-Some-clause-stands : goal.returns-in_ok-tick-in-Some-clause-stands
returns-in_ok-tick-in-Some-clause-stands g c =
    let next = g.C.Clock.next in
    stands-alike (next c.args.host.now.clock) (next c.now-now.new.self) (next c.tick.new.host.clock)
    c.now-now.ensures.still (ap next c.in_ok-tick-in-Some.ensures.clock)

pub returns-in_ok-made-in-None-clause-stands : goal.returns-in_ok-made-in-None-clause-stands
returns-in_ok-made-in-None-clause-stands g c =
    let next = g.C.Clock.next in
    let shown = next c.args.host.now.clock in
    stands-alike shown shown (next c.create.new.host.clock) (stands-still shown)
    (ap next c.in_ok-made-in-None.ensures.clock)
