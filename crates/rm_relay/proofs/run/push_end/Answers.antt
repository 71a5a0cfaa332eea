use Rattle.std.proofs.Common.{◌≡◌, List, ℕ, OnOk, subst}
use Rattle.rm_replay.specs.Played.{known_text}
use Rattle.rm_relay.proofs.RunLemmas.{third_behind}
use Rattle.rm_relay.proofs.run.push_end.Goals as goal

pub returns : goal.returns
returns c w d stand =
    let same = third_behind c.args.report.now (known_text 1 w.one) (known_text 2 w.two) (known_text 3 w.three)
    c.push_known.new.report c.push_known-2.new.report (c.in_ok-push_known.ensures w.one d.one.disk stand.one)
    (c.in_ok-push_known-2.ensures w.two d.two.disk stand.two) in
    subst (λ (t : List ℕ). OnOk c.push_known-3.result (c.push_known-3.new.report ≡ t)) same
    (c.push_known-3.ensures w.three d.three.disk stand.three)
