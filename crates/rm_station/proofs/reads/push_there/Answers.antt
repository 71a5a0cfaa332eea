use Rattle.std.proofs.Common.{◌≡◌, ◌++◌, ◌∙◌, ap, append_assoc, subst}
use Rattle.std.specs.Prelude.{OnOk, codes, decimal}
use Rattle.rm_station.proofs.ReadLemmas.{further}
use Rattle.rm_station.proofs.reads.push_there.Goals as goal

pub returns : goal.returns
returns c =
    let old = c.args.text.now in
    let name = c.args.name.now in
    let word = codes "{sequence=\"" in
    let seq = decimal c.args.seq in
    let end = codes "\"} " in
    let value = decimal c.args.value in
    let a = c.push_all.new.self in
    let b = c.push_all-2.new.self in
    let d = c.push_decimal.new.out in
    let e = c.push_all-3.new.self in
    let f = c.push_decimal-2.new.out in
    let before =
    further old e f (name ++ word ++ seq ++ end) value c.in_ok-push_decimal-2.ensures.ok
    (further old d e (name ++ word ++ seq) end c.in_ok-push_all-3.ensures.ok
    (further old b d (name ++ word) seq c.in_ok-push_decimal.ensures.ok
    (further old a b name word c.in_ok-push_all-2.ensures.ok c.in_ok-push_all.ensures.ok))) in
    subst (λ t. OnOk c.push_all-4.result (c.push_all-4.new.self ≡ t))
    (ap (λ t. t ++ codes "\n") before ∙ append_assoc old (name ++ word ++ seq ++ end ++ value) (codes "\n"))
    c.push_all-4.ensures.ok
