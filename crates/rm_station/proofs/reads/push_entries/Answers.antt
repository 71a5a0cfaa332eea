use Rattle.std.proofs.Common.{◌≡◌, ◌++◌, ◌∙◌, ap, append_assoc, subst}
use Rattle.std.specs.Prelude.{OnOk, codes, decimal}
use Rattle.rm_station.specs.Reads.{type_line}
use Rattle.rm_station.proofs.ReadLemmas.{further}
use Rattle.rm_station.proofs.reads.push_entries.Goals as goal

pub returns : goal.returns
returns c =
    let old = c.args.text.now in
    let kind = type_line (codes "wsrm_journal_entries") (codes "gauge") in
    let name = codes "wsrm_journal_entries " in
    let value = decimal c.args.entries in
    let a = c.push_type.new.text in
    let b = c.push_all.new.self in
    let d = c.push_decimal.new.out in
    let before =
    further old b d (kind ++ name) value c.in_ok-push_decimal.ensures.ok
    (further old a b kind name c.in_ok-push_all.ensures.ok c.in_ok-push_type.ensures) in
    subst (λ t. OnOk c.push_all-2.result (c.push_all-2.new.self ≡ t))
    (ap (λ t. t ++ codes "\n") before ∙ append_assoc old (kind ++ name ++ value) (codes "\n"))
    c.push_all-2.ensures.ok
