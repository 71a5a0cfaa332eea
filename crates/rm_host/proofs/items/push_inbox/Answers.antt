use Rattle.std.proofs.Common.{◌≡◌, ◌++◌, List, ℕ, ap, subst, sym, ◌∙◌, arith, length}
use Rattle.std.specs.Prelude.{OnOk}
use Rattle.rm_sides.specs.Destination.Incoming.{inbox}
use Rattle.rm_host.specs.Sequences.{passed_lines}
use Rattle.rm_host.proofs.SequenceLemmas.{passed_lines-all, passed_lines-gone}
use Rattle.rm_host.proofs.items.push_inbox.Goals as goal

pub returns : goal.returns
returns c =
    let items = inbox c.args.incoming.now.facts in
    subst (λ (t : List ℕ). OnOk c.push_items.result (c.push_items.new.text ≡ c.args.text.now ++ t))
    (ap (λ (n : ℕ). passed_lines c.args.seq c.gone.result n items) c.inbox_len.ensures
    ∙ sym (passed_lines-gone c.args.seq (length items) items c.gone.result (omega arith) c.gone.ensures.none)
    ∙ passed_lines-all c.args.seq items)
    c.push_items.ensures
