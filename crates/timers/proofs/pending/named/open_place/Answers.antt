use Rattle.std.proofs.Common.{◌<◌, ◌≤◌, sym, ◌∙◌, length, rules}
use Rattle.timers.specs.Pending.Names.{place_in}
use Rattle.timers.proofs.PendingLemmas.NameLemmas.{opened-new, opened-old}
use Rattle.timers.proofs.pending.named.open_place.Goals as goal

pub returns-then-at-len-clause-items : goal.returns-then-at-len-clause-items
returns-then-at-len-clause-items c =
    let names = c.args.addresses.now.items in
    let ge : length names ≤ place_in names c.args.address = search rules in
    c.push_address.ensures.items ∙ sym (opened-new names c.args.address ge)

pub returns-else-at-len-clause-items : goal.returns-else-at-len-clause-items
returns-else-at-len-clause-items c =
    let names = c.args.addresses.now.items in
    let lt : place_in names c.args.address < length names = search rules in
    sym (opened-old names c.args.address lt)
