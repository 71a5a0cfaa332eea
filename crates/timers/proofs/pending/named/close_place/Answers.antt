use Rattle.std.proofs.Common.{ap, sym, ◌∙◌}
use Rattle.timers.specs.Pending.Names.{kept_addresses}
use Rattle.timers.proofs.pending.named.close_place.Goals as goal

pub returns-clause-addresses : goal.returns-clause-addresses
returns-clause-addresses c =
    c.remove.ensures.items ∙ sym (ap (kept_addresses c.args.addresses.now.items c.args.at) c.if-more.false)
