use Rattle.rm_replay.proofs.GrantLemmas.{grant_at_one, grant_at_two}
use Rattle.rm_replay.proofs.happen.grant.Goals as goal

pub returns-in-One : goal.returns-in-One
returns-in-One c w d stand =
    grant_at_one w d c.args.nodes.now c.args.side c.args.behaviour c.set_grant.new.self c.in-One.is
    c.set_grant.ensures stand

pub returns-in-Two : goal.returns-in-Two
returns-in-Two c w d stand =
    grant_at_two w d c.args.nodes.now c.args.side c.args.behaviour c.set_grant-in-Two.new.self c.in-Two.is
    c.set_grant-in-Two.ensures stand
