use Rattle.soap_document.proofs.ProfileLemmas.Scopes.{stack_pushed, stack_found, is_found}
use Rattle.soap_document.proofs.profile.stacks.push.Goals as goal

pub returns-in_ok-push-in-Some : goal.returns-in_ok-push-in-Some
returns-in_ok-push-in-Some c =
    let bs = c.args.prefix.now in
    let m = c.args.stacks.now in
    let new = c.push.new.self in
    stack_pushed bs m (c.get_mut.follows.lender new) c.in-Some.stack.now new c.args.space
    (stack_found bs m c.get_mut.result c.in-Some.stack c.get_mut.ensures.value c.in-Some.is)
    ((c.get_mut.follows.holds new).3 (is_found bs m c.get_mut.result c.in-Some.stack c.get_mut.ensures.value
    c.in-Some.is)) c.in_ok-push-in-Some.ensures.items
