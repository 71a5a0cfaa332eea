use Rattle.std.proofs.Common.{◌<◌, ◌≤◌, [], sym, ap, ◌∙◌, length, rules}
use Rattle.std.specs.Prelude.{slice_index_or, remove}
use Rattle.std.proofs.lemmas.List.{get_or_default}
use Rattle.timers.specs.Pending.Names.{place_in}
use Rattle.timers.proofs.PendingLemmas.NameLemmas.{used-none, used-at}
use Rattle.timers.proofs.pending.pending.take_ready.Goals as goal

pub returns-then-at-len-clause-none : goal.returns-then-at-len-clause-none
returns-then-at-len-clause-none c =
    let ready = c.args.ready.now.items in
    let ge : length ready ≤ place_in ready c.args.address.now = search rules in
    (used-none ready c.args.address.now ge).0

pub returns-then-at-len-clause-left : goal.returns-then-at-len-clause-left
returns-then-at-len-clause-left c =
    let ready = c.args.ready.now.items in
    let ge : length ready ≤ place_in ready c.args.address.now = search rules in
    sym (used-none ready c.args.address.now ge).1

pub returns-clause-some : goal.returns-clause-some
returns-clause-some c =
    let ready = c.args.ready.now.items in
    let lt : place_in ready c.args.address.now < length ready = search rules in
    c.remove.ensures.value
    ∙ ap (λ k. slice_index_or ready k c.remove.result) c.place_of-at.ensures
    ∙ get_or_default ready (place_in ready c.args.address.now) c.remove.result [] lt
    ∙ (used-at ready c.args.address.now lt).0

pub returns-clause-left : goal.returns-clause-left
returns-clause-left c =
    let ready = c.args.ready.now.items in
    let lt : place_in ready c.args.address.now < length ready = search rules in
    c.remove.ensures.items ∙ ap (remove ready) c.place_of-at.ensures ∙ (used-at ready c.args.address.now lt).1
