use Rattle.std.proofs.Common.{sym, subst, take}
use Rattle.rm_protocol.specs.Delivered.{TakesNew}
use Rattle.rm_replay.specs.Shows.{address_one, address_two}
use Rattle.rm_replay.specs.NetLemmas.{are_made, are_terms}
use Rattle.rm_replay.proofs.PlayedLemmas.{run_of}
use Rattle.rm_replay.proofs.laws.a_delivered_message_is_taken.Goals as goal

pub returns : goal.returns
returns c terms script count s net within played =
    let goes = c.a_run_goes_on.ensures.run in
    let front = take count script in
    let of = run_of goes terms front s played in
    subst (TakesNew terms) (sym of.1)
    (c.a_delivered_message_is_taken.ensures terms address_one address_two
    (are_terms c.own_terms_are_terms.ensures terms net)
    (are_made terms net) of.0)
