use Rattle.std.proofs.Common.{◌≡◌, arith, nat_le, true}
use Rattle.std.proofs.lemmas.Bool.Decides.{nat_tests}
use Rattle.std.proofs.lemmas.List.{append-nil}
use Rattle.rm_script.proofs.soak.turns.push_turn.Goals as goal

pub returns-in-0-to-4 : goal.returns-in-0-to-4
returns-in-0-to-4 c =
    let few : nat_le c.args.case 4 ≡ true = grind (arith, nat_tests) in
    rw (few, append-nil) c.push_line-in-0-to-4.ensures
