use Rattle.rm_replay.proofs.UnarmedLemmas.{free_of}
use Rattle.rm_replay.proofs.laws.without_an_arm_no_line_fails.Goals as goal

pub returns : goal.returns
returns c terms script s played all =
    (free_of c.a_run_goes_on.ensures.run c.without_an_arm_nothing_fails.ensures.next terms script s played all).calm
