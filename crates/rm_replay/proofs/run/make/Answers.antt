use Rattle.std.proofs.Common.{inr}
use Rattle.std.proofs.lemmas.Result.{err_from_is_err_and}
use Rattle.rm_replay.specs.TaleLemmas.{spared_by}
use Rattle.rm_replay.specs.Played.{start_world}
use Rattle.rm_replay.proofs.run.make.Goals as goal

pub returns-in_err-two-clause-unmade : goal.returns-in_err-two-clause-unmade
returns-in_err-two-clause-unmade g c =
    let r = c.from_residual-in_err-two in
    let p = err_from_is_err_and r.result r.ensures.1 in
    rw p.1 (record {
      fresh = record {
        one = c.in_ok-one.ensures.fuse;
        two = c.in_err-two.ensures.fuse;
        silent = c.requires.fresh.silent;
      };
      spared = record {
        one = spared_by _ _ c.in_ok-one.ensures.crashes c.in_ok-one.ensures.faults;
        two = spared_by _ _ c.in_err-two.ensures.crashes c.in_err-two.ensures.faults;
      };
      which = inr (record {
        one = c.each_image_is_left.ensures start_world.one _ _
            (rw c.in_ok-at_one.ensures.address at c.in_ok-one.ensures.made);
        two = c.in_err-two.ensures.wanted;
      });
    })
