use Rattle.std.proofs.Common.{inl, inr, refl}
use Rattle.std.proofs.lemmas.Result.{err_from_is_err_and}
use Rattle.rm_replay.specs.Shows.{drive_of}
use Rattle.rm_replay.specs.TaleLemmas.{asked_none, spared_by}
use Rattle.rm_relay.specs.Word.World.{start}
use Rattle.rm_relay.proofs.run.make.Goals as goal

pub returns-in_err-one-clause-unmade : goal.returns-in_err-one-clause-unmade
returns-in_err-one-clause-unmade g c =
    let r = c.from_residual-in_err-one in
    let p = err_from_is_err_and r.result r.ensures.1 in
    rw p.1 (record {
      fresh = record {
        one = c.in_err-one.ensures.fuse;
        two = c.requires.fresh.two;
        three = c.requires.fresh.three;
        silent = c.requires.fresh.silent;
      };
      spared = record {
        one = spared_by _ _ c.in_err-one.ensures.crashes c.in_err-one.ensures.faults;
        two = asked_none (drive_of g.M.Disk.told c.args.stage.now.two);
        three = asked_none (drive_of g.M.Disk.told c.args.stage.now.three);
      };
      which = inl (c.in_err-one.ensures.wanted, refl, refl);
    })

pub returns-in_err-two-clause-unmade : goal.returns-in_err-two-clause-unmade
returns-in_err-two-clause-unmade g c =
    let r = c.from_residual-in_err-two in
    let p = err_from_is_err_and r.result r.ensures.1 in
    rw p.1 (record {
      fresh = record {
        one = c.in_ok-one.ensures.fuse;
        two = c.in_err-two.ensures.fuse;
        three = c.requires.fresh.three;
        silent = c.requires.fresh.silent;
      };
      spared = record {
        one = spared_by _ _ c.in_ok-one.ensures.crashes c.in_ok-one.ensures.faults;
        two = spared_by _ _ c.in_err-two.ensures.crashes c.in_err-two.ensures.faults;
        three = asked_none (drive_of g.M.Disk.told c.args.stage.now.three);
      };
      which = inr (inl (
        c.each_image_is_left.ensures start.one _ _
            (rw c.in_ok-at_one.ensures.address at c.in_ok-one.ensures.made),
        c.in_err-two.ensures.wanted,
        refl,
      ));
    })

pub returns-in_err-three-clause-unmade : goal.returns-in_err-three-clause-unmade
returns-in_err-three-clause-unmade g c =
    let r = c.from_residual-in_err-three in
    let p = err_from_is_err_and r.result r.ensures.1 in
    rw p.1 (record {
      fresh = record {
        one = c.in_ok-one.ensures.fuse;
        two = c.in_ok-two.ensures.fuse;
        three = c.in_err-three.ensures.fuse;
        silent = c.requires.fresh.silent;
      };
      spared = record {
        one = spared_by _ _ c.in_ok-one.ensures.crashes c.in_ok-one.ensures.faults;
        two = spared_by _ _ c.in_ok-two.ensures.crashes c.in_ok-two.ensures.faults;
        three = spared_by _ _ c.in_err-three.ensures.crashes c.in_err-three.ensures.faults;
      };
      which = inr (inr (
        c.each_image_is_left.ensures start.one _ _
            (rw c.in_ok-at_one.ensures.address at c.in_ok-one.ensures.made),
        c.each_image_is_left.ensures start.two _ _
            (rw c.in_ok-at_two.ensures.address at c.in_ok-two.ensures.made),
        c.in_err-three.ensures.wanted,
      ));
    })
