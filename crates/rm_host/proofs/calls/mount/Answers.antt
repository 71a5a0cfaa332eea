use Rattle.std.proofs.Common.{◌≡◌, ◌∙◌, ◌⊎◌, Err, ap, false, refl, sym, subst}
use Rattle.std.proofs.lemmas.Result.{err_from_is_err_and}
use Rattle.std.specs.Prelude.{IfErr}
use Rattle.node_store.specs.declared.error.MountError.{MountError}
use Rattle.rm_host.specs.Ends.{HasReason, faults_of, is_outer, is_refused, mount_end}
use Rattle.rm_host.specs.Finding.{NotFound}
use Rattle.rm_host.specs.declared.end.End.{End}
use Rattle.rm_host.specs.declared.end.End.TheVariants as end
use Rattle.rm_host.proofs.EndLemmas.{mount-fails, mount-inner, mount-none, mount-unrefused, mount-which}
use Rattle.rm_host.proofs.calls.mount.Goals as goal

pub returns-in_err-mount-clause-reason : goal.returns-in_err-mount-clause-reason
returns-in_err-mount-clause-reason g c =
    let p = err_from_is_err_and c.from_residual.result c.from_residual.ensures.1 in
    let old = faults_of g.D.Disk.told g.L.Link.told c.args.host.now in
    let new = record old { disk = (g.D.Disk.told c.mount.new.disk).faults } in
    subst (λ r. HasReason old new r) (sym (p.1 ∙ ap Err p.2))
    (mount-fails old new c.in_err-mount.field-0.0 c.in_err-mount.ensures.cause)

pub returns-in_err-mount-clause-none : goal.returns-in_err-mount-clause-none
returns-in_err-mount-clause-none g c tells none =
    let p = err_from_is_err_and c.from_residual.result c.from_residual.ensures.1 in
    let e = c.in_err-mount.field-0.0 in
    let same : mount_end e ≡ end.NotAJournal = cc (p.1, p.2, none) in
    c.in_err-mount.ensures.none tells (ap Err (mount-none e same))

pub returns-in_err-mount-clause-which : goal.returns-in_err-mount-clause-which
returns-in_err-mount-clause-which g c =
    let p = err_from_is_err_and c.from_residual.result c.from_residual.ensures.1 in
    rw p.1 (subst (λ (x : End). (x ≡ end.Memory) ⊎ ((x ≡ end.DiskFault) ⊎ (x ≡ end.NotAJournal))) (sym p.2)
    (mount-which c.in_err-mount.field-0.0))

pub returns-in_err-mount-clause-unrefused : goal.returns-in_err-mount-clause-unrefused
returns-in_err-mount-clause-unrefused g c =
    let p = err_from_is_err_and c.from_residual.result c.from_residual.ensures.1 in
    subst (λ r. is_refused r ≡ false) (sym (p.1 ∙ ap Err p.2)) (mount-unrefused c.in_err-mount.field-0.0)

pub returns-in_err-mount-clause-inner : goal.returns-in_err-mount-clause-inner
returns-in_err-mount-clause-inner g c =
    let p = err_from_is_err_and c.from_residual.result c.from_residual.ensures.1 in
    subst (λ r. is_outer r ≡ false) (sym (p.1 ∙ ap Err p.2)) (mount-inner c.in_err-mount.field-0.0)

pub returns-clause-up : goal.returns-clause-up
returns-clause-up g c =
    record {
      up = c.in_ok-mount.ensures.up;
      ready = λ t up. let found = c.in_ok-mount.ensures.found t in (found.batches, found.has.holds);
    }

pub returns-clause-mounted : goal.returns-clause-mounted
returns-clause-mounted g c =
    let found = c.in_ok-mount.ensures.found in
    record {
      up = record {
        up = c.in_ok-mount.ensures.up;
        ready = λ t up. let f = found t in (f.batches, f.has.holds);
      };
      finds = found;
      looks = λ t. record { seen = c.in_ok-mount.ensures.seen t; moments = c.in_ok-mount.ensures.moments t };
      kept = c.in_ok-mount.ensures.kept;
    }

pub returns-in_err-mount-clause-unfound : goal.returns-in_err-mount-clause-unfound
returns-in_err-mount-clause-unfound g c =
    let told = g.D.Disk.told in
    let p = err_from_is_err_and c.from_residual.result c.from_residual.ensures.1 in
    let e = c.in_err-mount.field-0.0 in
    let did = c.mount.ensures in
    subst (λ r. IfErr r (λ end. (e : MountError) × (end ≡ mount_end e)
    × NotFound g.D.Disk.tells (told c.args.host.now.disk) (told c.mount.new.disk) e)) (sym (p.1 ∙ ap Err p.2)) (
      e,
      refl,
      record {
        looks = λ t. record { seen = did.seen t; moments = did.moments t };
        none = λ t is. did.none t (c.in_err-mount.was ∙ ap Err is);
      },
    )
