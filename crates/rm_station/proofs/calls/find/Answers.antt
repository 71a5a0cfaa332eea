use Rattle.std.proofs.Common.{◌≡◌, ◌∙◌, Err, ap, refl, subst, sym}
use Rattle.std.specs.Prelude.{IfErr}
use Rattle.std.proofs.lemmas.Result.{err_from_is_err_and}
use Rattle.node_store.specs.declared.error.MountError.{MountError}
use Rattle.rm_base.specs.declared.message.Behaviour.TheVariants.{FollowingFirstGap}
use Rattle.rm_serve.specs.Steps.{place_of}
use Rattle.rm_host.specs.Ends.{mount_end}
use Rattle.rm_host.specs.Finding.{Found, NotFound}
use Rattle.rm_station.proofs.CallLemmas.{announces}
use Rattle.rm_station.proofs.calls.find.Goals as goal

pub returns-clause-found : goal.returns-clause-found
returns-clause-found g c =
    let told = g.D.Disk.told in
    let did = c.in_ok-node.ensures in
    let x = place_of (told c.mount.new.disk) c.in_ok-node.node in
    let found : Found g.D.Disk.tells (told c.args.disk.now) FollowingFirstGap x = record {
      up = record { up = did.up; ready = λ t up. let f = did.found t in (f.batches, f.has.holds) };
      finds = did.found;
      looks = λ t. record { seen = did.seen t; moments = did.moments t };
      kept = did.kept;
    } in
    announces g.D.Disk.tells (told c.args.disk.now) x c.set_grant.new.self FollowingFirstGap c.args.granted found
    c.set_grant.ensures

pub returns-in_err-node-clause-unfound : goal.returns-in_err-node-clause-unfound
returns-in_err-node-clause-unfound g c =
    let told = g.D.Disk.told in
    let p = err_from_is_err_and c.from_residual.result c.from_residual.ensures.1 in
    let e = c.in_err-node.field-0.0 in
    let did = c.mount.ensures in
    subst (λ r. IfErr r (λ end. (e : MountError) × (end ≡ mount_end e)
    × NotFound g.D.Disk.tells (told c.args.disk.now) (told c.mount.new.disk) e)) (sym (p.1 ∙ ap Err p.2)) (
      e,
      refl,
      record {
        looks = λ t. record { seen = did.seen t; moments = did.moments t };
        none = λ t is. did.none t (c.in_err-node.was ∙ ap Err is);
      },
    )
