use Rattle.std.proofs.Common.{Err, refl, subst, sym}
use Rattle.rm_host.specs.declared.end.End.{End}
use Rattle.service_turns.specs.declared.turns.Halt.TheVariants.{Stuck}
use Rattle.rm_station.specs.Runs.{Runs, ran, unfound}
use Rattle.rm_station.proofs.RunLemmas.{found-there, run-leads}
use Rattle.rm_station.proofs.running.attend.Goals as goal

pub run-ended-requires : goal.run-ended-requires
run-ended-requires g c =
    (found-there g.D.Disk.tells g.D.Disk.told _ _ _ _ c.new-station.result c.new-station.ensures.disk
    c.new-station.ensures.node c.in-Ok.ensures.found).up

pub returns-in-Ok : goal.returns-in-Ok
returns-in-Ok g c =
    let told = g.D.Disk.told in
    let tells = g.D.Disk.tells in
    let start = c.new-station.result in
    let found = found-there tells told _ _ _ _ start c.new-station.ensures.disk c.new-station.ensures.node
    c.in-Ok.ensures.found in
    let turns = c.run-ended.ensures.turns in
    let all = run-leads tells told g.C.Clock.next c.args.most start c.run-ended.new.desk _ _ c.run-ended.result
    turns in
    ran start c.run-ended.new.desk all.0 c.run-ended.result found refl all.1
    (λ t terms own. c.a_command_leaves_its_records.ensures tells terms _ _ _ _ all.0 t own found all.1) turns

pub returns-in-Err : goal.returns-in-Err
returns-in-Err g c =
    let why = c.in-Err.ensures.unfound in
    let scene = g.T.Traffic.told c.args.traffic.now in
    subst (λ (e : End). Runs g.D.Disk.tells g.D.Disk.told g.C.Clock.next (g.D.Disk.told c.args.disk)
    (g.D.Disk.told c.find.new.disk) scene scene c.args.granted c.args.most (Err (Stuck e))) (sym why.1)
    (unfound why.0 why.2 refl)
