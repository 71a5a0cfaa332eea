use Rattle.std.proofs.Common.{◌∙◌, Err, ap}
use Rattle.std.proofs.lemmas.Result.{err_from_is_err_and}
use Rattle.rm_station.proofs.OutLemmas.{packs-lacks, packs-told}
use Rattle.rm_station.proofs.station.pack.Goals as goal

pub returns-in_ok-packets_of-in-Ok : goal.returns-in_ok-packets_of-in-Ok
returns-in_ok-packets_of-in-Ok c =
    packs-told c.args.outs c.in-Ok.outs c.in_ok-packets_of-in-Ok.field-0 c.in-Ok.is c.in_ok-packets_of-in-Ok.ensures

pub returns-in_err-packets_of-in-Ok : goal.returns-in_err-packets_of-in-Ok
returns-in_err-packets_of-in-Ok c =
    let p = err_from_is_err_and c.from_residual.result c.from_residual.ensures.1 in
    packs-lacks c.args.outs c.in-Ok.outs c.from_residual.result c.in-Ok.is (p.1 ∙ ap Err p.2)
