use Rattle.std.proofs.Common.{Ok}
use Rattle.rm_serve.proofs.VersionLemmas.{tells-none-as}
use Rattle.rm_serve.proofs.version.lowered.Goals as goal

pub returns-in_ok-text-in-Ok : goal.returns-in_ok-text-in-Ok
returns-in_ok-text-in-Ok c = (Ok c.in-Ok.message, c.in-Ok.ensures.ok, c.in_ok-text-in-Ok.ensures)

pub returns-in-Err : goal.returns-in-Err
returns-in-Err c =
    tells-none-as c.args.bytes.now c.in-Err.error c.untold.result c.untold.ensures c.in-Err.ensures.err
