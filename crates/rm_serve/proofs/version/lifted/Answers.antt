use Rattle.rm_serve.proofs.VersionLemmas.{keeps-out-as}
use Rattle.rm_serve.proofs.version.lifted.Goals as goal

pub returns-in-Err : goal.returns-in-Err
returns-in-Err c =
    keeps-out-as c.args.body.now c.in-Err.error c.kept_out.result c.kept_out.ensures c.in-Err.ensures.err
