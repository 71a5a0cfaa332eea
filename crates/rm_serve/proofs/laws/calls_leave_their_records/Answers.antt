use Rattle.rm_serve.proofs.AddLemmas.{leaves}
use Rattle.rm_serve.proofs.laws.calls_leave_their_records.Goals as goal

pub returns : goal.returns
returns c = leaves
