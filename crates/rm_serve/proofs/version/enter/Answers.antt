use Rattle.std.proofs.Common.{ℕ, List, IfOk, subst, sym}
use Rattle.http_endpoint.specs.declared.media.Media.{Media}
use Rattle.http_endpoint.specs.declared.media.Media.TheVariants.{Soap11}
use Rattle.rm_serve.specs.Versions.{Enters}
use Rattle.rm_serve.proofs.version.enter.Goals as goal

pub returns-in-Soap11 : goal.returns-in-Soap11
returns-in-Soap11 c =
    subst (λ (m : Media). IfOk c.lifted.result (Enters m c.args.body)) (sym c.in-Soap11.is)
    (subst (λ (b : List ℕ). IfOk c.lifted.result (Enters Soap11 b)) c.as_slice.ensures c.lifted.ensures)
