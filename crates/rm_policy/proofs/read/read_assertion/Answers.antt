use Rattle.std.proofs.lemmas.Result.{err_from_is_err_and}
use Rattle.soap_document.specs.declared.profile.tree.Element.{Element}
use Rattle.rm_policy.proofs.Readings.{refused}
use Rattle.rm_policy.proofs.read.read_assertion.Goals as goal

pub returns-in_err-root-clause-reads : goal.returns-in_err-root-clause-reads
returns-in_err-root-clause-reads c =
    let p = err_from_is_err_and c.from_residual.result c.from_residual.ensures.1 in
    let why = c.in_err-root.ensures in
    rw (p.1, p.2) (refused Element c.args.bytes.now c.in_err-root.field-0.0 why.too_long why.not_utf8 why.not_profile
    why.no_version why.no_envelope)
