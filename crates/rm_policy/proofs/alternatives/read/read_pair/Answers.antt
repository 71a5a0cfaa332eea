use Rattle.std.proofs.lemmas.Result.{err_from_is_err_and}
use Rattle.soap_document.specs.Profile.View.{element_view}
use Rattle.soap_document.specs.declared.profile.tree.Element.{Element}
use Rattle.rm_policy.proofs.AlternativesLemmas.ReadLemmas.{refused, read_from}
use Rattle.rm_policy.specs.Alternatives.Reading.{pair_of}
use Rattle.rm_policy.specs.Alternatives.Tree.{pair_view}
use Rattle.rm_policy.proofs.alternatives.read.read_pair.Goals as goal

pub returns-in_err-root : goal.returns-in_err-root
returns-in_err-root c =
    let p = err_from_is_err_and c.from_residual.result c.from_residual.ensures.1 in
    let why = c.in_err-root.ensures in
    rw (p.1, p.2) (refused Element pair_of pair_view c.args.bytes.now c.in_err-root.field-0.0 why.too_long why.not_utf8
    why.not_profile why.no_version why.no_envelope)

pub returns : goal.returns
returns c =
    read_from pair_of pair_view c.args.bytes.now (element_view c.in_ok-root.root) c.in_ok-root.ensures.ok
    c.in_ok-root.ensures.fits c.pair_at.result c.pair_at.ensures
