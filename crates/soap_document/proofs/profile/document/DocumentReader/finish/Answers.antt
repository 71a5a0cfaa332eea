use Rattle.std.proofs.Common.{◌≡◌, ℕ, List, Some, sym}
use Rattle.soap_document.specs.Machine.{run, start}
use Rattle.soap_document.specs.Profile.Fed.{WasFed}
use Rattle.soap_document.specs.Profile.Resolving.{root_view}
use Rattle.soap_document.proofs.ProfileLemmas.Roots.{read, has_root, placed, no_document}
use Rattle.soap_document.proofs.profile.document.DocumentReader.finish.Goals as goal

pub returns-in_default-clause-none : goal.returns-in_default-clause-none
returns-in_default-clause-none c = λ bytes h.
    no_document c.document_is_read.ensures bytes (sym (c.in_default.ensures (run start bytes) h))

root_is : (c : goal.In-Some) (bytes : List ℕ) → WasFed c.args.self bytes → read bytes ≡ Some (root_view c.in-Some.root)
root_is c bytes h = sym (c.in-Some.ensures (run start bytes) h)

pub returns-clause-found : goal.returns-clause-found
returns-clause-found c = λ bytes h.
    placed c.document_is_read.ensures bytes (root_view c.in-Some.root) (root_is c bytes h)

pub returns-clause-utf8 : goal.returns-clause-utf8
returns-clause-utf8 c = λ bytes h.
    let root = has_root c.document_is_read.ensures bytes (root_view c.in-Some.root) (root_is c bytes h) in
    c.document_is_utf8.ensures bytes root.raw root.is
