use Rattle.std.proofs.Common.{List, ℕ, ◌≤◌, length, take, subst, ◌∙◌, arith}
use Rattle.std.specs.Str.{IsUtf8}
use Rattle.std.proofs.lemmas.List.{take_all}
use Rattle.soap_document.specs.Profile.Document.{IsLongestText}
use Rattle.soap_pieces.proofs.Answers.{broken_is, none_is}
use Rattle.soap_pieces.proofs.stage.why_unended.Goals as goal

pub returns-then-valid_up_to-bytes-clause-reads : goal.returns-then-valid_up_to-bytes-clause-reads
returns-then-valid_up_to-bytes-clause-reads c = λ fits none.
    let found = c.utf8_prefix-valid_up_to.ensures in
    broken_is c.args.bytes.now c.utf8_prefix-valid_up_to.result fits (omega arith)
    (record { valid = found.valid; longest = found.longest })

pub returns-clause-reads : goal.returns-clause-reads
returns-clause-reads c = λ fits none.
    let found = c.utf8_prefix-valid_up_to.ensures in
    none_is c.args.bytes.now fits (subst IsUtf8 (take_all c.utf8_prefix-valid_up_to.result c.args.bytes.now (omega
    arith)) found.valid) none
