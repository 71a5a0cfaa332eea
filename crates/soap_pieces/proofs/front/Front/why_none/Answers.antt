use Rattle.std.proofs.Common.{sym, subst, arith}
use Rattle.soap_document.specs.Profile.Document.{IsLongestText}
use Rattle.soap_pieces.proofs.Answers.{broken_is, none_is}
use Rattle.soap_pieces.proofs.Fronts.{longest_front, whole_text}
use Rattle.soap_pieces.proofs.front.Front.why_none.Goals as goal

pub returns-then-valid_up_to-len-clause-reads : goal.returns-then-valid_up_to-len-clause-reads
returns-then-valid_up_to-len-clause-reads c = λ bytes h size fits none.
    let longest : IsLongestText bytes c.args.self.now.valid =
    subst (IsLongestText bytes) (sym h.count) (longest_front bytes h.text h.rest h.is h.valid h.stuck) in
    broken_is bytes c.args.self.now.valid fits (omega (arith, size, c.if-valid_up_to-len.true)) longest

pub returns-clause-reads : goal.returns-clause-reads
returns-clause-reads c = λ bytes h size fits none.
    none_is bytes fits (whole_text bytes h.text h.rest h.is h.valid
    (omega (arith, size, h.count, c.if-valid_up_to-len.false))) none
