use Rattle.std.proofs.Common.{◌≡◌, ◌≤◌, [], Err, arith, length, sym, subst, ◌∙◌}
use Rattle.std.proofs.lemmas.Str.{IsUtf8-nil}
use Rattle.rm_base.specs.Limits.{envelope_bytes}
use Rattle.soap_document.specs.Profile.Document.{Document}
use Rattle.soap_document.specs.Profile.Tree.{Element}
use Rattle.soap_document.specs.declared.profile.error.EnvelopeError.TheVariants as Error
use Rattle.soap_pieces.specs.Answer.{Reads}
use Rattle.soap_pieces.specs.Stage.{HasCome}
use Rattle.soap_pieces.proofs.Answers.{long_is, none_is}
use Rattle.soap_pieces.proofs.Hopeless.{refused_no_tree}
use Rattle.soap_pieces.proofs.Stages.{nothing_in_root, root_no_tree}
use Rattle.soap_pieces.proofs.stage.Stage.finish.Goals as goal

pub returns-in-Before-clause-reads : goal.returns-in-Before-clause-reads
returns-in-Before-clause-reads c = λ bytes h size e.
    let empty = subst (λ s. HasCome s bytes) c.in-Before.is h in
    subst (λ b. Reads b (Err Error.NotProfile)) (sym empty)
    (none_is [] (omega arith) IsUtf8-nil (root_no_tree c.document_is_read.ensures [] [] nothing_in_root))

pub returns-in-Root-clause-reads : goal.returns-in-Root-clause-reads
returns-in-Root-clause-reads c = λ bytes h size e.
    let k = subst (λ s. HasCome s bytes) c.in-Root.is h in
    let same = c.as_slice.ensures ∙ k.same in
    subst (λ b. Reads b (Err c.why_unended.result)) same
    (c.why_unended.ensures.reads (subst (λ b. length b ≤ envelope_bytes) (sym same) k.fits)
    (subst (λ b. (tree : Element) → ¬ (Document b tree)) (sym same) (root_no_tree c.document_is_read.ensures _ bytes
    k)))

pub returns-in-Behind-clause-reads : goal.returns-in-Behind-clause-reads
returns-in-Behind-clause-reads c = λ bytes h size e.
    c.finish.ensures.reads bytes (subst (λ s. HasCome s bytes) c.in-Behind.is h) size

pub returns-in-Refused-clause-reads : goal.returns-in-Refused-clause-reads
returns-in-Refused-clause-reads c = λ bytes h size e.
    let k = subst (λ s. HasCome s bytes) c.in-Refused.is h in
    c.why_none.ensures.reads bytes k.utf8 size k.fits (refused_no_tree c.refused_stays.ensures.none
    c.document_is_read.ensures bytes k.refuses)

pub returns-in-TooLong-clause-reads : goal.returns-in-TooLong-clause-reads
returns-in-TooLong-clause-reads c = λ bytes h size e.
    long_is bytes c.args.len (subst (λ s. HasCome s bytes) c.in-TooLong.is h) size

pub returns-in-Root-clause-known : goal.returns-in-Root-clause-known
returns-in-Root-clause-known c = λ bytes h out e.
    let same : c.why_unended.result ≡ Error.Memory = cc in
    c.why_unended.ensures.known same

pub returns-in-Behind-clause-known : goal.returns-in-Behind-clause-known
returns-in-Behind-clause-known c = λ bytes h out.
    c.finish.ensures.known bytes (subst (λ s. HasCome s bytes) c.in-Behind.is h)

pub returns-in-Refused-clause-known : goal.returns-in-Refused-clause-known
returns-in-Refused-clause-known c = λ bytes h out e.
    let same : c.why_none.result ≡ Error.Memory = cc in
    c.why_none.ensures.known same
