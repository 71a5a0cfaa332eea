use Rattle.std.proofs.Common.{◌∙◌, sym, ap, Some}
use Rattle.std.proofs.lemmas.Bool.{false≢true}
use Rattle.std.proofs.lemmas.Option.{none-some, same_Some}
use Rattle.std.proofs.lemmas.Slice.Eq.{bytes_eq-Decides}
use Rattle.uuid.specs.Text.{parsed}
use Rattle.record_batch.specs.Sequences.Idents.{issue}
use Rattle.record_batch.proofs.SequencesLemmas.IdentLemmas.{parsed-issue, read-counter}
use Rattle.record_batch.proofs.sequences.idents.issued_counter.Goals as goal

pub returns-in_default : goal.returns-in_default
returns-in_default c = record {
  exactly = λ d lt. (
    λ e. absurd (false≢true (c.in_default.ensures.ok.1 (_, sym (parsed-issue c.args.node d ∙ ap parsed e)))),
    λ e. absurd (none-some d e),
  );
}

pub returns-then-is_issued : goal.returns-then-is_issued
returns-then-is_issued c =
    let node = c.args.node in
    let low = c.as_u64_pair-lower.ensures.low in
    record {
      exactly = λ d lt. (
        λ e. ap Some (read-counter node d _ _ _ c.requires lt c.in-Ok.ensures.bytes low e),
        λ e. ap (issue node) (sym (same_Some _ d e))
            ∙ (bytes_eq-Decides _ _).0 (sym c.is_issued.ensures ∙ c.if-is_issued.true),
      );
    }

pub returns-else-is_issued : goal.returns-else-is_issued
returns-else-is_issued c =
    let node = c.args.node in
    let low = c.as_u64_pair-lower.ensures.low in
    let unlike = sym c.if-is_issued.false ∙ c.is_issued.ensures in
    record {
      exactly = λ d lt. (
        λ e. let same = read-counter node d _ _ _ c.requires lt c.in-Ok.ensures.bytes low e in
            absurd (false≢true (unlike ∙ (bytes_eq-Decides _ _).1 (ap (issue node) same ∙ e))),
        λ e. absurd (none-some d e),
      );
    }
