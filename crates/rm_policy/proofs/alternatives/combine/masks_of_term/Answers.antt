use Rattle.std.proofs.Common.{sym, ◌∙◌, refl}
use Rattle.std.proofs.lemmas.Bool.{false≢true}
use Rattle.rm_policy.proofs.AlternativesLemmas.StepLemmas.{term_alone, term_or_none}
use Rattle.rm_policy.proofs.alternatives.combine.masks_of_term.Goals as goal

pub returns-then-optional : goal.returns-then-optional
returns-then-optional c = λ _. (
  rw (c.in_ok-none_and.ensures, c.bit.ensures)
      (term_or_none c.args.terms.now c.args.term.now c.args.optional c.in-Some.place c.if-optional.true
      c.in-Some.ensures.within c.in-Some.ensures.found),
  λ h. h,
)

pub returns : goal.returns
returns c = λ _. (
  rw (c.in_ok-one.ensures, c.bit-2.ensures)
      (term_alone c.args.terms.now c.args.term.now c.args.optional c.in-Some.place c.if-optional.false
      c.in-Some.ensures.within c.in-Some.ensures.found),
  λ h. h,
)

pub returns-in_default : goal.returns-in_default
returns-in_default c = λ l. absurd (false≢true (sym (c.place_of.ensures.none c.in_default.is)
    ∙ l.each c.args.term.now refl))
