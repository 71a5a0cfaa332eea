use Rattle.std.proofs.Common.{◌≡◌, ℕ, List, ap, sym, subst}
use Rattle.rm_policy.proofs.AlternativesLemmas.FindLemmas.{same_value}
use Rattle.rm_policy.proofs.AlternativesLemmas.LawLemmas.{normal-same, normal-one}
use Rattle.rm_policy.proofs.AlternativesLemmas.NamedLemmas.{found_named}
use Rattle.rm_policy.proofs.AlternativesLemmas.TextLemmas.{same_text}
use Rattle.rm_policy.specs.Alternatives.Normal.{IsNormal}
use Rattle.rm_policy.specs.Alternatives.Reading.{policy_of}
use Rattle.rm_policy.specs.Alternatives.Texts.{normal_text}
use Rattle.rm_policy.proofs.alternatives.laws.texts_of_what_is_read_tell.Goals as goal

pub returns-clause-named : goal.returns-clause-named
returns-clause-named c = λ bytes lists f. found_named c.elements_may_be_written.ensures bytes lists f

pub returns-clause-tell : goal.returns-clause-tell
returns-clause-tell c = λ one other p q lists others r s f g.
    let first : f.policy ≡ p = same_value c.one_tree.ensures policy_of one f.policy p f.read r in
    let second : g.policy ≡ q = same_value c.one_tree.ensures policy_of other g.policy q g.read s in
    let n : IsNormal p lists = subst (λ k. IsNormal k lists) first f.normal in
    let m : IsNormal q others = subst (λ k. IsNormal k others) second g.normal in (
      (λ e. normal-same p q lists n
          (subst (IsNormal q) (sym (same_text lists others
          (found_named c.elements_may_be_written.ensures one lists f)
          (found_named c.elements_may_be_written.ensures other others g) e)) m)),
      (λ h. ap normal_text (normal-one p q lists others n m h)),
    )
