use Rattle.std.proofs.Common.{ap, sym, subst}
use Rattle.rm_policy.proofs.AlternativesLemmas.LawLemmas.{normal-same, normal-one}
use Rattle.rm_policy.proofs.AlternativesLemmas.TextLemmas.{same_text}
use Rattle.rm_policy.specs.Alternatives.Normal.{IsNormal}
use Rattle.rm_policy.specs.Alternatives.Texts.{normal_text}
use Rattle.rm_policy.proofs.alternatives.laws.normal_texts_tell.Goals as goal

pub returns : goal.returns
returns c = λ p q list other f g n m. (
  (λ e. normal-same p q list f (subst (IsNormal q) (sym (same_text list other n m e)) g)),
  (λ h. ap normal_text (normal-one p q list other f g h)),
)
