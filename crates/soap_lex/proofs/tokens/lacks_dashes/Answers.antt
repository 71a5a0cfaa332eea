use Rattle.std.proofs.Common.{ℕ, ◌-◌, List, [], ◌∷◌, ◌++◌, length, take, sym, subst, inl, inr}
use Rattle.soap_lex.specs.Characters.{Holds}
use Rattle.soap_lex.proofs.HoldsLemmas.{Holds-dashes, Holds-dash_end, Holds-front}
use Rattle.soap_lex.proofs.tokens.lacks_dashes.Goals as goal

pub returns-then-not-ends_with_dash : goal.returns-then-not-ends_with_dash
returns-then-not-ends_with_dash c = (
  λ is held. elim (Holds-dashes 45 c.args.bytes.now held) [
    | inl inside ↦ c.lacks.ensures.0 is inside
    | inr ends ↦ cc (c.ends_with_dash.ensures.no ends.0 ends.1)
  ],
  λ lacking. c.lacks.ensures.1 (λ inside. lacking (Holds-front c.args.bytes.now (45 ∷ []) (45 ∷ 45 ∷ []) inside)),
)

pub returns-else-not-ends_with_dash : goal.returns-else-not-ends_with_dash
returns-else-not-ends_with_dash c =
    let P : List ℕ → Type 0 = λ bytes. Holds (bytes ++ 45 ∷ []) (45 ∷ 45 ∷ []) in
    let front : List ℕ = take (length c.args.bytes.now - 1) c.args.bytes.now in (
      λ is held. cc,
      λ lacking. absurd
          (lacking (subst P (sym (c.ends_with_dash.ensures.yes c.if-not-ends_with_dash.false))
          (Holds-dash_end 45 front))),
    )
