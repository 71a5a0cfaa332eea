-- What the proofs take from the laws of soap_lex.
use Rattle.std.proofs.Common.{◌≡◌, ◌↔◌, ◌⊎◌, ℕ, List, [], ◌∷◌, ◌++◌, true, None, Some, codes}
use Rattle.soap_lex.specs.Cut.{IsTextFirst}
use Rattle.soap_lex.specs.Tests.{is_comment, without}
use Rattle.soap_lex.specs.Text.{IsComment, IsText}
use Rattle.soap_lex.specs.TextMachine.{TextEnds, begun, reads}
use Rattle.soap_lex.specs.Value.{IsInner}
use Rattle.soap_lex.specs.ValueMachine.{closed_with}
use Rattle.soap_lex.specs.ValueMachine as value

-- the laws on text, on values and on comments
pub record Lexes : Type 0 where
  pub text_taken : (bytes meaning before : List ℕ) → IsText bytes meaning → TextEnds before bytes meaning
  pub text_found : (bytes before all rest : List ℕ) → reads (begun before) bytes ≡ Some (all, rest)
      → (text : List ℕ) × (meaning : List ℕ) × IsTextFirst bytes text rest meaning × (all ≡ before ++ meaning)
  pub value_taken : (quote : ℕ) (inner meaning before : List ℕ) → (quote ≡ 34) ⊎ (quote ≡ 39)
      → IsInner quote inner meaning
      → value.Takes (value.begun quote before) (inner ++ quote ∷ []) (closed_with quote (before ++ meaning))
  pub value_found : (quote : ℕ) (bytes before all rest : List ℕ)
      → value.reads (value.begun quote before) bytes ≡ Some (all, rest)
      → (inner : List ℕ) × (meaning : List ℕ) × (bytes ≡ inner ++ quote ∷ rest) × IsInner quote inner meaning
      × (all ≡ before ++ meaning)
  pub comment_test : (bytes : List ℕ) → (is_comment bytes ≡ true) ↔ IsComment bytes
  pub comment_end : (bytes front rest : List ℕ) → IsComment bytes → bytes ++ codes "--" ≡ front ++ 62 ∷ rest
      → without (codes "--") front ≡ None
