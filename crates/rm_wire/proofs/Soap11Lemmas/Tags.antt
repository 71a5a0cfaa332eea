-- The names of attributes that declare, and attributes one behind the other.
use Rattle.std.proofs.Common.{◌≡◌, ◌≢◌, ℕ, List, [], ◌∷◌, ◌++◌, codes, refl, ap, ◌∙◌, append_assoc}
use Rattle.soap_document.specs.declared.attribute.WrittenAttribute.{WrittenAttribute}
use Rattle.soap_writer.specs.ElementText.{quoted}
use Rattle.soap_writer.specs.ReadBack.{written_attributes}
use Rattle.soap_envelope.specs.Frame.BodyTag.{declaring_name}

pub declaring_some : (prefix : List ℕ) → prefix ≢ [] → declaring_name prefix ≡ codes "xmlns:" ++ prefix
declaring_some [] some = absurd (some refl)
declaring_some (c ∷ prefix) some = refl

joined : (a b c d rest : List ℕ) → (a ++ (b ++ (c ++ (d ++ [])))) ++ rest ≡ a ++ (b ++ (c ++ (d ++ rest)))
joined a b c d rest = simp (append_assoc)

-- an attribute before others
one_more : (a : WrittenAttribute) (others : List WrittenAttribute)
    → written_attributes (a ∷ []) ++ written_attributes others ≡ written_attributes (a ∷ others)
one_more a others = joined (codes " ") a.name (codes "=") (quoted a.value) (written_attributes others)

grouped : (o a b c d e f : List ℕ) → (((((o ++ a) ++ b) ++ c) ++ d) ++ e) ++ f
    ≡ o ++ (a ++ ((b ++ c) ++ ((d ++ e) ++ f)))
grouped o a b c d e f = simp append_assoc

-- a start tag, piece by piece
pub start_by : (o p q r s t u w : List ℕ) (a : WrittenAttribute) (others : List WrittenAttribute)
    → p ≡ o ++ codes "<" → q ≡ p ++ w → r ≡ q ++ codes ":Body" → s ≡ r ++ written_attributes (a ∷ [])
    → t ≡ s ++ written_attributes others → u ≡ t ++ codes ">"
    → u ≡ o ++ (codes "<" ++ ((w ++ codes ":Body") ++ (written_attributes (a ∷ others) ++ codes ">")))
start_by o p q r s t u w a others e f g h i j =
    j ∙ ap (λ l. l ++ codes ">") (i ∙ ap (λ l. l ++ written_attributes others) (h
    ∙ ap (λ l. l ++ written_attributes (a ∷ [])) (g ∙ ap (λ l. l ++ codes ":Body") (f ∙ ap (λ l. l ++ w) e))))
    ∙ grouped o (codes "<") w (codes ":Body") (written_attributes (a ∷ [])) (written_attributes others) (codes ">")
    ∙ ap (λ l. o ++ (codes "<" ++ ((w ++ codes ":Body") ++ (l ++ codes ">")))) (one_more a others)

-- a lifted text, piece by piece
pub lifted_by : (o p q r s t u v a b c d e f g : List ℕ) → o ≡ [] → p ≡ o ++ a → q ≡ p ++ b → r ≡ q ++ c → s ≡ r ++ d
    → t ≡ s ++ e → u ≡ t ++ f → v ≡ u ++ g → v ≡ (a ++ (b ++ (c ++ d))) ++ (e ++ (f ++ g))
lifted_by o p q r s t u v a b c d e f g z h i j k l m n =
    n ∙ ap (λ x. x ++ g) (m ∙ ap (λ x. x ++ f) (l ∙ ap (λ x. x ++ e) (k ∙ ap (λ x. x ++ d) (j ∙ ap (λ x. x ++ c)
    (i ∙ ap (λ x. x ++ b) (h ∙ ap (λ x. x ++ a) z)))))) ∙ simp append_assoc
