-- Bytes have one text and one value at their front, with one meaning: what is read.
use Rattle.std.proofs.Common.{◌≡◌, ℕ, List, [], ◌∷◌, ◌++◌, refl, sym, ap, ◌∙◌}
use Rattle.std.proofs.lemmas.List.{append_cancel_right}
use Rattle.soap_lex.specs.Cut.{IsTextFirst, IsValueFirst}
use Rattle.soap_lex.specs.Value.{IsValue, double, single}
use Rattle.soap_lex.proofs.TextRead.{reads_only}
use Rattle.soap_lex.proofs.TextWhole.{some_is}
use Rattle.soap_lex.proofs.ValueWhole.{read_all}

same_front : (a b rest left : List ℕ) → rest ≡ left → a ++ rest ≡ b ++ left → a ≡ b
same_front a b rest left same e = append_cancel_right a b rest (e ∙ ap (λ (l : List ℕ). b ++ l) (sym same))

pub one_text : (bytes text rest meaning other left value : List ℕ) → IsTextFirst bytes text rest meaning
    → IsTextFirst bytes other left value
    → (text ≡ other) × (meaning ≡ value) × (rest ≡ left)
one_text bytes text rest meaning other left value cut then =
    let read : (meaning, rest) ≡ (value, left) =
    some_is (sym (reads_only bytes text rest meaning [] cut) ∙ reads_only bytes other left value [] then) in
    let rests : rest ≡ left = ap (λ (p : List ℕ × List ℕ). p.1) read in
    (same_front text other rest left rests (sym cut.there ∙ then.there), ap (λ (p : List ℕ × List ℕ). p.0) read, rests)

-- a value begins with a byte
first_of : {value meaning : List ℕ} → IsValue value meaning → (rest : List ℕ)
    → (first : ℕ) × (inner : List ℕ) × (value ++ rest ≡ first ∷ inner)
first_of (double inner meaning is) rest = (34, (inner ++ 34 ∷ []) ++ rest, refl)
first_of (single inner meaning is) rest = (39, (inner ++ 39 ∷ []) ++ rest, refl)

pub one_value : (bytes value rest meaning other left means : List ℕ) → IsValueFirst bytes value rest meaning
    → IsValueFirst bytes other left means
    → (value ≡ other) × (meaning ≡ means) × (rest ≡ left)
one_value bytes value rest meaning other left means cut then =
    let first = first_of cut.is rest in
    let there : bytes ≡ first.0 ∷ first.1 = cut.there ∙ first.2 in
    let read : (meaning, rest) ≡ (means, left) =
    some_is (sym (read_all first.0 first.0 bytes first.1 [] refl there value rest meaning cut)
    ∙ read_all first.0 first.0 bytes first.1 [] refl there other left means then) in
    let rests : rest ≡ left = ap (λ (p : List ℕ × List ℕ). p.1) read in
    (same_front value other rest left rests (sym cut.there ∙ then.there), ap (λ (p : List ℕ × List ℕ). p.0) read, rests)
