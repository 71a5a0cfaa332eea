-- What was read at a place in the bytes, from what was read at the front of the rest.
use Rattle.std.proofs.Common.{◌≡◌, ℕ, ◌+◌, ◌-◌, ◌≤◌, List, ◌++◌, length, take, drop, refl, sym, ap, ◌∙◌, subst, arith}
use Rattle.std.proofs.Common.{length-append, length-drop}
use Rattle.std.proofs.lemmas.List.{take_at, drop_at, drop-drop}
use Rattle.soap_lex.specs.Cut.{IsTextFirst, IsValueFirst, ReadsText, ReadsValue}

-- a front of the rest from a place ends there
pub record Placed (bytes : List ℕ) (at : ℕ) (front rest : List ℕ) : Type 0 where
  pub low : at ≤ length bytes - length rest
  pub front_is : front ≡ take (length bytes - length rest - at) (drop at bytes)
  pub rest_is : rest ≡ drop (length bytes - length rest) bytes

placed : (bytes : List ℕ) (at : ℕ) (front rest : List ℕ) → at ≤ length bytes → drop at bytes ≡ front ++ rest
    → Placed bytes at front rest
placed bytes at front rest within there =
    let total : length bytes - at ≡ length front + length rest = sym (length-drop at bytes) ∙ ap length there
    ∙ length-append front rest in
    let size : length front ≡ length bytes - length rest - at = omega arith in
    let end : at + length front ≡ length bytes - length rest = omega arith in
    record {
      low = omega arith;
      front_is = sym (take_at front rest (length bytes - length rest - at) size)
          ∙ ap (λ l. take (length bytes - length rest - at) l) (sym there);
      rest_is = sym (drop_at front rest (length front) refl) ∙ ap (λ l. drop (length front) l) (sym there)
          ∙ drop-drop (length front) at bytes
          ∙ ap (λ n. drop n bytes) end;
    }

pub reads_text : (bytes : List ℕ) (at : ℕ) (text rest meaning old new : List ℕ) → at ≤ length bytes
    → IsTextFirst (drop at bytes) text rest meaning
    → new ≡ old ++ meaning → ReadsText bytes at (length bytes - length rest) old new
reads_text bytes at text rest meaning old new within cut appended =
    let place = placed bytes at text rest within cut.there in
    let P : List ℕ → Type 0 = λ l. IsTextFirst (drop at bytes) l rest meaning in
    let Q : List ℕ → Type 0 =
    λ l. IsTextFirst (drop at bytes) (take (length bytes - length rest - at) (drop at bytes)) l meaning in
    record {
      meaning = meaning;
      low = place.low;
      high = omega arith;
      first =
          subst Q place.rest_is (subst P place.front_is cut);
      appended = appended;
    }

pub reads_value : (bytes : List ℕ) (at : ℕ) (value rest meaning old new : List ℕ) → at ≤ length bytes
    → IsValueFirst (drop at bytes) value rest meaning
    → new ≡ old ++ meaning → ReadsValue bytes at (length bytes - length rest) old new
reads_value bytes at value rest meaning old new within cut appended =
    let place = placed bytes at value rest within cut.there in
    let P : List ℕ → Type 0 = λ l. IsValueFirst (drop at bytes) l rest meaning in
    let Q : List ℕ → Type 0 =
    λ l. IsValueFirst (drop at bytes) (take (length bytes - length rest - at) (drop at bytes)) l meaning in
    record {
      meaning = meaning;
      low = place.low;
      high = omega arith;
      first =
          subst Q place.rest_is (subst P place.front_is cut);
      appended = appended;
    }
