-- The parts of a written name: Namespaces in XML 1.0, section 4.
use Rattle.std.proofs.Common.{◌≡◌, ◌≢◌, ℕ, false, nat_eq, List, [], ◌∷◌, ◌++◌, length, refl, sym, ap, subst, ◌∙◌, arith}
use Rattle.std.specs.Prelude.{encode_utf8, encode_utf8_all}
use Rattle.std.specs.List.{AllByRecursion}
use Rattle.std.proofs.lemmas.List.{length-append}
use Rattle.std.proofs.lemmas.Str.{length-encode, len_utf8_bounds}
use Rattle.soap_lex.specs.Characters.{IsName}
use Rattle.soap_lex.specs.Facts.{all_weaker}
use Rattle.soap_lex.specs.NameBytes.{IsNameByte, name_bytes}
use Rattle.soap_document.specs.Cuts.{cut_none, cut-append}
use Rattle.soap_document.specs.Grammar.{IsQName, unprefixed, prefixed}
use Rattle.soap_document.specs.Profile.Namespaces.{split}

-- a local name, which is all of it where there is no prefix
pub record IsParted (name : List ℕ) : Type 0 where
  pub local : IsName (split name).1
  pub whole : (split name).0 ≡ [] → name ≡ (split name).1

name_some : (bytes : List ℕ) → IsName bytes → bytes ≢ []
name_some bytes is e = omega (
  arith,
  ap length (sym is.coded ∙ e),
  length-append (encode_utf8 is.first) (encode_utf8_all is.others),
  length-encode is.first,
  len_utf8_bounds is.first,
)

no_colon : (bytes : List ℕ) → IsName bytes → AllByRecursion (λ c. nat_eq c 58 ≡ false) bytes
no_colon bytes is =
    all_weaker IsNameByte (λ c. nat_eq c 58 ≡ false) (λ c h. h 58 (omega arith) refl) bytes (name_bytes bytes is)

parted_at : (name : List ℕ) (p : List ℕ × List ℕ) → split name ≡ p → IsName p.1 → (p.0 ≡ [] → name ≡ p.1)
    → IsParted name
parted_at name p e local whole = record {
  local = subst (λ (q : List ℕ × List ℕ). IsName q.1) (sym e) local;
  whole = subst (λ (q : List ℕ × List ℕ). q.0 ≡ [] → name ≡ q.1) (sym e) whole;
}

pub parted : {name : List ℕ} → IsQName name → IsParted name
parted (unprefixed name is) =
    parted_at name ([], name) (rw (cut_none 58 name (no_colon name is), split) refl) is (λ e. refl)
parted (prefixed prefix local p is) =
    parted_at (prefix ++ 58 ∷ local) (prefix, local)
    (rw (cut-append 58 prefix local (no_colon prefix p), split) refl) is (λ e. absurd (name_some prefix p e))
