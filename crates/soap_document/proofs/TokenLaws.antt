-- The tests of tokens, against the grammar.
use Rattle.std.proofs.Common.{◌≡◌, ℕ, List, [], ◌∷◌, ◌++◌, true, false, nat_eq, refl}
use Rattle.std.proofs.Common.{arith}
use Rattle.std.specs.List.{AllByRecursion}
use Rattle.std.proofs.lemmas.Bool.{eq-eqb, or_from, false_from_ne_true}
use Rattle.std.proofs.lemmas.Bool.Decides.{nat_tests}
use Rattle.xml_chars.specs.Classes.{is_space}
use Rattle.soap_document.specs.Grammar.{IsWhite, IsQName, unprefixed, prefixed}
use Rattle.soap_document.specs.Machine.{outside, less, naming, ending, stops, is_end}
use Rattle.soap_document.specs.Tokens.{is_white, is_qname}
use Rattle.soap_lex.specs.Tests.{is_nil}
use Rattle.soap_document.proofs.Moves.{NoStops}
use Rattle.soap_document.proofs.Names.{name_passes, name_some}
use Rattle.soap_document.specs.Cuts.{cut_none, cut-append}
use Rattle.soap_lex.specs.Facts.{all_passes, all_weaker, other, not_nil}
use Rattle.soap_lex.specs.NameBytes.{all_append, IsNameByte, name_bytes}

-- ---- what the grammar has passes the tests, and no byte of it ends a token

is_space-name : (c : ℕ) → IsNameByte c → is_space c ≡ false
is_space-name c h = false_from_ne_true (is_space c) (λ e. grind (
  arith,
  nat_tests,
  h 9 (omega arith) refl,
  h 10 (omega arith) refl,
  h 13 (omega arith) refl,
  h 32 (omega arith) refl,
))

naming_byte : (c : ℕ) → IsNameByte c → stops naming c ≡ false
naming_byte c h =
    or_from _ _ (is_space-name c h) (or_from _ _ (h 62 (omega arith) refl) (or_from _ _ (h 47 (omega arith) refl)
    (or_from _ _ (h 61 (omega arith) refl) (or_from _ _ (h 33 (omega arith) refl) (h 63 (omega arith) refl)))))

no_colon : (name : List ℕ) → AllByRecursion IsNameByte name → AllByRecursion (λ c. nat_eq c 58 ≡ false) name
no_colon name h = all_weaker IsNameByte (λ c. nat_eq c 58 ≡ false) (λ c b. b 58 (omega arith) refl) name h

pub qname_passes : (name : List ℕ) → IsQName name → is_qname name ≡ true
unfolding is_qname
qname_passes name (unprefixed n h) = rw (is_qname, cut_none 58 n (no_colon n (name_bytes n h))) (name_passes n h)
qname_passes name (prefixed p n h k) =
    let cuts = cut-append 58 p n (no_colon p (name_bytes p h)) in
    rw (is_qname, cuts, name_passes p h) (name_passes n k)

pub qname_some : (name : List ℕ) → IsQName name → is_nil name ≡ false
qname_some name (unprefixed n h) = not_nil n (name_some n h)
qname_some name (prefixed [] n h k) = refl
qname_some name (prefixed (c ∷ p) n h k) = refl

qname_bytes : (P : ℕ → Type 0) → ((c : ℕ) → IsNameByte c → P c) → P 58 → (name : List ℕ) → IsQName name
    → AllByRecursion P name
qname_bytes P f colon name (unprefixed n h) = all_weaker IsNameByte P f n (name_bytes n h)
qname_bytes P f colon name (prefixed p n h k) = all_append P p (58 ∷ n) (all_weaker IsNameByte P f p (name_bytes p
    h)) (colon, all_weaker IsNameByte P f n (name_bytes n k))

pub qname_less : (name : List ℕ) → IsQName name → NoStops less name
qname_less name h = qname_bytes (λ c. stops less c ≡ false) naming_byte refl name h

pub qname_ending : (name : List ℕ) → IsQName name → NoStops ending name
qname_ending name h = qname_bytes (λ c. stops ending c ≡ false) (λ c b. b 62 (omega arith) refl) refl name h

pub white_passes : (space : List ℕ) → IsWhite space → is_white space ≡ true
white_passes space h = all_passes is_space space h

pub white_outside : (space : List ℕ) → IsWhite space → NoStops outside space
white_outside space h = all_weaker (λ c. is_space c ≡ true) (λ c. stops outside c ≡ false)
    (λ c e. other is_space c 60 e refl) space h

pub white_ending : (space : List ℕ) → IsWhite space → NoStops ending space
white_ending space h = all_weaker (λ c. is_space c ≡ true) (λ c. stops ending c
    ≡ false) (λ c e. other is_space c 62 e refl) space h

pub end_begins : (name space : List ℕ) → is_end name (name ++ space) ≡ is_white space
end_begins [] space = refl
end_begins (b ∷ name) space = rw (eq-eqb b b refl) (end_begins name space)
