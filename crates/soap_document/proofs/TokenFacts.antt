-- What passes the tests of tokens is what the grammar has.
use Rattle.std.proofs.Common.{◌≡◌, ℕ, List, [], ◌∷◌, ◌++◌, true, ◌&&◌, nat_eq, Option, Some, None, refl, sym, ap₂}
use Rattle.std.proofs.Common.{subst}
use Rattle.std.proofs.lemmas.Bool.{eqb-true, and_parts}
use Rattle.xml_chars.specs.Classes.{is_space}
use Rattle.soap_document.specs.Grammar.{IsWhite, IsQName, unprefixed, prefixed}
use Rattle.soap_document.specs.Machine.{is_end}
use Rattle.soap_document.specs.Tokens.{is_white, is_name, is_qname, cut}
use Rattle.soap_document.proofs.Names.{IsName-from}
use Rattle.soap_document.specs.Cuts.{cut_from}
use Rattle.soap_lex.specs.Facts.{all_from_passes}

pub white_from : (bytes : List ℕ) → is_white bytes ≡ true → IsWhite bytes
white_from bytes e = all_from_passes is_space bytes e

-- ---- names

qname_of : (bytes : List ℕ) (o : Option (List ℕ × List ℕ)) → cut 58 bytes ≡ o → is_qname bytes ≡ true → IsQName bytes
unfolding is_qname
qname_of bytes None e h = unprefixed bytes (IsName-from bytes (rw (is_qname, e) at h))
qname_of bytes (Some p) e h =
    let both : (is_name p.0 && is_name p.1) ≡ true = rw (is_qname, e) at h in
    let (front, back) = and_parts (is_name p.0) (is_name p.1) both in
    subst IsQName (sym (cut_from 58 bytes p e)) (prefixed p.0 p.1 (IsName-from p.0 front) (IsName-from p.1 back))

pub qname_from : (bytes : List ℕ) → is_qname bytes ≡ true → IsQName bytes
qname_from bytes h = qname_of bytes (cut 58 bytes) refl h

-- ---- end tags

pub end_from : (name token : List ℕ) → is_end name token ≡ true → (space : List ℕ) × (token
    ≡ name ++ space) × IsWhite space
end_from [] token e = (token, refl, white_from token e)
end_from (b ∷ name) [] e = cc
end_from (b ∷ name) (c ∷ token) e =
    let (here, later) = and_parts (nat_eq b c) (is_end name token) e in
    let r = end_from name token later in
    (r.0, ap₂ (λ (x : ℕ) (xs : List ℕ). x ∷ xs) (sym (eqb-true b c here)) r.1, r.2)
