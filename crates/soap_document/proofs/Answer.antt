-- What the code's tests answer, as the tests of specs/.
use Rattle.std.proofs.Common.{◌≡◌, ◌≢◌, ℕ, ◌+◌, ◌-◌, List, [], ◌∷◌, ◌++◌, true, false, ◌&&◌, nat_eq}
use Rattle.std.proofs.Common.{Option, Some, None, option_map, MatchOption, Bor, length, get_or, take, drop, refl, sym}
use Rattle.std.proofs.Common.{ap, ap₂, ◌∙◌, arith, length-drop}
use Rattle.std.proofs.lemmas.Bool.{eqb-true, and_parts, false_from_ne_true}
use Rattle.std.proofs.lemmas.List.{take_all}
use Rattle.memchr.specs.Find.{IsFirstByte, is_byte}
use Rattle.soap_document.specs.Machine.{is_end}
use Rattle.soap_document.specs.Declaration.{after}
use Rattle.soap_document.specs.Tokens.{is_name, is_qname, cut}
use Rattle.soap_lex.specs.Tests.{begins}
use Rattle.soap_document.proofs.Declarations.{after-append}
use Rattle.soap_document.specs.Cuts.{cut-append}
use Rattle.soap_lex.specs.Facts.{front_from_begins}
use Rattle.soap_lex.specs.First.{around, front_fails}

-- ---- the first byte that passes a test

pub take_rest : (n : ℕ) (xs : List ℕ) → take (length xs - n) (drop n xs) ≡ drop n xs
take_rest n xs = take_all (length xs - n) (drop n xs) (omega (arith, length-drop n xs))

pub cut_answer : (k : ℕ) (bytes : List ℕ) (n : ℕ) → IsFirstByte (is_byte k) bytes (Some n)
    → Some (take n bytes, take (length bytes - (n + 1)) (drop (n + 1) bytes)) ≡ cut k bytes
cut_answer k bytes n found =
    let is : get_or bytes n 0 ≡ k = eqb-true (get_or bytes n 0) k found.1 in
    ap (λ (x : List ℕ). Some (take n bytes, x)) (take_rest (n + 1) bytes)
    ∙ sym (ap (cut k) (around (is_byte k) bytes n found ∙ ap (λ c. take n bytes ++ c ∷ drop (n + 1) bytes) is)
    ∙ cut-append k (take n bytes) (drop (n + 1) bytes) (front_fails (is_byte k) bytes n found))

-- ---- a front and an end

end_front : (name token : List ℕ) → is_end name token ≡ true → (rest : List ℕ) × (token ≡ name ++ rest)
end_front [] token e = (token, refl)
end_front (b ∷ name) [] e = cc
end_front (b ∷ name) (c ∷ token) e =
    let (here, later) = and_parts (nat_eq b c) (is_end name token) e in
    let r = end_front name token later in
    (r.0, ap₂ (λ (x : ℕ) (xs : List ℕ). x ∷ xs) (sym (eqb-true b c here)) r.1)

pub end_none : (name token : List ℕ) → ((rest : List ℕ) → token ≢ name ++ rest) → false ≡ is_end name token
end_none name token h = sym (false_from_ne_true (is_end name token) (λ e. let r = end_front name token e in h r.0 r.1))

-- ---- a prefix and a name

pub qname_parts : (bytes : List ℕ) {prefix name : List ℕ} → Some (prefix, name) ≡ cut 58 bytes
    → (is_name prefix && is_name name) ≡ is_qname bytes
unfolding is_qname
qname_parts bytes e = rw (is_qname, ← e)

pub qname_whole : (bytes : List ℕ) → None ≡ cut 58 bytes → is_name bytes ≡ is_qname bytes
unfolding is_qname
qname_whole bytes e = rw (is_qname, ← e)

pub after_cases : (word bytes : List ℕ) (r : Option (Bor (List ℕ))) → MatchOption r ((rest : List ℕ)
    → bytes ≢ word ++ rest) (λ x. bytes ≡ word ++ x.now) → option_map (λ (x : Bor (List ℕ)). x.now) r
    ≡ after word bytes
after_cases word bytes None h = rw (false_from_ne_true (begins word bytes) (λ e. h (drop (length word) bytes)
    (front_from_begins word bytes e)))
after_cases word bytes (Some x) h = sym (ap (after word) h ∙ after-append word x.now)
