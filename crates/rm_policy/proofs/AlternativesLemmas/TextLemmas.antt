-- Of different alternatives come different texts.
use Rattle.std.proofs.Common.{◌≡◌, ◌≢◌, ◌≤◌, ◌<◌, ◌+◌, ◌-◌, ◌*◌, ◌/◌, ◌%◌, ◌^◌, ◌==◌, ℕ, zero, suc, List, [], ◌∷◌}
use Rattle.std.proofs.Common.{◌++◌, Bool}
use Rattle.std.proofs.Common.{true, false, ◌||◌, cond, refl, ap, sym, ◌∙◌, subst, arith, length, get_or}
use Rattle.std.proofs.Common.{append_assoc}
use Rattle.std.proofs.Common.{decimal, codes, nat_lt, inl, inr, ⊎_elim, ◌⊎◌}
use Rattle.std.specs.Char.{digit_value}
use Rattle.std.specs.List.{AllByRecursion, list_any}
use Rattle.std.specs.Prelude.{slice_index}
use Rattle.std.specs.Str.Parse.{AllDigits}
use Rattle.std.proofs.lemmas.Bool.{false≢true}
use Rattle.std.proofs.lemmas.Bool.Decides.{nat_tests}
use Rattle.std.proofs.lemmas.Fmt.{decimal_is_IsNumeral}
use Rattle.std.proofs.lemmas.List.{append_cancel_left}
use Rattle.hex.specs.Hex.{upper_digits}
use Rattle.soap_document.specs.declared.profile.name.Expanded.{Expanded}
use Rattle.rm_policy.specs.declared.assertion.Assurance.{Assurance}
use Rattle.rm_policy.specs.Texts.{assurance_word}
use Rattle.rm_policy.specs.declared.assertion.Assurance.TheVariants.{Unsaid, ExactlyOnce, AtLeastOnce, AtMostOnce}
use Rattle.rm_policy.specs.Alternatives.Texts.{is_plain, escaped_byte, escaped, order_text, term_text}
use Rattle.rm_policy.specs.Alternatives.Texts.{more_terms}
use Rattle.rm_policy.specs.Alternatives.Texts.{terms_text, alternative_line, lines_from, normal_text, IsTermNamed}
use Rattle.rm_policy.specs.Alternatives.Texts.{AreNamed}
use Rattle.rm_policy.specs.declared.alternatives.term.Term.{Term}
use Rattle.rm_policy.specs.declared.alternatives.term.Term.TheVariants.{Rm, Other}

-- ---- a byte that parts two lists
abbrev has : ℕ → List ℕ → Bool
has c xs = list_any (λ x. x == c) xs

or_false : (a b : Bool) → a ≡ false → b ≡ false → (a || b) ≡ false
or_false true b h g = absurd (false≢true (sym h))
or_false false b h g = g

or_left_false : (a b : Bool) → (a || b) ≡ false → a ≡ false
or_left_false true b h = absurd (false≢true (sym h))
or_left_false false b h = refl

or_right_false : (a b : Bool) → (a || b) ≡ false → b ≡ false
or_right_false true b h = absurd (false≢true (sym h))
or_right_false false b h = h

has-append : (c : ℕ) (xs ys : List ℕ) → has c xs ≡ false → has c ys ≡ false → has c (xs ++ ys) ≡ false
has-append c [] ys h g = g
has-append c (x ∷ xs) ys h g =
    or_false (x == c) (has c (xs ++ ys)) (or_left_false (x == c) (has c xs) h)
    (has-append c xs ys (or_right_false (x == c) (has c xs) h) g)

itself : (c : ℕ) → (c == c) ≡ true
itself c = grind (arith, nat_tests)

apart_heads : (a b : ℕ) (x y : List ℕ) → (a == b) ≡ false → a ∷ x ≡ b ∷ y → ⊥
apart_heads a b x y h e =
    let first : a ≡ b = cc in false≢true (sym h ∙ ap (λ k. k == b) first ∙ itself b)

-- a byte stands where it stands
stands : (c : ℕ) (xs ys : List ℕ) → has c (xs ++ c ∷ ys) ≡ true
stands c [] ys = ap (λ b. b || has c ys) (itself c)
stands c (x ∷ xs) ys = elim (x == c) as (λ b. (b || has c (xs ++ c ∷ ys)) ≡ true) [
  | true ↦ refl
  | false ↦ stands c xs ys
]

-- where neither front has it, it parts alike
split_first : (c : ℕ) (a b x y : List ℕ) → has c a ≡ false → has c b ≡ false → a ++ c ∷ x ≡ b ++ c ∷ y
    → (a ≡ b) × (x ≡ y)
split_first c [] [] x y h g e = (refl, cc)
split_first c [] (t ∷ b) x y h g e =
    let first : c ≡ t = cc in
    absurd (false≢true (sym (or_left_false (t == c) (has c b) g) ∙ ap (λ k. k == c) (sym first) ∙ itself c))
split_first c (s ∷ a) [] x y h g e =
    let first : s ≡ c = cc in
    absurd (false≢true (sym (or_left_false (s == c) (has c a) h) ∙ ap (λ k. k == c) first ∙ itself c))
split_first c (s ∷ a) (t ∷ b) x y h g e =
    let first : s ≡ t = cc in
    let others : a ++ c ∷ x ≡ b ++ c ∷ y = cc in
    let rest = split_first c a b x y (or_right_false (s == c) (has c a) h) (or_right_false (t == c) (has c b) g)
    others in
    ((λ i. first i ∷ rest.0 i), rest.1)

-- and where neither end has it
split_last : (c : ℕ) (a b x y : List ℕ) → has c x ≡ false → has c y ≡ false → a ++ c ∷ x ≡ b ++ c ∷ y
    → (a ≡ b) × (x ≡ y)
split_last c [] [] x y h g e = (refl, cc)
split_last c [] (t ∷ b) x y h g e =
    let others : x ≡ b ++ c ∷ y = cc in absurd (false≢true (sym h ∙ ap (has c) others ∙ stands c b y))
split_last c (s ∷ a) [] x y h g e =
    let others : a ++ c ∷ x ≡ y = cc in absurd (false≢true (sym g ∙ ap (has c) (sym others) ∙ stands c a x))
split_last c (s ∷ a) (t ∷ b) x y h g e =
    let first : s ≡ t = cc in
    let others : a ++ c ∷ x ≡ b ++ c ∷ y = cc in
    let rest = split_last c a b x y h g others in
    ((λ i. first i ∷ rest.0 i), rest.1)

-- ---- digits
abbrev digit : ℕ → ℕ
digit n = slice_index upper_digits n

-- what a digit stands for, and that it is one
record IsDigitOf (n : ℕ) : Type 0 where
  value : cond (nat_lt (digit n) 58) (digit n) (digit n - 7) ≡ n + 48
  low : 48 ≤ digit n
  high : digit n ≤ 70

digits : (n : ℕ) → n < 16 → IsDigitOf n
digits zero h = record { value = refl; low = omega arith; high = omega arith }
digits (suc zero) h = record { value = refl; low = omega arith; high = omega arith }
digits (suc (suc zero)) h = record { value = refl; low = omega arith; high = omega arith }
digits (suc (suc (suc zero))) h = record { value = refl; low = omega arith; high = omega arith }
digits (suc (suc (suc (suc zero)))) h = record { value = refl; low = omega arith; high = omega arith }
digits (suc (suc (suc (suc (suc zero))))) h = record { value = refl; low = omega arith; high = omega arith }
digits (suc (suc (suc (suc (suc (suc zero)))))) h = record { value = refl; low = omega arith; high = omega arith }
digits (suc (suc (suc (suc (suc (suc (suc zero))))))) h = record { value = refl; low = omega arith; high = omega arith }
digits (suc (suc (suc (suc (suc (suc (suc (suc zero)))))))) h = record {
  value = refl;
  low = omega arith;
  high = omega
      arith;
}
digits (suc (suc (suc (suc (suc (suc (suc (suc (suc zero))))))))) h = record {
  value = refl;
  low = omega arith;
  high =
      omega arith;
}
digits (suc (suc (suc (suc (suc (suc (suc (suc (suc (suc zero)))))))))) h = record {
  value = refl;
  low = omega arith;
  high = omega arith;
}
digits (suc (suc (suc (suc (suc (suc (suc (suc (suc (suc (suc zero))))))))))) h = record {
  value = refl;
  low = omega
      arith;
  high = omega arith;
}
digits (suc (suc (suc (suc (suc (suc (suc (suc (suc (suc (suc (suc zero)))))))))))) h = record {
  value = refl;
  low =
      omega arith;
  high = omega arith;
}
digits (suc (suc (suc (suc (suc (suc (suc (suc (suc (suc (suc (suc (suc zero))))))))))))) h = record {
  value = refl;
  low = omega arith;
  high = omega arith;
}
digits (suc (suc (suc (suc (suc (suc (suc (suc (suc (suc (suc (suc (suc (suc zero)))))))))))))) h = record {
  value =
      refl;
  low = omega arith;
  high = omega arith;
}
digits (suc (suc (suc (suc (suc (suc (suc (suc (suc (suc (suc (suc (suc (suc (suc zero))))))))))))))) h = record
    { value = refl; low = omega arith; high = omega arith }
digits (suc (suc (suc (suc (suc (suc (suc (suc (suc (suc (suc (suc (suc (suc (suc (suc n)))))))))))))))) h = absurd
    (omega arith)

same_digit : (n m : ℕ) → n < 16 → m < 16 → digit n ≡ digit m → n ≡ m
same_digit n m h g e =
    let one = (digits n h).value in
    let other = (digits m g).value in
    let same : n + 48 ≡ m + 48 = sym one ∙ ap (λ d. cond (nat_lt d 58) d (d - 7)) e ∙ other in
    omega (arith, same)

-- ---- escapes
bytes_split : (n : ℕ) → n < 256 → (n / 16 < 16) × (n % 16 < 16) × (n ≡ 16 * (n / 16) + n % 16)
bytes_split n h = (omega arith, omega arith, omega arith)

plain_percent : is_plain 37 ≡ false
plain_percent = refl

-- an escaped byte tells which it is
same_byte : (b c : ℕ) (x y : List ℕ) → b < 256 → c < 256 → escaped_byte b ++ x ≡ escaped_byte c ++ y → (b ≡ c) × (x ≡ y)
same_byte b c x y h g e = elim (is_plain b) as (λ p. is_plain b ≡ p
    → cond p (b ∷ []) (37 ∷ digit (b / 16) ∷ digit (b % 16) ∷ []) ++ x ≡ escaped_byte c ++ y → (b ≡ c) × (x ≡ y)) [
      | true ↦ λ pb. elim (is_plain c) as (λ q. is_plain c ≡ q
          → b ∷ x ≡ cond q (c ∷ []) (37 ∷ digit (c / 16) ∷ digit (c % 16) ∷ []) ++ y → (b ≡ c) × (x ≡ y)) [
            | true ↦ λ pc k. (cc, cc)
            | false ↦ λ pc k.
                let first : b ≡ 37 = cc in absurd (false≢true (sym (ap is_plain first ∙ plain_percent) ∙ pb))
          ] refl
      | false ↦ λ pb. elim (is_plain c) as (λ q. is_plain c ≡ q
          → 37 ∷ digit (b / 16) ∷ digit (b % 16) ∷ x ≡ cond q (c ∷ []) (37 ∷ digit (c / 16) ∷ digit (c % 16) ∷ []) ++ y
          → (b ≡ c) × (x ≡ y)) [
            | true ↦ λ pc k.
                let first : 37 ≡ c = cc in
                absurd (false≢true (sym (ap is_plain (sym first) ∙ plain_percent) ∙ pc))
            | false ↦ λ pc k.
                let high : digit (b / 16) ≡ digit (c / 16) = cc in
                let low : digit (b % 16) ≡ digit (c % 16) = cc in
                let s = bytes_split b h in
                let t = bytes_split c g in
                let one : b / 16 ≡ c / 16 = same_digit (b / 16) (c / 16) s.0 t.0 high in
                let other : b % 16 ≡ c % 16 = same_digit (b % 16) (c % 16) s.1 t.1 low in
                (omega (arith, s.2, t.2, one, other), cc)
          ] refl
    ] refl e

some_byte : (b : ℕ) (x : List ℕ) → [] ≡ escaped_byte b ++ x → ⊥
some_byte b x e = elim (is_plain b) as (λ p. [] ≡ cond p (b ∷ []) (37 ∷ digit (b / 16) ∷ digit (b % 16) ∷ []) ++ x
    → ⊥) [
      | true ↦ λ k. cc
      | false ↦ λ k. cc
    ] e

same_bytes : (s t : List ℕ) → AllByRecursion (λ b. b < 256) s → AllByRecursion (λ b. b < 256) t
    → escaped s ≡ escaped t → s ≡ t
same_bytes [] [] h g e = refl
same_bytes [] (c ∷ t) h g e = absurd (some_byte c (escaped t) e)
same_bytes (b ∷ s) [] h g e = absurd (some_byte b (escaped s) (sym e))
same_bytes (b ∷ s) (c ∷ t) h g e =
    let first = same_byte b c (escaped s) (escaped t) h.0 g.0 e in
    let rest = same_bytes s t h.1 g.1 first.1 in
    λ i. first.0 i ∷ rest i

apart : (a c : ℕ) → a ≢ c → (a == c) ≡ false
apart a c h = grind (arith, nat_tests, h)

outside : (c d : ℕ) → (c < 48) ⊎ (70 < c) → 48 ≤ d → d ≤ 70 → d ≢ c
outside c d nd low high e = ⊎_elim (λ l. omega (arith, l, low, e)) (λ r. omega (arith, r, high, e)) nd

-- a byte that is no digit and no % does not stand in escaped bytes, unless it stands there plain
free_byte : (c b : ℕ) → c ≢ 37 → (c < 48) ⊎ (70 < c) → b < 256 → (is_plain b ≡ true → b ≢ c) → has c (escaped_byte b)
    ≡ false
free_byte c b np nd h plain = elim (is_plain b) as (λ p. is_plain b ≡ p
    → has c (cond p (b ∷ []) (37 ∷ digit (b / 16) ∷ digit (b % 16) ∷ [])) ≡ false) [
      | true ↦ λ e. or_false (b == c) false (apart b c (plain e)) refl
      | false ↦ λ e.
          let s = bytes_split b h in
          let one = digits (b / 16) s.0 in
          let other = digits (b % 16) s.1 in
          or_false (37 == c) _ (apart 37 c (λ k. np (sym k)))
          (or_false (digit (b / 16) == c) _ (apart (digit (b / 16)) c (outside c (digit (b / 16)) nd one.low one.high))
          (or_false (digit (b % 16) == c) false
          (apart (digit (b % 16)) c (outside c (digit (b % 16)) nd other.low other.high)) refl))
    ] refl

free_bytes : (c : ℕ) (s : List ℕ) → c ≢ 37 → (c < 48) ⊎ (70 < c) → AllByRecursion (λ b. b < 256) s
    → AllByRecursion (λ b. is_plain b ≡ true → b ≢ c) s → has c (escaped s) ≡ false
free_bytes c [] np nd h plain = refl
free_bytes c (b ∷ s) np nd h plain =
    has-append c (escaped_byte b) (escaped s) (free_byte c b np nd h.0 plain.0) (free_bytes c s np nd h.1 plain.1)

never_plain : (c : ℕ) (s : List ℕ) → is_plain c ≡ false → AllByRecursion (λ b. is_plain b ≡ true → b ≢ c) s
never_plain c [] h = tt
never_plain c (b ∷ s) h = ((λ p e. false≢true (sym (ap is_plain e ∙ h) ∙ p)), never_plain c s h)

not_there : (c : ℕ) (s : List ℕ) → AllByRecursion (λ b. b ≢ c) s → AllByRecursion (λ b. is_plain b ≡ true → b ≢ c) s
not_there c [] h = tt
not_there c (b ∷ s) h = ((λ _. h.0), not_there c s h.1)

-- ---- terms
rm_at : List ℕ → Term
rm_at l =
    cond (get_or l 0 0 == 117) (Rm Unsaid (nat_lt 13 (length l)))
    (cond (get_or l 0 0 == 101) (Rm ExactlyOnce (nat_lt 13 (length l)))
    (cond (get_or l 3 0 == 108) (Rm AtLeastOnce (nat_lt 13 (length l))) (Rm AtMostOnce (nat_lt 13 (length l)))))

rm_back : (a : Assurance) (o : Bool) → rm_at (assurance_word a ++ order_text o) ≡ Rm a o
unfolding rm_at
rm_back Unsaid true = refl
rm_back Unsaid false = refl
rm_back ExactlyOnce true = refl
rm_back ExactlyOnce false = refl
rm_back AtLeastOnce true = refl
rm_back AtLeastOnce false = refl
rm_back AtMostOnce true = refl
rm_back AtMostOnce false = refl

rm_free_line : (a : Assurance) (o : Bool) → has 10 (term_text (Rm a o)) ≡ false
rm_free_line Unsaid true = refl
rm_free_line Unsaid false = refl
rm_free_line ExactlyOnce true = refl
rm_free_line ExactlyOnce false = refl
rm_free_line AtLeastOnce true = refl
rm_free_line AtLeastOnce false = refl
rm_free_line AtMostOnce true = refl
rm_free_line AtMostOnce false = refl

rm_free_comma : (a : Assurance) (o : Bool) → has 44 (term_text (Rm a o)) ≡ false
rm_free_comma Unsaid true = refl
rm_free_comma Unsaid false = refl
rm_free_comma ExactlyOnce true = refl
rm_free_comma ExactlyOnce false = refl
rm_free_comma AtLeastOnce true = refl
rm_free_comma AtLeastOnce false = refl
rm_free_comma AtMostOnce true = refl
rm_free_comma AtMostOnce false = refl

other_text : (name : Expanded)
    → term_text (Other name) ≡ 123 ∷ (escaped name.space ++ 125 ∷ escaped name.local)
other_text name = refl

-- no line ends in a term, and no comma stands in it
term_free_line : (t : Term) → IsTermNamed t → has 10 (term_text t) ≡ false
term_free_line (Rm a o) n = rm_free_line a o
term_free_line (Other name) n =
    ap (has 10) (other_text name) ∙ has-append 10 (escaped name.space) (125 ∷ escaped name.local)
    (free_bytes 10 name.space (λ e. omega arith) (inl (omega arith)) n.space (never_plain 10 name.space refl))
    (free_bytes 10 name.local (λ e. omega arith) (inl (omega arith)) n.local (never_plain 10 name.local refl))

term_free_comma : (t : Term) → IsTermNamed t → has 44 (term_text t) ≡ false
term_free_comma (Rm a o) n = rm_free_comma a o
term_free_comma (Other name) n =
    ap (has 44) (other_text name) ∙ has-append 44 (escaped name.space) (125 ∷ escaped name.local)
    (free_bytes 44 name.space (λ e. omega arith) (inl (omega arith)) n.space (never_plain 44 name.space refl))
    (free_bytes 44 name.local (λ e. omega arith) (inl (omega arith)) n.local (never_plain 44 name.local refl))

same_term : (t u : Term) → IsTermNamed t → IsTermNamed u → term_text t ≡ term_text u → t ≡ u
same_term (Rm a o) (Rm b p) n m e =
    let rest : assurance_word a ++ order_text o ≡ assurance_word b ++ order_text p =
    append_cancel_left (codes "rm:") (assurance_word a ++ order_text o) (assurance_word b ++ order_text p) e in
    sym (rm_back a o) ∙ ap rm_at rest ∙ rm_back b p
same_term (Rm a o) (Other name) n m e = absurd (apart_heads 114 123 _ _ refl e)
same_term (Other name) (Rm a o) n m e = absurd (apart_heads 123 114 _ _ refl e)
same_term (Other name) (Other other) n m e =
    let inner : escaped name.space ++ 125 ∷ escaped name.local ≡ escaped other.space ++ 125 ∷ escaped other.local =
    append_cancel_left (123 ∷ []) (escaped name.space ++ 125 ∷ escaped name.local)
    (escaped other.space ++ 125 ∷ escaped other.local) (sym (other_text name) ∙ e ∙ other_text other) in
    let parts = split_last 125 (escaped name.space) (escaped other.space) (escaped name.local) (escaped other.local)
    (free_bytes 125 name.local (λ k. omega arith) (inr (omega arith)) n.local (not_there 125 name.local n.no_brace))
    (free_bytes 125 other.local (λ k. omega arith) (inr (omega arith)) m.local (not_there 125 other.local m.no_brace))
    inner in
    let space : name.space ≡ other.space = same_bytes name.space other.space n.space m.space parts.0 in
    let local : name.local ≡ other.local = same_bytes name.local other.local n.local m.local parts.1 in
    λ i. Other (record { space = space i; local = local i })

-- ---- alternatives
more_free_line : (ts : List Term) → AllByRecursion IsTermNamed ts → has 10 (more_terms ts) ≡ false
more_free_line [] n = refl
more_free_line (t ∷ ts) n =
    has-append 10 (term_text t) (more_terms ts) (term_free_line t n.0) (more_free_line ts n.1)

terms_free_line : (ts : List Term) → AllByRecursion IsTermNamed ts → has 10 (terms_text ts) ≡ false
terms_free_line [] n = refl
terms_free_line (t ∷ ts) n =
    has-append 10 (term_text t) (more_terms ts) (term_free_line t n.0) (more_free_line ts n.1)

end_nil : (l : List ℕ) → l ++ [] ≡ l
end_nil [] = refl
end_nil (x ∷ l) = ap (λ k. x ∷ k) (end_nil l)

same_more : (t u : Term) (ts us : List Term) → IsTermNamed t → IsTermNamed u → AllByRecursion IsTermNamed ts
    → AllByRecursion IsTermNamed us → term_text t ++ more_terms ts ≡ term_text u ++ more_terms us → t ∷ ts ≡ u ∷ us
same_more t u [] [] n m ns ms e =
    let same : t ≡ u = same_term t u n m (sym (end_nil (term_text t)) ∙ e ∙ end_nil (term_text u)) in λ i. same i ∷ []
same_more t u [] (v ∷ us) n m ns ms e =
    absurd (false≢true (sym (term_free_comma t n) ∙ ap (has 44) (sym (end_nil (term_text t)) ∙ e)
    ∙ stands 44 (term_text u) (term_text v ++ more_terms us)))
same_more t u (s ∷ ts) [] n m ns ms e =
    absurd (false≢true (sym (term_free_comma u m) ∙ ap (has 44) (sym (end_nil (term_text u)) ∙ sym e)
    ∙ stands 44 (term_text t) (term_text s ++ more_terms ts)))
same_more t u (s ∷ ts) (v ∷ us) n m ns ms e =
    let parts = split_first 44 (term_text t) (term_text u) (term_text s ++ more_terms ts) (term_text v ++ more_terms us)
    (term_free_comma t n) (term_free_comma u m) e in
    let same : t ≡ u = same_term t u n m parts.0 in
    let rest : s ∷ ts ≡ v ∷ us = same_more s v ts us ns.0 ms.0 ns.1 ms.1 parts.1 in
    λ i. same i ∷ rest i

-- a term does not begin as no terms do
no_dash : (t : Term) (x : List ℕ) → 45 ∷ [] ≡ term_text t ++ x → ⊥
no_dash (Rm a o) x e = apart_heads 45 114 _ _ refl e
no_dash (Other name) x e = apart_heads 45 123 _ _ refl e

same_terms : (ts us : List Term) → AllByRecursion IsTermNamed ts → AllByRecursion IsTermNamed us
    → terms_text ts ≡ terms_text us → ts ≡ us
same_terms [] [] n m e = refl
same_terms [] (u ∷ us) n m e = absurd (no_dash u (more_terms us) e)
same_terms (t ∷ ts) [] n m e = absurd (no_dash t (more_terms ts) (sym e))
same_terms (t ∷ ts) (u ∷ us) n m e = same_more t u ts us n.0 m.0 n.1 m.1 e

line_parts : (number : ℕ) (ts : List Term) (x : List ℕ) → alternative_line number ts ++ x
    ≡ (codes "alt " ++ decimal number ++ codes " ") ++ (terms_text ts ++ 10 ∷ x)
line_parts number ts x = simp append_assoc

same_lines : (number : ℕ) (lists others : List (List Term)) → AllByRecursion (AllByRecursion IsTermNamed) lists
    → AllByRecursion (AllByRecursion IsTermNamed) others → lines_from number lists ≡ lines_from number others
    → lists ≡ others
same_lines number [] [] n m e = refl
same_lines number [] (us ∷ others) n m e = absurd (cc)
same_lines number (ts ∷ lists) [] n m e = absurd (cc)
same_lines number (ts ∷ lists) (us ∷ others) n m e =
    let inner : terms_text ts ++ 10 ∷ lines_from (number + 1) lists ≡ terms_text us ++ 10 ∷ lines_from (number + 1)
    others =
    append_cancel_left (codes "alt " ++ decimal number ++ codes " ") _ _
    (sym (line_parts number ts (lines_from (number + 1) lists)) ∙ e
    ∙ line_parts number us (lines_from (number + 1) others)) in
    let parts = split_first 10 (terms_text ts) (terms_text us) (lines_from (number + 1) lists)
    (lines_from (number + 1) others) (terms_free_line ts n.0) (terms_free_line us m.0) inner in
    let first : ts ≡ us = same_terms ts us n.0 m.0 parts.0 in
    let rest : lists ≡ others = same_lines (number + 1) lists others n.1 m.1 parts.1 in
    λ i. first i ∷ rest i

no_digit : digit_value 10 < 10 → ⊥
no_digit h = omega arith

digits_free_line : (ds : List ℕ) → AllDigits 10 ds → has 10 ds ≡ false
digits_free_line [] h = refl
digits_free_line (d ∷ ds) h =
    or_false (d == 10) (has 10 ds)
    (apart d 10 (λ e. no_digit (subst (λ k. digit_value k < 10) e h.0))) (digits_free_line ds h.1)

first_line : (lists : List (List Term)) → normal_text lists
    ≡ (codes "alternatives " ++ decimal (length lists)) ++ 10 ∷ lines_from 1 lists
first_line lists = simp append_assoc

first_free : (lists : List (List Term)) → length lists < 2 ^ 64
    → has 10 (codes "alternatives " ++ decimal (length lists)) ≡ false
first_free lists w =
    has-append 10 (codes "alternatives ") (decimal (length lists)) refl
    (digits_free_line (decimal (length lists)) (decimal_is_IsNumeral (length lists) w).0.1)

-- alternatives of one text are the same
pub same_text : (lists others : List (List Term)) → AreNamed lists → AreNamed others
    → normal_text lists ≡ normal_text others → lists ≡ others
same_text lists others n m e =
    let parts = split_first 10 (codes "alternatives " ++ decimal (length lists))
    (codes "alternatives " ++ decimal (length others)) (lines_from 1 lists) (lines_from 1 others)
    (first_free lists n.counted) (first_free others m.counted) (sym (first_line lists) ∙ e ∙ first_line others) in
    same_lines 1 lists others n.each m.each parts.1
