-- Bindings have a scope: in the order of their prefixes, without xml and without what is undeclared.
use Rattle.std.proofs.Common.{◌≡◌, ◌≢◌, ℕ, Bool, true, false, if◌then◌else◌, List, [], ◌∷◌, Option, Some, None, codes}
use Rattle.std.proofs.Common.{refl, sym, ap, subst, ◌∙◌, Ordering, Less, Equal, Greater, nat_cmp, is_eq}
use Rattle.std.specs.Cmp.Lexicographic.{slice_cmp}
use Rattle.std.specs.List.{AllByRecursion}
use Rattle.std.specs.Prelude.{IsTrue}
use Rattle.std.specs.Ordering.{is_lt, ordering_reverse}
use Rattle.std.specs.Str.{bytes_eq}
use Rattle.std.proofs.lemmas.Bool.{true≢false}
use Rattle.std.proofs.lemmas.Cmp.{nat_list_cmp_total}
use Rattle.std.proofs.lemmas.Map.Text.{is_eq-slice_cmp}
use Rattle.rm_base.specs.declared.message.Binding.{Binding}
use Rattle.soap_lex.specs.Facts.{same, equal}
use Rattle.soap_lex.specs.Tests.{is_nil}
use Rattle.soap_envelope.specs.Scope.{declared, Rises, IsScope}
use Rattle.soap_document.specs.Profile.Namespaces.{bound}
use Rattle.rm_wire.proofs.Soap11Lemmas.Free.{absent, others_by}

-- ---- orders

abbrev Above : List ℕ → List Binding → Type 0
Above p bs = AllByRecursion (λ (c : Binding). IsTrue (is_lt (slice_cmp nat_cmp p c.prefix))) bs

less_is : (o : Ordering) → is_lt o ≡ true → o ≡ Less
less_is Less h = refl
less_is Equal h = cc
less_is Greater h = cc

above_lower : (x p : List ℕ) (bs : List Binding) → slice_cmp nat_cmp x p ≡ Less → Above p bs → Above x bs
above_lower x p [] e h = tt
above_lower x p (b ∷ bs) e h = (
  ap is_lt (nat_list_cmp_total.trans x p b.prefix e (less_is (slice_cmp nat_cmp p b.prefix) h.0)),
  above_lower x p bs e h.1,
)

turned : (a b : List ℕ) → slice_cmp nat_cmp a b ≡ Greater → slice_cmp nat_cmp b a ≡ Less
turned a b e = nat_list_cmp_total.antisymm b a ∙ ap ordering_reverse e

equal_prefix : (a b : List ℕ) → slice_cmp nat_cmp a b ≡ Equal → a ≡ b
equal_prefix a b e = same a b (sym (is_eq-slice_cmp a b) ∙ ap is_eq e)

-- ---- a binding put in its place

abbrev put_at : Ordering → Binding → Binding → List Binding → List Binding → List Binding
put_at Less b c cs rest = b ∷ (c ∷ cs)
put_at Equal b c cs rest = b ∷ cs
put_at Greater b c cs rest = c ∷ rest

abbrev put : Binding → List Binding → List Binding
put b [] = b ∷ []
put b (c ∷ cs) = put_at (slice_cmp nat_cmp b.prefix c.prefix) b c cs (put b cs)

twice : (t : Bool) (x y o : Option (List ℕ)) → (if t then x else o) ≡ (if t then x else (if t then y else o))
twice true x y o = refl
twice false x y o = refl

exchanged : (t u : Bool) (x y o : Option (List ℕ)) → (t ≡ true → u ≡ true → ⊥)
    → (if u then x else (if t then y else o)) ≡ (if t then y else (if u then x else o))
exchanged true true x y o f = absurd (f refl refl)
exchanged true false x y o f = refl
exchanged false u x y o f = refl

not_both : (a b q : List ℕ) → (a ≡ b → ⊥) → bytes_eq b q ≡ true → bytes_eq a q ≡ true → ⊥
not_both a b q f d e = f (same a q e ∙ sym (same b q d))

greater_other : (a b : List ℕ) → slice_cmp nat_cmp b a ≡ Greater → a ≡ b → ⊥
greater_other a b e is =
    let one : bytes_eq b a ≡ true = equal b a (sym is) in
    let other : bytes_eq b a ≡ false = sym (is_eq-slice_cmp b a) ∙ ap is_eq e in
    true≢false (sym one ∙ other)

bound_at : (q : List ℕ) (b c : Binding) (cs rest : List Binding) (o : Ordering)
    → slice_cmp nat_cmp b.prefix c.prefix ≡ o
    → bound q rest ≡ (if bytes_eq b.prefix q then Some b.space else bound q cs)
    → bound q (put_at o b c cs rest) ≡ (if bytes_eq b.prefix q then Some b.space else bound q (c ∷ cs))
bound_at q b c cs rest Less e h = refl
bound_at q b c cs rest Equal e h =
    let is : bytes_eq b.prefix q ≡ bytes_eq c.prefix q = ap (λ p. bytes_eq p q) (equal_prefix b.prefix c.prefix e) in
    subst (λ (u : Bool). (if bytes_eq b.prefix q then Some b.space else bound q cs)
    ≡ (if bytes_eq b.prefix q then Some b.space else (if u then Some c.space else bound q cs))) is
    (twice (bytes_eq b.prefix q) (Some b.space) (Some c.space) (bound q cs))
bound_at q b c cs rest Greater e h =
    ap (λ o. if bytes_eq c.prefix q then Some c.space else o) h
    ∙ exchanged (bytes_eq b.prefix q) (bytes_eq c.prefix q) (Some c.space) (Some b.space) (bound q cs)
    (not_both c.prefix b.prefix q (greater_other c.prefix b.prefix e))

put_bound : (q : List ℕ) (b : Binding) (xs : List Binding)
    → bound q (put b xs) ≡ (if bytes_eq b.prefix q then Some b.space else bound q xs)
put_bound q b [] = refl
put_bound q b (c ∷ cs) =
    bound_at q b c cs (put b cs) (slice_cmp nat_cmp b.prefix c.prefix) refl (put_bound q b cs)

above_at : (x : List ℕ) (b c : Binding) (cs rest : List Binding) (o : Ordering) → slice_cmp nat_cmp x b.prefix ≡ Less
    → Above x (c ∷ cs) → Above x rest → Above x (put_at o b c cs rest)
above_at x b c cs rest Less e h r = (ap is_lt e, h)
above_at x b c cs rest Equal e h r = (ap is_lt e, h.1)
above_at x b c cs rest Greater e h r = (h.0, r)

above_put : (x : List ℕ) (b : Binding) (xs : List Binding) → slice_cmp nat_cmp x b.prefix ≡ Less → Above x xs
    → Above x (put b xs)
above_put x b [] e h = (ap is_lt e, tt)
above_put x b (c ∷ cs) e h =
    above_at x b c cs (put b cs) (slice_cmp nat_cmp b.prefix c.prefix) e h (above_put x b cs e h.1)

rises_at : (b c : Binding) (cs : List Binding) (o : Ordering) → slice_cmp nat_cmp b.prefix c.prefix ≡ o
    → Rises (c ∷ cs) → Rises (put b cs) → Rises (put_at o b c cs (put b cs))
rises_at b c cs Less e r h = ((ap is_lt e, above_lower b.prefix c.prefix cs e r.0), r)
rises_at b c cs Equal e r h =
    (subst (λ p. Above p cs) (sym (equal_prefix b.prefix c.prefix e)) r.0, r.1)
rises_at b c cs Greater e r h = (above_put c.prefix b cs (turned b.prefix c.prefix e) r.0, h)

rises_put : (b : Binding) (xs : List Binding) → Rises xs → Rises (put b xs)
rises_put b [] r = (tt, tt)
rises_put b (c ∷ cs) r = rises_at b c cs (slice_cmp nat_cmp b.prefix c.prefix) refl r (rises_put b cs r.1)

-- ---- a prefix taken out

abbrev cut : List ℕ → List Binding → List Binding
cut p [] = []
cut p (c ∷ cs) = if bytes_eq c.prefix p then cs else c ∷ cut p cs

either : (t : Bool) (o : Option (List ℕ)) → o ≡ (if t then o else o)
either true o = refl
either false o = refl

-- what rises behind a prefix doesn't bind it
gone_at : (t : Bool) (x o : Option (List ℕ)) → (t ≡ true → o ≡ None) → o ≡ (if t then None else (if t then x else o))
gone_at true x o f = f refl
gone_at false x o f = refl

cut_at : (q p : List ℕ) (c : Binding) (cs : List Binding) (t : Bool) → bytes_eq c.prefix p ≡ t → Rises (c ∷ cs)
    → bound q (cut p cs) ≡ (if bytes_eq p q then None else bound q cs)
    → bound q (if t then cs else c ∷ cut p cs) ≡ (if bytes_eq p q then None else bound q (c ∷ cs))
cut_at q p c cs true e r h =
    let is : c.prefix ≡ p = same c.prefix p e in
    subst (λ l. bound q cs ≡ (if bytes_eq l q then None else bound q (c ∷ cs))) is
    (gone_at (bytes_eq c.prefix q) (Some c.space) (bound q cs) (λ d.
    subst (λ l. bound l cs ≡ None) (same c.prefix q d) (absent c.prefix cs (others_by c.prefix cs r.0))))
cut_at q p c cs false e r h =
    ap (λ o. if bytes_eq c.prefix q then Some c.space else o) h
    ∙ exchanged (bytes_eq p q) (bytes_eq c.prefix q) (Some c.space) None (bound q cs)
    (not_both c.prefix p q (λ is. true≢false (sym (equal c.prefix p is) ∙ e)))

cut_bound : (q p : List ℕ) (xs : List Binding) → Rises xs
    → bound q (cut p xs) ≡ (if bytes_eq p q then None else bound q xs)
cut_bound q p [] r = either (bytes_eq p q) None
cut_bound q p (c ∷ cs) r = cut_at q p c cs (bytes_eq c.prefix p) refl r (cut_bound q p cs r.1)

above_without : (x p : List ℕ) (c : Binding) (cs : List Binding) (t : Bool) → Above x (c ∷ cs) → Above x (cut p cs)
    → Above x (if t then cs else c ∷ cut p cs)
above_without x p c cs true h r = h.1
above_without x p c cs false h r = (h.0, r)

above_cut : (x p : List ℕ) (xs : List Binding) → Above x xs → Above x (cut p xs)
above_cut x p [] h = tt
above_cut x p (c ∷ cs) h = above_without x p c cs (bytes_eq c.prefix p) h (above_cut x p cs h.1)

rises_without : (p : List ℕ) (c : Binding) (cs : List Binding) (t : Bool) → Rises (c ∷ cs) → Rises (cut p cs)
    → Rises (if t then cs else c ∷ cut p cs)
rises_without p c cs true r h = r.1
rises_without p c cs false r h = (above_cut c.prefix p cs r.0, h)

rises_cut : (p : List ℕ) (xs : List Binding) → Rises xs → Rises (cut p xs)
rises_cut p [] r = tt
rises_cut p (c ∷ cs) r = rises_without p c cs (bytes_eq c.prefix p) r (rises_cut p cs r.1)

-- ---- the scope

-- what is in force is left where xml is declared
xml_case : (x t : Bool) (s o : Option (List ℕ)) → (t ≡ true → x ≡ true)
    → (if x then None else declared o) ≡ (if x then None else declared (if t then s else o))
xml_case true t s o f = refl
xml_case false true s o f = absurd (true≢false (sym (f refl)))
xml_case false false s o f = refl

-- and nothing where a default is undeclared
nil_case : (x t : Bool) (o : Option (List ℕ)) → (if t then None else (if x then None else declared o))
    ≡ (if x then None else declared (if t then Some [] else o))
nil_case true true o = refl
nil_case true false o = refl
nil_case false true o = refl
nil_case false false o = refl

some_case : (x t : Bool) (space : List ℕ) (o : Option (List ℕ)) → is_nil space ≡ false
    → (t ≡ true → x ≡ true → ⊥) → (if t then Some space else (if x then None else declared o))
    ≡ (if x then None else declared (if t then Some space else o))
some_case true true space o n f = absurd (f refl refl)
some_case true false space o n f = refl
some_case false true [] o n f = absurd (true≢false n)
some_case false true (c ∷ space) o n f = refl
some_case false false space o n f = refl

nil_from : (bytes : List ℕ) → is_nil bytes ≡ true → bytes ≡ []
nil_from [] e = refl
nil_from (c ∷ bytes) e = cc

step : (b : Binding) (bs s : List Binding) → IsScope bs s → (x n : Bool) → bytes_eq b.prefix (codes "xml") ≡ x
    → is_nil b.space ≡ n → IsScope (b ∷ bs) (if x then s else (if n then cut b.prefix s else put b s))
step b bs s is true n e d = record {
  rises = is.rises;
  same = λ q. is.same q
      ∙ xml_case (bytes_eq q (codes "xml")) (bytes_eq b.prefix q) (Some b.space) (bound q bs)
      (λ h. subst (λ p. bytes_eq p (codes "xml") ≡ true) (same b.prefix q h) e);
}
step b bs s is false true e d = record {
  rises = rises_cut b.prefix s is.rises;
  same = λ q. cut_bound q b.prefix s is.rises ∙ ap (λ o. if bytes_eq b.prefix q then None else o) (is.same q)
      ∙ nil_case (bytes_eq q (codes "xml")) (bytes_eq b.prefix q) (bound q bs)
      ∙ ap (λ l. if bytes_eq q (codes "xml") then None
      else declared (if bytes_eq b.prefix q then Some l else bound q bs)) (sym (nil_from b.space d));
}
step b bs s is false false e d = record {
  rises = rises_put b s is.rises;
  same = λ q. put_bound q b s ∙ ap (λ o. if bytes_eq b.prefix q then Some b.space else o) (is.same q)
      ∙ some_case (bytes_eq q (codes "xml")) (bytes_eq b.prefix q) b.space (bound q bs) d
      (λ h x. true≢false (sym (subst (λ p. bytes_eq p (codes "xml") ≡ true) (sym (same b.prefix q h)) x) ∙ e));
}

abbrev scope_of : List Binding → List Binding
scope_of [] = []
scope_of (b ∷ bs) =
    if bytes_eq b.prefix (codes "xml") then scope_of bs
    else (if is_nil b.space then cut b.prefix (scope_of bs) else put b (scope_of bs))

scope_is : (bs : List Binding) → IsScope bs (scope_of bs)
scope_is [] = record { rises = tt; same = λ q. either (bytes_eq q (codes "xml")) None }
scope_is (b ∷ bs) =
    step b bs (scope_of bs) (scope_is bs) (bytes_eq b.prefix (codes "xml")) (is_nil b.space) refl refl

pub has_scope : (bs : List Binding) → (scope : List Binding) × IsScope bs scope
has_scope bs = (scope_of bs, scope_is bs)
