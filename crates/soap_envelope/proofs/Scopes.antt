-- The bindings in force at a place, by a map and then in order.
use Rattle.std.proofs.Common.{◌≡◌, ℕ, ◌+◌, ◌<◌, length, get_or, take, append_assoc, Result, Ok, Err, IfOk, List, []}
use Rattle.std.proofs.Common.{◌∷◌, ◌++◌, Bool, true, false, not, ◌&&◌, cond, if◌then◌else◌, Option, Some, None}
use Rattle.std.proofs.Common.{option_map, is_some, Ordering, Less, Equal, Greater, nat_cmp, is_eq, codes, refl, sym}
use Rattle.std.proofs.Common.{ap, subst, ◌∙◌}
use Rattle.std.proofs.lemmas.Bool.{true≢false}
use Rattle.std.proofs.lemmas.List.{take_more}
use Rattle.std.proofs.lemmas.Map.Keys.{sorted_head, sorted_tail}
use Rattle.std.proofs.lemmas.Map.Text.{is_eq-slice_cmp}
use Rattle.std.proofs.lemmas.Slice.Eq.{bytes_eq-Decides}
use Rattle.std.specs.BTreeMap.{is_at}
use Rattle.std.specs.Cmp.Lexicographic.{slice_cmp}
use Rattle.std.specs.List.{AllByRecursion}
use Rattle.std.specs.List.Sorted.{IsStrictlySortedBy}
use Rattle.std.specs.Map.{lookup, keys_of}
use Rattle.std.specs.Ordering.{is_lt}
use Rattle.std.specs.Str.{bytes_eq}
use Rattle.soap_lex.specs.Tests.{is_nil}
use Rattle.soap_document.specs.Profile.Namespaces.{bound}
use Rattle.rm_base.specs.declared.message.Binding.{Binding}
use Rattle.soap_envelope.specs.Scope.{declared, Rises, IsScope}
use Rattle.soap_envelope.specs.Steps.{Lent, lent_cmp, kept, kept_one}

pub same_bytes : (a : List ℕ) → bytes_eq a a ≡ true
same_bytes a = (bytes_eq-Decides a a).1 refl

pub apart_turned : (a b : List ℕ) → bytes_eq a b ≡ false → bytes_eq b a ≡ false
apart_turned a b h = go (bytes_eq b a) refl
  where
    go : (t : Bool) → bytes_eq b a ≡ t → bytes_eq b a ≡ false
    go false e = e
    go true e = absurd (true≢false (sym ((bytes_eq-Decides a b).1 (sym ((bytes_eq-Decides b a).0 e))) ∙ h))

-- ---- one binding more

pub bound_step : (q : List ℕ) (b : Binding) (xs : List Binding) (t : Bool) → bytes_eq b.prefix q ≡ t → bound q (b ∷ xs)
    ≡ (if t then Some b.space else bound q xs)
bound_step q b xs t e = ap (λ (v : Bool). if v then Some b.space else bound q xs) e

behind_more : (q : List ℕ) (b : Binding) (xs ys : List Binding) (t : Bool) → bytes_eq b.prefix q ≡ t
    → bound q (b ∷ xs) ≡ None → (bound q xs ≡ None → bound q (xs ++ ys) ≡ bound q ys) → bound q (b ∷ (xs ++ ys))
    ≡ bound q ys
behind_more q b xs ys true e h f = let x : Some b.space ≡ None = sym (bound_step q b xs true e) ∙ h in cc
behind_more q b xs ys false e h f = bound_step q b (xs ++ ys) false e ∙ f (sym (bound_step q b xs false e) ∙ h)

bound_behind : (q : List ℕ) (xs ys : List Binding) → bound q xs ≡ None → bound q (xs ++ ys) ≡ bound q ys
bound_behind q [] ys h = refl
bound_behind q (b ∷ xs) ys h = behind_more q b xs ys (bytes_eq b.prefix q) refl h (bound_behind q xs ys)

front_more : (q : List ℕ) (b : Binding) (xs ys : List Binding) (s : List ℕ) (t : Bool) → bytes_eq b.prefix q ≡ t
    → bound q (b ∷ xs) ≡ Some s → (bound q xs ≡ Some s → bound q (xs ++ ys) ≡ Some s) → bound q (b ∷ (xs ++ ys))
    ≡ Some s
front_more q b xs ys s true e h f = bound_step q b (xs ++ ys) true e ∙ sym (bound_step q b xs true e) ∙ h
front_more q b xs ys s false e h f = bound_step q b (xs ++ ys) false e ∙ f (sym (bound_step q b xs false e) ∙ h)

bound_front : (q : List ℕ) (xs ys : List Binding) (s : List ℕ) → bound q xs ≡ Some s → bound q (xs ++ ys) ≡ Some s
bound_front q [] ys s h = cc
bound_front q (b ∷ xs) ys s h = front_more q b xs ys s (bytes_eq b.prefix q) refl h (bound_front q xs ys s)

abbrev seen : Option Lent → Option (List ℕ)
seen o = option_map (λ (s : Lent). s.now) o

seen_none : (o : Option Lent) → seen o ≡ None → is_some o ≡ false
seen_none None h = refl
seen_none (Some x) h = cc

not_some : (o : Option Lent) → is_some o ≡ false → o ≡ None
not_some None h = refl
not_some (Some x) h = cc

-- at a prefix other than the new one, nothing changes
unchanged : (q : List ℕ) (b : Binding) (before : List Binding) (o : Option (List ℕ)) → bound q before ≡ o
    → bytes_eq b.prefix q ≡ false → bound q before ≡ bound q (before ++ b ∷ [])
unchanged q b before (Some s) e t = e ∙ sym (bound_front q before (b ∷ []) s e)
unchanged q b before None e t = e ∙ sym (bound_behind q before (b ∷ []) e ∙ bound_step q b [] false t)

already_at : (b : Binding) (before : List Binding) (f : List ℕ → Option Lent) (q : List ℕ) (o : Option (List ℕ))
    (t : Bool) → bound q before ≡ o → bytes_eq b.prefix q ≡ t → is_some (f b.prefix) ≡ true
    → seen (f q) ≡ bound q before → seen (f q) ≡ bound q (before ++ b ∷ [])
already_at b before f q (Some s) t e k h known = known ∙ e ∙ sym (bound_front q before (b ∷ []) s e)
already_at b before f q None true e k h known =
    let same : b.prefix ≡ q = (bytes_eq-Decides b.prefix q).0 k in
    absurd (true≢false (sym h ∙ ap (λ p. is_some (f p)) same ∙ seen_none (f q) (known ∙ e)))
already_at b before f q None false e k h known = known ∙ unchanged q b before None e k

-- a prefix that is bound already
pub bound_already : (b : Binding) (before : List Binding) (f : List ℕ → Option Lent) → is_some (f b.prefix) ≡ true
    → ((q : List ℕ) → seen (f q) ≡ bound q before) → (q : List ℕ) → seen (f q) ≡ bound q (before ++ b ∷ [])
bound_already b before f h known q = already_at b before f q (bound q before) (bytes_eq b.prefix q) refl refl h (known
    q)

now_at : (b : Binding) (before : List Binding) (f g : List ℕ → Option Lent) (s : Lent) (q : List ℕ) (t : Bool)
    → s.now ≡ b.space → bytes_eq b.prefix q ≡ t → is_some (f b.prefix) ≡ false
    → g q ≡ cond (bytes_eq b.prefix q) (Some s) (f q) → seen (f q) ≡ bound q before
    → seen (g q) ≡ bound q (before ++ b ∷ [])
now_at b before f g s q true is k h new known =
    let same : b.prefix ≡ q = (bytes_eq-Decides b.prefix q).0 k in
    let free : bound q before ≡ None = sym known ∙ ap (λ p. seen (f p)) (sym same) ∙ ap seen (not_some (f b.prefix)
    h) in
    let there : bound q (before ++ b ∷ []) ≡ Some b.space = bound_behind q before (b ∷ []) free
    ∙ bound_step q b [] true k in
    ap seen (new ∙ ap (λ v. cond v (Some s) (f q)) k) ∙ ap (λ x. Some x) is ∙ sym there
now_at b before f g s q false is k h new known =
    ap seen (new ∙ ap (λ v. cond v (Some s) (f q)) k) ∙ known ∙ unchanged q b before (bound q before) refl k

-- and one that is not
pub bound_now : (b : Binding) (before : List Binding) (f g : List ℕ → Option Lent) (s : Lent) → s.now ≡ b.space
    → is_some (f b.prefix) ≡ false → ((q : List ℕ) → g q ≡ cond (bytes_eq b.prefix q) (Some s) (f q))
    → ((q : List ℕ) → seen (f q) ≡ bound q before) → (q : List ℕ) → seen (g q) ≡ bound q (before ++ b ∷ [])
bound_now b before f g s is h new known q = now_at b before f g s q (bytes_eq b.prefix q) is refl h (new q) (known q)

-- ---- bindings whose prefixes rise

abbrev pub IsAbove : List ℕ → List Binding → Type 0
IsAbove prefix bindings = AllByRecursion (λ later. is_lt (slice_cmp nat_cmp prefix later.prefix) ≡ true) bindings

pub less_is : (o : Ordering) → is_lt o ≡ true → o ≡ Less
less_is Less h = refl
less_is Equal h = cc
less_is Greater h = cc

pub less_apart : (a b : List ℕ) → slice_cmp nat_cmp a b ≡ Less → bytes_eq a b ≡ false
less_apart a b h = sym (is_eq-slice_cmp a b) ∙ ap is_eq h

-- a lower prefix is bound by none of them
pub bound_below : (p : List ℕ) (bs : List Binding) → IsAbove p bs → bound p bs ≡ None
bound_below p [] h = refl
bound_below p (b ∷ bs) h =
    bound_step p b bs false (apart_turned p b.prefix (less_apart p b.prefix (less_is _ h.0))) ∙ bound_below p bs h.1

kept_one_above : (x p s : List ℕ) (t u : Bool) → slice_cmp nat_cmp x p ≡ Less → IsAbove x (if t && u then record {
  prefix = p;
  space = s;
} ∷ [] else [])
kept_one_above x p s true true h = (ap is_lt h, tt)
kept_one_above x p s true false h = tt
kept_one_above x p s false u h = tt

above_append : (x : List ℕ) (xs ys : List Binding) → IsAbove x xs → IsAbove x ys → IsAbove x (xs ++ ys)
above_append x [] ys h k = k
above_append x (b ∷ xs) ys h k = (h.0, above_append x xs ys h.1 k)

above_kept : (x : Lent) (es : List (Lent × Lent)) → AllByRecursion (λ k. lent_cmp x k ≡ Less) (keys_of es)
    → IsAbove x.now (kept es)
above_kept x [] h = tt
above_kept x (e ∷ es) h = above_append x.now (kept_one e.0.now e.1.now) (kept es) (kept_one_above x.now e.0.now
    e.1.now (not (bytes_eq e.0.now (codes "xml"))) (not (is_nil e.1.now)) h.0) (above_kept x es h.1)

rises_one : (p s : List ℕ) (bs : List Binding) (t u : Bool) → IsAbove p bs → Rises bs → Rises ((if t && u then record {
  prefix = p;
  space = s;
} ∷ [] else []) ++ bs)
rises_one p s bs true true h k = (h, k)
rises_one p s bs true false h k = k
rises_one p s bs false u h k = k

-- the bindings of a map rise
pub kept_rises : (es : List (Lent × Lent)) → IsStrictlySortedBy lent_cmp (keys_of es) → Rises (kept es)
kept_rises [] h = tt
kept_rises (e ∷ es) h = rises_one e.0.now e.1.now (kept es) (not (bytes_eq e.0.now (codes "xml"))) (not (is_nil
    e.1.now)) (above_kept e.0 es (sorted_head lent_cmp e.0 (keys_of es) h)) (kept_rises es (sorted_tail lent_cmp e.0
    (keys_of es) h))

abbrev forced : Bool → Option (List ℕ) → Option (List ℕ)
forced is_xml o = if is_xml then None else declared o

kept_one_same : (p s : List ℕ) (bs : List Binding) (t : Bool) → bound p bs ≡ None → bound p ((if not t && not (is_nil
    s) then record { prefix = p; space = s } ∷ [] else []) ++ bs) ≡ forced t (Some s)
kept_one_same p s bs true h = h
kept_one_same p [] bs false h = h
kept_one_same p (c ∷ s) bs false h = bound_step p (record { prefix = p; space = c ∷ s }) bs true (same_bytes p)

kept_one_other : (q p s : List ℕ) (bs : List Binding) (t u : Bool) → bytes_eq p q ≡ false → bound q ((if t && u then
    record { prefix = p; space = s } ∷ [] else []) ++ bs) ≡ bound q bs
kept_one_other q p s bs true true h = bound_step q (record { prefix = p; space = s }) bs false h
kept_one_other q p s bs true false h = refl
kept_one_other q p s bs false u h = refl

abbrev looked : List ℕ → List (Lent × Lent) → Option Lent
looked q es = lookup (is_at (λ (k : Lent). slice_cmp nat_cmp q k.now)) es

looked_step : (q : List ℕ) (e : Lent × Lent) (es : List (Lent × Lent)) (t : Bool) → bytes_eq q e.0.now ≡ t
    → looked q (e ∷ es) ≡ cond t (Some e.1) (looked q es)
looked_step q e es t k = ap (λ v. cond v (Some e.1) (looked q es)) (is_eq-slice_cmp q e.0.now ∙ k)

nothing_forced : (t : Bool) → None ≡ forced t None
nothing_forced true = refl
nothing_forced false = refl

kept_more : (q : List ℕ) (e : Lent × Lent) (es : List (Lent × Lent)) (t : Bool) → bytes_eq q e.0.now ≡ t
    → bound e.0.now (kept es) ≡ None
    → bound q (kept es) ≡ forced (bytes_eq q (codes "xml")) (seen (looked q es))
    → bound q (kept (e ∷ es)) ≡ forced (bytes_eq q (codes "xml")) (seen (looked q (e ∷ es)))
kept_more q e es true t none h =
    let same : e.0.now ≡ q = sym ((bytes_eq-Decides q e.0.now).0 t) in
    subst (λ (p : List ℕ). bound p (kept (e ∷ es)) ≡ forced (bytes_eq p (codes "xml")) (Some e.1.now)) same
    (kept_one_same e.0.now e.1.now (kept es) (bytes_eq e.0.now (codes "xml")) none)
    ∙ ap (λ o. forced (bytes_eq q (codes "xml")) (seen o)) (sym (looked_step q e es true t))
kept_more q e es false t none h =
    kept_one_other q e.0.now e.1.now (kept es) (not (bytes_eq e.0.now (codes "xml"))) (not (is_nil e.1.now))
    (apart_turned q e.0.now t) ∙ h
    ∙ ap (λ o. forced (bytes_eq q (codes "xml")) (seen o)) (sym (looked_step q e es false t))

-- and they bind what the map does, but xml and an undeclared default
pub kept_binds : (q : List ℕ) (es : List (Lent × Lent)) → IsStrictlySortedBy lent_cmp (keys_of es)
    → bound q (kept es) ≡ forced (bytes_eq q (codes "xml")) (seen (looked q es))
kept_binds q [] h = nothing_forced (bytes_eq q (codes "xml"))
kept_binds q (e ∷ es) h =
    let none : bound e.0.now (kept es) ≡ None = bound_below e.0.now (kept es) (above_kept e.0 es (sorted_head lent_cmp
    e.0 (keys_of es) h)) in
    kept_more q e es (bytes_eq q e.0.now) refl none (kept_binds q es (sorted_tail lent_cmp e.0 (keys_of es) h))

-- so they are the scope
pub kept_scope : (es : List (Lent × Lent)) (bindings scope : List Binding) → scope ≡ kept es
    → IsStrictlySortedBy lent_cmp (keys_of es)
    → ((q : List ℕ) → seen (looked q es) ≡ bound q bindings)
    → IsScope bindings scope
kept_scope es bindings scope is sorted known = record {
  rises = subst Rises (sym is) (kept_rises es sorted);
  same = λ q. ap (bound q) is ∙ kept_binds q es sorted ∙ ap (forced (bytes_eq q (codes "xml"))) (known q);
}

pub scope_from : {E : Type 0} (r : Result (List Binding) E) (es : List (Lent × Lent)) (bindings : List Binding)
    → IfOk r (λ scope. scope ≡ kept es) → IsStrictlySortedBy lent_cmp (keys_of es)
    → ((q : List ℕ) → seen (looked q es) ≡ bound q bindings)
    → IfOk r (λ scope. IsScope bindings scope)
scope_from (Ok scope) es bindings is sorted known = kept_scope es bindings scope is sorted known
scope_from (Err e) es bindings is sorted known = tt

-- an empty map binds what no bindings do
pub binds_nothing : (es : List (Lent × Lent)) → es ≡ [] → (q : List ℕ)
    → seen (looked q es) ≡ bound q []
binds_nothing es e q = ap (λ xs. seen (looked q xs)) e

-- one declaration more
pub taken_more : (before xs : List Binding) (i : ℕ) (x : Binding) → i < length xs → x ≡ get_or xs i x
    → (before ++ take i xs) ++ x ∷ [] ≡ before ++ take (i + 1) xs
taken_more before xs i x h e =
    append_assoc before (take i xs) (x ∷ []) ∙ ap (λ (y : Binding). before ++ (take i xs ++ y ∷ [])) e
    ∙ ap (λ ys. before ++ ys) (sym (take_more xs i x h))
