-- The numbers of prefixes that are bound, and the least that is none of them.
use Rattle.std.proofs.Common.{◌≡◌, ◌≢◌, ℕ, ◌+◌, ◌-◌, ◌<◌, ◌≤◌, ◌^◌, ◌⊎◌, inl, inr, Bool, true, false, if◌then◌else◌}
use Rattle.std.proofs.Common.{List}
use Rattle.std.proofs.Common.{[], ◌∷◌, ◌++◌, Option, Some, None, length, take, get_or, refl, sym, subst, ap, ◌∙◌, arith}
use Rattle.std.proofs.Common.{nat_cmp}
use Rattle.std.proofs.Common.{length-append}
use Rattle.std.specs.Prelude.{Contains, decimal, min, option_map}
use Rattle.std.specs.List.Sorted.{IsPermutation, IsSorted, IsNonDecreasingBy}
use Rattle.std.specs.Str.{bytes_eq}
use Rattle.std.proofs.lemmas.Bool.{cases_lt}
use Rattle.std.proofs.lemmas.List.{get_or-take, get_or_default, length-take, take_all, take_more}
use Rattle.std.proofs.lemmas.List.Elements.{Contains-append_left, Contains-push, Contains-push_cases}
use Rattle.std.proofs.lemmas.List.Sorted.{Contains-permutation, IsPermutation-sym, IsNonDecreasingBy-from_sort}
use Rattle.rm_base.specs.declared.message.Binding.{Binding}
use Rattle.soap_lex.specs.Facts.{same, equal}
use Rattle.soap_document.specs.Profile.Namespaces.{bound}
use Rattle.soap_writer.specs.Values.Values.{trimmed, whole_number}
use Rattle.rm_wire.specs.Soap11.Lift.{numbered_prefix, AreNumbers, IsFirstFree}

-- ---- one binding more

last_at : (b : Binding) (p : List ℕ) (t : Bool) → bytes_eq b.prefix p ≡ t → (if t then Some b.space else None) ≢ None
    → b.prefix ≡ p
last_at b p true e some = same b.prefix p e
last_at b p false e some = absurd (some refl)

cases_at : (c b : Binding) (p : List ℕ) (t : Bool) (o q : Option (List ℕ))
    → (o ≢ None → (q ≢ None) ⊎ (b.prefix ≡ p)) → (if t then Some c.space else o) ≢ None
    → ((if t then Some c.space else q) ≢ None) ⊎ (b.prefix ≡ p)
cases_at c b p true o q f some = inl some
cases_at c b p false o q f some = f some

bound_cases : (p : List ℕ) (xs : List Binding) (b : Binding) → bound p (xs ++ b ∷ []) ≢ None
    → (bound p xs ≢ None) ⊎ (b.prefix ≡ p)
bound_cases p [] b some = inr (last_at b p (bytes_eq b.prefix p) refl some)
bound_cases p (c ∷ xs) b some =
    cases_at c b p (bytes_eq c.prefix p) (bound p (xs ++ b ∷ [])) (bound p xs) (bound_cases p xs b) some

left_at : (c : Binding) (t : Bool) (o q : Option (List ℕ)) → (q ≢ None → o ≢ None)
    → (if t then Some c.space else q) ≢ None → (if t then Some c.space else o) ≢ None
left_at c true o q f some = some
left_at c false o q f some = f some

bound_left : (p : List ℕ) (xs : List Binding) (b : Binding) → bound p xs ≢ None → bound p (xs ++ b ∷ []) ≢ None
bound_left p [] b some = absurd (some refl)
bound_left p (c ∷ xs) b some =
    left_at c (bytes_eq c.prefix p) (bound p (xs ++ b ∷ [])) (bound p xs) (bound_left p xs b) some

more_at : (c : Binding) (t : Bool) (o : Option (List ℕ)) → o ≢ None → (if t then Some c.space else o) ≢ None
more_at c true o some = λ e. cc
more_at c false o some = some

bound_last : (p : List ℕ) (xs : List Binding) (b : Binding) → b.prefix ≡ p → bound p (xs ++ b ∷ []) ≢ None
bound_last p [] b e = let is = equal b.prefix p e in rw is (λ d. cc)
bound_last p (c ∷ xs) b e = more_at c (bytes_eq c.prefix p) (bound p (xs ++ b ∷ [])) (bound_last p xs b e)

-- whose prefix has no number
pub none_more : (b : Binding) → ((k : ℕ) → k < 2 ^ 64 → b.prefix ≢ numbered_prefix k) → (before : List Binding)
    (ns : List ℕ) → AreNumbers before ns → AreNumbers (before ++ b ∷ []) ns
none_more b none before ns are = record {
  each = λ k has. bound_left (numbered_prefix k) before b (are.each k has);
  all = λ k low some. elim (bound_cases (numbered_prefix k) before b some) [
    | inl first ↦ are.all k low first
    | inr last ↦ absurd (none k low last)
  ];
}

-- whose prefix has this number
pub some_more : (b : Binding) (n : ℕ) → b.prefix ≡ numbered_prefix n
    → ((k : ℕ) → k < 2 ^ 64 → b.prefix ≡ numbered_prefix k → n ≡ k) → (before : List Binding) (ns : List ℕ)
    → AreNumbers before ns → AreNumbers (before ++ b ∷ []) (ns ++ n ∷ [])
some_more b n is one before ns are = record {
  each = λ k has. elim (Contains-push_cases ns n k has) [
    | inl first ↦ bound_left (numbered_prefix k) before b (are.each k first)
    | inr last ↦ subst (λ j. bound (numbered_prefix j) (before ++ b ∷ []) ≢ None) last
        (bound_last (numbered_prefix n) before b is)
  ];
  all = λ k low some. elim (bound_cases (numbered_prefix k) before b some) [
    | inl first ↦ Contains-append_left ns (n ∷ []) k (are.all k low first)
    | inr last ↦ subst (λ j. Contains (ns ++ n ∷ []) j) (one k low last) (Contains-push ns n)
  ];
}

inner : Option ℕ → ℕ
inner None = 0
inner (Some n) = n

pub one_number : (o : Option ℕ) (n k : ℕ) → o ≡ Some n → o ≡ Some k → n ≡ k
unfolding inner
one_number o n k is also = ap inner (sym is ∙ also)

pub no_number : (o : Option ℕ) (k : ℕ) → o ≡ None → o ≡ Some k → ⊥
no_number o k is also = cc

-- ---- the least number

-- the least number that none of these is, which is at most their count
pub record IsGap (seen : List ℕ) (gap : ℕ) : Type 0 where
  pub few : gap ≤ length seen
  pub least : (j : ℕ) → j < gap → Contains seen j
  pub free : Contains seen gap → ⊥

pub other_more : (seen : List ℕ) (gap n : ℕ) → n ≢ gap → IsGap seen gap → IsGap (seen ++ n ∷ []) gap
other_more seen gap n other is = record {
  few = omega (arith, is.few, length-append seen (n ∷ []));
  least = λ j low. Contains-append_left seen (n ∷ []) j (is.least j low);
  free = λ has. elim (Contains-push_cases seen n gap has) [ inl first ↦ is.free first | inr last ↦ other last ];
}

at_least : (seen : List ℕ) (gap j : ℕ) → IsGap seen gap → j < gap + 1 → (j < gap) ⊎ (gap ≡ j)
    → Contains (seen ++ gap ∷ []) j
at_least seen gap j is low (inl less) = Contains-append_left seen (gap ∷ []) j (is.least j less)
at_least seen gap j is low (inr at) = subst (λ k. Contains (seen ++ gap ∷ []) k) at (Contains-push seen gap)

at_cases : (j gap : ℕ) → j < gap + 1 → (j < gap) ⊎ (gap ≡ j)
at_cases j gap low = elim (cases_lt j gap) [ inl less ↦ inl less | inr high ↦ inr (omega (arith, low, high)) ]

-- none of those before is greater
pub same_more : (seen : List ℕ) (gap : ℕ) → ((x : ℕ) → Contains seen x → x ≤ gap) → IsGap seen gap
    → IsGap (seen ++ gap ∷ []) (gap + 1)
same_more seen gap below is = record {
  few = omega (arith, is.few, length-append seen (gap ∷ []));
  least = λ j low. at_least seen gap j is low (at_cases j gap low);
  free = λ has. elim (Contains-push_cases seen gap (gap + 1) has) [
    | inl first ↦ absurd (omega (arith, below (gap + 1) first))
    | inr last ↦ absurd (omega (arith, last))
  ];
}

-- of numbers in order none before a place is greater than that there
pub below_at : (xs : List ℕ) (i n : ℕ) → IsSorted nat_cmp xs → i < length xs → get_or xs i n ≡ n → (x : ℕ)
    → Contains (take i xs) x → x ≤ n
below_at xs i n sorted within at x (k, low, is) =
    let up : IsNonDecreasingBy (λ (m : ℕ). m) xs = IsNonDecreasingBy-from_sort (λ (m : ℕ). m) xs sorted in
    let long = length-take i xs in
    let there = get_or-take i xs k x (omega (arith, low, long)) in
    let one = up k i n (omega (arith, low, long)) within in
    let here = get_or_default xs k n x (omega (arith, low, long, within)) in
    omega (arith, is, there, one, at, here)

other_or_same : (m n : ℕ) → (m ≢ n) ⊎ (m ≡ n)
other_or_same m n = elim (cases_lt m n) [
  | inl less ↦ inl (λ e. omega (arith, less, e))
  | inr high ↦ elim (cases_lt n m) [
    | inl less ↦ inl (λ e. omega (arith, less, e))
    | inr low ↦ inr (omega (arith, high, low))
  ]
]

-- one number more
pub gap_more : (xs : List ℕ) (i n gap next : ℕ) → IsSorted nat_cmp xs → i < length xs → get_or xs i n ≡ n
    → (n ≡ gap → next ≡ gap + 1) → (n ≢ gap → next ≡ gap) → IsGap (take i xs) gap → IsGap (take (i + 1) xs) next
gap_more xs i n gap next sorted within at one other is =
    let more : take i xs ++ n ∷ [] ≡ take (i + 1) xs =
    ap (λ m. take i xs ++ m ∷ []) (sym at) ∙ sym (take_more xs i n within) in
    elim (other_or_same n gap) [
      | inl differs ↦ subst (λ l. IsGap l next) more (subst (λ g. IsGap (take i xs ++ n ∷ []) g)
          (sym (other differs)) (other_more (take i xs) gap n differs is))
      | inr same ↦ subst (λ l. IsGap l next) more (subst (λ m. IsGap (take i xs ++ m ∷ []) next) (sym same)
          (subst (λ g. IsGap (take i xs ++ gap ∷ []) g) (sym (one same)) (same_more (take i xs) gap
          (λ x has. subst (λ m. x ≤ m) same (below_at xs i n sorted within at x has)) is)))
    ]

-- all numbers are seen
pub all_seen : (xs : List ℕ) (i gap : ℕ) → length xs ≤ i → IsGap (take i xs) gap → (j : ℕ) → j < gap → Contains xs j
all_seen xs i gap all is j low = subst (λ l. Contains l j) (take_all i xs all) (is.least j low)

-- ---- the first that is free

none_from : (o : Option (List ℕ)) → ((o ≢ None) → ⊥) → o ≡ None
none_from None f = refl
none_from (Some x) f = absurd (f (λ e. cc))

pub first_from : (scope : List Binding) (ns sorted : List ℕ) (k : ℕ) → k < 2 ^ 64 → AreNumbers scope ns
    → IsPermutation ns sorted → (Contains sorted k → ⊥) → ((j : ℕ) → j < k → Contains sorted j) → IsFirstFree k scope
first_from scope ns sorted k counted are moved free least = record {
  counted = counted;
  free = none_from (bound (numbered_prefix k) scope)
      (λ some. free (Contains-permutation ns sorted k moved (are.all k counted some)));
  least = λ j low. are.each j (Contains-permutation sorted ns j (IsPermutation-sym ns sorted moved) (least j low));
}

-- ---- digits

-- digits that are read as this number, and stand for another or none
pub not_so : (digits : List ℕ) (read : Option ℕ) (k : ℕ) → k < 2 ^ 64
    → read ≡ option_map (λ n. min n (2 ^ 64 - 1)) (whole_number (trimmed digits))
    → ((n : ℕ) → n < 2 ^ 64 → whole_number (trimmed (decimal n)) ≡ Some n) → digits ≡ decimal k → read ≡ Some k
not_so digits read k low is back e =
    is ∙ ap (λ l. option_map (λ n. min n (2 ^ 64 - 1)) (whole_number (trimmed l))) e
    ∙ ap (option_map (λ n. min n (2 ^ 64 - 1))) (back k low) ∙ ap (λ n. Some n) (omega (arith, low))
