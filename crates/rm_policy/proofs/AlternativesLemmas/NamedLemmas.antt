-- What was read is named as documents name elements, so that texts tell normal forms apart.
use Rattle.std.proofs.Common.{◌≡◌, ◌≢◌, ◌≤◌, ◌<◌, ◌+◌, ◌^◌, ℕ, zero, suc, List, [], ◌∷◌, ◌++◌, Bool, true, false, cond}
use Rattle.std.proofs.Common.{◌||◌, ◌&&◌, if◌then◌else◌, nat_eq, nat_lt, refl, ap, sym, ◌∙◌, subst, arith, length}
use Rattle.std.proofs.Common.{inl, inr, ⊎_elim, Option, Some, None, option_map, Ok, Err, codes}
use Rattle.std.proofs.Common.{encode_utf8, encode_utf8_all}
use Rattle.std.proofs.Math.Utf8.{scalar, scalars, scalar_cases}
use Rattle.std.specs.FinSet.{empty, insert, union, contains, len, from_list, contains-empty, contains-insert}
use Rattle.std.specs.FinSet.{contains-union, len-empty, len-insert}
use Rattle.std.specs.List.{AllByRecursion}
use Rattle.std.specs.declared.cmp.Ordering.{Ordering}
use Rattle.std.specs.declared.cmp.Ordering.TheVariants.{Less, Equal, Greater}
use Rattle.std.specs.Ordering.{eq_by_cmp, is_eq}
use Rattle.std.specs.Str.{IsUtf8}
use Rattle.std.proofs.lemmas.Bool.{false≢true, and_parts, cases_lt}
use Rattle.std.proofs.lemmas.Bool.Decides.{nat_tests}
use Rattle.std.proofs.lemmas.Cmp.{tied_itself}
use Rattle.std.proofs.str.Laws.{Shape, of1, of2, of3, of4, shape}
use Rattle.soap_lex.specs.NameBytes.{IsNameByte, all_append, name_bytes}
use Rattle.soap_lex.specs.Scalars.{IsUtf8-IsChars, IsUtf8-IsName}
use Rattle.soap_document.specs.Profile.Document.{Document}
use Rattle.soap_document.specs.Profile.Tree as tree
use Rattle.soap_document.specs.declared.profile.name.Expanded.{Expanded}
use Rattle.soap_writer.specs.Writable.{IsNameWritable, IsWritable, ArePartsWritable}
use Rattle.soap_writer.specs.Stripped.Resolved.{IsResolved}
use Rattle.rm_policy.specs.Assertion.{assertion_in, optional_in}
use Rattle.rm_policy.specs.declared.assertion.Assertion.{Assertion}
use Rattle.rm_policy.proofs.AlternativesLemmas.LawLemmas.{found, list_cmp_total, list_cmp_exact}
use Rattle.rm_policy.proofs.AlternativesLemmas.MaskLemmas.{either_has, or_left, or_right}
use Rattle.rm_policy.proofs.AlternativesLemmas.OrderLemmas.{term_cmp_total, set_cmp_total, set_cmp_exact, same_term}
use Rattle.rm_policy.proofs.AlternativesLemmas.RisingLemmas.{below_none}
use Rattle.rm_policy.specs.Alternatives.Admits.{Admits, OneAdmits, EachAdmits}
use Rattle.rm_policy.specs.Alternatives.Finds.{IsNormalOf}
use Rattle.rm_policy.specs.Alternatives.Limits.{HasMore, HasTooMany, Mentions, OneMentions}
use Rattle.rm_policy.specs.Alternatives.Normal.{Holds, IsNormal}
use Rattle.rm_policy.specs.Alternatives.Reading.{is_word, kind_of, is_childless, reliable_in, other_in, said_as, before}
use Rattle.rm_policy.specs.Alternatives.Reading.{policy_in, policies_in, root_in, judged, counted, policy_of}
use Rattle.rm_policy.specs.Alternatives.Sets.{TermSet, Choices, Rises, list_cmp, set_cmp}
use Rattle.rm_policy.specs.Alternatives.Terms.{term_cmp}
use Rattle.rm_policy.specs.Alternatives.Texts.{IsNamed, IsTermNamed, AreNamed}
use Rattle.rm_policy.specs.Alternatives.Tree.{Policy, Policies, all, exactly_one, assertion, none, and, first}
use Rattle.rm_policy.specs.declared.alternatives.error.WspError.{WspError}
use Rattle.rm_policy.specs.declared.alternatives.error.WspError.TheVariants.{TooLarge}
use Rattle.rm_policy.specs.declared.alternatives.kind.Kind.{Kind}
use Rattle.rm_policy.specs.declared.alternatives.kind.Kind.TheVariants as kinds
use Rattle.rm_policy.specs.declared.alternatives.term.Term.{Term}
use Rattle.rm_policy.specs.declared.alternatives.term.Term.TheVariants.{Rm, Other}

-- ---- names as bytes
abbrev AreBytes : List ℕ → Type 0
AreBytes bytes = AllByRecursion (λ b. b < 256) bytes

shaped : (c : ℕ) → Shape c → AreBytes (encode_utf8 c)
shaped c (of1 h e) = subst AreBytes (sym e) (omega arith, tt)
shaped c (of2 a b low high f is e) = subst AreBytes (sym e) (omega arith, (omega (arith, f.1), tt))
shaped c (of3 a b d low high f g is e) =
    subst AreBytes (sym e) (omega arith, (omega (arith, f.1), (omega (arith, g.1), tt)))
shaped c (of4 a b d k low high f g h is e) =
    subst AreBytes (sym e) (omega arith, (omega (arith, f.1), (omega (arith, g.1), (omega (arith, h.1), tt))))

coded_bytes : (cs : List ℕ) → scalars cs ≡ true → AreBytes (encode_utf8_all cs)
coded_bytes [] h = tt
coded_bytes (c ∷ cs) h =
    let parts = and_parts (scalar c) (scalars cs) h in
    all_append (λ b. b < 256) (encode_utf8 c) (encode_utf8_all cs) (shaped c (shape c (scalar_cases c parts.0)))
    (coded_bytes cs parts.1)

text_bytes : (bytes : List ℕ) → IsUtf8 bytes → AreBytes bytes
text_bytes bytes u = subst AreBytes u.1.1 (coded_bytes u.0 u.1.0)

no_brace : (b : ℕ) → IsNameByte b → b ≢ 0x7d
no_brace b h e =
    let other : nat_eq b 0x7d ≡ false = h 0x7d (omega arith) refl in grind (arith, nat_tests, other, e)

no_braces : (bytes : List ℕ) → AllByRecursion IsNameByte bytes → AllByRecursion (λ b. b ≢ 0x7d) bytes
no_braces [] h = tt
no_braces (b ∷ bytes) h = (no_brace b h.0, no_braces bytes h.1)

named : (name : Expanded) → IsNameWritable name → IsNamed name
named name w = record {
  space = text_bytes name.space (IsUtf8-IsChars name.space w.space);
  local = text_bytes name.local (IsUtf8-IsName name.local w.local);
  no_brace = no_braces name.local (name_bytes name.local w.local);
}

-- ---- what a policy mentions
kept : {A : Type 0} (b : Bool) (x : Option A) (y : A) → (if b then x else None) ≡ Some y → (b ≡ true) × (x ≡ Some y)
kept true x y e = (refl, e)
kept false x y e = absurd (cc)

-- only terms that are named
abbrev Names : Policy → Type 0
Names p = (t : Term) → Mentions p t → IsTermNamed t

abbrev AllNames : Policies → Type 0
AllNames ps = (t : Term) → OneMentions ps t → IsTermNamed t

reliable_named : (x : Option Assertion) (p : Policy)
    → option_map (λ (a : Assertion). assertion (Rm a.assurance a.in_order) a.optional) x ≡ Some p → Names p
reliable_named None p e = absurd (cc)
reliable_named (Some a) p e =
    let is : assertion (Rm a.assurance a.in_order) a.optional ≡ p = cc in
    subst Names is (λ t m. subst IsTermNamed (sym m) tt)

other_named : (name : Expanded) (x : Option Bool) (p : Policy) → IsNamed name
    → option_map (λ (optional : Bool). assertion (Other name) optional) x ≡ Some p → Names p
other_named name None p n e = absurd (cc)
other_named name (Some optional) p n e =
    let is : assertion (Other name) optional ≡ p = cc in subst Names is (λ t m. subst IsTermNamed (sym m) n)

operator_named : (op : Policies → Policy) → ((ps : Policies) → AllNames ps → Names (op ps)) → (x : Option Policies)
    (p : Policy) → ((ps : Policies) → x ≡ Some ps → AllNames ps) → option_map op x ≡ Some p → Names p
operator_named op over None p f e = absurd (cc)
operator_named op over (Some ps) p f e =
    let is : op ps ≡ p = cc in subst Names is (over ps (f ps refl))

said_named : (k : Kind) (e : tree.Element) (x : Option Policies) (p : Policy) → IsNameWritable (tree.name_of e)
    → ((ps : Policies) → x ≡ Some ps → AllNames ps) → said_as k e x ≡ Some p → Names p
said_named kinds.All e x p w f is = operator_named all (λ ps n. n) x p f is
said_named kinds.ExactlyOne e x p w f is = operator_named exactly_one (λ ps n. n) x p f is
said_named kinds.Reliable e x p w f is = reliable_named (assertion_in e) p is
said_named kinds.Other e x p w f is =
    other_named (tree.name_of e) (optional_in (tree.attrs_of e)) p (named (tree.name_of e) w)
    (kept (is_childless (tree.parts_of e)) _ p is).1
said_named kinds.Nothing e x p w f is = absurd (cc)

before_named : (x : Option Policy) (y : Option Policies) (ps : Policies) → ((p : Policy) → x ≡ Some p → Names p)
    → ((qs : Policies) → y ≡ Some qs → AllNames qs) → before x y ≡ Some ps → AllNames ps
before_named None y ps f g e = absurd (cc)
before_named (Some p) None ps f g e = absurd (cc)
before_named (Some p) (Some qs) ps f g e =
    let is : and p qs ≡ ps = cc in
    subst AllNames is (λ t m. ⊎_elim (λ l. f p refl t l) (λ r. g qs refl t r) m)

mutual
  policy_named : (e : tree.Element) → IsWritable (tree.without_declarations e) → (p : Policy) → policy_in e ≡ Some p
      → Names p
  policy_named (tree.element name decls attrs parts) w p is =
      said_named (kind_of name) (tree.element name decls attrs parts) (policies_in parts) p w.0.named
      (λ ps e. policies_named parts w.1 ps e) is

  policies_named : (parts : tree.Parts) → ArePartsWritable (tree.parts_without parts) → (ps : Policies)
      → policies_in parts ≡ Some ps → AllNames ps
  policies_named tree.none w ps is = let same : none ≡ ps = cc in subst AllNames same (λ t m. absurd m)
  policies_named (tree.text bytes parts) w ps is = policies_named parts w.2 ps (kept _ (policies_in parts) ps is).1
  policies_named (tree.child e parts) w ps is =
      before_named (policy_in e) (policies_in parts) ps (λ p f. policy_named e w.0 p f)
      (λ qs f. policies_named parts w.1 qs f) is

judged_is : (x : Option Policy) (asked : Option tree.Element) (n : ℕ) (p : Policy) → judged x asked n ≡ Ok p
    → x ≡ Some p
judged_is None asked n p is = absurd (cc)
judged_is (Some q) (Some e) n p is = absurd (cc)
judged_is (Some q) None n p is =
    elim (nat_lt 4096 n) as (λ b. (if b then Err (TooLarge (counted n)) else Ok q) ≡ Ok p → Some q ≡ Some p) [
      | true ↦ λ e. absurd (cc)
      | false ↦ λ e. cc
    ] is

-- ---- what it admits has terms that it mentions
one_term : (t u : Term) → contains (insert (empty {R = term_cmp}) t) u ≡ true → u ≡ t
one_term t u h =
    let none : TermSet = empty in
    same_term u t (⊎_elim (λ l. l) (λ r. absurd (false≢true (sym (contains-empty term_cmp u) ∙ r)))
    (either_has (eq_by_cmp term_cmp u t) (contains none u) (sym (contains-insert term_cmp_total none t u) ∙ h)))

nothing : (x : TermSet) (u : Term) → x ≡ empty → contains x u ≡ true → ⊥
nothing x u e h = false≢true (sym (contains-empty term_cmp u) ∙ ap (λ (s : TermSet). contains s u) (sym e) ∙ h)

mutual
  admitted : (p : Policy) (x : TermSet) → Admits p x → (u : Term) → contains x u ≡ true → Mentions p u
  admitted (assertion t optional) x h u e =
      ⊎_elim (λ l. one_term t u (ap (λ (s : TermSet). contains s u) (sym l) ∙ e)) (λ r. absurd (nothing x u r.1 e)) h
  admitted (exactly_one ps) x h u e = one_admitted ps x h u e
  admitted (all ps) x h u e = each_admitted ps x h u e

  one_admitted : (ps : Policies) (x : TermSet) → OneAdmits ps x → (u : Term) → contains x u ≡ true → OneMentions ps u
  one_admitted none x h u e = absurd h
  one_admitted (and p ps) x h u e = ⊎_elim (λ l. inl (admitted p x l u e)) (λ r. inr (one_admitted ps x r u e)) h

  each_admitted : (ps : Policies) (x : TermSet) → EachAdmits ps x → (u : Term) → contains x u ≡ true → OneMentions ps u
  each_admitted none x h u e = absurd (nothing x u h e)
  each_admitted (and p ps) x (y, z, f, g, is) u e =
      ⊎_elim (λ l. inl (admitted p y f u l)) (λ r. inr (each_admitted ps z g u r))
      (either_has (contains y u) (contains z u)
      (sym (contains-union term_cmp_total y z u) ∙ ap (λ (s : TermSet). contains s u) (sym is) ∙ e))

terms_named : (ts : List Term) → ((t : Term) → contains (from_list {R = term_cmp} ts) t ≡ true → IsTermNamed t)
    → AllByRecursion IsTermNamed ts
terms_named [] f = tt
terms_named (t ∷ ts) f = (
  f t (contains-insert term_cmp_total (from_list ts) t t
      ∙ or_left (eq_by_cmp term_cmp t t) (contains (from_list {R = term_cmp} ts) t)
      (ap is_eq (tied_itself term_cmp_total t))),
  terms_named ts (λ u e. f u (contains-insert term_cmp_total (from_list ts) t u
      ∙ or_right (eq_by_cmp term_cmp u t) e)),
)

lists_named : (lists : List (List Term))
    → ((x : TermSet) → Holds lists x → (t : Term) → contains x t ≡ true → IsTermNamed t)
    → AllByRecursion (AllByRecursion IsTermNamed) lists
lists_named [] f = tt
lists_named (ts ∷ lists) f =
    (terms_named ts (f (from_list ts) (inl refl)), lists_named lists (λ x h. f x (inr h)))

-- ---- alternatives are no more than an operator may have
abbrev sets : List (List Term) → Choices
sets [] = empty
sets (ts ∷ lists) = insert (sets lists) (from_list ts)

equal : (r : Ordering) → is_eq r ≡ true → r ≡ Equal
equal Less e = absurd (false≢true e)
equal Equal e = refl
equal Greater e = absurd (false≢true e)

sets-of : (lists : List (List Term)) (x : TermSet) → contains (sets lists) x ≡ true → Holds lists x
sets-of [] x h = absurd (false≢true (sym (contains-empty set_cmp x) ∙ h))
sets-of (ts ∷ lists) x h =
    ⊎_elim (λ l. inl (same_set x (from_list ts) l)) (λ r. inr (sets-of lists x r))
    (either_has (eq_by_cmp set_cmp x (from_list ts)) (contains (sets lists) x)
    (sym (contains-insert set_cmp_total (sets lists) (from_list ts) x) ∙ h))
  where
    same_set : (y z : TermSet) → eq_by_cmp set_cmp y z ≡ true → y ≡ z
    same_set y z e = set_cmp_exact y z (equal (set_cmp y z) e)

len-sets : (lists : List (List Term)) → Rises list_cmp lists → AllByRecursion (Rises term_cmp) lists
    → len (sets lists) ≡ length lists
len-sets [] up each = len-empty set_cmp
len-sets (ts ∷ lists) up each =
    let rest : len (sets lists) ≡ length lists = len-sets lists up.1 each.1 in
    elim (contains (sets lists) (from_list ts)) as (λ c. contains (sets lists) (from_list ts) ≡ c
    → len (sets (ts ∷ lists)) ≡ length (ts ∷ lists)) [
      | true ↦ λ e.
          absurd (false≢true (sym (below_none list_cmp_total list_cmp_exact ts lists up.0)
          ∙ found ts lists each.0 each.1 (sets-of lists (from_list ts) e)))
      | false ↦ λ e.
          let more : len (sets (ts ∷ lists)) ≡ len (sets lists) + 1 =
          len-insert set_cmp_total (sets lists) (from_list ts) ∙ ap (λ c. cond c (len (sets lists))
          (len (sets lists) + 1)) e in
          omega (arith, more, rest)
    ] refl

first_all : (ps : Policies) → (k : ℕ) × (first k ps ≡ ps)
first_all none = (0, refl)
first_all (and p ps) = let rest = first_all ps in (suc rest.0, ap (and p) rest.1)

-- the root is an All
all_of : (x : Option Policies) (p : Policy) → option_map all x ≡ Some p → (ps : Policies) × (all ps ≡ p)
all_of None p h = absurd (cc)
all_of (Some ps) p h = (ps, cc)

root_kind : (name : Expanded) → is_word (codes "Policy") name ≡ true → kind_of name ≡ kinds.All
root_kind name h = rw h refl

root_all : (e : tree.Element) (p : Policy) → root_in e ≡ Some p → (ps : Policies) × (all ps ≡ p)
root_all (tree.element name decls attrs parts) p is =
    let both = kept (is_word (codes "Policy") name) (policy_in (tree.element name decls attrs parts)) p is in
    all_of (policies_in parts) p
    (subst (λ k. said_as k (tree.element name decls attrs parts) (policies_in parts) ≡ Some p) (root_kind name both.0)
    both.1)

few : (p : Policy) (lists : List (List Term)) → (ps : Policies) → all ps ≡ p → IsNormal p lists
    → (HasTooMany 256 p → ⊥) → length lists ≤ 256
few p lists ps is n fits = elim (cases_lt 256 (length lists)) [
  | inl more ↦
      let size : len (sets lists) ≡ length lists = len-sets lists n.are.rises n.are.each in
      let has : HasMore 256 p = (
        sets lists,
        (λ x e. (n.exact x).1 (sets-of lists x e)),
        omega (arith, size, more),
      ) in
      let whole = first_all ps in
      let inner : HasMore 256 (all (first whole.0 ps)) = subst (HasMore 256) (sym (ap all whole.1 ∙ is)) has in
      absurd (fits (subst (HasTooMany 256) is (inr (whole.0, inner))))
  | inr most ↦ most
]

-- what is found of bytes is named
pub found_named : ((bytes : List ℕ) (e : tree.Element) → Document bytes e → length bytes < 2 ^ 64 → IsResolved 0 e)
    → (bytes : List ℕ) (lists : List (List Term)) → IsNormalOf bytes lists → AreNamed lists
found_named resolved bytes lists f =
    let root = f.read.root in
    let size : length bytes ≤ 2097152 = f.read.fits.0 in
    let fit : length bytes < 2 ^ 64 = omega (arith, size) in
    let writable : IsWritable (tree.without_declarations root) = (resolved bytes root f.read.document fit).writable in
    let rooted : root_in root ≡ Some f.policy = judged_is (root_in root) _ _ f.policy f.read.is in
    let is : policy_in root ≡ Some f.policy = (kept _ (policy_in root) f.policy rooted).1 in
    let names : Names f.policy = policy_named root writable f.policy is in
    let whole = root_all root f.policy rooted in
    let small : length lists ≤ 256 = few f.policy lists whole.0 whole.1 f.normal f.within.1 in
    record {
      counted = omega (arith, small);
      each = lists_named lists (λ x h t e. names t (admitted f.policy x ((f.normal.exact x).1 h) t e));
    }
