-- What is found of bytes, from what each step answers, and that it is not refused.
use Rattle.std.proofs.Common.{◌≡◌, ◌≤◌, ◌<◌, ◌↔◌, List, ℕ, [], Result, Ok, Err, Some, inl, inr, refl, sym, ap}
use Rattle.std.proofs.Common.{subst, ◌∙◌, length, take, ⊎_elim, true, arith}
use Rattle.std.proofs.lemmas.List.{take_all}
use Rattle.std.specs.FinSet.{contains, len}
use Rattle.std.specs.Str.{IsUtf8}
use Rattle.soap_document.specs.Grammar.{IsDocument}
use Rattle.soap_document.specs.Tree as written
use Rattle.soap_document.specs.Profile.Document.{Document, IsLongestText}
use Rattle.soap_document.specs.Profile.Namespaces.{resolve}
use Rattle.soap_document.specs.Profile.Tree.{Element}
use Rattle.soap_document.specs.declared.profile.error.EnvelopeError.{EnvelopeError}
use Rattle.soap_document.specs.declared.profile.error.EnvelopeError.TheVariants as documents
use Rattle.rm_policy.specs.Reading.{IsNoDocument}
use Rattle.rm_policy.proofs.AlternativesLemmas.LawLemmas.{normal-one}
use Rattle.rm_policy.proofs.AlternativesLemmas.OrderLemmas.{term_cmp_total, term_cmp_exact}
use Rattle.rm_policy.proofs.AlternativesLemmas.SetLemmas.{len-part-le}
use Rattle.rm_policy.specs.Alternatives.Admits.{Admits}
use Rattle.rm_policy.specs.Alternatives.Sets.{TermSet}
use Rattle.rm_policy.specs.Alternatives.Normal.{HasMoreInCommon}
use Rattle.rm_policy.specs.Alternatives.Answers.{Intersects, Normalises}
use Rattle.rm_policy.specs.Alternatives.Normal.{IsNormal}
use Rattle.rm_policy.specs.Alternatives.Finds.{IsWithin, HasManyTerms, HasManyAlternatives}
use Rattle.rm_policy.specs.Alternatives.Finds.{IsNormalOf, IsCommonOf, FindsCommon, FindsNormal}
use Rattle.rm_policy.specs.Alternatives.Reading.{Reads, ReadsAs, policy_of, pair_of}
use Rattle.rm_policy.specs.Alternatives.Tree.{Policy, policy_view, pair_view}
use Rattle.rm_policy.specs.declared.alternatives.error.WspError.{WspError}
use Rattle.rm_policy.specs.declared.alternatives.error.WspError.TheVariants.{Memory, Envelope, Malformed}
use Rattle.rm_policy.specs.declared.alternatives.error.WspError.TheVariants.{SecurityUnsupported, TooLarge}
use Rattle.rm_policy.specs.declared.alternatives.error.WspError.TheVariants.{TooManyTerms, TooManyAlternatives}
use Rattle.rm_policy.specs.declared.alternatives.term.Term.{Term}

pub unread : (bytes : List ℕ) (e : WspError) → Reads policy_of policy_view bytes (Err e) → FindsNormal bytes (Err e)
unread bytes Memory h = tt
unread bytes (Envelope error) h = h
unread bytes Malformed h = h
unread bytes (SecurityUnsupported name) h = h
unread bytes (TooLarge elements) h = h
unread bytes (TooManyTerms n) h = absurd h
unread bytes TooManyAlternatives h = absurd h

pub no_normal : (bytes : List ℕ) (p : Policy) → ReadsAs policy_of bytes (Ok p) → (e : WspError) → Normalises p (Err e)
    → FindsNormal bytes (Err e)
no_normal bytes p r Memory h = tt
no_normal bytes p r (Envelope error) h = absurd h
no_normal bytes p r Malformed h = absurd h
no_normal bytes p r (SecurityUnsupported name) h = absurd h
no_normal bytes p r (TooLarge elements) h = absurd h
no_normal bytes p r (TooManyTerms n) h = (p, r, h)
no_normal bytes p r TooManyAlternatives h = (p, r, h)

pub unread_pair : (bytes : List ℕ) (e : WspError) → Reads pair_of pair_view bytes (Err e) → FindsCommon bytes (Err e)
unread_pair bytes Memory h = tt
unread_pair bytes (Envelope error) h = h
unread_pair bytes Malformed h = h
unread_pair bytes (SecurityUnsupported name) h = h
unread_pair bytes (TooLarge elements) h = h
unread_pair bytes (TooManyTerms n) h = absurd h
unread_pair bytes TooManyAlternatives h = absurd h

pub no_first : (bytes : List ℕ) (p q : Policy) → ReadsAs pair_of bytes (Ok (p, q)) → (e : WspError)
    → Normalises p (Err e)
    → FindsCommon bytes (Err e)
no_first bytes p q r Memory h = tt
no_first bytes p q r (Envelope error) h = absurd h
no_first bytes p q r Malformed h = absurd h
no_first bytes p q r (SecurityUnsupported name) h = absurd h
no_first bytes p q r (TooLarge elements) h = absurd h
no_first bytes p q r (TooManyTerms n) h = (p, q, r, inl h)
no_first bytes p q r TooManyAlternatives h = (p, q, r, inl h)

pub no_second : (bytes : List ℕ) (p q : Policy) → ReadsAs pair_of bytes (Ok (p, q)) → IsWithin p → (e : WspError)
    → Normalises q (Err e) → FindsCommon bytes (Err e)
no_second bytes p q r w Memory h = tt
no_second bytes p q r w (Envelope error) h = absurd h
no_second bytes p q r w Malformed h = absurd h
no_second bytes p q r w (SecurityUnsupported name) h = absurd h
no_second bytes p q r w (TooLarge elements) h = absurd h
no_second bytes p q r w (TooManyTerms n) h = (p, q, r, inr (w, h))
no_second bytes p q r w TooManyAlternatives h = (p, q, r, inr (inl (w, h)))

pub no_common : (bytes : List ℕ) (p q : Policy) (a b : List (List Term)) → ReadsAs pair_of bytes (Ok (p, q))
    → IsNormal p a → IsNormal q b → IsWithin p → IsWithin q
    → (e : WspError) → Intersects a b (Err e) → FindsCommon bytes (Err e)
no_common bytes p q a b r f g v w Memory h = tt
no_common bytes p q a b r f g v w (Envelope error) h = absurd h
no_common bytes p q a b r f g v w Malformed h = absurd h
no_common bytes p q a b r f g v w (SecurityUnsupported name) h = absurd h
no_common bytes p q a b r f g v w (TooLarge elements) h = absurd h
no_common bytes p q a b r f g v w (TooManyTerms n) h = absurd h
no_common bytes p q a b r f g v w TooManyAlternatives h = (p, q, r, inr (inr (v, w, (a, b, f, g, h))))

-- ---- what is found is not refused

-- bytes of which a shorter front is the longest text are no text
no_text : (bytes : List ℕ) (place : ℕ) → place < length bytes → IsLongestText bytes place → ¬ (IsUtf8 bytes)
no_text bytes place inside front valid =
    let whole : take (length bytes) bytes ≡ bytes = take_all (length bytes) bytes (omega arith) in
    let over : length bytes ≤ place = front.longest (length bytes) (omega arith) (rw whole valid) in
    omega arith

-- what is read is a document
no_cause : {A : Type 0} (read : Element → Result A WspError) (bytes : List ℕ) (error : EnvelopeError)
    (answer : Result A WspError) → IsNoDocument bytes error → ReadsAs read bytes answer → ⊥
no_cause read bytes documents.Memory answer why is = why
no_cause read bytes (documents.TooLong len) answer why is = omega (arith, why.0, is.fits.0)
no_cause read bytes (documents.NotUtf8 place) answer why is = no_text bytes place why.1 why.2 is.fits.1
no_cause read bytes documents.NotProfile answer why is = why.2 is.root is.document
no_cause read bytes documents.WrongVersion answer why is = why
no_cause read bytes documents.NotEnvelope answer why is = why

-- a policy has one number of terms
few_terms : (p : Policy) → IsWithin p → (n : ℕ) → HasManyTerms p n → ⊥
few_terms p within n many =
    let few = within.0.1 in
    let all = many.0 in
    let part : len all.0 ≤ len few.0 = len-part-le term_cmp_total term_cmp_exact all.0 few.0
    (λ t e. (few.1 t).0 ((all.1 t).1 e)) in
    omega (arith, part, within.0.2, few.2, all.2, many.1)

few_alternatives : (p : Policy) → IsWithin p → HasManyAlternatives p → ⊥
few_alternatives p within many = within.1 many.1

same_sets : (p q : Policy) → p ≡ q → (x : TermSet) → Admits p x ↔ Admits q x
same_sets p q e x = (subst (λ r. Admits r x) e, subst (λ r. Admits r x) (sym e))

-- two normal forms have too many alternatives in common, or have not
few_common : {bytes : List ℕ} {common : List (List Term)} (p q : Policy) (f : IsCommonOf bytes common) → p ≡ f.one
    → q ≡ f.other → (a : List (List Term)) (b : List (List Term)) → IsNormal p a → IsNormal q b
    → HasMoreInCommon 256 a b → ⊥
few_common p q f one other a b n m more =
    let first : a ≡ f.lists = normal-one p f.one a f.lists n f.normal (same_sets p f.one one) in
    let second : b ≡ f.others = normal-one q f.other b f.others m f.other_normal (same_sets q f.other other) in
    f.few (subst (λ l. HasMoreInCommon 256 f.lists l) second (subst (λ l. HasMoreInCommon 256 l b) first more))

module _ (one_tree : (bytes : List ℕ) (a b : written.Element) → IsDocument bytes a → IsDocument bytes b → a ≡ b) where
  same_root : (bytes : List ℕ) (a b : Element) → Document bytes a → Document bytes b → a ≡ b
  same_root bytes a b d e =
      let raws : d.raw ≡ e.raw = one_tree bytes d.raw e.raw d.is e.is in
      let roots : Some a ≡ Some b = sym d.resolved ∙ ap (resolve []) raws ∙ e.resolved in
      cc

  same_reading : {A : Type 0} (read : Element → Result A WspError) (bytes : List ℕ) (one other : Result A WspError)
      → ReadsAs read bytes one → ReadsAs read bytes other → one ≡ other
  same_reading read bytes one other r s =
      let roots = same_root bytes r.root s.root r.document s.document in
      sym r.is ∙ ap read roots ∙ s.is

  -- a value is no error
  differ : {A : Type 0} (read : Element → Result A WspError) (bytes : List ℕ) (a : A) (error : WspError)
      → ReadsAs read bytes (Ok a) → ReadsAs read bytes (Err error) → ⊥
  differ read bytes a error r s = let same = same_reading read bytes (Ok a) (Err error) r s in cc

  pub same_value : {A : Type 0} (read : Element → Result A WspError) (bytes : List ℕ) (a b : A)
      → ReadsAs read bytes (Ok a) → ReadsAs read bytes (Ok b) → a ≡ b
  same_value read bytes a b r s = let same = same_reading read bytes (Ok a) (Ok b) r s in cc

  pub normal_stands : (bytes : List ℕ) (lists : List (List Term)) (error : WspError) → FindsNormal bytes (Ok lists)
      → FindsNormal bytes (Err error) → error ≡ Memory
  normal_stands bytes lists Memory f g = refl
  normal_stands bytes lists (Envelope error) f g = absurd (no_cause policy_of bytes error (Ok f.policy) g f.read)
  normal_stands bytes lists Malformed f g = absurd (differ policy_of bytes f.policy Malformed f.read g)
  normal_stands bytes lists (SecurityUnsupported name) f g =
      absurd (differ policy_of bytes f.policy (SecurityUnsupported name) f.read g)
  normal_stands bytes lists (TooLarge n) f g = absurd (differ policy_of bytes f.policy (TooLarge n) f.read g)
  normal_stands bytes lists (TooManyTerms n) f g =
      let same = same_value policy_of bytes g.0 f.policy g.1 f.read in
      absurd (few_terms f.policy f.within n (subst (λ p. HasManyTerms p n) same g.2))
  normal_stands bytes lists TooManyAlternatives f g =
      let same = same_value policy_of bytes g.0 f.policy g.1 f.read in
      absurd (few_alternatives f.policy f.within (subst HasManyAlternatives same g.2))

  pub common_stands : (bytes : List ℕ) (common : List (List Term)) (error : WspError) → FindsCommon bytes (Ok common)
      → FindsCommon bytes (Err error) → error ≡ Memory
  common_stands bytes common Memory f g = refl
  common_stands bytes common (Envelope error) f g = absurd (no_cause pair_of bytes error (Ok (f.one, f.other)) g f.read)
  common_stands bytes common Malformed f g = absurd (differ pair_of bytes (f.one, f.other) Malformed f.read g)
  common_stands bytes common (SecurityUnsupported name) f g =
      absurd (differ pair_of bytes (f.one, f.other) (SecurityUnsupported name) f.read g)
  common_stands bytes common (TooLarge n) f g =
      absurd (differ pair_of bytes (f.one, f.other) (TooLarge n) f.read g)
  common_stands bytes common (TooManyTerms n) f (p, q, read, many) =
      let same = same_value pair_of bytes (p, q) (f.one, f.other) read f.read in
      let one : p ≡ f.one = ap (λ (x : Policy × Policy). x.0) same in
      let other : q ≡ f.other = ap (λ (x : Policy × Policy). x.1) same in
      absurd (⊎_elim (λ m. few_terms f.one f.within n (subst (λ x. HasManyTerms x n) one m))
      (λ m. few_terms f.other f.other_within n (subst (λ x. HasManyTerms x n) other m.1)) many)
  common_stands bytes common TooManyAlternatives f (p, q, read, many) =
      let same = same_value pair_of bytes (p, q) (f.one, f.other) read f.read in
      let one : p ≡ f.one = ap (λ (x : Policy × Policy). x.0) same in
      let other : q ≡ f.other = ap (λ (x : Policy × Policy). x.1) same in
      absurd (⊎_elim (λ m. few_alternatives f.one f.within (subst HasManyAlternatives one m))
      (λ later. ⊎_elim (λ m. few_alternatives f.other f.other_within (subst HasManyAlternatives other m.1))
      (λ m. few_common p q f one other m.2.0 m.2.1 m.2.2 m.2.3 m.2.4) later) many)
