-- The formats of what records hold are formats.
use Rattle.std.proofs.Common.{◌≡◌, ◌↔◌, ℕ, suc, ◌+◌, ◌^◌, ◌<◌, ◌≤◌, Bool, true, false, cond, ltb, leb, List, [], ◌∷◌}
use Rattle.std.proofs.Common.{length, take, Option, Some, None, refl, sym, ap, subst, ◌∙◌, arith}
use Prim.Native.Nat.{zero}
use Rattle.std.specs.Prelude.{◌&&◌}
use Rattle.std.specs.List.{AllByRecursion}
use Rattle.std.specs.Str.{bytes_eq, IsUtf8}
use Rattle.std.proofs.lemmas.Bool.{and_parts, leb-true, le-leb, ltb-false, le-ltb}
use Rattle.std.proofs.Math.Seq.{take-length}
use Rattle.std.proofs.lemmas.Slice.Eq.{bytes_eq-Decides}
use Rattle.rm_sides.specs.Ranges.Ranges.{RisesFrom}
use Rattle.rm_sides.specs.declared.ranges.range.Range.{Range}
use Rattle.rm_base.specs.Text.{IsText, is_text}
use Rattle.rm_base.specs.declared.message.Behaviour.{Behaviour}
use Rattle.rm_base.specs.declared.message.Behaviour.TheVariants.{NoDiscard, EntireSequence, FollowingFirstGap}
use Rattle.rm_base.specs.declared.message.Cause.{Cause}
use Rattle.rm_base.specs.declared.message.Cause.TheVariants.{Peer, Operator, Expired, NotTaken}
use Rattle.soap_document.specs.Grammar.{IsDocument}
use Rattle.soap_document.specs.Machine.{run, start, root_of}
use Rattle.soap_document.specs.Tree as raw
use Rattle.soap_document.specs.Profile.Document.{Document, IsLongestText}
use Rattle.soap_document.specs.Profile.Namespaces.{resolve}
use Rattle.soap_document.specs.Profile.Tree.{Element, without_declarations}
use Rattle.soap_writer.specs.Values.Outcome.{◌>>=◌}
use Rattle.soap_writer.specs.Values.Values.{text_within}
use Rattle.soap_writer.specs.ElementText.{element_text}
use Rattle.record_batch.specs.declared.record.OwnOffer.{OwnOffer}
use Rattle.record_batch.specs.declared.record.Via.{Via}
use Rattle.record_batch.specs.declared.record.Via.TheVariants.{Direct, Polled, Back}
use Rattle.record_batch.specs.Format.{Format, byte, number64, text, ◌&◌, written_as, counted, IsCounted, IsFormat}
use Rattle.record_batch.specs.Parts.{address, identifier, via, via_number, via_of, behaviour, behaviour_number}
use Rattle.record_batch.specs.Parts.{behaviour_of, cause, cause_number, cause_of, lapse, own_offer, range, is_from}
use Rattle.record_batch.specs.Parts.{rise_from, canonical, ranges, binding, payload, tree_of, param_of, param}
use Rattle.record_batch.specs.Parts.{endpoint, peer_offer}
use Rattle.record_batch.specs.Writable.{IsTextWritable, IsLapseWritable, IsOwnOfferWritable, AreRangesWritable}
use Rattle.record_batch.specs.Writable.{IsBindingWritable, IsPayloadWritable, IsParamWritable, IsEndpointWritable}
use Rattle.record_batch.specs.Writable.{IsPeerOfferWritable}
use Rattle.record_batch.proofs.FormatLaws.{bound_is, byte-is, number64-is, text-is, both-is, as-is, counted-is}

-- the machine reads exactly documents
abbrev pub ReadsDocuments : Type 0
ReadsDocuments = (bytes : List ℕ) (root : raw.Element) → IsDocument bytes root ↔ (root_of (run start bytes) ≡ Some root)

-- the laws of the layers below: the test of a text tells what a text is, and the machine reads exactly documents
pub record Below : Type 0 where
  pub texts : (limit : ℕ) (bytes : List ℕ) → (is_text limit bytes ≡ true) ↔ IsText limit bytes
  pub documents : ReadsDocuments

-- a value is written as another one, and back
from-is : {A B : Type 0} (f : Format A) (F : A → Type 0) (to : B → A) (from : A → B) → IsFormat f F
    → ((y : B) → from (to y) ≡ y) → ((x : A) → to (from x) ≡ x)
    → IsFormat (written_as to (λ x. Some (from x)) f) (λ y. F (to y))
from-is {A} {B} f F to from is_f back there =
    as-is f F (λ y. F (to y)) to (λ x. Some (from x)) is_f (λ y may. (may, ap Some (back y)))
    (λ x y e may. let same : from x ≡ y = cc in
    let at : to y ≡ x = ap to (sym same) ∙ there x in
    (at, subst F (sym at) may))

-- ---- texts

the-same : (b : Bool) (x y : List ℕ) → cond b (Some x) None ≡ Some y → (b ≡ true) × (x ≡ y)
the-same true x y e = (refl, cc)
the-same false x y e = absurd cc

within-again : Below → (limit : ℕ) (y : List ℕ) → IsText limit y → text_within limit y ≡ Some y
unfolding text_within
within-again below limit y may = rw ((below.texts limit y).1 may) refl

within-only : Below → (limit : ℕ) (x y : List ℕ) → text_within limit x ≡ Some y → (y ≡ x) × IsText limit y
unfolding text_within
within-only below limit x y e =
    let p = the-same (is_text limit x) x y e in
    (sym p.1, subst (λ (t : List ℕ). IsText limit t) p.1 ((below.texts limit x).0 p.0))

texts-are : Below → (limit : ℕ) → limit < 2 ^ 32
    → IsFormat (written_as (λ t. t) (text_within limit) text) (IsText limit)
texts-are below limit small =
    as-is text (λ t. length t < 2 ^ 32) (IsText limit) (λ t. t) (text_within limit) text-is
    (λ y may. (omega (arith, may.within), within-again below limit y may))
    (λ x y e may. within-only below limit x y e)

pub address-is : Below → IsFormat address (IsText 2048)
address-is below = texts-are below 2048 (omega arith)

pub identifier-is : Below → IsFormat identifier (IsText 512)
identifier-is below = texts-are below 512 (omega arith)

-- ---- words

via-again : (v : Via) → (via_number v < 256) × (via_of (via_number v) ≡ Some v)
via-again Direct = (omega arith, refl)
via-again Polled = (omega arith, refl)
via-again Back = (omega arith, refl)

via-only : (n : ℕ) (v : Via) → via_of n ≡ Some v → via_number v ≡ n
via-only zero v e = let same : Direct ≡ v = cc in ap via_number (sym same)
via-only (suc zero) v e = let same : Polled ≡ v = cc in ap via_number (sym same)
via-only (suc (suc zero)) v e = let same : Back ≡ v = cc in ap via_number (sym same)
via-only (suc (suc (suc n))) v e = absurd cc

pub via-is : IsFormat via (λ v. Unit {0})
via-is = as-is byte (λ b. b < 256) (λ v. Unit {0}) via_number via_of byte-is (λ v may. via-again v)
    (λ n v e may. (via-only n v e, tt))

behaviour-again : (v : Behaviour) → (behaviour_number v < 256) × (behaviour_of (behaviour_number v) ≡ Some v)
behaviour-again NoDiscard = (omega arith, refl)
behaviour-again EntireSequence = (omega arith, refl)
behaviour-again FollowingFirstGap = (omega arith, refl)

behaviour-only : (n : ℕ) (v : Behaviour) → behaviour_of n ≡ Some v → behaviour_number v ≡ n
behaviour-only zero v e = let same : NoDiscard ≡ v = cc in ap behaviour_number (sym same)
behaviour-only (suc zero) v e = let same : EntireSequence ≡ v = cc in ap behaviour_number (sym same)
behaviour-only (suc (suc zero)) v e = let same : FollowingFirstGap ≡ v = cc in ap behaviour_number (sym same)
behaviour-only (suc (suc (suc n))) v e = absurd cc

pub behaviour-is : IsFormat behaviour (λ v. Unit {0})
behaviour-is = as-is byte (λ b. b < 256) (λ v. Unit {0}) behaviour_number behaviour_of byte-is
    (λ v may. behaviour-again v) (λ n v e may. (behaviour-only n v e, tt))

cause-again : (v : Cause) → (cause_number v < 256) × (cause_of (cause_number v) ≡ Some v)
cause-again Peer = (omega arith, refl)
cause-again Operator = (omega arith, refl)
cause-again Expired = (omega arith, refl)
cause-again NotTaken = (omega arith, refl)

cause-only : (n : ℕ) (v : Cause) → cause_of n ≡ Some v → cause_number v ≡ n
cause-only zero v e = let same : Peer ≡ v = cc in ap cause_number (sym same)
cause-only (suc zero) v e = let same : Operator ≡ v = cc in ap cause_number (sym same)
cause-only (suc (suc zero)) v e = let same : Expired ≡ v = cc in ap cause_number (sym same)
cause-only (suc (suc (suc zero))) v e = let same : NotTaken ≡ v = cc in ap cause_number (sym same)
cause-only (suc (suc (suc (suc n)))) v e = absurd cc

pub cause-is : IsFormat cause (λ v. Unit {0})
cause-is = as-is byte (λ b. b < 256) (λ v. Unit {0}) cause_number cause_of byte-is (λ v may. cause-again v)
    (λ n v e may. (cause-only n v e, tt))

-- ---- values of several parts

pairs-are : IsFormat (number64 & number64) (λ x. (x.0 < 2 ^ 64) × (x.1 < 2 ^ 64))
pairs-are = both-is number64 number64 (λ n. n < 2 ^ 64) (λ n. n < 2 ^ 64) number64-is number64-is

pub lapse-is : IsFormat lapse IsLapseWritable
lapse-is =
    from-is (number64 & number64) (λ x. (x.0 < 2 ^ 64) × (x.1 < 2 ^ 64)) (λ l. (l.months, l.ms))
    (λ x. record { months = x.0; ms = x.1 }) pairs-are (λ y. refl) (λ x. refl)

own-may : {g : Format OwnOffer} → IsFormat g (λ o. (o.counter < 2 ^ 64) × Unit {0}) → IsFormat g IsOwnOfferWritable
own-may is_g = record {
  again = λ o rest may. is_g.again o rest (may, tt);
  only = λ bytes o rest h e. let p = is_g.only bytes o rest h e in record { is = p.is; may = p.may.0 };
}

pub own_offer-is : IsFormat own_offer IsOwnOfferWritable
own_offer-is =
    own-may (from-is (number64 & behaviour) (λ x. (x.0 < 2 ^ 64) × Unit {0}) (λ o. (o.counter, o.behaviour))
    (λ x. record { counter = x.0; behaviour = x.1 })
    (both-is number64 behaviour (λ n. n < 2 ^ 64) (λ v. Unit {0}) number64-is behaviour-is) (λ y. refl) (λ x. refl))

-- the ends of a range have eight bytes
abbrev pub HasEnds : Range → Type 0
HasEnds r = (r.lower < 2 ^ 64) × (r.upper < 2 ^ 64)

range-is : IsFormat range HasEnds
range-is =
    from-is (number64 & number64) (λ x. (x.0 < 2 ^ 64) × (x.1 < 2 ^ 64)) (λ r. (r.lower, r.upper))
    (λ x. record { lower = x.0; upper = x.1 }) pairs-are (λ y. refl) (λ x. refl)

-- what the test of a range tells
pub from-true : (first : ℕ) (r : Range) → is_from first r ≡ true
    → (first ≤ r.lower) × (r.lower ≤ r.upper) × (r.upper ≤ 9223372036854775807)
from-true first r e =
    let q = and_parts (leb first r.lower && leb r.lower r.upper) (leb r.upper 9223372036854775807) e in
    let s = and_parts (leb first r.lower) (leb r.lower r.upper) q.0 in
    (leb-true first r.lower s.0, leb-true r.lower r.upper s.1, leb-true r.upper 9223372036854775807 q.1)

rises : (first : ℕ) (rs : List Range) → rise_from first rs ≡ true → RisesFrom first rs
rises first [] e = tt
rises first (r ∷ rs) e =
    let p = and_parts (is_from first r) (rise_from (r.upper + 2) rs) e in
    let q = from-true first r p.0 in
    (q.0, q.1, q.2, rises (r.upper + 2) rs p.1)

does_rise : (first : ℕ) (rs : List Range) → RisesFrom first rs → rise_from first rs ≡ true
does_rise first [] h = refl
does_rise first (r ∷ rs) h =
    rw (
      le-leb first r.lower h.0,
      le-leb r.lower r.upper h.1,
      le-leb r.upper 9223372036854775807 h.2,
      does_rise (r.upper + 2) rs h.3,
    ) refl

have-ends : (first : ℕ) (rs : List Range) → RisesFrom first rs → AllByRecursion HasEnds rs
have-ends first [] h = tt
have-ends first (r ∷ rs) h = ((omega (arith, h.1, h.2), omega (arith, h.2)), have-ends (r.upper + 2) rs h.3)

the-ranges : (b : Bool) (x y : List Range) → cond b (Some x) None ≡ Some y → (b ≡ true) × (x ≡ y)
the-ranges true x y e = (refl, cc)
the-ranges false x y e = absurd cc

ranges-again : (rs : List Range) → AreRangesWritable rs → IsCounted HasEnds rs × (canonical rs ≡ Some rs)
ranges-again rs may =
    (record { few = may.few; each = have-ends 1 rs may.canonical }, rw (does_rise 1 rs may.canonical) refl)

ranges-only : (x y : List Range) → canonical x ≡ Some y → IsCounted HasEnds x → (y ≡ x) × AreRangesWritable y
ranges-only x y e may =
    let p = the-ranges (rise_from 1 x) x y e in
    (sym p.1, subst AreRangesWritable p.1 (record { few = may.few; canonical = rises 1 x p.0 }))

pub ranges-is : IsFormat ranges AreRangesWritable
ranges-is =
    as-is (counted range) (IsCounted HasEnds) AreRangesWritable (λ rs. rs) canonical (counted-is range HasEnds range-is)
    ranges-again ranges-only

binding-is : IsFormat binding IsBindingWritable
binding-is =
    from-is (text & text) (λ x. IsTextWritable x.0 × IsTextWritable x.1) (λ b. (b.prefix, b.space))
    (λ x. record { prefix = x.0; space = x.1 }) (both-is text text IsTextWritable IsTextWritable text-is text-is)
    (λ y. refl) (λ x. refl)

-- the same of what may be written, said in other words
pub reworded : {A : Type 0} {f : Format A} {F : A → Type 0} (G : A → Type 0) → IsFormat f F → ((x : A) → G x → F x)
    → ((x : A) → F x → G x) → IsFormat f G
reworded G is_f there back = record {
  again = λ x rest may. is_f.again x rest (there x may);
  only = λ bytes x rest h e. let p = is_f.only bytes x rest h e in record { is = p.is; may = back x p.may };
}

pub payload-is : IsFormat payload IsPayloadWritable
unfolding payload
payload-is =
    reworded IsPayloadWritable (from-is (text & counted binding)
    (λ x. IsTextWritable x.0 × IsCounted IsBindingWritable x.1)
    (λ p. (p.bytes, p.scope)) (λ x. record { bytes = x.0; scope = x.1 })
    (both-is text (counted binding) IsTextWritable (IsCounted IsBindingWritable) text-is
    (counted-is binding IsBindingWritable binding-is)) (λ y. refl) (λ x. refl))
    (λ p may. (may.bytes, may.scope)) (λ p may. record { bytes = may.0; scope = may.1 })

-- ---- parameters

pub tree-again : ReadsDocuments → (bytes : List ℕ) (tree : Element) → length bytes ≤ 2097152 → Document bytes tree
    → tree_of bytes ≡ Some tree
unfolding tree_of
tree-again documents bytes tree few d =
    rw (le-ltb 2097152 (length bytes) few, (documents bytes d.raw).0 d.is) d.resolved

not-long : (b : Bool) (x : Option Element) (y : Element) → cond b None x ≡ Some y → (b ≡ false) × (x ≡ Some y)
not-long true x y e = absurd cc
not-long false x y e = (refl, e)

pub tree-only : ReadsDocuments → (bytes : List ℕ) (tree : Element) → tree_of bytes ≡ Some tree
    → (length bytes ≤ 2097152) × Document bytes tree
unfolding tree_of
tree-only documents bytes tree e =
    let p = not-long (ltb 2097152 (length bytes)) (root_of (run start bytes) >>= λ root. resolve [] root) tree e in
    let a = bound_is (root_of (run start bytes)) (λ root. resolve [] root) tree p.1 in
    (ltb-false _ _ p.0, record { raw = a.0; is = (documents bytes a.0).1 a.1; resolved = a.2 })

none-where : (o : Option Element) → ((x : Element) → o ≡ Some x → ⊥) → o ≡ None
none-where None never = refl
none-where (Some x) never = absurd (never x refl)

-- bytes without a tree have none
pub no-tree : ReadsDocuments → (bytes : List ℕ) → ((tree : Element) → ¬ (Document bytes tree)) → tree_of bytes ≡ None
no-tree documents bytes never = none-where (tree_of bytes) (λ x e. never x (tree-only documents bytes x e).1)

pub long-tree : ReadsDocuments → (bytes : List ℕ) → 2097152 < length bytes → tree_of bytes ≡ None
long-tree documents bytes long =
    none-where (tree_of bytes) (λ x e. let few = (tree-only documents bytes x e).0 in absurd (omega (arith, long, few)))

-- and neither have bytes that are UTF-8 up to a place alone
pub cut-tree : ReadsDocuments → ((bytes : List ℕ) (root : raw.Element) → IsDocument bytes root → IsUtf8 bytes)
    → (bytes : List ℕ) (place : ℕ) → place < length bytes → IsLongestText bytes place → tree_of bytes ≡ None
cut-tree documents utf8 bytes place inside longest =
    none-where (tree_of bytes) (λ x e.
    let d = (tree-only documents bytes x e).1 in
    let whole = utf8 bytes d.raw d.is in
    let all : IsUtf8 (take (length bytes) bytes) =
    subst (λ (b : List ℕ). IsUtf8 b) (sym (take-length bytes)) whole in
    let most = longest.longest (length bytes) (omega arith) all in
    absurd (omega (arith, inside, most)))

param-again : Below → (p : Element) → IsParamWritable p → param_of (element_text false p) ≡ Some p
unfolding param_of
param-again below p may =
    rw (
      tree-again below.documents (element_text false p) may.tree may.few may.document,
      may.same,
      (bytes_eq-Decides (element_text false p) (element_text false p)).1 refl,
    ) refl

the-element : (b : Bool) (x y : Element) → cond b (Some x) None ≡ Some y → (b ≡ true) × (x ≡ y)
the-element true x y e = (refl, cc)
the-element false x y e = absurd cc

param-only : Below → (x : List ℕ) (p : Element) → param_of x ≡ Some p → (element_text false p ≡ x) × IsParamWritable p
unfolding param_of
param-only below x p e =
    let a =
    bound_is (tree_of x)
    (λ tree. cond (bytes_eq (element_text false (without_declarations tree)) x) (Some (without_declarations tree)) None)
    p e in
    let q =
    the-element (bytes_eq (element_text false (without_declarations a.0)) x) (without_declarations a.0) p a.2 in
    let t = tree-only below.documents x a.0 a.1 in
    let written : element_text false (without_declarations a.0) ≡ x =
    (bytes_eq-Decides (element_text false (without_declarations a.0)) x).0 q.0 in
    let at : element_text false p ≡ x = ap (element_text false) (sym q.1) ∙ written in (
      at,
      record {
        few = subst (λ (bytes : List ℕ). length bytes ≤ 2097152) (sym at) t.0;
        tree = a.0;
        document = subst (λ (bytes : List ℕ). Document bytes a.0) (sym at) t.1;
        same = q.1;
      },
    )

pub param-is : Below → IsFormat param IsParamWritable
param-is below =
    as-is text (λ t. length t < 2 ^ 32) IsParamWritable (element_text false) param_of text-is
    (λ p may. (omega (arith, may.few), param-again below p may)) (λ x p e may. param-only below x p e)

-- ---- endpoint references

pub endpoint-is : Below → IsFormat endpoint IsEndpointWritable
unfolding endpoint
endpoint-is below =
    reworded IsEndpointWritable (from-is (address & counted param)
    (λ x. IsText 2048 x.0 × IsCounted IsParamWritable x.1)
    (λ e. (e.address, e.params)) (λ x. record { address = x.0; params = x.1 })
    (both-is address (counted param) (IsText 2048) (IsCounted IsParamWritable) (address-is below)
    (counted-is param IsParamWritable (param-is below))) (λ y. refl) (λ x. refl))
    (λ e may. (may.address, may.params)) (λ e may. record { address = may.0; params = may.1 })

pub peer_offer-is : Below → IsFormat peer_offer IsPeerOfferWritable
peer_offer-is below =
    from-is (identifier & endpoint) (λ x. IsText 512 x.0 × IsEndpointWritable x.1) (λ o. (o.ident, o.endpoint))
    (λ x. record { ident = x.0; endpoint = x.1 })
    (both-is identifier endpoint (IsText 512) IsEndpointWritable (identifier-is below) (endpoint-is below))
    (λ y. refl) (λ x. refl)
