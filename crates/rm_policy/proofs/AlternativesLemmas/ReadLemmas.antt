-- Reading policies from trees and from bytes.
use Rattle.std.proofs.Common.{zero, suc, ◌<◌, length, drop, get_or, add-one}
use Rattle.std.proofs.Common.{◌≡◌, ◌≢◌, ◌+◌, ◌++◌, ℕ, List, [], ◌∷◌, Bool, true, false, ◌&&◌, ◌↔◌, Option, Some}
use Rattle.std.proofs.Common.{None}
use Rattle.std.proofs.Common.{Result, Ok, Err, map, option_map, refl, ap, sym, ◌∙◌, arith}
use Rattle.std.specs.Prelude.{if◌then◌else◌}
use Rattle.std.proofs.lemmas.List.{map-append}
use Rattle.soap_document.specs.Tokens.{is_white}
use Rattle.soap_document.specs.Profile.Answer.{err_of}
use Rattle.soap_document.specs.Profile.Document.{Document, IsReadable, IsTooLong, IsTextUpTo, HasNoTree}
use Rattle.soap_document.specs.Profile.Items.{Item, a_declaration, an_attribute, a_text, a_child, parts_among}
use Rattle.soap_document.specs.Profile.Payload.{is_white_outside}
use Rattle.soap_document.specs.Profile.Tree as tree
use Rattle.soap_document.specs.Profile.View.{item_view, items_view, parts_view}
use Rattle.soap_document.specs.declared.profile.error.EnvelopeError.{EnvelopeError}
use Rattle.soap_document.specs.declared.profile.error.EnvelopeError.TheVariants as documents
use Rattle.soap_document.specs.declared.profile.tree.Item.{Item as CodeItem}
use Rattle.rm_policy.specs.Alternatives.Reading.{policy_in, policies_in, before, is_childless, asked_among, asked_in}
use Rattle.rm_policy.specs.Alternatives.Reading.{first_of}
use Rattle.rm_policy.specs.Alternatives.Reading.{count_among, Reads, Answers}
use Rattle.rm_policy.specs.Alternatives.Refusal.{refusal_of}
use Rattle.rm_policy.specs.Alternatives.Tree.{Policy, Policies, none, and, policies_of, policies_found, put_to}
use Rattle.rm_policy.specs.Alternatives.Tree.{policy_view}
use Rattle.rm_policy.specs.Alternatives.Tree.{policies_view}
use Rattle.rm_policy.specs.declared.alternatives.policy.Policy.{Policy as CodePolicy}
use Rattle.rm_policy.specs.declared.alternatives.error.WspError.{WspError}
use Rattle.rm_policy.specs.declared.alternatives.error.WspError.TheVariants.{Memory, Envelope, Malformed}
use Rattle.rm_policy.specs.declared.alternatives.error.WspError.TheVariants.{SecurityUnsupported, TooLarge}
use Rattle.rm_policy.specs.declared.alternatives.error.WspError.TheVariants.{TooManyTerms, TooManyAlternatives}

-- policies, and others behind them
abbrev pub joined : Policies → Policies → Policies
joined none qs = qs
joined (and p ps) qs = and p (joined ps qs)

abbrev pub behind : Policies → Option Policies → Option Policies
behind ps found = option_map (joined ps) found

-- ---- the first item, and the others
abbrev pub in_front : Option Policies → Option Policies → Option Policies
in_front None others = None
in_front (Some ps) others = behind ps others

behind_none : (found : Option Policies) → found ≡ behind none found
behind_none None = refl
behind_none (Some ps) = refl

behind_one : (p : Policy) (found : Option Policies) → before (Some p) found ≡ in_front (before (Some p) (Some none))
    found
behind_one p None = refl
behind_one p (Some ps) = refl

behind_child : (found : Option Policy) (others : Option Policies)
    → before found others ≡ in_front (before found (Some none)) others
behind_child None others = refl
behind_child (Some p) others = behind_one p others

behind_text : (white : Bool) (others : Option Policies)
    → (if white then others else None) ≡ in_front (if white then Some none else None) others
behind_text true others = behind_none others
behind_text false others = refl

item_more : (i : Item) (is : List Item) → policies_in (parts_among (i ∷ is))
    ≡ in_front (policies_in (parts_among (i ∷ []))) (policies_in (parts_among is))
item_more (a_declaration b) is = behind_none (policies_in (parts_among is))
item_more (an_attribute a) is = behind_none (policies_in (parts_among is))
item_more (a_text bytes) is = behind_text (is_white bytes) (policies_in (parts_among is))
item_more (a_child e) is = behind_child (policy_in e) (policies_in (parts_among is))

pub policies_more : (x : CodeItem) (xs : List CodeItem) → policies_in (parts_view (x ∷ xs))
    ≡ in_front (policies_in (parts_view (x ∷ []))) (policies_in (parts_view xs))
policies_more x xs = item_more (item_view x) (items_view xs)

joined_push : (ps : List Policy) (p : Policy) (qs : Policies)
    → joined (policies_of (ps ++ p ∷ [])) qs ≡ joined (policies_of ps) (and p qs)
joined_push [] p qs = refl
joined_push (q ∷ ps) p qs = ap (and q) (joined_push ps p qs)

-- a policy more among those so far
pub behind_push : (ps : List CodePolicy) (p : CodePolicy) (found : Option Policies)
    → behind (policies_view (ps ++ p ∷ [])) found ≡ behind (policies_view ps) (behind (policies_found (Some p)) found)
behind_push ps p None = refl
behind_push ps p (Some qs) =
    ap Some (ap (λ l. joined (policies_of l) qs) (map-append policy_view ps (p ∷ []))
    ∙ joined_push (map policy_view ps) (policy_view p) qs)

pub behind_put : (found : Option CodePolicy) (ps : List CodePolicy) (others : Option Policies)
    → behind (policies_view (put_to found ps)) others ≡ behind (policies_view ps) (behind (policies_found found) others)
behind_put None ps others = ap (behind (policies_view ps)) (behind_none others)
behind_put (Some p) ps others = behind_push ps p others

-- the items from a place on
drop_from : (xs : List CodeItem) (i : ℕ) (x : CodeItem) → i < length xs → x ≡ get_or xs i x
    → drop i xs ≡ x ∷ drop (suc i) xs
drop_from [] i x w e = absurd (omega arith)
drop_from (y ∷ xs) zero x w e = ap (λ z. z ∷ xs) (sym e)
drop_from (y ∷ xs) (suc i) x w e = drop_from xs i x (omega arith) e

pub policies_from : (xs : List CodeItem) (i : ℕ) (x : CodeItem) → i < length xs → x ≡ get_or xs i x
    → policies_in (parts_view (drop i xs))
    ≡ in_front (policies_in (parts_view (x ∷ []))) (policies_in (parts_view (drop (i + 1) xs)))
policies_from xs i x w e =
    let split : drop i xs ≡ x ∷ drop (i + 1) xs = rw add-one (drop_from xs i x w e) in
    ap (λ l. policies_in (parts_view l)) split ∙ policies_more x (drop (i + 1) xs)

joined_none : (ps : Policies) → joined ps none ≡ ps
joined_none none = refl
joined_none (and p ps) = ap (and p) (joined_none ps)

pub behind_all : (ps : Policies) → behind ps (Some none) ≡ Some ps
behind_all ps = ap Some (joined_none ps)

first_none : (found : Option tree.Element) → first_of found None ≡ found
first_none None = refl
first_none (Some e) = refl

asked_item : (i : Item) (is : List Item) → asked_among (parts_among (i ∷ is))
    ≡ first_of (asked_among (parts_among (i ∷ []))) (asked_among (parts_among is))
asked_item (a_declaration b) is = refl
asked_item (an_attribute a) is = refl
asked_item (a_text bytes) is = refl
asked_item (a_child e) is = ap (λ f. first_of f (asked_among (parts_among is))) (sym (first_none (asked_in e)))

pub asked_more : (x : CodeItem) (xs : List CodeItem) → asked_among (parts_view (x ∷ xs))
    ≡ first_of (asked_among (parts_view (x ∷ []))) (asked_among (parts_view xs))
asked_more x xs = asked_item (item_view x) (items_view xs)

count_item : (i : Item) (is : List Item) → count_among (parts_among (i ∷ is))
    ≡ count_among (parts_among (i ∷ [])) + count_among (parts_among is)
count_item (a_declaration b) is = omega arith
count_item (an_attribute a) is = omega arith
count_item (a_text bytes) is = omega arith
count_item (a_child e) is = omega arith

pub count_more : (x : CodeItem) (xs : List CodeItem) → count_among (parts_view (x ∷ xs))
    ≡ count_among (parts_view (x ∷ [])) + count_among (parts_view xs)
count_more x xs = count_item (item_view x) (items_view xs)

childless_item : (i : Item) (is : List Item) → is_childless (parts_among (i ∷ is))
    ≡ (is_childless (parts_among (i ∷ [])) && is_childless (parts_among is))
childless_item (a_declaration b) is = refl
childless_item (an_attribute a) is = refl
childless_item (a_text bytes) is = refl
childless_item (a_child e) is = refl

pub childless_more : (x : CodeItem) (xs : List CodeItem) → is_childless (parts_view (x ∷ xs))
    ≡ (is_childless (parts_view (x ∷ [])) && is_childless (parts_view xs))
childless_more x xs = childless_item (item_view x) (items_view xs)

both : (a b : Bool) → (a && b) ≡ ((a && true) && b)
both true b = refl
both false b = refl

white_item : (i : Item) (is : List Item) → is_white_outside (parts_among (i ∷ is))
    ≡ (is_white_outside (parts_among (i ∷ [])) && is_white_outside (parts_among is))
white_item (a_declaration b) is = refl
white_item (an_attribute a) is = refl
white_item (a_text bytes) is = both (is_white bytes) (is_white_outside (parts_among is))
white_item (a_child e) is = refl

pub white_more : (x : CodeItem) (xs : List CodeItem) → is_white_outside (parts_view (x ∷ xs))
    ≡ (is_white_outside (parts_view (x ∷ [])) && is_white_outside (parts_view xs))
white_more x xs = white_item (item_view x) (items_view xs)

children_item : (i : Item) (is : List Item) → tree.children_of (parts_among (i ∷ is))
    ≡ tree.children_of (parts_among (i ∷ [])) ++ tree.children_of (parts_among is)
children_item (a_declaration b) is = refl
children_item (an_attribute a) is = refl
children_item (a_text bytes) is = refl
children_item (a_child e) is = refl

pub children_more : (x : CodeItem) (xs : List CodeItem) → tree.children_of (parts_view (x ∷ xs))
    ≡ tree.children_of (parts_view (x ∷ [])) ++ tree.children_of (parts_view xs)
children_more x xs = children_item (item_view x) (items_view xs)

-- ---- bytes
-- the cause that the reader of documents names
pub refused : {B X : Type 0} (A : Type 0) (read : tree.Element → Result B WspError) (view : X → B) (bytes : List ℕ)
    (error : EnvelopeError)
    → ((len : ℕ) → (err_of A error ≡ err_of A (documents.TooLong len)) ↔ IsTooLong bytes len)
    → ((place : ℕ) → (err_of A error ≡ err_of A (documents.NotUtf8 place)) ↔ IsTextUpTo bytes place)
    → (err_of A error ≡ err_of A documents.NotProfile → HasNoTree bytes)
    → (err_of A error ≢ err_of A documents.WrongVersion) → (err_of A error ≢ err_of A documents.NotEnvelope)
    → Reads read view bytes (Err (refusal_of error))
refused A read view bytes documents.Memory long utf8 profile version envelope = tt
refused A read view bytes (documents.TooLong len) long utf8 profile version envelope = (long len).0 refl
refused A read view bytes (documents.NotUtf8 place) long utf8 profile version envelope = (utf8 place).0 refl
refused A read view bytes documents.NotProfile long utf8 profile version envelope = profile refl
refused A read view bytes documents.WrongVersion long utf8 profile version envelope = absurd (version refl)
refused A read view bytes documents.NotEnvelope long utf8 profile version envelope = absurd (envelope refl)

-- what is read of the root is read of the bytes
pub read_from : {B X : Type 0} (read : tree.Element → Result B WspError) (view : X → B) (bytes : List ℕ)
    (root : tree.Element) → Document bytes root → IsReadable bytes → (answer : Result X WspError)
    → Answers view answer (read root) → Reads read view bytes answer
read_from read view bytes root d f (Ok x) a = record { root = root; document = d; fits = f; is = a }
read_from read view bytes root d f (Err Memory) a = tt
read_from read view bytes root d f (Err (Envelope error)) a = absurd a
read_from read view bytes root d f (Err Malformed) a = record { root = root; document = d; fits = f; is = a }
read_from read view bytes root d f (Err (SecurityUnsupported name)) a =
    record { root = root; document = d; fits = f; is = a }
read_from read view bytes root d f (Err (TooLarge n)) a = record { root = root; document = d; fits = f; is = a }
read_from read view bytes root d f (Err (TooManyTerms n)) a = a
read_from read view bytes root d f (Err TooManyAlternatives) a = a
