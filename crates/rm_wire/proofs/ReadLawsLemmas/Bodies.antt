-- What stands in Body, as it is read, and the action that it goes with.
use Rattle.std.proofs.Common.{◌≡◌, ℕ, suc, Bool, true, false, ◌||◌, if◌then◌else◌, List, [], ◌∷◌}
use Rattle.std.proofs.Common.{Option, Some, None, option_map, Result, Ok, Err, codes, refl, sym, ap, ap₂}
use Rattle.std.proofs.Common.{subst, ◌∙◌, inl, inr, arith}
use Rattle.std.specs.Prelude.{◌⊎◌, IfSome, IsSome, Contains}
use Rattle.std.specs.List.{AllByRecursion, list_all}
use Rattle.std.specs.Str.{bytes_eq}
use Rattle.std.proofs.lemmas.Bool.{and_parts}
use Prim.Native.Nat.{zero}
use Rattle.rm_base.specs.declared.message.Payload.{Payload}
use Rattle.soap_lex.specs.Facts.{same}
use Rattle.rm_base.specs.declared.message.Binding.{Binding}
use Rattle.soap_document.specs.Profile.Tree.{Element, Parts, name_of, parts_of, children_of}
use Rattle.soap_document.specs.declared.profile.name.Expanded.{Expanded}
use Rattle.soap_writer.specs.Stripped.Resolved.{AreInForce, IsResolved}
use Rattle.soap_writer.specs.Values.Children.{name_in, has_name}
use Rattle.soap_writer.specs.Values.Outcome.{◌>>=◌, single}
use Rattle.wsa_headers.specs.Addressing.{first_of}
use Rattle.rm_message.specs.Elements.Lifecycle.{body_name, body_as, lifecycle_of, create_in, response_in, finish_in}
use Rattle.rm_message.specs.Elements.Lifecycle.{make_in}
use Rattle.rm_message.specs.Elements.Headers.{identifier}
use Rattle.rm_message.specs.Elements.Outcome.{rm, mc, named}
use Rattle.rm_message.specs.declared.elements.error.ElementError.{ElementError}
use Rattle.rm_message.specs.declared.elements.lifecycle.Lifecycle.{Lifecycle}
use Rattle.rm_message.specs.declared.elements.lifecycle.Lifecycle.TheVariants as life
use Rattle.rm_message.specs.declared.elements.read.BodyName.{BodyName}
use Rattle.rm_message.specs.declared.elements.read.BodyName.TheVariants as names
use Rattle.rm_message.specs.Actions.{create_sequence, create_sequence_response, close_sequence}
use Rattle.rm_message.specs.Actions.{close_sequence_response, terminate_sequence, terminate_sequence_response}
use Rattle.rm_message.specs.Actions.{make_connection}
use Rattle.rm_message.specs.declared.message.Body.{Body}
use Rattle.rm_message.specs.declared.message.Body.TheVariants as bodies
use Rattle.message_writer.specs.Rules.{action_for, bare_actions, protocol_actions, HasItsId}
use Rattle.message_writer.specs.Rules.{IsFaultWritable}
use Rattle.message_reader.specs.Bodies.{if_fault, fault_at, element_for, is_bare, is_protocol, lifecycle_from}
use Rattle.message_reader.specs.Bodies.{lifecycle_in, body_for, numbered_body, unnumbered_body, body_in, fault_of}
use Rattle.message_reader.specs.Faults.{fault_in}
use Rattle.message_reader.specs.Faults11.{Told, fault11_in}
use Rattle.soap_envelope.specs.Soap.{is_soap11}
use Rattle.rm_wire.specs.ReadLaws.WasRead.{IsBodyRead}
use Rattle.rm_wire.proofs.ReadLawsLemmas.Faults.{fault_is}
use Rattle.rm_wire.proofs.ReadLawsLemmas.Faults11.{IsTold, fault11_is}
use Rattle.rm_wire.proofs.ReadLawsLemmas.Lifecycles.{lifecycle_is}
use Rattle.rm_wire.proofs.ReadLawsLemmas.Lists.{first_is, single_is}
use Rattle.rm_wire.proofs.ReadLawsLemmas.Names.{WrittenNames}

-- ---- actions

three_cases : (a b c : Bool) → (a || b || c) ≡ true → (a ≡ true) ⊎ ((b ≡ true) ⊎ (c ≡ true))
three_cases true b c e = inl refl
three_cases false true c e = inr (inl refl)
three_cases false false true e = inr (inr refl)
three_cases false false false e = absurd (cc)

bare_action : (action : List ℕ) → is_bare action ≡ true → Contains bare_actions action
bare_action action e = elim (three_cases _ _ _ e) [
  | inl a ↦ (0, omega arith, sym (same action _ a))
  | inr (inl b) ↦ (1, omega arith, sym (same action _ b))
  | inr (inr c) ↦ (2, omega arith, sym (same action _ c))
]

passes : (p : List ℕ → Bool) (xs : List (List ℕ)) (x : List ℕ) → list_all p xs ≡ true → Contains xs x → p x ≡ true
passes p [] x e (k, within, is) = absurd (omega (arith, within))
passes p (y ∷ xs) x e (zero, within, is) =
    subst (λ (z : List ℕ). p z ≡ true) is (and_parts (p y) (list_all p xs) e).0
passes p (y ∷ xs) x e (suc k, within, is) =
    passes p xs x (and_parts (p y) (list_all p xs) e).1 (k, omega (arith, within), is)

no_action : (action : List ℕ) → is_protocol action ≡ false → ¬ (Contains protocol_actions action)
no_action action e there =
    let wrong : false ≡ true = sym e ∙ passes is_protocol protocol_actions action refl there in cc

-- the action of a body element by its name
abbrev action_of : BodyName → List ℕ
action_of names.CreateName = create_sequence
action_of names.CreateResponseName = create_sequence_response
action_of names.CloseName = close_sequence
action_of names.CloseResponseName = close_sequence_response
action_of names.TerminateName = terminate_sequence
action_of names.TerminateResponseName = terminate_sequence_response
action_of names.MakeName = make_connection

-- the element that goes with an action
record GoesWith (action : List ℕ) (name : Expanded) : Type 0 where
  body : BodyName
  named_so : body_name name ≡ Some body
  acts_so : action ≡ action_of body

element_step : (action : List ℕ) (own name : Expanded) (body : BodyName) (t : Bool) (rest : Option Expanded)
    → bytes_eq action (action_of body) ≡ t → (if t then Some own else rest) ≡ Some name
    → body_name own ≡ Some body → (rest ≡ Some name → GoesWith action name) → GoesWith action name
element_step action own name body false rest d e is more = more e
element_step action own name body true rest d e is more =
    let found : own ≡ name = cc in
    subst (GoesWith action) found (record {
      body = body;
      named_so = is;
      acts_so = same action (action_of body) d;
    })

goes_with : (action : List ℕ) (name : Expanded) → element_for action ≡ Some name → GoesWith action name
goes_with action name e =
    element_step action (rm (codes "CreateSequence")) name names.CreateName _ _ refl e refl (λ e.
    element_step action (rm (codes "CreateSequenceResponse")) name names.CreateResponseName _ _ refl e refl (λ e.
    element_step action (rm (codes "CloseSequence")) name names.CloseName _ _ refl e refl (λ e.
    element_step action (rm (codes "CloseSequenceResponse")) name names.CloseResponseName _ _ refl e refl (λ e.
    element_step action (rm (codes "TerminateSequence")) name names.TerminateName _ _ refl e refl (λ e.
    element_step action (rm (codes "TerminateSequenceResponse")) name names.TerminateResponseName _ _ refl e refl (λ e.
    element_step action (mc (codes "MakeConnection")) name names.MakeName _ None refl e refl (λ e. cc)))))))

named_so : {A : Type 0} (local : List ℕ) (f : A → Lifecycle) (o : Option A) (x : Lifecycle) (action : List ℕ)
    → named local (option_map f o) ≡ Ok (Some x) → ((y : A) → action_for (f y) ≡ action) → action_for x ≡ action
named_so local f None x action e step = cc
named_so local f (Some y) x action e step = let is : f y ≡ x = cc in ap action_for (sym is) ∙ step y

acts_as : (body : BodyName) (parts : Parts) (x : Lifecycle) → body_as (Some body) parts ≡ Ok (Some x)
    → action_for x ≡ action_of body
acts_as names.CreateName parts x e =
    named_so (codes "CreateSequence") life.Create (create_in parts) x _ e (λ y. refl)
acts_as names.CreateResponseName parts x e =
    named_so (codes "CreateSequenceResponse") life.CreateResponse (response_in parts) x _ e (λ y. refl)
acts_as names.CloseName parts x e = named_so (codes "CloseSequence") life.Close (finish_in parts) x _ e (λ y. refl)
acts_as names.CloseResponseName parts x e =
    named_so (codes "CloseSequenceResponse") life.CloseResponse (identifier parts) x _ e (λ y. refl)
acts_as names.TerminateName parts x e =
    named_so (codes "TerminateSequence") life.Terminate (finish_in parts) x _ e (λ y. refl)
acts_as names.TerminateResponseName parts x e =
    named_so (codes "TerminateSequenceResponse") life.TerminateResponse (identifier parts) x _ e (λ y. refl)
acts_as names.MakeName parts x e = named_so (codes "MakeConnection") life.Make (make_in parts) x _ e (λ y. refl)

name_is : (e : Element) (name : Expanded) → has_name name e ≡ true → name_of e ≡ name
name_is e name h =
    let each = and_parts (bytes_eq (name_of e).local name.local) (bytes_eq (name_of e).space name.space) h in
    ap₂ (λ (s l : List ℕ). record { space = s; local = l }) (same (name_of e).space name.space each.1)
    (same (name_of e).local name.local each.0)

lifecycle_acts : (action : List ℕ) (name : Expanded) (e : Element) (x : Lifecycle) → GoesWith action name
    → has_name name e ≡ true → lifecycle_of e ≡ Ok (Some x) → action ≡ action_for x
lifecycle_acts action name e x with_name h d =
    let as_named : body_as (Some with_name.body) (parts_of e) ≡ Ok (Some x) =
    ap (λ (o : Option BodyName). body_as o (parts_of e)) (sym (ap body_name (name_is e name h) ∙ with_name.named_so))
    ∙ d in
    with_name.acts_so ∙ sym (acts_as with_name.body (parts_of e) x as_named)

-- ---- what is read of Body

-- it keeps the rules, and goes with this action; the message has a number only if it is a payload, and CreateSequence
-- has its identifier if that has to be there
abbrev pub GoesTogether : Bool → List ℕ → Option (List ℕ) → Body → Type 0
GoesTogether numbered action id bodies.Empty = (numbered ≡ false) × Contains bare_actions action
GoesTogether numbered action id (bodies.Payload p) = ¬ (Contains protocol_actions action)
GoesTogether numbered action id (bodies.Lifecycle x) =
    (numbered ≡ false) × (action ≡ action_for x) × HasItsId x id
GoesTogether numbered action id (bodies.Fault f) = numbered ≡ false

pub record IsBodyOf (numbered : Bool) (action : List ℕ) (id : Option (List ℕ)) (body : Body) : Type 0 where
  pub read : IsBodyRead body
  pub together : GoesTogether numbered action id body

-- a message that says it creates a sequence has an identifier
abbrev pub CreatesById : List ℕ → Option (List ℕ) → Type 0
CreatesById action id = action ≡ create_sequence → IsSome id

has_its_id : (x : Lifecycle) (action : List ℕ) (id : Option (List ℕ)) → action ≡ action_for x → CreatesById action id
    → HasItsId x id
has_its_id (life.Create x) action id e by = by e
has_its_id (life.CreateResponse x) action id e by = tt
has_its_id (life.Close x) action id e by = tt
has_its_id (life.CloseResponse x) action id e by = tt
has_its_id (life.Terminate x) action id e by = tt
has_its_id (life.TerminateResponse x) action id e by = tt
has_its_id (life.Make x) action id e by = tt

from_at : (r : Result (Option Lifecycle) ElementError) (body : Body) → lifecycle_from r ≡ Some body
    → (x : Lifecycle) × (r ≡ Ok (Some x)) × (bodies.Lifecycle x ≡ body)
from_at (Ok (Some x)) body e = (x, refl, cc)
from_at (Ok None) body e = cc
from_at (Err wrong) body e = cc

element_at : (action : List ℕ) (name : Expanded) (id : Option (List ℕ)) (e : Element) (body : Body) (t : Bool)
    → GoesWith action name → CreatesById action id → IsResolved 2 e → has_name name e ≡ t
    → (if t then lifecycle_from (lifecycle_of e) else None) ≡ Some body → IsBodyOf false action id body
element_at action name id e body false with_name by is h d = cc
element_at action name id e body true with_name by is h d =
    let (x, read, found) = from_at (lifecycle_of e) body d in
    let acts = lifecycle_acts action name e x with_name h read in
    subst (IsBodyOf false action id) found (record {
      read = lifecycle_is 2 e is x read;
      together = (refl, acts, has_its_id x action id acts by);
    })

single_at : (action : List ℕ) (name : Expanded) (id : Option (List ℕ)) (xs : List Element) (body : Body)
    (o : Option Element) → GoesWith action name → CreatesById action id → AllByRecursion (IsResolved 2) xs
    → single xs ≡ o → (o >>= λ e. (if has_name name e then lifecycle_from (lifecycle_of e) else None)) ≡ Some body
    → IsBodyOf false action id body
single_at action name id xs body None with_name by all s d = cc
single_at action name id xs body (Some e) with_name by all s d =
    element_at action name id e body (has_name name e) with_name by (single_is (IsResolved 2) xs e s all) refl d

lifecycle_in_is : (action : List ℕ) (name : Expanded) (id : Option (List ℕ)) (parts : Parts) (body : Body)
    → GoesWith action name → CreatesById action id → AllByRecursion (IsResolved 2) (children_of parts)
    → lifecycle_in name parts ≡ Some body → IsBodyOf false action id body
unfolding lifecycle_in
lifecycle_in_is action name id parts body with_name by all d =
    single_at action name id (children_of parts) body (single (children_of parts)) with_name by all refl d

bare_at : (action : List ℕ) (id : Option (List ℕ)) (payload : Payload) (body : Body) (t : Bool)
    → element_for action ≡ None → is_bare action ≡ t
    → Some (if t then bodies.Empty else bodies.Payload payload) ≡ Some body → IsBodyOf false action id body
bare_at action id payload body true e b d =
    let is : bodies.Empty ≡ body = cc in
    subst (IsBodyOf false action id) is (record { read = tt; together = (refl, bare_action action b) })
bare_at action id payload body false e b d =
    let is : bodies.Payload payload ≡ body = cc in
    let other : is_protocol action ≡ false = rw (e, b) refl in
    subst (IsBodyOf false action id) is (record { read = tt; together = no_action action other })

for_at : (action : List ℕ) (id : Option (List ℕ)) (payload : Payload) (parts : Parts) (body : Body)
    (o : Option Expanded)
    → element_for action ≡ o → body_for o (is_bare action) payload parts ≡ Some body → CreatesById action id
    → AllByRecursion (IsResolved 2) (children_of parts) → IsBodyOf false action id body
for_at action id payload parts body None f e by all = bare_at action id payload body (is_bare action) f refl e
for_at action id payload parts body (Some name) f e by all =
    lifecycle_in_is action name id parts body (goes_with action name f) by all e

numbered_at : (action : List ℕ) (id : Option (List ℕ)) (payload : Payload) (body : Body) (t : Bool)
    → is_protocol action ≡ t → numbered_body t payload ≡ Some body → IsBodyOf true action id body
numbered_at action id payload body true p e = cc
numbered_at action id payload body false p e =
    let is : bodies.Payload payload ≡ body = cc in
    subst (IsBodyOf true action id) is (record { read = tt; together = no_action action p })

fault_first : (soap : List ℕ) (t : Bool) (first : Element) (fault : Element)
    → (if t then Some first else None) ≡ Some fault → IsResolved 2 first → IsResolved 2 fault
fault_first soap false first fault e is = cc
fault_first soap true first fault e is = let found : first ≡ fault = cc in subst (IsResolved 2) found is

fault_found : (soap : List ℕ) (o : Option Element) (fault : Element) → if_fault soap o ≡ Some fault
    → IfSome o (IsResolved 2) → IsResolved 2 fault
fault_found soap None fault e is = cc
fault_found soap (Some first) fault e is =
    fault_first soap (has_name (name_in soap (codes "Fault")) first) first fault e is

fault_at_least : WrittenNames → (soap : List ℕ) (told : Option Told) (t : Bool) (scope : List Binding)
    → AreInForce scope → IfSome told IsTold → (fault : Element) → IsResolved 2 fault
    → IsFaultWritable (if t then fault11_in soap told scope fault else fault_in soap scope fault)
fault_at_least names soap told true scope outer tell fault is =
    fault11_is names soap told scope outer tell fault is
fault_at_least names soap told false scope outer tell fault is = fault_is names soap scope outer fault is

unnumbered_at : WrittenNames → (soap : List ℕ) (told : Option Told) → IfSome told IsTold
    → (action : List ℕ) (id : Option (List ℕ)) (payload : Payload) (parts : Parts)
    (body : Body) (o : Option Element) → fault_at soap false parts ≡ o
    → unnumbered_body soap told action o payload parts ≡ Some body → (o ≡ None → CreatesById action id)
    → AreInForce payload.scope → AllByRecursion (IsResolved 2) (children_of parts) → IsBodyOf false action id body
unnumbered_at names soap told tell action id payload parts body None f e by outer all =
    for_at action id payload parts body (element_for action) refl e (by refl) all
unnumbered_at names soap told tell action id payload parts body (Some fault) f e by outer all =
    let is : bodies.Fault (fault_of soap told payload.scope fault) ≡ body = cc in
    let here : IsResolved 2 fault =
    fault_found soap (first_of (children_of parts)) fault f
    (first_is (IsResolved 2) (children_of parts) (first_of (children_of parts)) refl all) in
    subst (IsBodyOf false action id) is
    (record {
      read = fault_at_least names soap told (is_soap11 soap) payload.scope outer tell fault here;
      together = refl;
    })

-- what is read of the Body of an envelope
pub body_is : WrittenNames → (soap : List ℕ) (told : Option Told) → IfSome told IsTold
    → (action : List ℕ) (id : Option (List ℕ)) (numbered : Bool) (payload : Payload)
    (parts : Parts) (body : Body) → body_in soap told action numbered payload parts ≡ Some body
    → (fault_at soap numbered parts ≡ None → CreatesById action id) → AreInForce payload.scope
    → AllByRecursion (IsResolved 2) (children_of parts) → IsBodyOf numbered action id body
body_is names soap told tell action id true payload parts body e by outer all =
    numbered_at action id payload body (is_protocol action) refl e
body_is names soap told tell action id false payload parts body e by outer all =
    unnumbered_at names soap told tell action id payload parts body (fault_at soap false parts) refl e by outer all
