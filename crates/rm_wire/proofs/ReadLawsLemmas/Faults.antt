-- What a Fault says, as it is read.
use Rattle.std.proofs.Common.{◌≡◌, ◌≢◌, ℕ, suc, Bool, true, false, if◌then◌else◌, List, [], ◌∷◌, Option, Some, None}
use Rattle.std.proofs.Common.{codes, refl, arith}
use Rattle.std.specs.Prelude.{IfSome, IsSome}
use Rattle.std.specs.List.{AllByRecursion}
use Rattle.soap_lex.specs.Tests.{is_nil}
use Rattle.soap_document.specs.Profile.Tree.{Element, without_declarations, parts_of, children_of}
use Rattle.rm_base.specs.declared.message.Binding.{Binding}
use Rattle.soap_document.specs.declared.profile.name.Expanded.{Expanded}
use Rattle.soap_writer.specs.Writable.{IsNameWritable}
use Rattle.soap_writer.specs.Plain.{chars_from}
use Rattle.soap_writer.specs.Stripped.Resolved.{AreInForce, IsResolved}
use Rattle.soap_writer.specs.Stripped.ResolvedLaws.{children_resolved}
use Rattle.soap_writer.specs.Values.Children.{name_in, has_name, children_named}
use Rattle.soap_writer.specs.Values.Outcome.{◌>>=◌}
use Rattle.soap_writer.specs.Values.QNames.{within, qname_in}
use Rattle.soap_writer.specs.Values.Values.{trimmed_text}
use Rattle.wsa_headers.specs.Addressing.{first_of}
use Rattle.rm_message.specs.declared.message.FaultBody.{FaultBody}
use Rattle.rm_message.specs.declared.message.FaultCode.{FaultCode}
use Rattle.message_writer.specs.Rules.{IsSubcodeWritable, IsDetailWritable, IsFaultWritable}
use Rattle.message_reader.specs.Faults.{first_named, value_name, code_named, spaced, subcode_name, inner_name}
use Rattle.message_reader.specs.Faults.{codes_with, codes_below, codes_in, codes_or_receiver, reason_in, or_empty}
use Rattle.message_reader.specs.Faults.{stripped_in, detail_in, fault_with, fault_in}
use Rattle.rm_wire.proofs.ReadLawsLemmas.Envelopes.{declares}
use Rattle.rm_wire.proofs.ReadLawsLemmas.Lists.{all_filter, all_map, first_is}
use Rattle.rm_wire.proofs.ReadLawsLemmas.Names.{WrittenNames, Binds, qname_is}
use Rattle.rm_wire.proofs.ReadLawsLemmas.Params.{height_kept}
use Rattle.rm_wire.proofs.ReadLawsLemmas.Trims.{IsReason, trimmed_text_is}

-- the first child of a name stands in one more element
pub first_resolved : (soap local : List ℕ) (depth : ℕ) (e : Element) → IsResolved depth e
    → IfSome (first_named soap local e) (IsResolved (suc depth))
first_resolved soap local depth e is =
    let named = children_named (name_in soap local) (parts_of e) in
    first_is (IsResolved (suc depth)) named (first_of named) refl
    (all_filter (IsResolved (suc depth)) (has_name (name_in soap local)) (children_of (parts_of e))
    (children_resolved depth e is))

-- ---- codes

-- codes that may be written, in a Fault with nothing else
pub record AreCodes (found : FaultBody) : Type 0 where
  pub subcode : IfSome found.subcode IsSubcodeWritable
  pub inner : IfSome found.inner IsSubcodeWritable
  pub within : IsSome found.inner → IsSome found.subcode

some_space : (name : Expanded) → is_nil name.space ≡ false → name.space ≢ []
some_space name e same = let x = rw same at e in cc

pub spaced_at : (name : Expanded) (t : Bool) → is_nil name.space ≡ t → IsNameWritable name
    → IfSome (if t then None else Some name) IsSubcodeWritable
spaced_at name true e is = tt
spaced_at name false e is = record { writable = is; spaced = some_space name e }

spaced_from : (o : Option Expanded) → ((name : Expanded) → o ≡ Some name → IsNameWritable name)
    → IfSome (o >>= λ name. spaced name) IsSubcodeWritable
spaced_from None is = tt
spaced_from (Some name) is = spaced_at name (is_nil name.space) refl (is name refl)

codes_with_are : (code : FaultCode) (subcode inner : Option Expanded) → IfSome subcode IsSubcodeWritable
    → IfSome inner IsSubcodeWritable → AreCodes (fault_with (codes_with code subcode inner) [] [])
codes_with_are code None inner s i = record { subcode = tt; inner = tt; within = λ x. x }
codes_with_are code (Some name) inner s i = record { subcode = s; inner = i; within = λ x. refl }

module _ (names : WrittenNames) (soap : List ℕ) (scope : List Binding) (outer : AreInForce scope) where
  bytes_name : (elements : List Element) → AllByRecursion Binds elements → (o : Option (List ℕ)) (name : Expanded)
      → (o >>= λ bytes. qname_in (within elements scope) bytes) ≡ Some name → IsNameWritable name
  bytes_name elements all None name e = cc
  bytes_name elements all (Some bytes) name e = qname_is names elements scope all outer bytes name e

  value_at : (depth : ℕ) (holder : Element) (elements : List Element) → Binds holder → AllByRecursion Binds elements
      → (o : Option Element) → IfSome o (IsResolved depth) → (name : Expanded)
      → (o >>= λ value. (trimmed_text value >>= λ bytes. qname_in (within (value ∷ holder ∷ elements) scope) bytes))
      ≡ Some name → IsNameWritable name
  value_at depth holder elements h all None is name e = cc
  value_at depth holder elements h all (Some value) is name e =
      bytes_name (value ∷ holder ∷ elements) (declares depth value is, (h, all)) (trimmed_text value) name e

  value_is : (depth : ℕ) (holder : Element) (elements : List Element) → IsResolved depth holder
      → AllByRecursion Binds elements → (name : Expanded) → value_name soap scope holder elements ≡ Some name
      → IsNameWritable name
  unfolding value_name
  value_is depth holder elements is all name e =
      value_at (suc depth) holder elements (declares depth holder is) all (first_named soap (codes "Value") holder)
      (first_resolved soap (codes "Value") depth holder is) name e

  subcode_is : (depth : ℕ) (subcode : Element) (elements : List Element) → IsResolved depth subcode
      → AllByRecursion Binds elements → IfSome (subcode_name soap scope subcode elements) IsSubcodeWritable
  unfolding subcode_name
  subcode_is depth subcode elements is all =
      spaced_from (value_name soap scope subcode elements) (value_is depth subcode elements is all)

  inner_at : (depth : ℕ) (subcode : Element) (elements : List Element) → IsResolved depth subcode
      → AllByRecursion Binds elements → (o : Option Element) → IfSome o (IsResolved (suc depth))
      → IfSome (o >>= λ inner. subcode_name soap scope inner (subcode ∷ elements)) IsSubcodeWritable
  inner_at depth subcode elements is all None i = tt
  inner_at depth subcode elements is all (Some inner) i =
      subcode_is (suc depth) inner (subcode ∷ elements) i (declares depth subcode is, all)

  inner_is : (depth : ℕ) (subcode : Element) (elements : List Element) → IsResolved depth subcode
      → AllByRecursion Binds elements → IfSome (inner_name soap scope subcode elements) IsSubcodeWritable
  unfolding inner_name
  inner_is depth subcode elements is all =
      inner_at depth subcode elements is all (first_named soap (codes "Subcode") subcode)
      (first_resolved soap (codes "Subcode") depth subcode is)

  below_are : (depth : ℕ) (code : FaultCode) (o : Option Element) (elements : List Element)
      → IfSome o (IsResolved depth) → AllByRecursion Binds elements
      → AreCodes (fault_with (codes_below soap scope code o elements) [] [])
  below_are depth code None elements is all = record { subcode = tt; inner = tt; within = λ x. x }
  below_are depth code (Some subcode) elements is all =
      codes_with_are code (subcode_name soap scope subcode elements) (inner_name soap scope subcode elements)
      (subcode_is depth subcode elements is all) (inner_is depth subcode elements is all)

  code_at : (depth : ℕ) (holder : Element) (elements : List Element) → IsResolved depth holder
      → AllByRecursion Binds elements → (o : Option FaultCode)
      → IfSome (o >>= λ code. Some (codes_below soap scope code (first_named soap (codes "Subcode") holder) (holder
      ∷ elements))) (λ found. AreCodes (fault_with found [] []))
  code_at depth holder elements is all None = tt
  code_at depth holder elements is all (Some code) =
      below_are (suc depth) code (first_named soap (codes "Subcode") holder) (holder ∷ elements)
      (first_resolved soap (codes "Subcode") depth holder is) (declares depth holder is, all)

  name_at : (depth : ℕ) (holder : Element) (elements : List Element) → IsResolved depth holder
      → AllByRecursion Binds elements → (o : Option Expanded)
      → IfSome (o >>= λ name. (code_named soap name >>= λ code. Some (codes_below soap scope code (first_named soap
      (codes "Subcode") holder) (holder ∷ elements)))) (λ found. AreCodes (fault_with found [] []))
  name_at depth holder elements is all None = tt
  name_at depth holder elements is all (Some name) = code_at depth holder elements is all (code_named soap name)

  holder_at : (depth : ℕ) (fault : Element) → IsResolved depth fault → (o : Option Element)
      → IfSome o (IsResolved (suc depth))
      → IfSome (o >>= λ holder. (value_name soap scope holder (fault ∷ []) >>= λ name. (code_named soap name
      >>= λ code. Some (codes_below soap scope code (first_named soap (codes "Subcode") holder) (holder ∷ fault
      ∷ []))))) (λ found. AreCodes (fault_with found [] []))
  holder_at depth fault is None h = tt
  holder_at depth fault is (Some holder) h =
      name_at (suc depth) holder (fault ∷ []) h (declares depth fault is, tt)
      (value_name soap scope holder (fault ∷ []))

  codes_are : (depth : ℕ) (fault : Element) → IsResolved depth fault
      → IfSome (codes_in soap scope fault) (λ found. AreCodes (fault_with found [] []))
  unfolding codes_in
  codes_are depth fault is =
      holder_at depth fault is (first_named soap (codes "Code") fault)
      (first_resolved soap (codes "Code") depth fault is)

by_cases : {A : Type 0} (P : Option A → Type 0) → P None → ((x : A) → P (Some x)) → (o : Option A) → P o
by_cases P none some None = none
by_cases P none some (Some x) = some x

or_receiver_are : WrittenNames → (soap : List ℕ) (scope : List Binding) → AreInForce scope → (fault : Element)
    → IsResolved 2 fault → AreCodes (fault_with (codes_or_receiver (codes_in soap scope fault)) [] [])
or_receiver_are names soap scope outer fault is =
    by_cases (λ o. IfSome o (λ found. AreCodes (fault_with found [] []))
    → AreCodes (fault_with (codes_or_receiver o) [] [])) (λ h. record { subcode = tt; inner = tt; within = λ x. x })
    (λ found h. h) (codes_in soap scope fault) (codes_are names soap scope outer 2 fault is)

-- ---- the reason

pub words_at : (depth : ℕ) (o : Option Element) → IfSome o (IsResolved depth)
    → IfSome (o >>= λ words. trimmed_text words) IsReason
words_at depth None is = tt
words_at depth (Some words) is = trimmed_text_is depth words is

reason_at : (soap : List ℕ) (depth : ℕ) (o : Option Element) → IfSome o (IsResolved depth)
    → IfSome (o >>= λ reason. (first_named soap (codes "Text") reason >>= λ words. trimmed_text words)) IsReason
reason_at soap depth None is = tt
reason_at soap depth (Some reason) is =
    words_at (suc depth) (first_named soap (codes "Text") reason) (first_resolved soap (codes "Text") depth reason is)

reason_is : (soap : List ℕ) (depth : ℕ) (fault : Element) → IsResolved depth fault
    → IfSome (reason_in soap fault) IsReason
unfolding reason_in
reason_is soap depth fault is =
    reason_at soap (suc depth) (first_named soap (codes "Reason") fault)
    (first_resolved soap (codes "Reason") depth fault is)

pub or_empty_is : (o : Option (List ℕ)) → IfSome o IsReason → IsReason (or_empty o)
or_empty_is None is = record { chars = chars_from [] refl; ends = refl }
or_empty_is (Some bytes) is = is

-- ---- the detail

detail_element : (e : Element) → IsResolved 4 e → IsDetailWritable (without_declarations e)
detail_element e is = record { writable = is.writable; shallow = omega (arith, is.shallow, height_kept e) }

pub stripped_are : (o : Option Element) → IfSome o (IsResolved 3) → AllByRecursion IsDetailWritable (stripped_in o)
stripped_are None is = tt
stripped_are (Some e) is =
    all_map (IsResolved 4) IsDetailWritable without_declarations detail_element (children_of (parts_of e))
    (children_resolved 3 e is)

-- ---- all of it

pub made_of : (codes_of : FaultBody) (reason : List ℕ) (detail : List Element) → AreCodes codes_of → IsReason reason
    → AllByRecursion IsDetailWritable detail
    → IsFaultWritable (record codes_of { reason = reason; detail = detail })
made_of codes_of reason detail c r d = record {
  subcode = c.subcode;
  inner = c.inner;
  within = c.within;
  reason = r.chars;
  ends = r.ends;
  detail = d;
}

-- a Fault that is the first element in Body
pub fault_is : WrittenNames → (soap : List ℕ) (scope : List Binding) → AreInForce scope → (fault : Element)
    → IsResolved 2 fault → IsFaultWritable (fault_in soap scope fault)
fault_is names soap scope outer fault is =
    made_of (fault_with (codes_or_receiver (codes_in soap scope fault)) [] []) (or_empty (reason_in soap fault))
    (detail_in soap fault) (or_receiver_are names soap scope outer fault is)
    (or_empty_is (reason_in soap fault) (reason_is soap 2 fault is))
    (stripped_are (first_named soap (codes "Detail") fault) (first_resolved soap (codes "Detail") 2 fault is))
