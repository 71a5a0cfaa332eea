-- What a Fault of SOAP 1.1 says, as it is read, with its SequenceFault.
use Rattle.std.proofs.Common.{◌≡◌, ◌≢◌, ℕ, Bool, true, false, if◌then◌else◌, List, [], ◌∷◌, Option, Some, None, codes}
use Rattle.std.proofs.Common.{refl, subst}
use Rattle.std.specs.Prelude.{IfSome}
use Rattle.std.specs.List.{AllByRecursion}
use Rattle.soap_envelope.specs.Soap.{is_soap11}
use Rattle.rm_base.specs.declared.message.Binding.{Binding}
use Rattle.soap_document.specs.Profile.Tree.{Element, parts_of, children_of}
use Rattle.soap_document.specs.declared.profile.name.Expanded.{Expanded}
use Rattle.soap_writer.specs.Writable.{IsNameWritable}
use Rattle.soap_writer.specs.Stripped.Resolved.{AreInForce, IsResolved}
use Rattle.soap_writer.specs.Stripped.ResolvedLaws.{children_resolved}
use Rattle.soap_writer.specs.Values.Children.{has_name, children_named}
use Rattle.soap_writer.specs.Values.Outcome.{◌>>=◌, single, optional, if_present}
use Rattle.soap_writer.specs.Values.QNames.{within, qname_in}
use Rattle.soap_writer.specs.Values.Values.{trimmed_text}
use Rattle.rm_message.specs.Elements.Outcome.{rm}
use Rattle.message_writer.specs.Rules.{IsSubcodeWritable, IsDetailWritable, IsFaultWritable}
use Rattle.message_reader.specs.Blocks.{blocks, is_block, sequence_fault_name}
use Rattle.message_reader.specs.Faults.{first_named, spaced, stripped_in, or_empty, fault_with}
use Rattle.message_reader.specs.Faults11.{Told, faultcode_in, is_subcode, code11_above, code11_named, both, codes11}
use Rattle.message_reader.specs.Faults11.{faultstring_in, detail11, fault11_in}
use Rattle.message_reader.specs.Headers.{fault_code_name, sequence_fault_of, sequence_fault_in}
use Rattle.rm_wire.proofs.ReadLawsLemmas.Envelopes.{declares}
use Rattle.rm_wire.proofs.ReadLawsLemmas.Faults.{AreCodes, first_resolved, spaced_at, words_at, or_empty_is}
use Rattle.rm_wire.proofs.ReadLawsLemmas.Faults.{stripped_are, made_of}
use Rattle.rm_wire.proofs.ReadLawsLemmas.Lists.{all_filter, found_is, optional_is, single_is}
use Rattle.rm_wire.proofs.ReadLawsLemmas.Names.{WrittenNames, qname_is}
use Rattle.rm_wire.proofs.ReadLawsLemmas.Trims.{IsReason}

-- the children of a name stand in one more element
named_resolved : (name : Expanded) (e : Element) → IsResolved 2 e
    → AllByRecursion (IsResolved 3) (children_named name (parts_of e))
named_resolved name e is =
    all_filter (IsResolved 3) (has_name name) (children_of (parts_of e)) (children_resolved 2 e is)

-- ---- a SequenceFault

-- a subcode and a detail that may be written
pub record IsTold (told : Told) : Type 0 where
  pub subcode : IfSome told.subcode IsSubcodeWritable
  pub detail : AllByRecursion IsDetailWritable told.detail

module _ (names : WrittenNames) (scope : List Binding) (outer : AreInForce scope) where
  bytes_name : (holder e : Element) → IsResolved 3 holder → IsResolved 2 e → (o : Option (List ℕ)) (name : Expanded)
      → (o >>= λ bytes. qname_in (within (holder ∷ e ∷ []) scope) bytes) ≡ Some name → IsNameWritable name
  bytes_name holder e h is None name d = cc
  bytes_name holder e h is (Some bytes) name d =
      qname_is names (holder ∷ e ∷ []) scope (declares 3 holder h, (declares 2 e is, tt)) outer bytes name d

  code_at : (e : Element) → IsResolved 2 e → (o : Option Element) → ((x : Element) → o ≡ Some x → IsResolved 3 x)
      → (name : Expanded)
      → (o >>= λ code. (trimmed_text code >>= λ bytes. qname_in (within (code ∷ e ∷ []) scope) bytes)) ≡ Some name
      → IsNameWritable name
  code_at e is None found name d = cc
  code_at e is (Some code) found name d = bytes_name code e (found code refl) is (trimmed_text code) name d

  fault_code_is : (e : Element) → IsResolved 2 e → (name : Expanded) → fault_code_name scope e ≡ Some name
      → IsNameWritable name
  unfolding fault_code_name
  fault_code_is e is name d =
      let found = children_named (rm (codes "FaultCode")) (parts_of e) in
      code_at e is (single found) (λ x s. single_is (IsResolved 3) found x s (named_resolved (rm (codes "FaultCode")) e
      is)) name d

  told_at : (o : Option Expanded) (p : Option (Option Element)) (told : Told)
      → ((name : Expanded) → o ≡ Some name → IsNameWritable name)
      → ((d : Option Element) → p ≡ Some d → IfSome d (IsResolved 3))
      → (o >>= λ name. (p >>= λ detail. let t : Told = record { subcode = spaced name; detail = stripped_in detail } in
      Some t)) ≡ Some told → IsTold told
  told_at None p told n d e = cc
  told_at (Some name) None told n d e = cc
  told_at (Some name) (Some detail) told n d e =
      let t : Told = record { subcode = spaced name; detail = stripped_in detail } in
      let is : t ≡ told = cc in
      subst IsTold is (record {
        subcode = spaced_at name _ refl (n name refl);
        detail = stripped_are detail (d detail refl);
      })

  told_of : (e : Element) → IsResolved 2 e → (told : Told) → sequence_fault_of scope e ≡ Some told → IsTold told
  unfolding sequence_fault_of
  told_of e is told d =
      let found = children_named (rm (codes "Detail")) (parts_of e) in
      told_at (fault_code_name scope e) (optional found) told (λ name. fault_code_is e is name)
      (λ x s. optional_is (IsResolved 3) found x s (named_resolved (rm (codes "Detail")) e is)) d

  told_by : (headers : List Element) → AllByRecursion (IsResolved 2) headers → (t : Bool) (told : Option Told)
      → (if t then (optional (blocks sequence_fault_name headers)
      >>= λ found. if_present (sequence_fault_of scope) found) else Some None) ≡ Some told → IfSome told IsTold
  told_by headers all true told d =
      let found = blocks sequence_fault_name headers in
      found_is (IsResolved 2) IsTold (sequence_fault_of scope) told_of found
      (all_filter (IsResolved 2) (is_block sequence_fault_name) headers all) (optional found) refl told d
  told_by headers all false None d = tt
  told_by headers all false (Some told) d = cc

  -- what the SequenceFault of a message tells
  pub sequence_fault_is : (soap : List ℕ) (headers : List Element) → AllByRecursion (IsResolved 2) headers
      → (told : Option Told)
      → sequence_fault_in soap scope headers ≡ Some told → IfSome told IsTold
  unfolding sequence_fault_in
  sequence_fault_is soap headers all told d = told_by headers all (is_soap11 soap) told d

  -- ---- the Fault

  named_at : (fault : Element) → IsResolved 2 fault → (o : Option Element) → IfSome o (IsResolved 3)
      → (name : Expanded)
      → (o >>= λ holder. (trimmed_text holder >>= λ bytes. qname_in (within (holder ∷ fault ∷ []) scope) bytes))
      ≡ Some name → IsNameWritable name
  named_at fault is None h name d = cc
  named_at fault is (Some holder) h name d = bytes_name holder fault h is (trimmed_text holder) name d

  faultcode_is : (fault : Element) → IsResolved 2 fault → (name : Expanded) → faultcode_in scope fault ≡ Some name
      → IsNameWritable name
  unfolding faultcode_in
  faultcode_is fault is name d =
      named_at fault is (first_named [] (codes "faultcode") fault) (first_resolved [] (codes "faultcode") 2 fault is)
      name d

not_bare : (name : Expanded) → is_subcode name ≡ true → name.space ≢ []
not_bare name e bare = let x = rw bare at e in cc

subcode_by : (soap : List ℕ) (name : Expanded) (t : Bool) → is_subcode name ≡ t → IsNameWritable name
    → AreCodes (fault_with (if t then both (code11_above name) (Some name) else both (code11_named soap (Some name))
    None) [] [])
subcode_by soap name true e is = record {
  subcode = record { writable = is; spaced = not_bare name e };
  inner = tt;
  within = λ x. cc x;
}
subcode_by soap name false e is = record { subcode = tt; inner = tt; within = λ x. x }

codes_by : (soap : List ℕ) (told : Option Told) (o : Option Expanded)
    → ((name : Expanded) → o ≡ Some name → IsNameWritable name) → IfSome told IsTold
    → AreCodes (fault_with (codes11 soap told o) [] [])
codes_by soap None None n t = record { subcode = tt; inner = tt; within = λ x. x }
codes_by soap None (Some name) n t = subcode_by soap name (is_subcode name) refl (n name refl)
codes_by soap (Some told) o n t = record { subcode = t.subcode; inner = tt; within = λ x. cc x }

faultstring_is : (fault : Element) → IsResolved 2 fault → IfSome (faultstring_in fault) IsReason
unfolding faultstring_in
faultstring_is fault is =
    words_at 3 (first_named [] (codes "faultstring") fault) (first_resolved [] (codes "faultstring") 2 fault is)

detail_by : (told : Option Told) (fault : Element) → IsResolved 2 fault → IfSome told IsTold
    → AllByRecursion IsDetailWritable (detail11 told fault)
detail_by None fault is t =
    stripped_are (first_named [] (codes "detail") fault) (first_resolved [] (codes "detail") 2 fault is)
detail_by (Some told) fault is t = t.detail

-- a Fault that is the first element in Body
pub fault11_is : WrittenNames → (soap : List ℕ) (told : Option Told) (scope : List Binding) → AreInForce scope
    → IfSome told IsTold → (fault : Element) → IsResolved 2 fault → IsFaultWritable (fault11_in soap told scope fault)
fault11_is names soap told scope outer t fault is =
    made_of (fault_with (codes11 soap told (faultcode_in scope fault)) [] []) (or_empty (faultstring_in fault))
    (detail11 told fault)
    (codes_by soap told (faultcode_in scope fault) (faultcode_is names scope outer fault is) t)
    (or_empty_is (faultstring_in fault) (faultstring_is fault is)) (detail_by told fault is t)
