-- Endpoint references that are read from records, and may be written into messages.
use Rattle.std.proofs.Common.{◌≡◌, ℕ, ◌+◌, ◌*◌, ◌<◌, ◌≤◌, ◌^◌, Bool, true, false, List, [], ◌∷◌, length, refl, sym}
use Rattle.std.proofs.Common.{subst, ◌∙◌, arith}
use Rattle.std.specs.Prelude.{◌↔◌, nat_le, sum_by, Result, Ok, Err, IfOk}
use Rattle.std.specs.List.{AllByRecursion, list_all}
use Rattle.std.proofs.lemmas.Bool.{and_parts, and_from, le-leb, leb-true, leb-false}
use Rattle.std.proofs.lemmas.List.Sums.{sum_by-cons}
use Rattle.rm_base.specs.Limits.{parameter_bytes}
use Rattle.rm_base.specs.declared.failures.Memory.{Memory}
use Rattle.soap_document.specs.Profile.Document.{Document}
use Rattle.soap_document.specs.Profile.Namespaces.{is_new_name}
use Rattle.soap_document.specs.Profile.Payload.{height}
use Rattle.soap_document.specs.Profile.Tree.{Element, attrs_of}
use Rattle.soap_writer.specs.ElementText.{element_text}
use Rattle.soap_writer.specs.Writable.{IsWritable}
use Rattle.soap_writer.specs.Stripped.Resolved.{IsResolved}
use Rattle.record_batch.specs.Writable.{IsEndpointWritable, IsParamWritable as IsParamRead}
use Rattle.node_laws.specs.Sizes.Size.{capped, param_size}
use Rattle.wsa_headers.specs.Endpoint.{mark_name, params_length}
use Rattle.wsa_headers.specs.Writable.{IsEprWritable, IsParamWritable}
use Rattle.wsa_headers.specs.declared.endpoint.Epr.{Epr}
use Rattle.node_store.specs.Endpoints.{is_plain, may_go}

-- the root of a document may be written without its declarations
abbrev pub Strips : Type 0
Strips = (bytes : List ℕ) (tree : Element) → Document bytes tree → length bytes < 2 ^ 64 → IsResolved 0 tree

param_goes : Strips → (p : Element) → IsParamRead p → is_plain p ≡ true → IsParamWritable 90 p
param_goes strips p read plain =
    let parts = and_parts (is_new_name mark_name (attrs_of p)) (nat_le (height p) 90) plain in
    record {
      writable = subst IsWritable read.same
          (strips (element_text false p) read.tree read.document (omega (arith, read.few))).writable;
      unmarked = parts.0;
      shallow = leb-true (height p) 90 parts.1;
    }

params_go : Strips → (ps : List Element) → AllByRecursion IsParamRead ps → list_all is_plain ps ≡ true
    → AllByRecursion (IsParamWritable 90) ps
params_go strips [] read plain = tt
params_go strips (p ∷ ps) read plain =
    let parts = and_parts (is_plain p) (list_all is_plain ps) plain in
    (param_goes strips p read.0 parts.0, params_go strips ps read.1 parts.1)

are_plain : (ps : List Element) → AllByRecursion (IsParamWritable 90) ps → list_all is_plain ps ≡ true
are_plain [] h = refl
are_plain (p ∷ ps) h =
    and_from (is_plain p) (list_all is_plain ps)
    (and_from (is_new_name mark_name (attrs_of p)) (nat_le (height p) 90) h.0.unmarked
    (le-leb (height p) 90 h.0.shallow))
    (are_plain ps h.1)

-- the test of the parameters decides
pub endpoint_decides : Strips → (x : Epr) → IsEndpointWritable x → (b : Bool) → b ≡ may_go x.params
    → ((b ≡ true) ↔ IsEprWritable x)
endpoint_decides strips x read b is = (
  λ e.
      let parts = and_parts (list_all is_plain x.params) (nat_le (params_length x.params) parameter_bytes)
      (sym is ∙ e) in
      record {
        address = read.address;
        each = params_go strips x.params read.params.each parts.0;
        short = leb-true (params_length x.params) parameter_bytes parts.1;
      },
  λ h. is ∙ and_from (list_all is_plain x.params) (nat_le (params_length x.params) parameter_bytes)
      (are_plain x.params h.each) (le-leb (params_length x.params) parameter_bytes h.short),
)

-- as the code answers it
pub endpoint_answers : Strips → (x : Epr) → IsEndpointWritable x → (result : Result Bool Memory)
    → IfOk result (λ kept. kept ≡ may_go x.params) → IfOk result (λ kept. (kept ≡ true) ↔ IsEprWritable x)
endpoint_answers strips x read (Ok b) h = endpoint_decides strips x read b h
endpoint_answers strips x read (Err error) h = h

-- parameters take four bytes each beside their texts
pub params_sum : (ps : List Element) → sum_by param_size ps ≡ 4 * length ps + params_length ps
params_sum [] = refl
params_sum (p ∷ ps) = omega (arith, sum_by-cons param_size p ps, params_sum ps)

-- so the length of an endpoint reference tells whether they are too long
pub short_decides : (n a k l : ℕ) → n ≡ capped (8 + a + (4 * k + l)) → a ≤ 2048 → k < 2 ^ 32
    → nat_le n (8 + a + 4 * k + parameter_bytes) ≡ nat_le l parameter_bytes
short_decides n a k l is few count =
    same (nat_le n (8 + a + 4 * k + parameter_bytes)) (nat_le l parameter_bytes) refl refl
  where
    same : (x y : Bool) → nat_le n (8 + a + 4 * k + parameter_bytes) ≡ x → nat_le l parameter_bytes ≡ y → x ≡ y
    same true true e f = refl
    same false false e f = refl
    same true false e f =
        absurd (omega (
          arith,
          is,
          few,
          count,
          leb-true n (8 + a + 4 * k + parameter_bytes) e,
          leb-false l parameter_bytes f,
        ))
    same false true e f =
        absurd (omega (
          arith,
          is,
          few,
          count,
          leb-false n (8 + a + 4 * k + parameter_bytes) e,
          leb-true l parameter_bytes f,
        ))
