-- A batch that fits may be written and is read back.
use Rattle.std.proofs.Common.{◌≢◌, ℕ, ◌≤◌, ◌<◌, false, List, [], ◌∷◌, length, Some, None}
use Rattle.std.proofs.Common.{refl, arith}
use Rattle.std.specs.List.{AllByRecursion, sum_by}
use Rattle.std.proofs.lemmas.List.Sums.{sum_by-cons}
use Rattle.rm_base.specs.declared.message.Binding.{Binding}
use Rattle.rm_base.specs.declared.message.Payload.{Payload}
use Rattle.soap_document.specs.Profile.Tree.{Element}
use Rattle.soap_document.specs.Profile.Payload.{height}
use Rattle.soap_writer.specs.ElementText.{element_text}
use Rattle.soap_writer.specs.Writable.{IsWritable as IsElementWritable}
use Rattle.wsa_headers.specs.declared.endpoint.Epr.{Epr}
use Rattle.wsa_headers.specs.Endpoint.{params_length}
use Rattle.wsa_headers.specs.Writable.{IsEprWritable, IsParamWritable as IsParamKept}
use Rattle.record_batch.specs.Batch.{batch_text}
use Rattle.record_batch.specs.Fact.{Fact, Made, Creating, Created, Granted, Accepted, Acked, Received, Closing}
use Rattle.record_batch.specs.Fact.{ClosedOut, Closed, Ending, EndedOut, Ended, Failed, Consumed, Dropped, Purged}
use Rattle.record_batch.specs.Writable.{IsShortParam, IsShortEndpoint, IsShortBinding, IsShortPayload, IsShortFact}
use Rattle.record_batch.specs.Writable.{IsShortBatch, IsBindingWritable, IsPayloadWritable, IsParamWritable}
use Rattle.record_batch.specs.Writable.{IsEndpointWritable, IsWritable, IsBatch}
use Rattle.node_laws.specs.Sizes.Size.{param_size, endpoint_size, binding_size, payload_size, fact_size}
use Rattle.node_laws.specs.Sizes.Typed.{IsTyped, AreKept}
use Rattle.node_laws.proofs.SizesLemmas.SizeLemmas.{batch_text_length}

-- a list whose items take at least so many bytes has no more items than bytes
few_items : {A : Type 0} (size : A → ℕ) → ((x : A) → 1 ≤ size x) → (xs : List A) → length xs ≤ sum_by size xs
few_items size some [] = omega arith
few_items size some (x ∷ xs) = omega (arith, sum_by-cons size x xs, some x, few_items size some xs)

short-params : (ps : List Element) → sum_by param_size ps ≤ 4294967295 → AllByRecursion IsShortParam ps
short-params [] h = tt
short-params (p ∷ ps) h =
    (omega (arith, sum_by-cons param_size p ps), short-params ps (omega (arith, sum_by-cons param_size p ps)))

short-endpoint : (e : Epr) → endpoint_size e ≤ 4294967295 → IsShortEndpoint e
short-endpoint e h = record {
  few = omega (arith, few_items param_size (λ p. omega arith) e.params);
  each = short-params e.params (omega (arith, h));
}

short-bindings : (bs : List Binding) → sum_by binding_size bs ≤ 4294967295 → AllByRecursion IsShortBinding bs
short-bindings [] h = tt
short-bindings (b ∷ bs) h = (
  record {
    prefix = omega (arith, sum_by-cons binding_size b bs);
    space = omega (arith, sum_by-cons binding_size b bs);
  },
  short-bindings bs (omega (arith, sum_by-cons binding_size b bs)),
)

short-payload : (p : Payload) → payload_size p ≤ 4294967295 → IsShortPayload p
short-payload p h = record {
  bytes = omega (arith, h);
  few = omega (arith, few_items binding_size (λ b. omega arith) p.scope);
  each = short-bindings p.scope (omega (arith, h));
}

short-fact : (f : Fact) → fact_size f ≤ 4294967295 → IsShortFact f
short-fact (Made node to) h = tt
short-fact (Creating ticket to v l offer) h = tt
short-fact (Created seq ident None) h = tt
short-fact (Created seq ident (Some e)) h = short-endpoint e (omega (arith, h))
short-fact (Granted counter message_id acks_to v deadline l None) h = (short-endpoint acks_to (omega (arith, h)), tt)
short-fact (Granted counter message_id acks_to v deadline l (Some o)) h =
    (short-endpoint acks_to (omega (arith, h)), short-endpoint o.endpoint (omega (arith, h)))
short-fact (Accepted seq t) h = omega (arith, h)
short-fact (Acked seq rs) h = omega (arith, h)
short-fact (Received seq number p) h = short-payload p (omega (arith, h))
short-fact (Closing seq ticket) h = tt
short-fact (ClosedOut seq) h = tt
short-fact (Closed seq v last) h = tt
short-fact (Ending seq ticket) h = tt
short-fact (EndedOut seq) h = tt
short-fact (Ended seq v last) h = tt
short-fact (Failed seq fault) h = tt
short-fact (Consumed seq upto) h = tt
short-fact (Dropped seq upto) h = tt
short-fact (Purged seq rs) h = omega (arith, h)

short-facts : (facts : List Fact) → sum_by fact_size facts ≤ 4294967295 → AllByRecursion IsShortFact facts
short-facts [] h = tt
short-facts (f ∷ facts) h = (
  short-fact f (omega (arith, sum_by-cons fact_size f facts)),
  short-facts facts (omega (arith, sum_by-cons fact_size f facts)),
)

some-fact : (f : Fact) → 1 ≤ fact_size f
some-fact (Made node to) = omega arith
some-fact (Creating ticket to v l offer) = omega arith
some-fact (Created seq ident accept) = omega arith
some-fact (Granted counter message_id acks_to v deadline l offer) = omega arith
some-fact (Accepted seq t) = omega arith
some-fact (Acked seq rs) = omega arith
some-fact (Received seq number p) = omega arith
some-fact (Closing seq ticket) = omega arith
some-fact (ClosedOut seq) = omega arith
some-fact (Closed seq v last) = omega arith
some-fact (Ending seq ticket) = omega arith
some-fact (EndedOut seq) = omega arith
some-fact (Ended seq v last) = omega arith
some-fact (Failed seq fault) = omega arith
some-fact (Consumed seq upto) = omega arith
some-fact (Dropped seq upto) = omega arith
some-fact (Purged seq rs) = omega arith

pub short-batch : (facts : List Fact) → length (batch_text facts) ≤ 4294967295 → IsShortBatch facts
short-batch facts h = record {
  few = omega (arith, batch_text_length facts, few_items fact_size some-fact facts);
  each = short-facts facts (omega (arith, batch_text_length facts));
}

-- a parameter whose text is no longer than a document is read back from it
abbrev pub ReadsBack : Type 0
ReadsBack =
    (p : Element) → IsElementWritable p → height p ≤ 100 → length (element_text false p) ≤ 2097152 → IsParamWritable p

kept-params : ReadsBack → (ps : List Element) → AllByRecursion (IsParamKept 90) ps → params_length ps ≤ 65536
    → AllByRecursion IsParamWritable ps
kept-params reads [] kept h = tt
kept-params reads (p ∷ ps) kept h = (
  reads p kept.0.writable (omega (arith, kept.0.shallow)) (omega (arith, h)),
  kept-params reads ps kept.1 (omega (arith, h)),
)

kept-endpoint : ReadsBack → (e : Epr) → IsEprWritable e → endpoint_size e ≤ 4294967295 → IsEndpointWritable e
kept-endpoint reads e kept h = record {
  address = kept.address;
  params = record {
    few = omega (arith, (short-endpoint e h).few);
    each = kept-params reads e.params kept.each kept.short;
  };
}

kept-bindings : (bs : List Binding) → AllByRecursion IsShortBinding bs → AllByRecursion IsBindingWritable bs
kept-bindings [] h = tt
kept-bindings (b ∷ bs) h = ((omega (arith, h.0.prefix), omega (arith, h.0.space)), kept-bindings bs h.1)

kept-payload : (p : Payload) → IsShortPayload p → IsPayloadWritable p
kept-payload p h = record {
  bytes = omega (arith, h.bytes);
  scope = record { few = omega (arith, h.few); each = kept-bindings p.scope h.each };
}

kept-fact : ReadsBack → (f : Fact) → IsTyped f → AreKept f → fact_size f ≤ 4294967295 → IsWritable f
kept-fact reads (Made node to) typed kept h = typed
kept-fact reads (Creating ticket to v l offer) typed kept h = typed
kept-fact reads (Created seq ident None) typed kept h = (typed.0, typed.1, tt)
kept-fact reads (Created seq ident (Some e)) typed kept h =
    (typed.0, typed.1, kept-endpoint reads e kept.0 (omega (arith, h)))
kept-fact reads (Granted counter message_id acks_to v deadline l None) typed kept h = (
  typed.0,
  typed.1,
  kept-endpoint reads acks_to kept.0 (omega (arith, h)),
  typed.2,
  typed.3,
  tt,
)
kept-fact reads (Granted counter message_id acks_to v deadline l (Some o)) typed kept h = (
  typed.0,
  typed.1,
  kept-endpoint reads acks_to kept.0 (omega (arith, h)),
  typed.2,
  typed.3,
  (typed.4, kept-endpoint reads o.endpoint kept.1.0 (omega (arith, h))),
)
kept-fact reads (Accepted seq t) typed kept h = (typed, omega (arith, h))
kept-fact reads (Acked seq rs) typed kept h =
    (typed.0, record { few = omega (arith, h); canonical = typed.1 })
kept-fact reads (Received seq number p) typed kept h =
    (typed.0, typed.1, kept-payload p (short-payload p (omega (arith, h))))
kept-fact reads (Closing seq ticket) typed kept h = typed
kept-fact reads (ClosedOut seq) typed kept h = typed
kept-fact reads (Closed seq v last) typed kept h = typed
kept-fact reads (Ending seq ticket) typed kept h = typed
kept-fact reads (EndedOut seq) typed kept h = typed
kept-fact reads (Ended seq v last) typed kept h = typed
kept-fact reads (Failed seq fault) typed kept h = typed
kept-fact reads (Consumed seq upto) typed kept h = typed
kept-fact reads (Dropped seq upto) typed kept h = typed
kept-fact reads (Purged seq rs) typed kept h =
    (typed.0, record { few = omega (arith, h); canonical = typed.1 })

kept-facts : ReadsBack → (facts : List Fact) → AllByRecursion IsTyped facts → AllByRecursion AreKept facts
    → sum_by fact_size facts ≤ 4294967295 → AllByRecursion IsWritable facts
kept-facts reads [] typed kept h = tt
kept-facts reads (f ∷ facts) typed kept h = (
  kept-fact reads f typed.0 kept.0 (omega (arith, sum_by-cons fact_size f facts)),
  kept-facts reads facts typed.1 kept.1 (omega (arith, sum_by-cons fact_size f facts)),
)

some-facts : (facts : List Fact) → facts ≢ [] → 0 < length facts
some-facts [] h = absurd (h refl)
some-facts (f ∷ facts) h = omega arith

pub kept-batch : ReadsBack → (facts : List Fact) → facts ≢ [] → length (batch_text facts) ≤ 4294967295
    → AllByRecursion IsTyped facts → AllByRecursion AreKept facts → IsBatch facts
kept-batch reads facts some h typed kept = record {
  some = some-facts facts some;
  counted = record {
    few = omega (arith, (short-batch facts h).few);
    each = kept-facts reads facts typed kept (omega (arith, batch_text_length facts));
  };
}
