-- A payload that is lifted is read in SOAP 1.2.
use Rattle.std.proofs.Common.{◌≡◌, ◌≢◌, ◌≤◌, ◌+◌, ℕ, Bool, true, false, List, [], ◌∷◌, ◌++◌, Option, Some, None, Ok}
use Rattle.std.proofs.Common.{if◌then◌else◌, codes, map, length, refl, sym, ap, subst, ◌∙◌}
use Rattle.std.specs.Prelude.{Contains}
use Rattle.std.specs.List.{AllByRecursion}
use Rattle.std.specs.Str.{bytes_eq}
use Rattle.std.proofs.lemmas.Bool.{true≢false}
use Rattle.rm_base.specs.declared.message.Binding.{Binding}
use Rattle.soap_lex.specs.Characters.{IsName}
use Rattle.soap_lex.specs.Facts.{same, equal}
use Rattle.soap_document.specs.Grammar.{IsContent, IsQName, unprefixed, prefixed, max_depth}
use Rattle.soap_lex.specs.Tests.{is_nil}
use Rattle.soap_document.specs.Tree as written
use Rattle.soap_document.specs.declared.attribute.WrittenAttribute.{WrittenAttribute}
use Rattle.soap_envelope.specs.Envelope.{IsEnvelope, name_in}
use Rattle.soap_envelope.specs.Scope.{IsScope, declared}
use Rattle.soap_envelope.specs.Soap.{soap_space, soap11_space, is_soap11}
use Rattle.soap_document.specs.Profile.Namespaces.{bound, or_none, resolve_parts, tag_of, xmlns_space}
use Rattle.soap_document.specs.Profile.Payload.{depth as nested}
use Rattle.soap_document.specs.Profile.Tree.{Element, Parts}
use Rattle.soap_envelope.specs.Frame.BodyTag.{declaring_name, declaration, AreApart, MayBeDeclared, body_name}
use Rattle.soap_envelope.specs.Frame.BodyTag.{body_bindings}
use Rattle.soap_envelope.specs.Frame.Covers.{Covers}
use Rattle.soap_envelope.specs.Frame.Framed.{Block, IsBlock, MayBeSoap, bytes_of, trees_of}
use Rattle.soap_envelope.specs.Frame.Tagged.{tagged_text, tagged_envelope}
use Rattle.soap_writer.specs.Frame.{frame_scope, addressing_space}
use Rattle.soap_writer.specs.Plain.{name_from, chars_from}
use Rattle.soap_writer.specs.ReadBack.{ContentReadsAs, IsAttributeWritten}
use Rattle.rm_wire.specs.Payloads.{with_payload}
use Rattle.rm_base.specs.declared.message.Payload.{Payload}
use Rattle.rm_message.specs.declared.elements.header.SeqHeader.{SeqHeader}
use Rattle.rm_message.specs.declared.message.Body.{Body}
use Rattle.rm_message.specs.declared.message.Body.TheVariants as body
use Rattle.rm_message.specs.declared.message.Message.{Message}
use Rattle.message_reader.specs.Message.{message_in}
use Rattle.message_reader.specs.Refusals.{Spells}
use Rattle.soap_writer.specs.Stripped.Resolved.{IsBindable, IsBinding}
use Rattle.message_writer.specs.Rules.{KeepsRules, HeaderKeepsRules, protocol_actions, NoFaultFirst, header_trees}
use Rattle.message_writer.specs.Rules.{written_blocks}
use Rattle.message_writer.specs.Text.{header_blocks, blocks_text, message_text}
use Rattle.rm_wire.specs.ReadLaws.Stands.{Stands}
use Rattle.rm_wire.specs.ReadLaws.WasRead.{WasRead, PayloadFits, AreReadTogether}
use Rattle.rm_wire.specs.Soap11.Lift.{lifted_text, numbered_prefix, IsFirstFree, HasNoPayload}
use Rattle.rm_wire.proofs.Soap11Lemmas.Free.{IsFreePrefix, first_is_free, each_binding, apart_by}

-- ---- what is bound

more_at : (d : Binding) (t : Bool) (l m : Option (List ℕ)) (x : List ℕ)
    → (l ≡ Some x → m ≡ Some x) → (if t then Some d.space else l) ≡ Some x → (if t then Some d.space else m) ≡ Some x
more_at d true l m x later e = e
more_at d false l m x later e = later e

bound_more : (p : List ℕ) (ds frame : List Binding) (x : List ℕ) → bound p ds ≡ Some x → bound p (ds ++ frame) ≡ Some x
bound_more p [] frame x e = cc
bound_more p (d ∷ ds) frame x e =
    more_at d (bytes_eq d.prefix p) (bound p ds) (bound p (ds ++ frame)) x (bound_more p ds frame x) e

default_more : (ds frame : List Binding) → bound [] frame ≡ None → bound [] (ds ++ frame) ≡ bound [] ds
default_more [] frame free = free
default_more (d ∷ ds) frame free =
    ap (λ o. if bytes_eq d.prefix [] then Some d.space else o) (default_more ds frame free)

declared_some : (s : List ℕ) → s ≢ [] → declared (Some s) ≡ Some s
declared_some [] ne = absurd (ne refl)
declared_some (c ∷ s) ne = refl

declared_none : (o : Option (List ℕ)) → or_none (declared o) ≡ or_none o
declared_none None = refl
declared_none (Some []) = refl
declared_none (Some (c ∷ s)) = refl

-- behind another prefix
behind : (w p s : List ℕ) (inner frame : List Binding) (t : Bool) → bytes_eq w p ≡ t → bound w inner ≡ None
    → bound p inner ≡ Some s → (if t then Some soap_space else bound p (inner ++ frame)) ≡ Some s
behind w p s inner frame true e free b =
    let none : bound p inner ≡ None = subst (λ q. bound q inner ≡ None) (same w p e) free in
    let wrong : Some s ≡ None = sym b ∙ none in
    absurd (cc)
behind w p s inner frame false e free b = bound_more p inner frame s b

not_nil : (w : List ℕ) → is_nil w ≡ false → bytes_eq w [] ≡ false
not_nil [] e = cc
not_nil (c ∷ w) e = refl

-- a prefix that is bound is bound to something
some_bound : (prefix space : List ℕ) → is_nil prefix ≡ false → IsBindable prefix space → space ≢ []
some_bound prefix space some is e =
    absurd (true≢false (subst (λ (p : List ℕ). is_nil p ≡ false) (is.some e) some))

covers : (payload w : List ℕ) (inner : List Binding) (parts : Parts) (stands : Stands payload inner parts)
    → IsFreePrefix w inner → Covers stands.bindings (body_bindings soap_space w inner ++ frame_scope soap_space)
covers payload w inner parts stands free = record {
  named = λ p s some other b.
      let found : bound p inner ≡ Some s =
      stands.scoped.same p ∙ ap (λ t. if t then None else declared (bound p stands.bindings)) other
      ∙ ap declared b ∙ declared_some s (some_bound p s some (stands.in_force p s b)) in
      behind w p s inner (frame_scope soap_space) (bytes_eq w p) refl free.free found;
  default =
      let none = not_nil w free.some in
      sym (ap (λ t. or_none (if t then Some soap_space else bound [] (inner ++ frame_scope soap_space))) none
      ∙ ap or_none (default_more inner (frame_scope soap_space) refl) ∙ ap or_none (stands.scoped.same [])
      ∙ declared_none (bound [] stands.bindings));
}

-- ---- what is declared

declaring_IsQName : (prefix : List ℕ) → (is_nil prefix ≡ false → IsName prefix) → IsQName (declaring_name prefix)
declaring_IsQName [] named = unprefixed (codes "xmlns") (name_from (codes "xmlns") refl)
declaring_IsQName (c ∷ prefix) named = prefixed (codes "xmlns") (c ∷ prefix) (name_from (codes "xmlns") refl) (named
    refl)

all_written : (bs : List Binding) → AllByRecursion IsBinding bs
    → AllByRecursion IsAttributeWritten (map declaration bs)
all_written [] all = tt
all_written (b ∷ bs) all =
    (record { qname = declaring_IsQName b.prefix all.0.named; chars = all.0.chars }, all_written bs all.1)

all_may : (bs : List Binding) → AllByRecursion IsBinding bs → MayBeDeclared bs
all_may [] all = tt
all_may (b ∷ bs) all = (all.0.may, all_may bs all.1)

none_at : (b : Binding) (w : List ℕ) (t : Bool) (o : Option (List ℕ)) → bytes_eq b.prefix w ≡ t
    → (if t then Some b.space else o) ≡ None → (bytes_eq b.prefix w ≡ false) × (o ≡ None)
none_at b w true o e n = cc
none_at b w false o e n = (e, n)

all_other : (w : List ℕ) (bs : List Binding) → bound w bs ≡ None
    → AllByRecursion (λ (c : Binding). bytes_eq c.prefix w ≡ false) bs
all_other w [] free = tt
all_other w (b ∷ bs) free =
    let (first, later) = none_at b w (bytes_eq b.prefix w) (bound w bs) refl free in
    (first, all_other w bs later)

-- ---- the envelope

-- what the layers below know
pub record Known : Type 0 where
  pub blocks : (soap : List ℕ) (m : Message) → HeaderKeepsRules m
      → AllByRecursion (IsBlock soap) (written_blocks soap m)
  pub bytes : (soap : List ℕ) (m : Message) → bytes_of (written_blocks soap m) ≡ blocks_text (header_blocks m)
  pub trees : (soap : List ℕ) (m : Message) → trees_of (written_blocks soap m) ≡ header_trees soap m
  pub content : (depth start : ℕ) (bytes : List ℕ) (raw : written.Parts) → IsContent depth start bytes raw
      → (outer wider : List Binding) (parts : Parts) → resolve_parts outer raw ≡ Some parts → Covers outer wider
      → (within at : ℕ) → within + nested parts ≤ max_depth → ContentReadsAs within at wider bytes parts
  pub tag : (soap w : List ℕ) (outer scope : List Binding) → IsName w → is_nil w ≡ false
      → bytes_eq w (codes "xml") ≡ false → AreApart (body_bindings soap w scope)
      → MayBeDeclared (body_bindings soap w scope)
      → tag_of outer (body_name w) (map declaration (body_bindings soap w scope))
      ≡ Some (record { name = name_in soap (codes "Body"); decls = body_bindings soap w scope; attrs = [] })
  pub frame : (soap : List ℕ) (header : List Block) (name : List ℕ) (attributes : List WrittenAttribute)
      (decls : List Binding) (payload : List ℕ) (body : Parts) (scope : List Binding) → MayBeSoap soap
      → AllByRecursion (IsBlock soap) header → IsQName name → AllByRecursion IsAttributeWritten attributes
      → tag_of (frame_scope soap) name attributes
      ≡ Some (record { name = name_in soap (codes "Body"); decls = decls; attrs = [] })
      → ((at : ℕ) → ContentReadsAs 2 at (decls ++ frame_scope soap) payload body)
      → IsScope (decls ++ frame_scope soap) scope
      → IsEnvelope soap (tagged_text soap (bytes_of header) name attributes payload)
      (tagged_envelope soap (trees_of header) payload body scope)
  pub payload : (soap : List ℕ) → is_soap11 soap ≡ false → soap ≢ addressing_space → (m : Message)
      → HeaderKeepsRules m → (Contains protocol_actions m.addressing.action → ⊥)
      → (payload : List ℕ) (parts : Parts) (scope : List Binding) → (m.sequence ≡ None → NoFaultFirst soap parts)
      → message_in soap (tagged_envelope soap (header_trees soap m) payload parts scope)
      ≡ Ok (with_payload m payload scope)

soap_may : MayBeSoap soap_space
soap_may = record { chars = chars_from soap_space refl; bindable = refl }

soap_later : is_soap11 soap_space ≡ false
unfolding is_soap11
soap_later = refl

soap_other : soap_space ≢ addressing_space
soap_other e = true≢false (sym (equal soap_space addressing_space e))

lifted_is : Known → (m : Message) (payload : List ℕ) (parts : Parts) (inner : List Binding) (w : List ℕ)
    (scope : List Binding) → HeaderKeepsRules m → Stands payload inner parts → IsFreePrefix w inner
    → AllByRecursion IsBinding inner → AreApart inner
    → IsScope (body_bindings soap_space w inner ++ frame_scope soap_space) scope
    → IsEnvelope soap_space (lifted_text w m payload inner)
    (tagged_envelope soap_space (header_trees soap_space m) payload parts scope)
lifted_is known m payload parts inner w scope rules stands free each apart scoped =
    let bs = body_bindings soap_space w inner in
    let as_ = map declaration bs in
    let s = written_blocks soap_space m in
    let own : IsBinding (record { prefix = w; space = soap_space }) = record {
      chars = chars_from soap_space refl;
      no_xmlns = λ e. true≢false (sym (equal soap_space xmlns_space e));
      some = λ e. absurd (true≢false (sym (equal soap_space [] e)));
      named = λ e. free.name;
      may = free.may;
    } in
    let all : AllByRecursion IsBinding bs = (own, each) in
    let is = known.tag soap_space w (frame_scope soap_space) inner free.name free.some free.other
    (all_other w inner free.free, apart) (all_may bs all) in
    let reads = known.content stands.depth stands.start payload stands.raw stands.content stands.bindings
    (bs ++ frame_scope soap_space) parts stands.resolved (covers payload w inner parts stands free) in
    let e = known.frame soap_space s (body_name w) as_ bs payload parts scope soap_may
    (known.blocks soap_space m rules)
    (prefixed w (codes "Body") free.name (name_from (codes "Body") refl)) (all_written bs all) is
    (λ at. reads 2 at stands.shallow) scoped in
    subst (λ (l : List ℕ). IsEnvelope soap_space (tagged_text soap_space l (body_name w) as_ payload)
    (tagged_envelope soap_space (header_trees soap_space m) payload parts scope)) (known.bytes soap_space m)
    (subst (λ (l : List Element). IsEnvelope soap_space (tagged_text soap_space (bytes_of s) (body_name w) as_ payload)
    (tagged_envelope soap_space l payload parts scope)) (known.trees soap_space m) e)

pub lifted_spells : Known → (m : Message) (payload : List ℕ) (parts : Parts) (inner : List Binding) (w : List ℕ)
    (scope : List Binding) → HeaderKeepsRules m → (Contains protocol_actions m.addressing.action → ⊥)
    → Stands payload inner parts → IsFreePrefix w inner → AllByRecursion IsBinding inner → AreApart inner
    → (m.sequence ≡ None → NoFaultFirst soap_space parts)
    → IsScope (body_bindings soap_space w inner ++ frame_scope soap_space) scope
    → length (lifted_text w m payload inner) ≤ 2097152
    → Spells soap_space (lifted_text w m payload inner) (with_payload m payload scope)
lifted_spells known m payload parts inner w scope rules none_of stands free each apart first scoped fits = record {
  envelope = tagged_envelope soap_space (header_trees soap_space m) payload parts scope;
  is = lifted_is known m payload parts inner w scope rules stands free each apart scoped;
  fits = fits;
  reads = known.payload soap_space soap_later soap_other m rules none_of payload parts scope first;
}

-- ---- by what was read

fits_so : (sequence : Option SeqHeader) (b : Body) → HasNoPayload b → PayloadFits soap_space sequence b
fits_so sequence body.Empty is = tt
fits_so sequence (body.Payload p) is = absurd is
fits_so sequence (body.Lifecycle x) is = tt
fits_so sequence (body.Fault f) is = tt

pub other_spells : ((soap bytes : List ℕ) (m : Message) → Spells soap bytes m → WasRead m)
    → ((soap : List ℕ) (m : Message) → WasRead m → PayloadFits soap m.sequence m.body → KeepsRules soap m)
    → ((m : Message) → KeepsRules soap_space m → length (message_text soap_space m) ≤ 2097152
    → Spells soap_space (message_text soap_space m) m)
    → (bytes : List ℕ) (m : Message) → Spells soap11_space bytes m → HasNoPayload m.body
    → length (message_text soap_space m) ≤ 2097152 → Spells soap_space (message_text soap_space m) m
other_spells read keeps written bytes m spells none fits =
    written m (keeps soap_space m (read soap11_space bytes m spells) (fits_so m.sequence m.body none)) fits

pub header_rules : (m : Message) → WasRead m → HeaderKeepsRules m
header_rules m is = record {
  addressing = is.addressing;
  sequence = is.sequence;
  acks = is.acks;
  asks = is.asks;
  not_understood = is.not_understood;
}

together : (m : Message) (p : Payload) → m.body ≡ body.Payload p → AreReadTogether m.addressing m.sequence m.body
    → (Contains protocol_actions m.addressing.action → ⊥)
together m p is all = subst (AreReadTogether m.addressing m.sequence) is all

pub no_protocol : (m : Message) (p : Payload) → m.body ≡ body.Payload p → WasRead m
    → (Contains protocol_actions m.addressing.action → ⊥)
no_protocol m p is read = together m p is read.together

-- a payload that was read in SOAP 1.1, lifted
pub payload_spells : Known → ((soap bytes : List ℕ) (m : Message) → Spells soap bytes m → WasRead m)
    → ((soap bytes : List ℕ) (m : Message) (spells : Spells soap bytes m) (p : Payload) → m.body ≡ body.Payload p
    → Stands p.bytes p.scope spells.envelope.body) → (bytes : List ℕ) (m : Message)
    (spells : Spells soap11_space bytes m) (p : Payload) → m.body ≡ body.Payload p → (k : ℕ) → IsFirstFree k p.scope
    → (m.sequence ≡ None → NoFaultFirst soap_space spells.envelope.body) → (scope : List Binding)
    → IsScope (body_bindings soap_space (numbered_prefix k) p.scope ++ frame_scope soap_space) scope
    → length (lifted_text (numbered_prefix k) m p.bytes p.scope) ≤ 2097152
    → Spells soap_space (lifted_text (numbered_prefix k) m p.bytes p.scope) (with_payload m p.bytes scope)
payload_spells known read there bytes m spells p is k free first scope scoped fits =
    let was = read soap11_space bytes m spells in
    let stands = there soap11_space bytes m spells p is in
    lifted_spells known m p.bytes spells.envelope.body p.scope (numbered_prefix k) scope (header_rules m was)
    (no_protocol m p is was) stands (first_is_free k p.scope free)
    (each_binding p.scope stands.scoped.rises stands.around) (apart_by p.scope stands.scoped.rises) first scoped fits
