-- Bytes are at most one envelope.
use Rattle.std.proofs.Common.{◌≡◌, ℕ, inl, inr, List, [], ◌∷◌, ◌++◌, Bool, true, false, Option, Some, None, Ordering}
use Rattle.std.proofs.Common.{Less, Equal, Greater, nat_cmp, is_eq, codes, refl, sym, ap, ap₂, subst, ◌∙◌}
use Rattle.std.proofs.lemmas.Cmp.{nat_list_cmp_total}
use Rattle.std.proofs.lemmas.Map.Text.{is_eq-slice_cmp}
use Rattle.std.proofs.lemmas.Slice.Eq.{bytes_eq-Decides}
use Rattle.std.specs.Cmp.Lexicographic.{slice_cmp}
use Rattle.std.specs.Ordering.{is_lt, ordering_reverse}
use Rattle.std.specs.Str.{bytes_eq}
use Rattle.soap_document.specs.Grammar.{IsDocument}
use Rattle.soap_document.specs.Tree as written
use Rattle.soap_document.specs.Profile.Document.{Document}
use Rattle.soap_document.specs.Profile.Namespaces.{bound, resolve}
use Rattle.soap_document.specs.Profile.Tree.{Element, element, Parts, name_of, decls_of, parts_of}
use Rattle.rm_base.specs.declared.message.Binding.{Binding}
use Rattle.soap_envelope.specs.Envelope.{name_in, bytes_within, IsBodyAlone, IsOutline, IsHeader, without, blocks}
use Rattle.soap_envelope.specs.Envelope.{Envelope, IsEnvelope}
use Rattle.soap_envelope.specs.Refusals.{IsOtherVersion, WrongVersion, NotEnvelope}
use Rattle.soap_envelope.specs.Scope.{Rises, IsScope}
use Rattle.soap_envelope.proofs.Outlines.{outline_cases, one_child, not_both}
use Rattle.soap_envelope.proofs.Scopes.{IsAbove, less_is, same_bytes, bound_step, bound_below}

-- ---- scopes

above_lower : (x p : List ℕ) (bs : List Binding) → slice_cmp nat_cmp x p ≡ Less → IsAbove p bs → IsAbove x bs
above_lower x p [] e h = tt
above_lower x p (b ∷ bs) e h = (
  ap is_lt (nat_list_cmp_total.trans x p b.prefix e (less_is (slice_cmp nat_cmp p b.prefix)
      h.0)),
  above_lower x p bs e h.1,
)

bound_head : (b : Binding) (bs : List Binding) → bound b.prefix (b ∷ bs) ≡ Some b.space
bound_head b bs = bound_step b.prefix b bs true (same_bytes b.prefix)

-- a list that rises from a higher prefix does not bind a lower one
not_lower : (x y : Binding) (xs ys : List Binding) → slice_cmp nat_cmp x.prefix y.prefix ≡ Less → Rises (y ∷ ys)
    → bound x.prefix (x ∷ xs) ≡ bound x.prefix (y ∷ ys) → ⊥
not_lower x y xs ys e s same =
    let none : bound x.prefix (y ∷ ys) ≡ None = bound_below x.prefix (y ∷ ys) (
      ap is_lt e,
      above_lower x.prefix y.prefix
          ys e s.0,
    ) in
    let some : Some x.space ≡ None = sym (bound_head x xs) ∙ same ∙ none in cc

tails_same : (q : List ℕ) (x y : Binding) (xs ys : List Binding) (t : Bool) → bytes_eq x.prefix q ≡ t
    → x.prefix ≡ y.prefix → IsAbove x.prefix xs → IsAbove y.prefix ys → bound q (x ∷ xs) ≡ bound q (y ∷ ys)
    → bound q xs ≡ bound q ys
tails_same q x y xs ys true e p r s same =
    let is : x.prefix ≡ q = (bytes_eq-Decides x.prefix q).0 e in
    ap (λ (z : List ℕ). bound z xs) (sym is) ∙ bound_below x.prefix xs r
    ∙ sym (ap (λ (z : List ℕ). bound z ys) (sym is ∙ p) ∙ bound_below y.prefix ys s)
tails_same q x y xs ys false e p r s same =
    sym (bound_step q x xs false e) ∙ same ∙ bound_step q y ys false (ap (λ (z : List ℕ). bytes_eq z q) (sym p) ∙ e)

binding_is : (x y : Binding) → x.prefix ≡ y.prefix → x.space ≡ y.space → x ≡ y
binding_is x y p s = ap₂ (λ (a b : List ℕ). record { prefix = a; space = b }) p s

heads_same : (x y : Binding) (xs ys : List Binding) (o : Ordering) → slice_cmp nat_cmp x.prefix y.prefix ≡ o
    → Rises (x ∷ xs) → Rises (y ∷ ys) → ((q : List ℕ) → bound q (x ∷ xs) ≡ bound q (y ∷ ys))
    → (((q : List ℕ) → bound q xs ≡ bound q ys) → xs ≡ ys) → x ∷ xs ≡ y ∷ ys
heads_same x y xs ys Less e r s same f = absurd (not_lower x y xs ys e s (same x.prefix))
heads_same x y xs ys Greater e r s same f =
    absurd (not_lower y x ys xs (nat_list_cmp_total.antisymm y.prefix x.prefix ∙ ap ordering_reverse e) r (sym (same
    y.prefix)))
heads_same x y xs ys Equal e r s same f =
    let p : x.prefix ≡ y.prefix = (bytes_eq-Decides x.prefix y.prefix).0 (sym (is_eq-slice_cmp x.prefix y.prefix) ∙ ap
    is_eq e) in
    let found : Some x.space ≡ Some y.space = sym (bound_head x xs) ∙ same x.prefix ∙ ap (λ (q : List ℕ). bound q (y
    ∷ ys)) p ∙ bound_head y ys in
    let space : x.space ≡ y.space = cc in
    ap₂ (λ (b : Binding) (bs : List Binding). b ∷ bs) (binding_is x y p space) (f (λ q. tails_same q x y xs ys (bytes_eq
    x.prefix q) refl p r.0 s.0 (same q)))

rising_same : (xs ys : List Binding) → Rises xs → Rises ys → ((q : List ℕ) → bound q xs ≡ bound q ys) → xs ≡ ys
rising_same [] [] r s same = refl
rising_same [] (y ∷ ys) r s same = let x : None ≡ Some y.space = same y.prefix ∙ bound_head y ys in cc
rising_same (x ∷ xs) [] r s same = let y : Some x.space ≡ None = sym (bound_head x xs) ∙ same x.prefix in cc
rising_same (x ∷ xs) (y ∷ ys) r s same =
    heads_same x y xs ys (slice_cmp nat_cmp x.prefix y.prefix) refl r s same (rising_same xs ys r.1 s.1)

pub scopes_same : (bindings one other : List Binding) → IsScope bindings one → IsScope bindings other → one ≡ other
scopes_same bindings one other p q = rising_same one other p.rises q.rises (λ x. p.same x ∙ sym (q.same x))

-- ---- outlines

bodies_same : (soap : List ℕ) (p : Parts) (a b : Element) → IsBodyAlone soap p a → IsBodyAlone soap p b → a ≡ b
bodies_same soap p a b s t = (one_child p a b s.after t.after s.before t.before).0

pub outlines_same : (soap : List ℕ) (p : Parts) (h k : Option Element) (a b : Element) → IsOutline soap p h a
    → IsOutline soap p k b
    → (h ≡ k) × (a ≡ b)
outlines_same soap p h k a b o q = elim (outline_cases soap p h a o) as (λ _. (h ≡ k) × (a ≡ b)) [
  | inl l ↦ elim (outline_cases soap p k b q) as (λ _. (h ≡ k) × (a ≡ b)) [
    | inl m ↦ (l.0 ∙ sym m.0, bodies_same soap p a b l.1 m.1)
    | inr m ↦ absurd (not_both soap (name_of a) (ap name_of (one_child p a m.0 l.1.after m.1 l.1.before m.3).0 ∙ m.4)
        l.1.named)
  ]
  | inr l ↦ elim (outline_cases soap p k b q) as (λ _. (h ≡ k) × (a ≡ b)) [
    | inl m ↦ absurd (not_both soap (name_of b) (ap name_of (one_child p b l.0 m.1.after l.1 m.1.before l.3).0 ∙ l.4)
        m.1.named)
    | inr m ↦ (
      l.2 ∙ ap (λ (e : Element). Some e) (one_child p l.0 m.0 l.1 m.1 l.3 m.3).0 ∙ sym m.2,
      bodies_same soap m.1 a b (subst (λ (x : Parts). IsBodyAlone soap x a) (one_child p l.0 m.0 l.1 m.1 l.3 m.3).1
          l.5) m.5,
    )
  ]
]

-- ---- envelopes

-- bytes have at most one tree
abbrev pub OneTree : Type 0
OneTree = (bytes : List ℕ) (one other : written.Element) → IsDocument bytes one → IsDocument bytes other → one ≡ other

headers_same : (outer : List Binding) (h : Option Element) (xs ys : List Element) (s t : List Binding)
    → IsHeader outer h xs s → IsHeader outer h ys t → (xs ≡ ys) × (s ≡ t)
headers_same outer None xs ys s t without without = (refl, refl)
headers_same outer (Some h) xs ys s t (blocks _ _ p) (blocks _ _ q) = (refl, scopes_same (decls_of h ++ outer) s t p q)

envelope_is : (one other : Envelope) → one.headers ≡ other.headers → one.header_scope ≡ other.header_scope
    → one.payload ≡ other.payload → one.scope ≡ other.scope → one.body ≡ other.body → one ≡ other
envelope_is one other a b c d e =
    ap (λ (xs : List Element). record one { headers = xs }) a
    ∙ ap (λ (s : List Binding). record one { headers = other.headers; header_scope = s }) b
    ∙ ap (λ (p : List ℕ). record other { payload = p; scope = one.scope; body = one.body }) c
    ∙ ap (λ (s : List Binding). record other { scope = s; body = one.body }) d
    ∙ ap (λ (p : Parts). record other { body = p }) e

pub envelopes_same : OneTree → (soap bytes : List ℕ) (one other : Envelope) → IsEnvelope soap bytes one
    → IsEnvelope soap bytes other
    → one ≡ other
envelopes_same one_tree soap bytes one other p q =
    let raw : p.raw ≡ q.raw = one_tree bytes p.raw q.raw p.document q.document in
    let name = name_in soap (codes "Envelope") in
    let tree : Some (element name p.decls p.attrs p.parts) ≡ Some (element name q.decls q.attrs q.parts) =
    sym p.resolved ∙ ap (resolve []) raw ∙ q.resolved in
    let decls : p.decls ≡ q.decls = cc in
    let parts : p.parts ≡ q.parts = cc in
    let found = outlines_same soap q.parts p.header q.header p.body q.body (subst (λ (x : Parts). IsOutline soap x
    p.header
    p.body) parts p.outline) q.outline in
    let header : IsHeader q.decls q.header one.headers one.header_scope = subst (λ (h : Option Element). IsHeader
    q.decls h one.headers one.header_scope) found.0 (subst (λ (ds : List Binding). IsHeader ds p.header one.headers
    one.header_scope) decls p.blocks) in
    let heads = headers_same q.decls q.header one.headers other.headers one.header_scope other.header_scope header
    q.blocks in
    let last : Some p.written_body ≡ Some q.written_body = sym p.last ∙ ap written.last_within raw ∙ q.last in
    let body : p.written_body ≡ q.written_body = cc in
    let inner : decls_of p.body ++ p.decls ≡ decls_of q.body ++ q.decls = ap₂ (λ (b : Element) (ds : List Binding).
    decls_of b ++ ds) found.1 decls in
    envelope_is one other heads.0 heads.1 (p.payload ∙ ap (bytes_within bytes) body ∙ sym q.payload)
    (scopes_same (decls_of q.body ++ q.decls) one.scope other.scope (subst (λ (bs : List Binding). IsScope bs one.scope)
    inner p.scope) q.scope)
    (p.content ∙ ap parts_of found.1 ∙ sym q.content)

-- ---- answers

pub documents_same : OneTree → (bytes : List ℕ) (one other : Element) → Document bytes one → Document bytes other
    → one ≡ other
documents_same one_tree bytes one other p q =
    let e : Some one ≡ Some other = sym p.resolved ∙ ap (resolve []) (one_tree bytes p.raw q.raw p.is q.is) ∙ q.resolved
    in cc

document_of : (soap bytes : List ℕ) (envelope : Envelope) (p : IsEnvelope soap bytes envelope)
    → Document bytes (element (name_in soap (codes "Envelope")) p.decls p.attrs p.parts)
document_of soap bytes envelope p = record { raw = p.raw; is = p.document; resolved = p.resolved }

pub not_version : OneTree → (soap bytes : List ℕ) (envelope : Envelope) → IsEnvelope soap bytes envelope
    → WrongVersion soap bytes → ⊥
not_version one_tree soap bytes envelope p w =
    let same = documents_same one_tree bytes w.root (element (name_in soap (codes "Envelope")) p.decls p.attrs
    p.parts) w.document
    (document_of soap bytes envelope p) in
    w.version.space (ap (λ (e : Element). (name_of e).space) same)

pub not_none : OneTree → (soap bytes : List ℕ) (envelope : Envelope) → IsEnvelope soap bytes envelope
    → NotEnvelope soap bytes → ⊥
not_none one_tree soap bytes envelope p n =
    let same = documents_same one_tree bytes n.root (element (name_in soap (codes "Envelope")) p.decls p.attrs
    p.parts) n.document
    (document_of soap bytes envelope p) in
    n.other.outline p.header p.body (ap name_of same) (subst (λ (e : Element). IsOutline soap (parts_of e) p.header
    p.body)
    (sym same) p.outline)

pub not_twice : OneTree → (soap bytes : List ℕ) → WrongVersion soap bytes → NotEnvelope soap bytes → ⊥
not_twice one_tree soap bytes w n = n.other.version (subst (IsOtherVersion soap) (documents_same one_tree bytes
    w.root n.root w.document n.document)
    w.version)
