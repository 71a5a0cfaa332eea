-- Content that is closed under its own declarations is read alike wherever no default namespace is in force.
use Rattle.std.proofs.Common.{◌≡◌, ℕ, suc, ◌+◌, ◌≤◌, max, List, [], ◌++◌, Option, Some, None, option_map, refl, ap, sym}
use Rattle.std.proofs.Common.{ap₂, ◌∙◌, arith}
use Rattle.rm_base.specs.declared.message.Binding.{Binding}
use Rattle.soap_document.specs.Grammar.{IsContent, max_depth}
use Rattle.soap_document.specs.Tree as written
use Rattle.soap_document.specs.Profile.Namespaces.{bound, or_none, Resolved, tag_of, resolve, resolve_parts, joined}
use Rattle.soap_document.specs.Profile.Payload.{height, depth, IsClosedContent}
use Rattle.soap_document.specs.Profile.Tree.{Element, element, Parts, none, text, child}
use Rattle.soap_writer.specs.ReadBack.{ContentReadsAs}
use Rattle.soap_envelope.proofs.FrameLemmas.Moved.{tall, deep, content_moved, with_tag}
use Rattle.soap_envelope.specs.Frame.Covers.{Covers}
use Rattle.soap_envelope.proofs.FrameLemmas.Covered.{parts_more}

mapped_tall : (t : Resolved) (l : Option Parts) (n : ℕ) (e : Element) → ((ps : Parts) → l ≡ Some ps → n ≡ depth ps)
    → option_map (element t.name t.decls t.attrs) l ≡ Some e → suc n ≡ height e
mapped_tall t None n e f h = cc
mapped_tall t (Some ps) n e f h =
    let is : element t.name t.decls t.attrs ps ≡ e = cc in
    ap suc (f ps refl) ∙ ap height is

tagged_tall : (o : Option Resolved) (inner : Resolved → Option Parts) (n : ℕ) (e : Element)
    → ((t : Resolved) (ps : Parts) → inner t ≡ Some ps → n ≡ depth ps) → with_tag o inner ≡ Some e → suc n ≡ height e
tagged_tall None inner n e f h = cc
tagged_tall (Some t) inner n e f h = mapped_tall t (inner t) n e (f t) h

text_deep : (bytes : List ℕ) (l : Option Parts) (n : ℕ) (ps : Parts) → ((qs : Parts) → l ≡ Some qs → n ≡ depth qs)
    → option_map (text bytes) l ≡ Some ps → n ≡ depth ps
text_deep bytes None n ps f h = cc
text_deep bytes (Some qs) n ps f h = let is : text bytes qs ≡ ps = cc in f qs refl ∙ ap depth is

joined_deep : (o : Option Element) (l : Option Parts) (m n : ℕ) (ps : Parts) → ((e : Element) → o ≡ Some e
    → m ≡ height e)
    → ((qs : Parts) → l ≡ Some qs → n ≡ depth qs) → joined o l ≡ Some ps → max m n ≡ depth ps
joined_deep None l m n ps f g h = cc
joined_deep (Some e) None m n ps f g h = cc
joined_deep (Some e) (Some qs) m n ps f g h =
    let is : child e qs ≡ ps = cc in ap₂ max (f e refl) (g qs refl) ∙ ap depth is

mutual
  resolve_tall : (raw : written.Element) (scope : List Binding) (e : Element) → resolve scope raw ≡ Some e
      → tall raw ≡ height e
  resolve_tall (written.element w raws start end parts) scope e h =
      tagged_tall (tag_of scope w raws) (λ t. resolve_parts (t.decls ++ scope) parts) (deep parts) e
      (λ t ps f. resolve_deep parts (t.decls ++ scope) ps f) h

  resolve_deep : (raw : written.Parts) (scope : List Binding) (ps : Parts) → resolve_parts scope raw ≡ Some ps
      → deep raw ≡ depth ps
  resolve_deep written.none scope ps h = let is : none ≡ ps = cc in ap depth is
  resolve_deep (written.text bytes parts) scope ps h =
      text_deep bytes (resolve_parts scope parts) (deep parts) ps (λ qs. resolve_deep parts scope qs) h
  resolve_deep (written.child first parts) scope ps h =
      joined_deep (resolve scope first) (resolve_parts scope parts) (tall first) (deep parts) ps
      (λ e. resolve_tall first scope e) (λ qs. resolve_deep parts scope qs) h

-- content that isn't too deep is read alike at another place, where more is bound
pub moved_alike : (depth_of start : ℕ) (bytes : List ℕ) (raw : written.Parts) → IsContent depth_of start bytes raw
    → (ds es : List Binding) (ps : Parts) → resolve_parts ds raw ≡ Some ps → Covers ds es
    → (d at : ℕ) → d + depth ps ≤ max_depth → ContentReadsAs d at es bytes ps
moved_alike depth_of start bytes raw is ds es ps read covers d at room =
    let same = resolve_deep raw ds ps read in
    let m = content_moved depth_of start bytes raw is d at (omega (arith, same, room)) in
    record { raw = m.raw; is = m.is; resolved = parts_more m.raw ds es ps covers (m.same ds ∙ read) }

-- nothing is covered where there is no default
covers_nothing : (scope : List Binding) → bound [] scope ≡ None → Covers [] scope
covers_nothing scope none_ = record { named = λ prefix space some other e. cc; default = ap or_none (sym none_) }

pub closed_alike : (bytes : List ℕ) (c : IsClosedContent bytes) (d at : ℕ) (scope : List Binding) → d + 90 ≤ max_depth
    → bound [] scope ≡ None → ContentReadsAs d at scope bytes c.parts
closed_alike bytes c d at scope room default =
    moved_alike 1 3 bytes c.raw c.is [] scope c.parts c.resolved (covers_nothing scope default) d at
    (omega (arith, c.shallow, room))
