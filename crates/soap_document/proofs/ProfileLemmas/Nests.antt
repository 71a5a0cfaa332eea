-- What open elements are, with one part more, and with the innermost closed.
use Rattle.std.proofs.Common.{◌≡◌, ℕ, List, [], ◌∷◌, ◌++◌, Option, Some, None, option_map, refl, sym, ap, subst, ◌∙◌}
use Rattle.soap_document.specs.Machine.{Frame, join as written_join, with_parts, only_child}
use Rattle.soap_document.specs.Tree as written
use Rattle.soap_document.specs.declared.attribute.WrittenAttribute.{WrittenAttribute}
use Rattle.soap_document.specs.Profile.Document.{place_of}
use Rattle.soap_document.specs.Profile.Namespaces.{Resolved, tag_of, resolve, resolve_parts, joined}
use Rattle.soap_document.specs.Profile.Opened.{Opened, Nest, Root, no_tag, last_place, inner_place, opened, within}
use Rattle.soap_document.specs.Profile.Opened.{within_all}
use Rattle.soap_document.specs.Profile.Opened.{nest, lone, rooted}
use Rattle.soap_document.specs.Profile.Steps.{join}
use Rattle.soap_document.specs.Profile.Tree.{Element, element, Parts, none, text, child}
use Rattle.rm_base.specs.declared.message.Binding.{Binding}
use Rattle.soap_document.specs.declared.profile.place.Place.{Place}

-- ---- parts before others

-- parts before others, where all of them are resolved
abbrev both : Option Parts → Option Parts → Option Parts
both None later = None
both (Some first) later = option_map (join first) later

none_both : (later : Option Parts) → later ≡ both (Some none) later
none_both None = refl
none_both (Some parts) = refl

text_both : (bytes : List ℕ) (o later : Option Parts) → option_map (text bytes) (both o later)
    ≡ both (option_map (text bytes) o) later
text_both bytes None later = refl
text_both bytes (Some first) None = refl
text_both bytes (Some first) (Some parts) = refl

child_both : (c : Option Element) (o later : Option Parts) → joined c (both o later) ≡ both (joined c o) later
child_both None o later = refl
child_both (Some e) None later = refl
child_both (Some e) (Some first) None = refl
child_both (Some e) (Some first) (Some parts) = refl

resolve-join : (scope : List Binding) (ps more : written.Parts) → resolve_parts scope (written_join ps more)
    ≡ both (resolve_parts scope ps) (resolve_parts scope more)
resolve-join scope written.none more = none_both (resolve_parts scope more)
resolve-join scope (written.text bytes ps) more =
    ap (option_map (text bytes)) (resolve-join scope ps more)
    ∙ text_both bytes (resolve_parts scope ps) (resolve_parts scope more)
resolve-join scope (written.child e ps) more =
    ap (joined (resolve scope e)) (resolve-join scope ps more)
    ∙ child_both (resolve scope e) (resolve_parts scope ps) (resolve_parts scope more)

-- ---- the last element

abbrev last_or : written.Element → Option written.Element → Option written.Element
last_or first last = elim last [ None ↦ Some first | Some e ↦ Some e ]

last-text : (ps : written.Parts) (bytes : List ℕ)
    → written.last_child (written_join ps (written.text bytes written.none)) ≡ written.last_child ps
last-text written.none bytes = refl
last-text (written.text b ps) bytes = last-text ps bytes
last-text (written.child e ps) bytes = ap (last_or e) (last-text ps bytes)

last-child : (ps : written.Parts) (e : written.Element)
    → written.last_child (written_join ps (written.child e written.none)) ≡ Some e
last-child written.none e = refl
last-child (written.text b ps) e = last-child ps e
last-child (written.child first ps) e = ap (last_or first) (last-child ps e)

-- ---- what stands around the parts of the innermost element

record Around : Type 0 where
  scope : List Binding
  tag : Resolved
  below : List Opened

abbrev around_tag : Nest → Resolved → Around
around_tag n tag = record { scope = tag.decls ++ n.scope; tag = tag; below = n.top ∷ n.below }

abbrev around_within : Frame → Option Nest → Option Around
around_within frame None = None
around_within frame (Some n) = option_map (around_tag n) (tag_of n.scope frame.name frame.attributes)

-- none where a rule is broken in an element around, or in this tag
abbrev around : Frame → List Frame → Option Around
around frame [] = Some (record { scope = []; tag = no_tag; below = [] })
around frame (outer ∷ frames) = around_within frame (nest outer frames)

abbrev around_parts : Frame → Around → Parts → Nest
around_parts frame a parts = record { scope = a.scope; top = opened frame a.tag parts; below = a.below }

-- the same with this last element among the parts
abbrev around_last : Frame → Around → Option written.Element → Parts → Nest
around_last frame a last parts = record {
  scope = a.scope;
  top = record {
    tag = a.tag;
    start = frame.start;
    parts = parts;
    last = last_place last;
    inner = inner_place last;
  };
  below = a.below;
}

-- the open elements, by what stands around the parts
abbrev filled : Frame → Option Around → Option Nest
filled frame None = None
filled frame (Some a) = option_map (around_parts frame a) (resolve_parts a.scope frame.parts)

within_filled : (frame : Frame) (n : Nest) (tag : Option Resolved) → within frame n tag
    ≡ filled frame (option_map (around_tag n) tag)
within_filled frame n None = refl
within_filled frame n (Some tag) = refl

within_all_filled : (frame : Frame) (o : Option Nest) → within_all frame o ≡ filled frame (around_within frame o)
within_all_filled frame None = refl
within_all_filled frame (Some n) = within_filled frame n (tag_of n.scope frame.name frame.attributes)

nest_filled : (frame : Frame) (frames : List Frame) → nest frame frames ≡ filled frame (around frame frames)
nest_filled frame [] = refl
nest_filled frame (outer ∷ frames) = within_all_filled frame (nest outer frames)

-- whatever the parts are, the same stands around them
around_more : (frame : Frame) (frames : List Frame) (more : written.Parts) → around (with_parts frame more) frames
    ≡ around frame frames
around_more frame [] more = refl
around_more frame (outer ∷ frames) more = refl

-- ---- a part more

broken_more : (frame : Frame) (more : written.Parts) (a : Around) (o : Option Parts)
    → option_map (around_parts frame a) o ≡ None
    → option_map (around_parts (with_parts frame more) a) (both o (resolve_parts a.scope more)) ≡ None
broken_more frame more a None e = refl
broken_more frame more a (Some parts) e = cc

filled_broken : (frame : Frame) (more : written.Parts) (a : Option Around) → filled frame a ≡ None
    → filled (with_parts frame more) a ≡ None
filled_broken frame more None e = refl
filled_broken frame more (Some a) e =
    ap (option_map (around_parts (with_parts frame more) a)) (resolve-join a.scope frame.parts more)
    ∙ broken_more frame more a (resolve_parts a.scope frame.parts) e

-- a rule that is broken stays so
pub nest_broken : (frame : Frame) (frames : List Frame) (more : written.Parts) → nest frame frames ≡ None
    → nest (with_parts frame more) frames ≡ None
nest_broken frame frames more e =
    nest_filled (with_parts frame more) frames ∙ ap (filled (with_parts frame more)) (around_more frame frames more)
    ∙ filled_broken frame more (around frame frames) (sym (nest_filled frame frames) ∙ e)

-- ---- a text more

-- one text more in the innermost element
abbrev pub with_text : List ℕ → Nest → Nest
with_text bytes n = record n { top = record n.top { parts = join n.top.parts (text bytes none) } }

text_more : (frame : Frame) (a : Around) (bytes : List ℕ) (last : Option written.Element) (o : Option Parts) → last
    ≡ written.last_child frame.parts
    → option_map (around_last frame a last) (both o (Some (text bytes none)))
    ≡ option_map (with_text bytes) (option_map (around_parts frame a) o)
text_more frame a bytes last None e = refl
text_more frame a bytes last (Some parts) e = rw (e)

filled_text : (frame : Frame) (a : Option Around) (bytes : List ℕ)
    → filled (with_parts frame (written.text bytes written.none)) a ≡ option_map (with_text bytes) (filled frame a)
filled_text frame None bytes = refl
filled_text frame (Some a) bytes =
    ap (option_map (around_parts (with_parts frame (written.text bytes written.none)) a)) (resolve-join a.scope
    frame.parts (written.text bytes written.none))
    ∙ text_more frame a bytes _ (resolve_parts a.scope frame.parts) (last-text frame.parts bytes)

pub nest-text : (frame : Frame) (frames : List Frame) (bytes : List ℕ)
    → nest (with_parts frame (written.text bytes written.none)) frames
    ≡ option_map (with_text bytes) (nest frame frames)
nest-text frame frames bytes =
    let more = written.text bytes written.none in
    nest_filled (with_parts frame more) frames ∙ ap (filled (with_parts frame more)) (around_more frame frames more)
    ∙ filled_text frame (around frame frames) bytes ∙ ap (option_map (with_text bytes)) (sym (nest_filled frame frames))

-- ---- an element more

-- this tree more in the innermost element, for this element as it is written
abbrev pub with_child : written.Element → Nest → Element → Nest
with_child e n tree = record n {
  top = record n.top {
    parts = join n.top.parts (child tree none);
    last = Some (place_of e);
    inner = option_map place_of (written.last_within e);
  };
}

-- one element more; none where a rule is broken in it
abbrev pub with_resolved : written.Element → Option Nest → Option Nest
with_resolved e None = None
with_resolved e (Some n) = option_map (with_child e n) (resolve n.scope e)

child_one : (frame : Frame) (a : Around) (e : written.Element) (parts : Parts) (tree : Option Element)
    → option_map (around_last frame a (Some e)) (option_map (join parts) (joined tree (Some none)))
    ≡ option_map (with_child e (around_parts frame a parts)) tree
child_one frame a e parts None = refl
child_one frame a e parts (Some tree) = refl

child_more : (frame : Frame) (a : Around) (e : written.Element) (last : Option written.Element) (o : Option Parts)
    → last ≡ Some e
    → option_map (around_last frame a last) (both o (joined (resolve a.scope e) (Some none)))
    ≡ with_resolved e (option_map (around_parts frame a) o)
child_more frame a e last None h = refl
child_more frame a e last (Some parts) h = rw h (child_one frame a e parts (resolve a.scope e))

filled_child : (frame : Frame) (a : Option Around) (e : written.Element)
    → filled (with_parts frame (written.child e written.none)) a ≡ with_resolved e (filled frame a)
filled_child frame None e = refl
filled_child frame (Some a) e =
    ap (option_map (around_parts (with_parts frame (written.child e written.none)) a)) (resolve-join a.scope
    frame.parts (written.child e written.none))
    ∙ child_more frame a e _ (resolve_parts a.scope frame.parts) (last-child frame.parts e)

pub nest-child : (frame : Frame) (frames : List Frame) (e : written.Element)
    → nest (with_parts frame (written.child e written.none)) frames ≡ with_resolved e (nest frame frames)
nest-child frame frames e =
    let more = written.child e written.none in
    nest_filled (with_parts frame more) frames ∙ ap (filled (with_parts frame more)) (around_more frame frames more)
    ∙ filled_child frame (around frame frames) e ∙ ap (with_resolved e) (sym (nest_filled frame frames))

-- ---- the innermost element closed

-- an element without parts
abbrev pub begun : List ℕ → List WrittenAttribute → ℕ → Frame
begun name attributes start = record { name = name; attributes = attributes; start = start; parts = written.none }

-- the element that an open one is, if it ends here
abbrev pub element_of : Frame → ℕ → written.Element
element_of frame end = written.element frame.name frame.attributes frame.start end frame.parts

-- its tree
abbrev pub tree_of : Opened → Element
tree_of o = element o.tag.name o.tag.decls o.tag.attrs o.parts

-- one element more: an open one that ends here
abbrev pub with_closed : Opened → ℕ → Nest → Nest
with_closed inner end n = record n {
  top = record n.top {
    parts = join n.top.parts (child (tree_of inner) none);
    last = Some (record { start = inner.start; end = end });
    inner = inner.last;
  };
}

-- an element with this tag and these parts
abbrev with_tag : List Binding → written.Parts → Option Resolved → Option Element
with_tag scope parts tag = elim tag [
  | None ↦ None
  | Some tag ↦ option_map (element tag.name tag.decls tag.attrs) (resolve_parts (tag.decls ++ scope) parts)
]

pub with_resolved_tag : (frame : Frame) (outer : Nest) (end : ℕ) (tag : Option Resolved)
    → tag_of outer.scope frame.name frame.attributes ≡ tag
    → with_resolved (element_of frame end) (Some outer)
    ≡ option_map (with_child (element_of frame end) outer) (with_tag outer.scope frame.parts tag)
with_resolved_tag frame outer end tag e =
    ap (λ (o : Option Resolved). option_map (with_child (element_of frame end) outer) (with_tag outer.scope frame.parts
    o)) e

-- these open elements are the innermost of others, which are with it closed
pub record Closes (frame : Frame) (n : Nest) (around : Option Nest) (end : ℕ) : Type 0 where
  pub outer : Nest
  pub scope : n.scope ≡ n.top.tag.decls ++ outer.scope
  pub below : n.below ≡ outer.top ∷ outer.below
  pub closed : with_resolved (element_of frame end) around ≡ Some (with_closed n.top end outer)

closes_parts : (frame : Frame) (outer : Nest) (end : ℕ) (tag : Resolved) (o : Option Parts) (n : Nest)
    → tag_of outer.scope frame.name frame.attributes ≡ Some tag
    → resolve_parts (tag.decls ++ outer.scope) frame.parts ≡ o
    → option_map (around_parts frame (around_tag outer tag)) o ≡ Some n → Closes frame n (Some outer) end
closes_parts frame outer end tag None n t p e = absurd (cc)
closes_parts frame outer end tag (Some parts) n t p e =
    let is : around_parts frame (around_tag outer tag) parts ≡ n = cc in
    subst (λ (n : Nest). Closes frame n (Some outer) end) is (record {
      outer = outer;
      scope = refl;
      below = refl;
      closed = with_resolved_tag frame outer end _ t ∙ rw p;
    })

closes_tag : (frame : Frame) (outer : Nest) (end : ℕ) (tag : Option Resolved) (n : Nest)
    → tag_of outer.scope frame.name frame.attributes ≡ tag → within frame outer tag ≡ Some n
    → Closes frame n (Some outer) end
closes_tag frame outer end None n t e = absurd (cc)
closes_tag frame outer end (Some tag) n t e = closes_parts frame outer end tag _ n t refl e

pub closes : (frame : Frame) (around : Option Nest) (end : ℕ) (n : Nest) → within_all frame around ≡ Some n
    → Closes frame n around end
closes frame None end n e = absurd (cc)
closes frame (Some outer) end n e = closes_tag frame outer end _ n refl e

broken_parts : (frame : Frame) (outer : Nest) (end : ℕ) (tag : Resolved) (o : Option Parts)
    → tag_of outer.scope frame.name frame.attributes ≡ Some tag
    → resolve_parts (tag.decls ++ outer.scope) frame.parts ≡ o
    → option_map (around_parts frame (around_tag outer tag)) o ≡ None
    → with_resolved (element_of frame end) (Some outer) ≡ None
broken_parts frame outer end tag None t p e = with_resolved_tag frame outer end _ t ∙ rw p
broken_parts frame outer end tag (Some parts) t p e = cc

broken_tag : (frame : Frame) (outer : Nest) (end : ℕ) (tag : Option Resolved)
    → tag_of outer.scope frame.name frame.attributes ≡ tag → within frame outer tag ≡ None
    → with_resolved (element_of frame end) (Some outer) ≡ None
broken_tag frame outer end None t e = with_resolved_tag frame outer end _ t
broken_tag frame outer end (Some tag) t e = broken_parts frame outer end tag _ t refl e

pub stays_broken : (frame : Frame) (around : Option Nest) (end : ℕ) → within_all frame around ≡ None
    → with_resolved (element_of frame end) around ≡ None
stays_broken frame None end e = refl
stays_broken frame (Some outer) end e = broken_tag frame outer end _ refl e

-- ---- the root

-- the root with this tree, where there is one
abbrev pub alone : Option Element → Option Place → Option Place → Option Root
alone None place last = None
alone (Some tree) None last = None
alone (Some tree) (Some place) last = Some (record { tree = tree; place = place; last = last })

pub lone-text : (ps : Parts) (bytes : List ℕ) → lone (join ps (text bytes none)) ≡ None
lone-text none bytes = refl
lone-text (text b ps) bytes = refl
lone-text (child tree none) bytes = refl
lone-text (child tree (text b ps)) bytes = refl
lone-text (child tree (child second ps)) bytes = refl

pub lone-child : (ps : Parts) (tree : Element) → (ps ≡ none → ⊥) → lone (join ps (child tree none)) ≡ None
lone-child none tree h = absurd (h refl)
lone-child (text b ps) tree h = refl
lone-child (child first none) tree h = refl
lone-child (child first (text b ps)) tree h = refl
lone-child (child first (child second ps)) tree h = refl

-- the root, where the document has one element and nothing else
abbrev pub alone_within : Option Nest → Option Root
alone_within None = None
alone_within (Some n) = alone (lone n.top.parts) n.top.last n.top.inner

abbrev alone_among : Frame → Option Parts → Option Root
alone_among frame o = alone_within (option_map (around_parts frame (record { scope = []; tag = no_tag; below = [] })) o)

text_first : (frame : Frame) (bytes : List ℕ) (o : Option Parts) → None ≡ alone_among frame (option_map (text bytes) o)
text_first frame bytes None = refl
text_first frame bytes (Some parts) = refl

text_second : (frame : Frame) (c : Option Element) (bytes : List ℕ) (o : Option Parts)
    → None ≡ alone_among frame (joined c (option_map (text bytes) o))
text_second frame None bytes o = refl
text_second frame (Some tree) bytes None = refl
text_second frame (Some tree) bytes (Some parts) = refl

child_second : (frame : Frame) (c d : Option Element) (o : Option Parts)
    → None ≡ alone_among frame (joined c (joined d o))
child_second frame None d o = refl
child_second frame (Some tree) None o = refl
child_second frame (Some tree) (Some second) None = refl
child_second frame (Some tree) (Some second) (Some parts) = refl

abbrev rooted_at : written.Element → Option Element → Option Root
rooted_at raw o = option_map (λ tree. record {
  tree = tree;
  place = place_of raw;
  last = last_place (written.last_within raw);
}) o

child_only : (frame : Frame) (first : written.Element) (c : Option Element) → frame.parts
    ≡ written.child first written.none → rooted_at first c ≡ alone_among frame (joined c (Some none))
child_only frame first None e = refl
child_only frame first (Some tree) e = rw e

rooted_parts : (frame : Frame) (ps : written.Parts) → frame.parts ≡ ps → rooted (only_child ps)
    ≡ alone_among frame (resolve_parts [] ps)
rooted_parts frame written.none e = refl
rooted_parts frame (written.text bytes ps) e = text_first frame bytes (resolve_parts [] ps)
rooted_parts frame (written.child first written.none) e = child_only frame first (resolve [] first) e
rooted_parts frame (written.child first (written.text bytes ps)) e =
    text_second frame (resolve [] first) bytes (resolve_parts [] ps)
rooted_parts frame (written.child first (written.child second ps)) e =
    child_second frame (resolve [] first) (resolve [] second) (resolve_parts [] ps)

pub rooted_nest : (frame : Frame) → rooted (only_child frame.parts) ≡ alone_within (nest frame [])
rooted_nest frame = rooted_parts frame frame.parts refl
