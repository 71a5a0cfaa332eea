-- An envelope with more behind it, where that is a document too.
use Rattle.std.proofs.Common.{◌≡◌, ◌↔◌, ℕ, ◌-◌, ◌≤◌, List, ◌++◌, Option, Some, None, length, take, drop, refl, sym, ap}
use Rattle.std.proofs.Common.{subst, ◌∙◌, arith}
use Rattle.std.proofs.lemmas.List.{drop-append-le, length-drop, take-append-le}
use Rattle.soap_document.specs.Grammar.{IsDocument}
use Rattle.soap_document.specs.Machine.{State, start, run, root_of}
use Rattle.soap_document.specs.Tree as written
use Rattle.soap_document.specs.Within.{IsWithin, IsAmong, root as itself, deeper, here, behind_child, behind_text}
use Rattle.soap_document.specs.Within.{StandsBetween}
use Rattle.soap_envelope.specs.Envelope.{Envelope, IsEnvelope, bytes_within}
use Rattle.soap_document.specs.Profile.Document.{Document}
use Rattle.soap_document.specs.Profile.Tree.{Element}
use Rattle.soap_pieces.proofs.Behind.{Joins, IsRead, behind_run, ended_is, root_ends}

-- what stands between an element's places is its content
abbrev pub Stands : Type 0
Stands = (bytes : List ℕ) (root e : written.Element) → IsDocument bytes root → IsWithin root e → StandsBetween bytes e

-- the root of a document is that of each document that begins with it
pub same_root : Joins → IsRead → (front more : List ℕ) (root other : written.Element) → IsDocument front root
    → IsDocument (front ++ more) other → root ≡ other
same_root joins read front more root other d e =
    let found : root_of (run start front) ≡ Some root = (read front root).0 d in
    let late : root_of (run (run start front) more) ≡ Some other =
    ap root_of (sym (joins start front more)) ∙ (read (front ++ more) other).0 e in
    ended_is root other (run (run start front) more) (behind_run root (run start front) more (root_ends front root
    found)) late

-- ---- the last element stands within the root

abbrev or_first : written.Element → Option written.Element → Option written.Element
or_first first None = Some first
or_first first (Some last) = Some last

last_behind : (first : written.Element) (ps : written.Parts) (e : written.Element) (o : Option written.Element)
    → written.last_child ps ≡ o → or_first first (written.last_child ps) ≡ Some e
    → (written.last_child ps ≡ Some e → IsAmong ps e) → IsAmong (written.child first ps) e
last_behind first ps e None is h f =
    let x : Some first ≡ Some e = sym (ap (or_first first) is) ∙ h in
    let same : first ≡ e = cc in
    subst (IsAmong (written.child first ps)) same (here first ps first (itself first))
last_behind first ps e (Some last) is h f =
    behind_child first ps e (f (is ∙ sym (ap (or_first first) is) ∙ h))

last_among : (ps : written.Parts) (e : written.Element) → written.last_child ps ≡ Some e → IsAmong ps e
last_among written.none e h = cc
last_among (written.text bytes ps) e h = behind_text bytes ps e (last_among ps e h)
last_among (written.child first ps) e h = last_behind first ps e (written.last_child ps) refl h (last_among ps e)

last_is_within : (raw e : written.Element) → written.last_within raw ≡ Some e → IsWithin raw e
last_is_within (written.element name attributes start end parts) e h = deeper name attributes start end parts e
    (last_among parts e h)

-- ---- the bytes between its places

cut_front : (front more : List ℕ) (low high : ℕ) → low ≤ high → high ≤ length front
    → take (high - low) (drop low (front ++ more)) ≡ take (high - low) (drop low front)
cut_front front more low high l h =
    let size : length (drop low front) ≡ length front - low = length-drop low front in
    ap (take (high - low)) (drop-append-le low front more (omega (arith, l, h)))
    ∙ take-append-le (high - low) (drop low front) more (omega (arith, l, h, size))

within_front : (front more : List ℕ) (e : written.Element) → StandsBetween front e
    → bytes_within (front ++ more) e ≡ bytes_within front e
within_front front more (written.element name attributes low high parts) s = cut_front front more low high s.low s.high

payload_same : Stands → (front more : List ℕ) (raw body : written.Element) → IsDocument front raw
    → written.last_within raw ≡ Some body → bytes_within (front ++ more) body ≡ bytes_within front body
payload_same stands front more raw body d last =
    within_front front more body (stands front raw body d (last_is_within raw body last))

-- ---- the envelope

-- an envelope is the same with more behind it
pub envelope_on : Joins → IsRead → Stands → (front more : List ℕ) (root : written.Element) (envelope : Envelope)
    → (soap : List ℕ) → IsDocument (front ++ more) root → IsEnvelope soap front envelope
    → IsEnvelope soap (front ++ more) envelope
envelope_on joins read stands front more root envelope soap d h =
    let same : h.raw ≡ root = same_root joins read front more h.raw root h.document d in record {
      raw = h.raw;
      document = subst (IsDocument (front ++ more)) (sym same) d;
      decls = h.decls;
      attrs = h.attrs;
      parts = h.parts;
      resolved = h.resolved;
      header = h.header;
      body = h.body;
      outline = h.outline;
      blocks = h.blocks;
      written_body = h.written_body;
      last = h.last;
      payload = h.payload ∙ sym (payload_same stands front more h.raw h.written_body h.document h.last);
      scope = h.scope;
      content = h.content;
    }

-- and so is a document that begins an envelope
pub envelope_back : Joins → IsRead → Stands → (front more : List ℕ) (root : written.Element) (envelope : Envelope)
    → (soap : List ℕ) → IsDocument front root → IsEnvelope soap (front ++ more) envelope
    → IsEnvelope soap front envelope
envelope_back joins read stands front more root envelope soap d h =
    let same : root ≡ h.raw = same_root joins read front more root h.raw d h.document in
    let document : IsDocument front h.raw = subst (IsDocument front) same d in record {
      raw = h.raw;
      document = document;
      decls = h.decls;
      attrs = h.attrs;
      parts = h.parts;
      resolved = h.resolved;
      header = h.header;
      body = h.body;
      outline = h.outline;
      blocks = h.blocks;
      written_body = h.written_body;
      last = h.last;
      payload = h.payload ∙ payload_same stands front more h.raw h.written_body document h.last;
      scope = h.scope;
      content = h.content;
    }

-- ---- its tree

pub tree_on : Joins → IsRead → (front more : List ℕ) (root : written.Element) (tree : Element)
    → IsDocument (front ++ more) root → Document front tree → Document (front ++ more) tree
tree_on joins read front more root tree d h =
    let same : h.raw ≡ root = same_root joins read front more h.raw root h.is d in
    record { raw = h.raw; is = subst (IsDocument (front ++ more)) (sym same) d; resolved = h.resolved }

pub tree_back : Joins → IsRead → (front more : List ℕ) (root : written.Element) (tree : Element)
    → IsDocument front root → Document (front ++ more) tree → Document front tree
tree_back joins read front more root tree d h =
    let same : root ≡ h.raw = same_root joins read front more root h.raw d h.is in
    record { raw = h.raw; is = subst (IsDocument front) same d; resolved = h.resolved }
