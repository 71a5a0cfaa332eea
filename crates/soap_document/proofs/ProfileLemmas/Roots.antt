-- What the root with its names resolved says of the bytes that were read.
use Rattle.std.proofs.Common.{◌≡◌, ◌↔◌, ℕ, List, [], Option, Some, None, option_map, refl, sym, ap, subst, ◌∙◌}
use Rattle.soap_document.specs.Grammar.{IsDocument}
use Rattle.soap_document.specs.Machine.{run, start, root_of as read_root}
use Rattle.soap_document.specs.Tree as written
use Rattle.soap_document.specs.Profile.Document.{Document, IsPlaced, place_of}
use Rattle.soap_document.specs.Profile.Namespaces.{resolve}
use Rattle.soap_document.specs.Profile.Opened.{Root, last_place, rooted}
use Rattle.soap_document.specs.Profile.Tree.{Element}

-- the root of the bytes, with its names resolved
abbrev pub read : List ℕ → Option Root
read bytes = rooted (read_root (run start bytes))

-- a root with this tree
abbrev pub root_with : written.Element → Element → Root
root_with raw tree = record { tree = tree; place = place_of raw; last = last_place (written.last_within raw) }

-- the bytes are a document with this root
pub record HasRoot (bytes : List ℕ) (root : Root) : Type 0 where
  pub raw : written.Element
  pub is : IsDocument bytes raw
  pub resolved : resolve [] raw ≡ Some root.tree
  pub same : root_with raw root.tree ≡ root

root_made : (bytes : List ℕ) (raw : written.Element) (tree : Option Element) (root : Root) → IsDocument bytes raw
    → resolve [] raw ≡ tree → option_map (root_with raw) tree ≡ Some root → HasRoot bytes root
root_made bytes raw None root d r e = cc
root_made bytes raw (Some tree) root d r e =
    let same : root_with raw tree ≡ root = cc in
    subst (HasRoot bytes) same (record { raw = raw; is = d; resolved = r; same = refl })

-- the root that the machine reads of bytes is their tree, where they have one
abbrev pub IsRead : Type 0
IsRead = (bytes : List ℕ) (root : written.Element) → IsDocument bytes root ↔ (read_root (run start bytes) ≡ Some root)

module _ (law : IsRead) where
  root_found : (bytes : List ℕ) (o : Option written.Element) (root : Root) → read_root (run start bytes) ≡ o
      → rooted o ≡ Some root → HasRoot bytes root
  root_found bytes None root d e = cc
  root_found bytes (Some raw) root d e =
      root_made bytes raw (resolve [] raw) root ((law bytes raw).1 d) refl e

  pub has_root : (bytes : List ℕ) (root : Root) → read bytes ≡ Some root → HasRoot bytes root
  has_root bytes root e = root_found bytes (read_root (run start bytes)) root refl e

  pub only_root : {bytes : List ℕ} {raw : written.Element} {tree : Element} → IsDocument bytes raw
      → resolve [] raw ≡ Some tree → read bytes ≡ Some (root_with raw tree)
  only_root {bytes} {raw} d r = ap rooted ((law bytes raw).0 d) ∙ ap (option_map (root_with raw)) r

  -- ---- a document is read

  pub placed : (bytes : List ℕ) (root : Root) → read bytes ≡ Some root → IsPlaced bytes root.tree root.last
  placed bytes root e =
      let h = has_root bytes root e in
      record { raw = h.raw; is = h.is; resolved = h.resolved; place = sym (ap (λ (r : Root). r.last) h.same) }

  pub no_document : (bytes : List ℕ) → read bytes ≡ None → (tree : Element) → ¬ (Document bytes tree)
  no_document bytes e tree h = let wrong = sym e ∙ only_root h.is h.resolved in cc
