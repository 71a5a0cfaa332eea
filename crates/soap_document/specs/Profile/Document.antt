-- Documents, from their bytes to a tree with expanded names: XML 1.0 and Namespaces in XML 1.0.
use Rattle.std.specs.Prelude.{◌≡◌, ◌≤◌, ◌<◌, ℕ, List, [], Option, Some, option_map, length, take}
use Rattle.std.specs.Str.{IsUtf8}
use Rattle.rm_base.specs.Limits.{envelope_bytes}
use Rattle.soap_document.specs.Grammar.{IsDocument}
use Rattle.soap_document.specs.Tree as written
use Rattle.soap_document.specs.Profile.Namespaces.{resolve}
use Rattle.soap_document.specs.Profile.Tree.{Element}
use Rattle.soap_document.specs.declared.profile.place.Place.{Place}

-- the bytes are a document whose tree is this one
pub record Document (bytes : List ℕ) (tree : Element) : Type 0 where
  pub raw : written.Element
  pub is : IsDocument bytes raw
  pub resolved : resolve [] raw ≡ Some tree

-- where in the document an element's content begins and ends
abbrev pub place_of : written.Element → Place
place_of (written.element name attributes start end parts) = record { start = start; end = end }

-- the bytes are a document whose tree is this one, and this is the place of the last element that stands in its root
pub record IsPlaced (bytes : List ℕ) (tree : Element) (last : Option Place) : Type 0 where
  pub raw : written.Element
  pub is : IsDocument bytes raw
  pub resolved : resolve [] raw ≡ Some tree
  pub place : last ≡ option_map place_of (written.last_within raw)

-- of the fronts of the bytes that are UTF-8 the longest has this length
pub record IsLongestText (bytes : List ℕ) (n : ℕ) : Type 0 where
  pub valid : IsUtf8 (take n bytes)
  pub longest : (m : ℕ) → m ≤ length bytes → IsUtf8 (take m bytes) → m ≤ n

-- the bytes are not too many for a document, and are UTF-8
abbrev pub IsReadable : List ℕ → Type 0
IsReadable bytes = (length bytes ≤ envelope_bytes) × IsUtf8 bytes

-- they are too many, and this is how many
abbrev pub IsTooLong : List ℕ → ℕ → Type 0
IsTooLong bytes len = (envelope_bytes < length bytes) × (len ≡ length bytes)

-- they are not too many, and of their fronts that are UTF-8 the longest has this length
abbrev pub IsTextUpTo : List ℕ → ℕ → Type 0
IsTextUpTo bytes place = (length bytes ≤ envelope_bytes) × (place < length bytes) × IsLongestText bytes place

-- they could be read, but are no document
abbrev pub HasNoTree : List ℕ → Type 0
HasNoTree bytes = (length bytes ≤ envelope_bytes) × IsUtf8 bytes × ((tree : Element) → ¬ (Document bytes tree))
