-- Documents, between their bytes and the tree as it is written: XML 1.0 (fifth edition) and Namespaces in XML 1.0,
-- without document types and processing instructions. The section of each production stands beside it.
use Rattle.std.specs.Prelude.{◌≡◌, ◌≢◌, ℕ, suc, ◌+◌, ◌<◌, List, [], ◌∷◌, ◌++◌, IsTrue, length, codes}
use Rattle.std.specs.List.{AllByRecursion}
use Rattle.std.specs.Str.{str_to_ascii_lowercase}
use Rattle.xml_chars.specs.Classes.{is_space}
use Rattle.soap_lex.specs.Characters.{IsName}
use Rattle.soap_lex.specs.Text.{IsText, IsComment}
use Rattle.soap_lex.specs.Value.{IsValue}
use Rattle.soap_document.specs.Tree.{Attribute, Element, element, Parts, none, child, onto}

-- S?: white space, or nothing (2.3, production 3)
abbrev pub IsWhite : List ℕ → Type 0
IsWhite bytes = AllByRecursion (λ byte. IsTrue (is_space byte)) bytes

-- S: white space (2.3, production 3)
pub record IsSpace (bytes : List ℕ) : Type 0 where
  pub white : IsWhite bytes
  pub some : bytes ≢ []

-- a name, or a prefix and a local name (Namespaces 4, productions 7 to 11)
pub data IsQName : List ℕ → Type 0 where
  unprefixed : (name : List ℕ) → IsName name → IsQName name
  prefixed : (prefix name : List ℕ) → IsName prefix → IsName name → IsQName (prefix ++ (codes ":" ++ name))

-- the attributes of a tag, white space before each, and the white space after the last (2.3, 3.1: productions 25, 40,
-- 41)
pub data IsAttributes : List ℕ → List Attribute → Type 0 where
  end : (space : List ℕ) → IsWhite space → IsAttributes space []
  more : (space name left right quoted value rest : List ℕ) (attributes : List Attribute)
      → IsSpace space → IsQName name → IsWhite left → IsWhite right → IsValue quoted value
      → IsAttributes rest attributes
      → IsAttributes (space ++ (name ++ (left ++ (codes "=" ++ (right ++ (quoted ++ rest))))))
      (record { name = name; value = value } ∷ attributes)

-- a start tag, an end tag and an empty-element tag (3.1: productions 40, 42 and 44)
abbrev pub start_tag : List ℕ → List ℕ → List ℕ
start_tag name attributes = codes "<" ++ (name ++ (attributes ++ codes ">"))

-- an end tag (3.1, production 42)
abbrev pub end_tag : List ℕ → List ℕ → List ℕ
end_tag name space = codes "</" ++ (name ++ (space ++ codes ">"))

-- an empty-element tag (3.1, production 44)
abbrev pub empty_tag : List ℕ → List ℕ → List ℕ
empty_tag name attributes = codes "<" ++ (name ++ (attributes ++ codes "/>"))

-- how many elements may be open at a place
abbrev pub max_depth : ℕ
max_depth = 100

-- elements and their content
mutual
  -- an element that begins at a place within this many elements (3, production 39)
  pub data IsElement : ℕ → ℕ → List ℕ → Element → Type 0 where
    full : (depth at : ℕ) (name tag : List ℕ) (attributes : List Attribute) (content : List ℕ) (parts : Parts)
        (space : List ℕ) → depth < max_depth → IsQName name → IsAttributes tag attributes
        → IsContent (suc depth) (at + length (start_tag name tag)) content parts → IsWhite space
        → IsElement depth at (start_tag name tag ++ (content ++ end_tag name space))
        (element name attributes (at + length (start_tag name tag))
        (at + length (start_tag name tag) + length content) parts)
    empty : (depth at : ℕ) (name tag : List ℕ) (attributes : List Attribute) → depth < max_depth → IsQName name
        → IsAttributes tag attributes
        → IsElement depth at (empty_tag name tag)
        (element name attributes (at + length (empty_tag name tag)) (at + length (empty_tag name tag)) none)

  -- what stands between a start tag and its end tag, from a place on, within this many elements (3.1, production 43)
  pub data IsContent : ℕ → ℕ → List ℕ → Parts → Type 0 where
    last : (depth at : ℕ) (bytes meaning : List ℕ) → IsText bytes meaning
        → IsContent depth at bytes (onto meaning none)
    more : (depth at : ℕ) (bytes meaning inner : List ℕ) (first : Element) (rest : List ℕ) (parts : Parts)
        → IsText bytes meaning → IsElement depth (at + length bytes) inner first
        → IsContent depth (at + length bytes + length inner) rest parts
        → IsContent depth at (bytes ++ (inner ++ rest)) (onto meaning (child first parts))

-- Misc*: white space and comments (2.8, production 27)
pub data IsMisc : List ℕ → Type 0 where
  white : (space : List ℕ) → IsWhite space → IsMisc space
  comment : (space comment rest : List ℕ) → IsWhite space → IsComment comment → IsMisc rest
      → IsMisc (space ++ (codes "<!--" ++ (comment ++ (codes "-->" ++ rest))))

-- a word between quotes of one kind
pub data IsQuoted (word : List ℕ) : List ℕ → Type 0 where
  double : IsQuoted word (codes "\"" ++ (word ++ codes "\""))
  single : IsQuoted word (codes "'" ++ (word ++ codes "'"))

-- a setting of the XML declaration, with this name and this value, and the white space before it (2.8, production 24)
pub data IsSetting (name value : List ℕ) : List ℕ → Type 0 where
  setting : (space left right quoted : List ℕ) → IsSpace space → IsWhite left → IsWhite right → IsQuoted value quoted
      → IsSetting name value (space ++ (name ++ (left ++ (codes "=" ++ (right ++ quoted)))))

-- which encoding it names, if it does (4.3.3, production 80)
pub data IsEncoding : List ℕ → Type 0 where
  unsaid : IsEncoding []
  utf8 : (value bytes : List ℕ) → str_to_ascii_lowercase value ≡ codes "utf-8"
      → IsSetting (codes "encoding") value bytes → IsEncoding bytes

-- whether it says that the document stands alone (2.9, production 32)
pub data IsStandalone : List ℕ → Type 0 where
  unsaid : IsStandalone []
  yes : (bytes : List ℕ) → IsSetting (codes "standalone") (codes "yes") bytes → IsStandalone bytes
  no : (bytes : List ℕ) → IsSetting (codes "standalone") (codes "no") bytes → IsStandalone bytes

-- the XML declaration, if there is one (2.8, production 23)
pub data IsDeclaration : List ℕ → Type 0 where
  without : IsDeclaration []
  declared : (version encoding standalone space : List ℕ) → IsSetting (codes "version") (codes "1.0") version
      → IsEncoding encoding → IsStandalone standalone → IsWhite space
      → IsDeclaration (codes "<?xml" ++ (version ++ (encoding ++ (standalone ++ (space ++ codes "?>")))))

-- a byte order mark, if there is one (4.3.3)
pub data IsMark : List ℕ → Type 0 where
  unmarked : IsMark []
  marked : IsMark (0xEF ∷ 0xBB ∷ 0xBF ∷ [])

-- a document and its root (2.1, production 1)
pub data IsDocument : List ℕ → Element → Type 0 where
  document : (mark declaration before bytes : List ℕ) (root : Element) (after : List ℕ) → IsMark mark
      → IsDeclaration declaration → IsMisc before
      → IsElement 0 (length mark + length declaration + length before) bytes root → IsMisc after
      → IsDocument (mark ++ (declaration ++ (before ++ (bytes ++ after)))) root
