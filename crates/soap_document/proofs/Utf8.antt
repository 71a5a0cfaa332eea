-- A document is UTF-8.
use Rattle.std.proofs.Common.{◌≡◌, ℕ, ◌<◌, Bool, true, nat_lt, List, [], ◌∷◌, ◌++◌, codes, refl, ap, arith}
use Rattle.std.specs.List.{AllByRecursion, list_all}
use Rattle.std.specs.Char.{is_ascii_digit, is_ascii_hexdigit}
use Rattle.std.specs.Str.{IsUtf8}
use Rattle.std.proofs.Math.Utf8.{encode}
use Rattle.std.proofs.lemmas.Bool.Decides.{nat_tests}
use Rattle.std.proofs.lemmas.Str.{IsUtf8-append, IsUtf8-nil, IsUtf8-from_ascii}
use Rattle.std.proofs.lemmas.Str.Ascii.{IsAscii-from_all}
use Rattle.std.proofs.lemmas.List.Elements.{All-from_recursion}
use Rattle.xml_chars.specs.Classes.{is_space}
use Rattle.soap_lex.specs.Characters.{IsChars, IsName}
use Rattle.soap_lex.specs.Facts.{all_from_passes, all_weaker}
use Rattle.soap_lex.specs.References.{IsReference}
use Rattle.soap_lex.specs.Text.{IsMarkup, IsComment, IsText}
use Rattle.soap_lex.specs.Value.{IsInner, IsValue}
use Rattle.soap_document.specs.Tree.{Attribute, Element, Parts}
use Rattle.soap_document.specs.Grammar.{IsWhite, IsQName, IsAttributes, IsElement, IsContent, IsMisc, IsQuoted}
use Rattle.soap_document.specs.Grammar.{IsSetting, IsEncoding, IsStandalone, IsDeclaration, IsMark, IsDocument}
use Rattle.soap_lex.specs.Scalars.{IsUtf8-IsChars, IsUtf8-IsName}
use Rattle.soap_document.proofs.Declarations.{lower_passes}

-- bytes that are UTF-8
record Utf8 (bytes : List ℕ) : Type 0 where
  is : IsUtf8 bytes

-- one behind the other
infixr 60 ◌then◌
◌then◌ : {xs ys : List ℕ} → Utf8 xs → Utf8 ys → Utf8 (xs ++ ys)
◌then◌ {xs} {ys} x y = record { is = IsUtf8-append xs ys x.is y.is }

nothing : Utf8 []
nothing = record { is = IsUtf8-nil }

-- ---- ASCII

abbrev below : ℕ → Bool
below c = nat_lt c 128

-- by a test that only ASCII passes
passing : (p : ℕ → Bool) → ((c : ℕ) → p c ≡ true → below c ≡ true) → (bytes : List ℕ)
    → AllByRecursion (λ c. p c ≡ true) bytes → Utf8 bytes
passing p ascii bytes all = record {
  is = IsUtf8-from_ascii bytes (IsAscii-from_all bytes (All-from_recursion (λ b. b < 128) bytes
      (all_weaker (λ c. p c ≡ true) (λ c. c < 128) (λ c h. let e = ascii c h in grind (arith, nat_tests)) bytes all)));
}

word : (bytes : List ℕ) → list_all below bytes ≡ true → Utf8 bytes
word bytes all = passing below (λ c h. h) bytes (all_from_passes below bytes all)

white_utf8 : {space : List ℕ} → IsWhite space → Utf8 space
white_utf8 {space} h = passing is_space (λ c e. grind (arith, nat_tests)) space h

-- ---- tokens

chars_utf8 : {bytes : List ℕ} → IsChars bytes → Utf8 bytes
chars_utf8 {bytes} h = record { is = IsUtf8-IsChars bytes h }

reference_utf8 : {bytes : List ℕ} {c : ℕ} → IsReference bytes c → Utf8 bytes
reference_utf8 IsReference.ampersand = word (codes "&amp;") refl
reference_utf8 IsReference.less = word (codes "&lt;") refl
reference_utf8 IsReference.greater = word (codes "&gt;") refl
reference_utf8 IsReference.apostrophe = word (codes "&apos;") refl
reference_utf8 IsReference.quote = word (codes "&quot;") refl
reference_utf8 (IsReference.decimal digits some all char) =
    word (codes "&#") refl then passing is_ascii_digit (λ c e. grind (arith, nat_tests)) digits all
    then word (codes ";") refl
reference_utf8 (IsReference.hexadecimal digits some all char) =
    word (codes "&#x") refl then passing is_ascii_hexdigit (λ c e. grind (arith, nat_tests)) digits all
    then word (codes ";") refl

comment_utf8 : {bytes rest : List ℕ} → IsComment bytes → Utf8 rest
    → Utf8 (codes "<!--" ++ (bytes ++ (codes "-->" ++ rest)))
comment_utf8 h r = word (codes "<!--") refl then chars_utf8 h.chars then word (codes "-->") refl then r

markup_utf8 : {bytes meaning : List ℕ} → IsMarkup bytes meaning → Utf8 bytes
markup_utf8 (IsMarkup.reference bytes c r) = reference_utf8 r
markup_utf8 (IsMarkup.cdata bytes h) =
    word (codes "<![CDATA[") refl then chars_utf8 h.chars then word (codes "]]>") refl
markup_utf8 (IsMarkup.comment bytes h) = comment_utf8 h nothing

text_utf8 : {bytes meaning : List ℕ} → IsText bytes meaning → Utf8 bytes
text_utf8 (IsText.run bytes h) = chars_utf8 h.chars
text_utf8 (IsText.more bytes markup meaning rest text h m t) = chars_utf8 h.chars then markup_utf8 m then text_utf8 t

inner_utf8 : {quote : ℕ} {bytes value : List ℕ} → IsInner quote bytes value → Utf8 bytes
inner_utf8 (IsInner.run bytes h) = chars_utf8 h.chars
inner_utf8 (IsInner.more bytes token c rest value h r i) = chars_utf8 h.chars then reference_utf8 r then inner_utf8 i

value_utf8 : {bytes value : List ℕ} → IsValue bytes value → Utf8 bytes
value_utf8 (IsValue.double inner value h) = word (codes "\"") refl then inner_utf8 h then word (codes "\"") refl
value_utf8 (IsValue.single inner value h) = word (codes "'") refl then inner_utf8 h then word (codes "'") refl

name_utf8 : {name : List ℕ} → IsName name → Utf8 name
name_utf8 {name} h = record { is = IsUtf8-IsName name h }

qname_utf8 : {name : List ℕ} → IsQName name → Utf8 name
qname_utf8 (IsQName.unprefixed name h) = name_utf8 h
qname_utf8 (IsQName.prefixed prefix name p h) = name_utf8 p then word (codes ":") refl then name_utf8 h

attributes_utf8 : {bytes : List ℕ} {attributes : List Attribute} → IsAttributes bytes attributes → Utf8 bytes
attributes_utf8 (IsAttributes.end space h) = white_utf8 h
attributes_utf8 (IsAttributes.more space name left right quoted value rest attributes s q l r v h) =
    white_utf8 s.white then qname_utf8 q then white_utf8 l then word (codes "=") refl then white_utf8 r
    then value_utf8 v then attributes_utf8 h

-- ---- elements

tag_utf8 : {name rest : List ℕ} (front back : List ℕ) → list_all below front ≡ true → list_all below back ≡ true
    → Utf8 name → Utf8 rest → Utf8 (front ++ (name ++ (rest ++ back)))
tag_utf8 front back f b n r = word front f then n then r then word back b

mutual
  element_utf8 : {depth at : ℕ} {bytes : List ℕ} {e : Element} → IsElement depth at bytes e → Utf8 bytes
  element_utf8 (IsElement.full depth at name tag attributes content parts space room q a c s) =
      tag_utf8 (codes "<") (codes ">") refl refl (qname_utf8 q) (attributes_utf8 a) then content_utf8 c
      then tag_utf8 (codes "</") (codes ">") refl refl (qname_utf8 q) (white_utf8 s)
  element_utf8 (IsElement.empty depth at name tag attributes room q a) =
      tag_utf8 (codes "<") (codes "/>") refl refl (qname_utf8 q) (attributes_utf8 a)

  content_utf8 : {depth at : ℕ} {bytes : List ℕ} {parts : Parts} → IsContent depth at bytes parts → Utf8 bytes
  content_utf8 (IsContent.last depth at bytes meaning t) = text_utf8 t
  content_utf8 (IsContent.more depth at bytes meaning inner first rest parts t e c) =
      text_utf8 t then element_utf8 e then content_utf8 c

-- ---- around the root

misc_utf8 : {bytes : List ℕ} → IsMisc bytes → Utf8 bytes
misc_utf8 (IsMisc.white space h) = white_utf8 h
misc_utf8 (IsMisc.comment space bytes rest s c h) = white_utf8 s then comment_utf8 c (misc_utf8 h)

quoted_utf8 : {value bytes : List ℕ} → Utf8 value → IsQuoted value bytes → Utf8 bytes
quoted_utf8 v IsQuoted.double = word (codes "\"") refl then v then word (codes "\"") refl
quoted_utf8 v IsQuoted.single = word (codes "'") refl then v then word (codes "'") refl

setting_utf8 : {name value bytes : List ℕ} → Utf8 name → Utf8 value → IsSetting name value bytes → Utf8 bytes
setting_utf8 n v (IsSetting.setting space left right quoted s l r q) =
    white_utf8 s.white then n then white_utf8 l then word (codes "=") refl then white_utf8 r then quoted_utf8 v q

encoding_utf8 : {bytes : List ℕ} → IsEncoding bytes → Utf8 bytes
encoding_utf8 IsEncoding.unsaid = nothing
encoding_utf8 (IsEncoding.utf8 value bytes e s) =
    setting_utf8 (word (codes "encoding") refl) (word value (lower_passes below (λ c h. grind (arith, nat_tests)) value
    (ap (list_all below) e))) s

standalone_utf8 : {bytes : List ℕ} → IsStandalone bytes → Utf8 bytes
standalone_utf8 IsStandalone.unsaid = nothing
standalone_utf8 (IsStandalone.yes bytes s) = setting_utf8 (word (codes "standalone") refl) (word (codes "yes") refl) s
standalone_utf8 (IsStandalone.no bytes s) = setting_utf8 (word (codes "standalone") refl) (word (codes "no") refl) s

declaration_utf8 : {bytes : List ℕ} → IsDeclaration bytes → Utf8 bytes
declaration_utf8 IsDeclaration.without = nothing
declaration_utf8 (IsDeclaration.declared version encoding standalone space v e a s) =
    word (codes "<?xml") refl then setting_utf8 (word (codes "version") refl) (word (codes "1.0") refl) v
    then encoding_utf8 e then standalone_utf8 a then white_utf8 s then word (codes "?>") refl

mark_utf8 : {bytes : List ℕ} → IsMark bytes → Utf8 bytes
unfolding encode
mark_utf8 IsMark.unmarked = nothing
mark_utf8 IsMark.marked = record { is = (0xFEFF ∷ [], (refl, refl)) }

pub document_utf8 : (bytes : List ℕ) (root : Element) → IsDocument bytes root → IsUtf8 bytes
document_utf8 all _ (IsDocument.document mark declaration before bytes root after m d b e a) =
    let whole = mark_utf8 m then declaration_utf8 d then misc_utf8 b then element_utf8 e then misc_utf8 a in
    whole.is
