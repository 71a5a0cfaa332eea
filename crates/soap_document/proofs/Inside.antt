-- Bytes are content exactly where they make a document between the tags of an element.
use Rattle.std.proofs.Common.{◌≡◌, ℕ, ◌+◌, List, [], ◌∷◌, ◌++◌, length, codes, refl}
use Rattle.std.proofs.Common.{subst, lit<, append-nil}
use Rattle.std.proofs.Math.Utf8.{encode}
use Rattle.soap_document.specs.Tree.{Attribute, element, Parts}
use Rattle.soap_document.specs.Grammar.{IsQName, unprefixed, end as no_attributes, full, white, unmarked}
use Rattle.soap_document.specs.Grammar.{without, IsDocument, document}
use Rattle.soap_document.specs.Inside.{IsInside, around, root_around}
use Rattle.soap_document.specs.Machine.{State, step, run}
use Rattle.soap_document.proofs.Between.{between-append, root_content}
use Rattle.soap_document.proofs.OnlyDocument.{one_tree}
use Rattle.soap_document.proofs.Lexing.{Lexes}

-- ---- bytes that are fed in pieces

pub run-append : (s : State) (bytes rest : List ℕ) → run s (bytes ++ rest) ≡ run (run s bytes) rest
run-append s [] rest = refl
run-append s (c ∷ bytes) rest = run-append (step s c) bytes rest

-- ---- the document around content

a_name : IsQName (codes "a")
unfolding encode
a_name = unprefixed (codes "a") (record { first = 97; others = []; starts = refl; each = tt; coded = refl })

pub is_document : (bytes : List ℕ) (parts : Parts) → IsInside bytes parts → IsDocument (around bytes) (root_around bytes
    parts)
is_document bytes parts h =
    subst (λ (b : List ℕ). IsDocument b (root_around bytes parts)) (append-nil (around bytes))
    (document [] [] [] (around bytes) (root_around bytes parts) [] unmarked without (white [] tt)
    (full 0 0 (codes "a") [] [] bytes parts [] (lit< tt) a_name (no_attributes [] tt) h tt) (white [] tt))

-- ---- the root

-- a root whose content has the places of the bytes is the element <a>, and the bytes are its content
pub root_inside : (lex : Lexes) → (bytes name : List ℕ) (attributes : List Attribute) (start end : ℕ) (parts : Parts)
    → IsDocument (around bytes) (element name attributes start end parts) → start ≡ 3 → end ≡ 3 + length bytes
    → IsInside bytes parts × (element name attributes start end parts ≡ root_around bytes parts)
root_inside lex bytes name attributes start end parts d e f =
    let inside : IsInside bytes parts =
    rw (e, f, between-append (codes "<a>") bytes (codes "</a>"))
    at (root_content (around bytes) name attributes start end parts d) in (
      inside,
      one_tree lex (around bytes) (element name attributes start end parts) (root_around bytes parts) d (is_document
          bytes parts inside),
    )
