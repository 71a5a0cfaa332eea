-- What is read as a text is one.
use Rattle.std.proofs.Common.{◌≡◌, ℕ, Bool, true, false, if◌then◌else◌, List, Option, Some, None, refl, subst}
use Rattle.rm_base.specs.Text.{IsText, is_text}
use Rattle.rm_base.specs.TextLemmas.{is_text-IsText}
use Rattle.soap_document.specs.Profile.Tree.{Element}
use Rattle.soap_writer.specs.Values.Outcome.{◌>>=◌}
use Rattle.soap_writer.specs.Values.Values.{trimmed_text, text_within}
use Rattle.wsa_headers.specs.Endpoint.{uri_of}

text_at : (limit : ℕ) (bytes text : List ℕ) (t : Bool) → is_text limit bytes ≡ t
    → (if t then Some bytes else None) ≡ Some text → IsText limit text
text_at limit bytes text false d e = cc
text_at limit bytes text true d e = let is : bytes ≡ text = cc in subst (IsText limit) is (is_text-IsText limit bytes d)

pub text_within_is : (limit : ℕ) (bytes text : List ℕ) → text_within limit bytes ≡ Some text → IsText limit text
unfolding text_within
text_within_is limit bytes text e = text_at limit bytes text (is_text limit bytes) refl e

pub text_read : (limit : ℕ) (o : Option (List ℕ)) (text : List ℕ) → (o >>= λ bytes. text_within limit bytes)
    ≡ Some text → IsText limit text
text_read limit None text e = cc
text_read limit (Some bytes) text e = text_within_is limit bytes text e

pub uri_is : (e : Element) (uri : List ℕ) → uri_of e ≡ Some uri → IsText 2048 uri
uri_is e uri h = text_read 2048 (trimmed_text e) uri h
