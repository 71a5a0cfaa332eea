-- Laws: an address or an identifier is a text that may be written, and an address is read back.
use Rattle.std.proofs.Common.{◌≡◌, ℕ, ◌<◌, true, List, [], ◌∷◌, Some, length, refl, sym, arith, subst}
use Rattle.std.specs.List.{AllByRecursion, list_all}
use Rattle.std.specs.Prelude.{IsTrue}
use Rattle.std.specs.Str.{chars}
use Rattle.std.proofs.lemmas.Bool.{and_parts}
use Rattle.std.proofs.lemmas.List.{append-nil}
use Rattle.std.proofs.lemmas.Str.{encodes-chars}
use Rattle.xml_chars.specs.Classes.{is_char}
use Rattle.rm_base.specs.Text.{IsText}
use Rattle.soap_document.specs.Profile.Tree.{Element, none, text, parts_of}
use Rattle.soap_writer.specs.Writable.{IsTextWritable}
use Rattle.soap_writer.specs.Values.Children.{text_among}
use Rattle.soap_writer.specs.Values.TextLaws.{text_back}
use Rattle.wsa_headers.specs.Endpoint.{uri_of}

each_char : (xs : List ℕ) → list_all is_char xs ≡ true → AllByRecursion (λ c. IsTrue (is_char c)) xs
each_char [] all = tt
each_char (x ∷ xs) all = let (here, more) = and_parts (is_char x) (list_all is_char xs) all in (here, each_char xs more)

pub text_writable : (limit : ℕ) (bs : List ℕ) → IsText limit bs → IsTextWritable bs
text_writable limit bs is = record {
  some = λ e. absurd (omega (arith, subst (λ (l : List ℕ). 0 < length l) e is.some));
  chars = record {
    characters = chars bs;
    each = each_char (chars bs) is.characters.each;
    coded = sym (encodes-chars bs is.characters.utf8);
  };
}

pub uri_back : (e : Element) (uri : List ℕ) → IsText 2048 uri → parts_of e ≡ text uri none → uri_of e ≡ Some uri
uri_back e uri is at =
    let inner : text_among (parts_of e) ≡ Some uri = rw (at, append-nil uri) refl in
    rw inner (text_back 2048 uri is)
