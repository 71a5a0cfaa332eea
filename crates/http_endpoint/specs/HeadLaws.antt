-- A head stays one whatever follows it, and is looked at as soon as it has ended.
use Rattle.std.proofs.Common.{◌≡◌, ◌∙◌, ℕ, ◌+◌, ◌<◌, true, List, [], ◌∷◌, ◌++◌, ◌==◌, length, ap, refl, arith}
use Rattle.std.proofs.Common.{append_assoc, length-append}
use Rattle.std.specs.Prelude.{All, Option, None, Some, codes}
use Rattle.std.specs.Char.{is_ascii_digit}
use Rattle.std.proofs.lemmas.Bool.{eqb-true}
use Rattle.std.proofs.lemmas.List.Elements.{All-append, All-cons, All-nil}
use Rattle.http_endpoint.specs.Heads.{ReadsRequestFacts, ReadsResponseFacts}
use Rattle.httparse.specs.Grammar.{RequestHead, ResponseHead, IsResponseHead, print_blank, print_end, print_request}
use Rattle.httparse.specs.Grammar.{print_response}
use Rattle.httparse.specs.Grammar.{IsField, print_reason, print_section, print_version, reason_phrase, AllPass}
use Rattle.httparse.specs.Grammar.{is_value_byte}
use Rattle.httparse.proofs.GrammarLemmas.{cons-append, ReadsRequest-append, ReadsResponse-append}
use Rattle.http_endpoint.specs.Bytes.{carriage_return, line_feed}
use Rattle.http_endpoint.specs.EndLaws.{EndsTwice, IsLetter, differs, head-ends, last_letter, section_ends}
use Rattle.http_endpoint.specs.EndLaws.{no, value_letters}
use Rattle.http_endpoint.specs.Ends.{ends_head}
use Rattle.http_endpoint.specs.Part.{Grows, TellsEnds}

pub request-grows : Grows ReadsRequestFacts
request-grows bytes facts rest more h = (h.0, ReadsRequest-append bytes h.0 rest more h.1, h.2)

pub response-grows : Grows ReadsResponseFacts
response-grows bytes facts rest more h = (h.0, ReadsResponse-append bytes h.0 rest more h.1, h.2)

-- bytes that are such a text and then a rest
behind_text : (bytes text rest : List ℕ) (from : ℕ) → bytes ≡ text ++ rest → EndsTwice text
    → from + length rest < length bytes → ends_head bytes from ≡ true
behind_text bytes text rest from is e below =
    let inside : from < length text = grind (arith, length-append, is, below) in
    rw is (head-ends text rest from e inside)

-- the digit of a version is a byte of text
digit_letter : (n : ℕ) → IsLetter (48 + n)
digit_letter n = record {
  no_return = no (48 + n == carriage_return) (λ same. omega (arith, eqb-true (48 + n) carriage_return same));
  no_feed = no (48 + n == line_feed) (λ same. omega (arith, eqb-true (48 + n) line_feed same));
}

-- a request's line ends with a digit
request_twice : (h : RequestHead) → All IsField h.fields → EndsTwice (print_request h)
unfolding print_request
request_twice h all =
    let front = print_blank h.blank ++ (h.method ++ 32 ∷ (h.target ++ 32 ∷ codes "HTTP/1.")) in
    let e = section_ends h.fields h.last front (48 + h.minor) h.line_end (digit_letter h.minor) all in
    record {
      front = e.front;
      letter = e.letter;
      first = e.first;
      second = e.second;
      is_letter = e.is_letter;
      bytes_are = regroup (print_blank h.blank) h.method h.target (codes "HTTP/1.") (48 + h.minor)
          (print_end h.line_end) (print_section h.fields h.last)
          ∙ e.bytes_are;
    }
  where
    regroup : (a b c d : List ℕ) (x : ℕ) (e f : List ℕ)
        → a ++ b ++ 32 ∷ c ++ 32 ∷ (d ++ x ∷ []) ++ e ++ f ≡ (a ++ (b ++ 32 ∷ (c ++ 32 ∷ d))) ++ x ∷ (e ++ f)
    regroup a b c d x e f = simp (append_assoc, cons-append)

pub request-tells : TellsEnds ReadsRequestFacts ends_head
request-tells bytes facts rest from h below =
    behind_text bytes (print_request h.0) rest from h.1.1 (request_twice h.0 h.1.0.fields) below

-- a digit is a byte of text
digit_letters : (bytes : List ℕ) → AllPass is_ascii_digit bytes → All IsLetter bytes
digit_letters bytes all = λ k d below. record {
  no_return = differs is_ascii_digit _ carriage_return (all k d below) refl;
  no_feed = differs is_ascii_digit _ line_feed (all k d below) refl;
}

-- so is a space
space_letter : IsLetter 32
space_letter = record { no_return = refl; no_feed = refl }

-- and each byte of a reason
reason_letters : (reason : Option (List ℕ)) → AllPass is_value_byte (reason_phrase reason)
    → All IsLetter (print_reason reason)
reason_letters None all = All-nil IsLetter
reason_letters (Some phrase) all = All-cons IsLetter 32 phrase space_letter (value_letters phrase all)

-- a response's line ends with a digit or a byte of the reason
response_twice : (h : ResponseHead) → IsResponseHead h → EndsTwice (print_response h)
unfolding print_response
response_twice h is =
    let letters = All-append IsLetter h.digits (print_reason h.reason) (digit_letters h.digits is.digits.1)
    (reason_letters h.reason is.reason) in
    let l = last_letter 32 (h.digits ++ print_reason h.reason) space_letter letters in
    let e = section_ends h.fields h.last ((print_blank h.blank ++ print_version h.minor) ++ l.front) l.letter h.line_end
    l.is_letter is.fields in
    record {
      front = e.front;
      letter = e.letter;
      first = e.first;
      second = e.second;
      is_letter = e.is_letter;
      bytes_are = apart (print_blank h.blank) (print_version h.minor) h.digits (print_reason h.reason)
          (print_end h.line_end) (print_section h.fields h.last)
          ∙ ap (λ w. (print_blank h.blank ++ print_version h.minor) ++ (w ++ (print_end h.line_end
          ++ print_section h.fields h.last))) l.bytes_are
          ∙ regroup (print_blank h.blank ++ print_version h.minor) l.front l.letter (print_end h.line_end)
          (print_section h.fields h.last)
          ∙ e.bytes_are;
    }
  where
    apart : (a b d r e f : List ℕ)
        → a ++ b ++ 32 ∷ d ++ r ++ e ++ f ≡ (a ++ b) ++ ((32 ∷ (d ++ r)) ++ (e ++ f))
    apart a b d r e f = simp (append_assoc, cons-append)

    regroup : (a w : List ℕ) (c : ℕ) (e f : List ℕ) → a ++ ((w ++ c ∷ []) ++ (e ++ f)) ≡ (a ++ w) ++ c ∷ (e ++ f)
    regroup a w c e f = simp (append_assoc, cons-append)

pub response-tells : TellsEnds ReadsResponseFacts ends_head
response-tells bytes facts rest from h below =
    behind_text bytes (print_response h.0) rest from h.1.1 (response_twice h.0 h.1.0) below
