-- A part of the greatest length has room for no more fields than the parser is given.
use Rattle.std.proofs.Common.{◌≡◌, ℕ, ◌≤◌, ◌+◌, ◌*◌, suc, List, [], ◌∷◌, length, take, drop, arith, All, ap, Ok, map}
use Rattle.std.proofs.lemmas.Grind.{common_steps}
use Rattle.httparse.specs.Grammar.{LineEnd, crlf, lf, Field, IsField, print_end, print_field, print_section}
use Rattle.httparse.specs.Grammar.{NeverHasSection}
use Rattle.httparse.specs.Spans.{header_bytes, name_and_value, AreFieldsAt, IsSectionWithin, IsSectionOf}
use Rattle.httparse.specs.Spans.{SectionExceeds}
use Rattle.httparse.specs.Outcome.{IfComplete}
use Rattle.httparse.specs.declared.Error.{Error}
use Rattle.httparse.specs.declared.Status.{Status}
use Rattle.httparse.specs.declared.Status.TheVariants.{Complete}
use Rattle.httparse.specs.declared.spans.HeaderSpan.{HeaderSpan}
use Rattle.http_endpoint.specs.Part.{Never}
use Rattle.http_endpoint.specs.Parts.{ReadsTrailer}

-- a line's end is a byte or two
pub length-end : (e : LineEnd) → 1 ≤ length (print_end e)
length-end crlf = omega arith
length-end lf = omega arith

-- a field's line has three bytes at least
pub length-field : (f : Field) → IsField f → 3 ≤ length (print_field f)
length-field f is = grind (arith, common_steps, is.name.0, length-end f.end)

-- so has each of a section's lines, but for the last
pub length-section : (fields : List Field) (last : LineEnd) → All IsField fields
    → 3 * length fields + 1 ≤ length (print_section fields last)
length-section [] last all = length-end last
length-section (f ∷ fields) last all =
    let first : IsField f = all 0 f (omega arith) in
    let rest : 3 * length fields + 1 ≤ length (print_section fields last) =
    length-section fields last (λ k d less. all (suc k) d (omega (arith, less))) in
    grind (arith, common_steps, length-field f first, rest)

-- a section of so many bytes doesn't pass the room
pub section-fits : (bytes : List ℕ) (room : ℕ) → length bytes ≤ 3 * room → ¬ (SectionExceeds room bytes)
section-fits bytes room wide (front, rest, same, fields, reads, more) =
    let long : 3 * length fields + 1 ≤ length (print_section fields lf) = length-section fields lf reads.0 in
    grind (arith, common_steps, long, reads.1, same, more, wide)

-- what the parser refuses is never a trailer
pub trailer-never : (bytes : List ℕ) → NeverHasSection bytes → Never ReadsTrailer bytes
trailer-never bytes never more count rest h = never more h.0 h.1 rest h.2

-- as many headers were written as there are fields
pub count-fields : (bytes : List ℕ) (headers : List HeaderSpan) (count : ℕ) (fields : List Field)
    → count ≤ length headers
    → AreFieldsAt bytes headers count fields → count ≡ length fields
count-fields bytes headers count fields fits are =
    let lengths : length (map (header_bytes bytes) (take count headers)) ≡ length (map name_and_value fields) =
    ap length are in
    grind (arith, common_steps, lengths, fits)

-- what the parser finds is a trailer
pub trailer-found : (bytes : List ℕ) (headers : List HeaderSpan) (status : Status (ℕ × ℕ)) (len count : ℕ)
    → status ≡ Complete (len, count)
    → IfComplete {E = Error} (Ok status) (λ r. IsSectionWithin bytes headers r.0 r.1)
    → IfComplete {E = Error} (Ok status) (IsSectionOf bytes 0 headers)
    → (len ≤ length bytes) × ReadsTrailer bytes count (drop len bytes)
trailer-found bytes headers status len count is all_within all_of =
    let within : IsSectionWithin bytes headers len count = rw is at all_within in
    let of : IsSectionOf bytes 0 headers (len, count) = rw is at all_of in
    let found = of.2 in (
      within.len_fits,
      (
        of.0,
        of.1,
        found.reads,
        count-fields bytes headers count of.0 within.count_fits
            found.fields_are,
      ),
    )
