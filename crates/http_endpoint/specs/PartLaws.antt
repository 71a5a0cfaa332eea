-- The parts stay parts whatever follows them, and each is looked at as soon as it has ended.
use Rattle.std.proofs.Common.{◌≡◌, ◌∙◌, ℕ, ◌≤◌, ◌<◌, ◌||◌, true, List, [], ◌∷◌, ◌++◌, length, ap, arith}
use Rattle.std.proofs.Common.{append_assoc, length-append}
use Rattle.std.specs.Prelude.{All}
use Rattle.std.proofs.Math.Bool.{or-true}
use Rattle.httparse.specs.Grammar.{LineEnd, crlf, lf, print_section, Field, IsField}
use Rattle.httparse.specs.Grammar.{print_chunk_line, print_extension}
use Rattle.httparse.proofs.GrammarLemmas.{cons-append, ReadsSection-append}
use Rattle.httparse.proofs.ChunkLemmas.{ReadsChunkLine-append}
use Rattle.http_endpoint.specs.Bytes.{carriage_return, line_feed}
use Rattle.http_endpoint.specs.EndLaws.{fields_end, head-ends, line-ends}
use Rattle.http_endpoint.specs.Ends.{begins_line_end, ends_break, ends_head, ends_line, ends_trailer}
use Rattle.http_endpoint.specs.Parts.{ReadsSize, ReadsTrailer, ReadsBreak}
use Rattle.http_endpoint.specs.Part.{Grows, TellsEnds}

pub size-grows : Grows ReadsSize
size-grows bytes size rest more h = (h.0, ReadsChunkLine-append bytes h.0 rest more h.1, h.2)

pub trailer-grows : Grows ReadsTrailer
trailer-grows bytes count rest more h = (h.0, h.1, ReadsSection-append bytes h.0 h.1 rest more h.2, h.3)

pub break-grows : Grows ReadsBreak
break-grows bytes unit rest more h = ap (λ l. l ++ more) h

pub size-tells : TellsEnds ReadsSize ends_line
unfolding print_chunk_line
size-tells bytes size rest from h below =
    let l = h.0 in
    let front = l.digits ++ (l.pad ++ (print_extension l.extension ++ carriage_return ∷ [])) in
    let is : bytes ≡ front ++ line_feed ∷ rest =
    h.1.1 ∙ regroup l.digits l.pad (print_extension l.extension) rest in
    let at : from ≤ length front = grind (arith, length-append, is, below) in
    rw is (line-ends front rest from at)
  where
    regroup : (a b c r : List ℕ) → (a ++ b ++ c ++ 13 ∷ 10 ∷ []) ++ r ≡ (a ++ (b ++ (c ++ 13 ∷ []))) ++ 10 ∷ r
    regroup a b c r = simp (append_assoc, cons-append)

pub trailer-tells : TellsEnds ReadsTrailer ends_trailer
trailer-tells bytes count rest from h below =
    behind h.0 h.1 h.2.0 h.2.1
  where
    behind : (fields : List Field) (last : LineEnd) → All IsField fields → bytes ≡ print_section fields last ++ rest
        → ends_trailer bytes from ≡ true
    behind [] lf all is = rw is (or-true (ends_head (line_feed ∷ rest) from))
    behind [] crlf all is = rw is (or-true (ends_head (carriage_return ∷ line_feed ∷ rest) from))
    behind (f ∷ fields) last all is =
        let text = print_section (f ∷ fields) last in
        let inside : from < length text = grind (arith, length-append, is, below) in
        let ends : ends_head (text ++ rest) from ≡ true =
        head-ends text rest from (fields_end f fields last all) inside in
        rw is (ap (λ b. b || begins_line_end (text ++ rest)) ends)

pub break-tells : TellsEnds ReadsBreak ends_break
break-tells bytes unit rest from h below = grind (arith, h)
