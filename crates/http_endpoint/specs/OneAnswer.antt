-- A message is read in one way: its bytes have one answer.
use Rattle.std.proofs.Common.{◌≡◌, ℕ, List, [], ◌∷◌, ◌++◌, length, take, drop}
use Rattle.std.proofs.Common.{inl, inr, arith, ap, sym, ◌∙◌, append-nil, append_assoc, refl, Result, Ok}
use Rattle.std.proofs.Common.{Err}
use Rattle.std.proofs.lemmas.Grind.{common_steps}
use Rattle.std.proofs.lemmas.List.{append_cancel_left, append_cancel_right, take-append-drop}
use Rattle.httparse.specs.Grammar.{print_chunk_line, print_section, print_request, print_response}
use Rattle.httparse.specs.Grammar.{MayBecomeChunkLine, MayBecomeSection, MayBecomeResponse}
use Rattle.httparse.specs.Grammar.{chunk_size}
use Rattle.httparse.proofs.GrammarLemmas.{section_unique, request_unique, response_unique}
use Rattle.httparse.proofs.ChunkLemmas.{chunk_line_unique}
use Rattle.http_endpoint.specs.Limits.{part_bytes}
use Rattle.http_endpoint.specs.declared.body.Framing.{Framing}
use Rattle.http_endpoint.specs.declared.body.Framing.TheVariants.{Empty, Counted, Chunked, ToEnd}
use Rattle.http_endpoint.specs.declared.error.HttpError.{HttpError}
use Rattle.http_endpoint.specs.declared.error.HttpError.TheVariants.{Memory, ReadFault, WriteFault, BadHead, TooLong}
use Rattle.http_endpoint.specs.declared.error.HttpError.TheVariants.{Unsupported, CutShort}
use Rattle.http_endpoint.specs.Bytes.{carriage_return, line_feed}
use Rattle.http_endpoint.specs.Part.{Grammar, Never, ReadsUpTo, IsBad, IsShort, Stage, bad, short, part}
use Rattle.http_endpoint.specs.Parts.{ReadsSize, ReadsTrailer, ReadsBreak, IsHalfBreak}
use Rattle.http_endpoint.specs.Heads.{ReadsRequestFacts, ReadsResponseFacts, facts_of_request, facts_of_response}
use Rattle.http_endpoint.specs.Body.{TakesChunk, EndsBehind, last, too_long, cut, unbroken, EndsChunks, IsChunked}
use Rattle.http_endpoint.specs.Body.{ends, chunk, IsCounted, IsBody, ended_by}

-- what stands behind a text may be cut off
abbrev pub Shrinks : {A : Type 0} → Grammar A → Type 0
Shrinks {A} reads = (bytes more : List ℕ) (a : A) (rest : List ℕ) → reads (bytes ++ more) a (rest ++ more)
    → reads bytes a rest

-- a text is one in one way
abbrev pub IsOne : {A : Type 0} → Grammar A → Type 0
IsOne {A} reads = (bytes r q : List ℕ) (a b : A) → reads bytes a r → reads bytes b q → (a ≡ b) × (r ≡ q)

-- what has a text isn't bad
pub read-not-bad : {A : Type 0} (reads : Grammar A) (shrinks : Shrinks reads) (limit : ℕ) (bytes : List ℕ) (a : A)
    (rest : List ℕ)
    → ReadsUpTo limit reads bytes a rest → ¬ (IsBad limit reads bytes)
read-not-bad reads shrinks limit bytes a rest r (inl never) =
    never [] a rest (rw (append-nil bytes) r.is_text)
read-not-bad reads shrinks limit bytes a rest r (inr long) =
    let bytes_is : take limit bytes ++ drop limit bytes ≡ bytes = take-append-drop limit bytes in
    let rest_is : drop r.len (take limit bytes) ++ drop limit bytes ≡ rest =
    grind (arith, common_steps, r.rest_is, r.within, r.inside, bytes_is) in
    long.1 a (drop r.len (take limit bytes))
    (shrinks (take limit bytes) (drop limit bytes) a (drop r.len (take limit bytes))
    (rw (bytes_is, rest_is) r.is_text))

-- what is bad isn't short, where what has begun may end
pub bad-not-short : {A : Type 0} (reads : Grammar A) (begun : List ℕ → Type 0)
    (may_end : (bytes : List ℕ) → begun bytes → ¬ (Never reads bytes)) (limit : ℕ) (bytes : List ℕ)
    → IsBad limit reads bytes → ¬ (IsShort limit reads begun bytes)
bad-not-short reads begun may_end limit bytes (inl never) s = may_end bytes s.unfinished never
bad-not-short reads begun may_end limit bytes (inr long) s = omega (arith, long.0, s.within)

-- a stage has one answer, where what follows has one
pub one-stage : {A : Type 0} (B : Type 0) (reads : Grammar A) (begun : List ℕ → Type 0) (limit : ℕ) (bytes : List ℕ)
    → Shrinks reads
    → IsOne reads → ((bytes : List ℕ) → begun bytes → ¬ (Never reads bytes))
    → (r q : Result B HttpError) (F G : A → List ℕ → Type 0) → ((a : A) (rest : List ℕ) → F a rest → G a rest → r ≡ q)
    → Stage limit reads begun bytes r F → Stage limit reads begun bytes q G → r ≡ q
one-stage B reads begun limit bytes shrinks one may_end r q F G same (bad x is) (bad y also) = is ∙ sym also
one-stage B reads begun limit bytes shrinks one may_end r q F G same (bad x is) (short y also) =
    absurd (bad-not-short reads begun may_end limit bytes x y)
one-stage B reads begun limit bytes shrinks one may_end r q F G same (bad x is) (part b later y g) =
    absurd (read-not-bad reads shrinks limit bytes b later y x)
one-stage B reads begun limit bytes shrinks one may_end r q F G same (short x is) (bad y also) =
    absurd (bad-not-short reads begun may_end limit bytes y x)
one-stage B reads begun limit bytes shrinks one may_end r q F G same (short x is) (short y also) = is ∙ sym also
one-stage B reads begun limit bytes shrinks one may_end r q F G same (short x is) (part b later y g) =
    absurd (x.none b later y.is_text)
one-stage B reads begun limit bytes shrinks one may_end r q F G same (part a rest x f) (bad y also) =
    absurd (read-not-bad reads shrinks limit bytes a rest x y)
one-stage B reads begun limit bytes shrinks one may_end r q F G same (part a rest x f) (short y also) =
    absurd (y.none a rest x.is_text)
one-stage B reads begun limit bytes shrinks one may_end r q F G same (part a rest x f) (part b later y g) =
    let is = one bytes rest later a b x.is_text y.is_text in
    let moved : F b later = rw (sym is.0, sym is.1) f in
    same b later moved g

-- ---- the parts

-- a chunk's line gives one size
pub one-size : IsOne ReadsSize
one-size bytes r q n m x y =
    let same = chunk_line_unique bytes x.0 y.0 r q x.1 y.1 in
    (x.2 ∙ (ap chunk_size same.0 ∙ sym y.2), same.1)

-- what stands behind a chunk's line may be cut off
pub size-shrinks : Shrinks ReadsSize
size-shrinks bytes more n rest x = (
  x.0,
  (
    x.1.0,
    append_cancel_right bytes (print_chunk_line x.0 ++ rest) more
        (x.1.1 ∙ sym (append_assoc (print_chunk_line x.0) rest more)),
  ),
  x.2,
)

-- a chunk's line that has begun may end
pub size-ends : (bytes : List ℕ) → MayBecomeChunkLine bytes → ¬ (Never ReadsSize bytes)
size-ends bytes may never = never may.0 (chunk_size may.1) [] (may.1, may.2, refl)

-- a trailer is one in one way
pub one-trailer : IsOne ReadsTrailer
one-trailer bytes r q n m x y =
    let same = section_unique bytes x.0 y.0 x.1 y.1 r q x.2 y.2 in
    (x.3 ∙ (ap length same.0 ∙ sym y.3), same.2)

-- what stands behind a trailer may be cut off
pub trailer-shrinks : Shrinks ReadsTrailer
trailer-shrinks bytes more n rest x = (
  x.0,
  x.1,
  (
    x.2.0,
    append_cancel_right bytes (print_section x.0 x.1 ++ rest) more
        (x.2.1 ∙ sym (append_assoc (print_section x.0 x.1) rest more)),
  ),
  x.3,
)

-- a trailer that has begun may end
pub trailer-ends : (bytes : List ℕ) → MayBecomeSection bytes → ¬ (Never ReadsTrailer bytes)
trailer-ends bytes may never = never may.0 (length may.1) [] (may.1, may.2, may.3, refl)

-- the line's end is one in one way
pub one-break : IsOne ReadsBreak
one-break bytes r q a b x y = (refl, append_cancel_left (carriage_return ∷ line_feed ∷ []) r q (sym x ∙ y))

-- what stands behind it may be cut off
pub break-shrinks : Shrinks ReadsBreak
break-shrinks bytes more a rest x = append_cancel_right bytes (carriage_return ∷ line_feed ∷ rest) more x

-- where it has begun it may end
pub break-ends : (bytes : List ℕ) → IsHalfBreak bytes → ¬ (Never ReadsBreak bytes)
break-ends bytes (inl none) never =
    never (carriage_return ∷ line_feed ∷ []) tt [] (ap (λ b. b ++ carriage_return ∷ line_feed ∷ []) none)
break-ends bytes (inr half) never = never (line_feed ∷ []) tt [] (ap (λ b. b ++ line_feed ∷ []) half)

-- a head of a request says one thing
pub one-request-head : IsOne ReadsRequestFacts
one-request-head bytes r q a b x y =
    let same = request_unique bytes x.0 y.0 r q x.1 y.1 in
    (x.2 ∙ (ap facts_of_request same.0 ∙ sym y.2), same.1)

-- what stands behind it may be cut off
pub request-shrinks : Shrinks ReadsRequestFacts
request-shrinks bytes more a rest x = (
  x.0,
  (
    x.1.0,
    append_cancel_right bytes (print_request x.0 ++ rest) more
        (x.1.1 ∙ sym (append_assoc (print_request x.0) rest more)),
  ),
  x.2,
)

-- a head of a response says one thing
pub one-response-head : IsOne ReadsResponseFacts
one-response-head bytes r q a b x y =
    let same = response_unique bytes x.0 y.0 r q x.1 y.1 in
    (x.2 ∙ (ap facts_of_response same.0 ∙ sym y.2), same.1)

-- what stands behind it may be cut off
pub response-shrinks : Shrinks ReadsResponseFacts
response-shrinks bytes more a rest x = (
  x.0,
  (
    x.1.0,
    append_cancel_right bytes (print_response x.0 ++ rest) more
        (x.1.1 ∙ sym (append_assoc (print_response x.0) rest more)),
  ),
  x.2,
)

-- where it has begun it may end
pub response-ends : (bytes : List ℕ) → MayBecomeResponse bytes → ¬ (Never ReadsResponseFacts bytes)
response-ends bytes may never = never may.0 (facts_of_response may.1) [] (may.1, may.2, refl)

-- ---- bodies

-- behind a line the body ends in one way
pub one-end : (r q : Result (List ℕ) HttpError) (body : List ℕ) (size : ℕ) (after : List ℕ)
    → EndsBehind r body size after
    → EndsBehind q body size after → r ≡ q
one-end r q body size after (last none x) (last also y) =
    one-stage (List ℕ) ReadsTrailer MayBecomeSection part_bytes after trailer-shrinks one-trailer trailer-ends r q
    (λ count rest. r ≡ ended_by count body) (λ count rest. q ≡ ended_by count body) (λ count rest f g. f ∙ sym g)
    x y
one-end r q body size after (last none x) (too_long some long is) = absurd (omega (arith, none, some))
one-end r q body size after (last none x) (cut less few is) = absurd (omega (arith, none, less))
one-end r q body size after (last none x) (unbroken some inside within y) = absurd (omega (arith, none, some))
one-end r q body size after (too_long some long is) (last none y) = absurd (omega (arith, none, some))
one-end r q body size after (too_long some long is) (too_long any longer also) = is ∙ sym also
one-end r q body size after (too_long any long is) (cut less few also) = absurd (omega (arith, long, less, few))
one-end r q body size after (too_long any long is) (unbroken some inside within y) =
    absurd (omega (arith, long, inside, within))
one-end r q body size after (cut less few is) (last none y) = absurd (omega (arith, none, less))
one-end r q body size after (cut less few is) (too_long any long also) = absurd (omega (arith, long, less, few))
one-end r q body size after (cut less few is) (cut fewer more also) = is ∙ sym also
one-end r q body size after (cut less few is) (unbroken some inside within y) = absurd (omega (arith, less, inside))
one-end r q body size after (unbroken some inside within x) (last none y) = absurd (omega (arith, none, some))
one-end r q body size after (unbroken some inside within x) (too_long any long also) =
    absurd (omega (arith, long, inside, within))
one-end r q body size after (unbroken some inside within x) (cut less few also) = absurd (omega (arith, less, inside))
one-end r q body size after (unbroken some inside within x) (unbroken any in2 with2 y) =
    one-stage (List ℕ) ReadsBreak IsHalfBreak part_bytes (drop size after) break-shrinks one-break break-ends r q
    (λ _ _. ⊥) (λ _ _. ⊥) (λ a rest f g. absurd f) x y

-- where a whole chunk stands behind a line, the body doesn't end there
pub whole-not-end : (r : Result (List ℕ) HttpError) (body bytes new rest : List ℕ) (c : TakesChunk body bytes new rest)
    → ¬ (EndsBehind r body c.size c.after)
whole-not-end r body bytes new rest c (last none x) = omega (arith, none, c.some)
whole-not-end r body bytes new rest c (too_long some long is) = omega (arith, long, c.inside, c.within)
whole-not-end r body bytes new rest c (cut less few is) = omega (arith, less, c.inside)
whole-not-end r body bytes new rest c (unbroken some inside within (bad x is)) =
    read-not-bad ReadsBreak break-shrinks part_bytes (drop c.size c.after) tt rest c.end x
whole-not-end r body bytes new rest c (unbroken some inside within (short x is)) = x.none tt rest c.end.is_text
whole-not-end r body bytes new rest c (unbroken some inside within (part a later x never)) = never

-- where a whole chunk follows, the body doesn't end
pub chunk-not-end : (r : Result (List ℕ) HttpError) (body bytes new rest : List ℕ) → TakesChunk body bytes new rest
    → ¬ (EndsChunks r body bytes)
chunk-not-end r body bytes new rest c (bad x is) =
    read-not-bad ReadsSize size-shrinks part_bytes bytes c.size c.after c.line x
chunk-not-end r body bytes new rest c (short x is) = x.none c.size c.after c.line.is_text
chunk-not-end r body bytes new rest c (part size after x f) =
    let is = one-size bytes after c.after size c.size x.is_text c.line.is_text in
    let moved : EndsBehind r body c.size c.after = rw (sym is.0, sym is.1) f in
    whole-not-end r body bytes new rest c moved

-- two chunks at one place are one
pub one-chunk : (body bytes new rest new2 rest2 : List ℕ) → TakesChunk body bytes new rest
    → TakesChunk body bytes new2 rest2
    → (new ≡ new2) × (rest ≡ rest2)
one-chunk body bytes new rest new2 rest2 x y =
    let line = one-size bytes x.after y.after x.size y.size x.line.is_text y.line.is_text in
    let datas : take x.size x.after ≡ take y.size y.after = ap (λ n. take n x.after) line.0 ∙ ap (take y.size) line.1 in
    let behinds : drop x.size x.after ≡ drop y.size y.after = ap (λ n. drop n x.after) line.0
    ∙ ap (drop y.size) line.1 in
    let end : ReadsBreak (drop y.size y.after) tt rest = rw behinds at x.end.is_text in (
      x.new_is ∙ (ap (λ p. body ++ p) datas ∙ sym y.new_is),
      (one-break (drop y.size y.after) rest rest2 tt tt end y.end.is_text).1,
    )

-- chunks give one body
pub one-chunked : (r q : Result (List ℕ) HttpError) (body bytes : List ℕ) → IsChunked r body bytes
    → IsChunked q body bytes → r ≡ q
one-chunked r q body bytes (ends x) (ends y) =
    one-stage (List ℕ) ReadsSize MayBecomeChunkLine part_bytes bytes size-shrinks one-size size-ends r q
    (λ size after. EndsBehind r body size after) (λ size after. EndsBehind q body size after)
    (λ size after f g. one-end r q body size after f g) x y
one-chunked r q body bytes (ends x) (chunk new rest c y) = absurd (chunk-not-end r body bytes new rest c x)
one-chunked r q body bytes (chunk new rest c x) (ends y) = absurd (chunk-not-end q body bytes new rest c y)
one-chunked r q body bytes (chunk new rest c x) (chunk new2 rest2 d y) =
    let same = one-chunk body bytes new rest new2 rest2 c d in
    let later : IsChunked q new rest = rw (same.0, same.1) y in
    one-chunked r q new rest x later

-- so many bytes are one body, or are missing in one way
pub one-counted : (size : ℕ) (all : List ℕ) (r q : Result (List ℕ) HttpError) → IsCounted size all r
    → IsCounted size all q → r ≡ q
one-counted size all (Ok a) (Ok b) x y = ap Ok (x.2 ∙ sym y.2)
one-counted size all (Ok a) (Err Memory) x y = absurd y
one-counted size all (Ok a) (Err ReadFault) x y = absurd y
one-counted size all (Ok a) (Err WriteFault) x y = absurd y
one-counted size all (Ok a) (Err BadHead) x y = absurd y
one-counted size all (Ok a) (Err (TooLong t)) x y = absurd (omega (arith, x.1, y.1))
one-counted size all (Ok a) (Err (Unsupported s)) x y = absurd y
one-counted size all (Ok a) (Err CutShort) x y = absurd (omega (arith, x.0, y.0))
one-counted size all (Err Memory) q x y = absurd x
one-counted size all (Err ReadFault) q x y = absurd x
one-counted size all (Err WriteFault) q x y = absurd x
one-counted size all (Err BadHead) q x y = absurd x
one-counted size all (Err (Unsupported s)) q x y = absurd x
one-counted size all (Err (TooLong t)) (Ok b) x y = absurd (omega (arith, x.1, y.1))
one-counted size all (Err (TooLong t)) (Err Memory) x y = absurd y
one-counted size all (Err (TooLong t)) (Err ReadFault) x y = absurd y
one-counted size all (Err (TooLong t)) (Err WriteFault) x y = absurd y
one-counted size all (Err (TooLong t)) (Err BadHead) x y = absurd y
one-counted size all (Err (TooLong t)) (Err (TooLong u)) x y = ap (λ n. Err (TooLong n)) (x.0 ∙ sym y.0)
one-counted size all (Err (TooLong t)) (Err (Unsupported s)) x y = absurd y
one-counted size all (Err (TooLong t)) (Err CutShort) x y = absurd (omega (arith, x.1, y.1))
one-counted size all (Err CutShort) (Ok b) x y = absurd (omega (arith, x.0, y.0))
one-counted size all (Err CutShort) (Err Memory) x y = absurd y
one-counted size all (Err CutShort) (Err ReadFault) x y = absurd y
one-counted size all (Err CutShort) (Err WriteFault) x y = absurd y
one-counted size all (Err CutShort) (Err BadHead) x y = absurd y
one-counted size all (Err CutShort) (Err (TooLong u)) x y = absurd (omega (arith, x.1, y.1))
one-counted size all (Err CutShort) (Err (Unsupported s)) x y = absurd y
one-counted size all (Err CutShort) (Err CutShort) x y = refl

-- a body is read in one way
pub one-body : (framing : Framing) (all : List ℕ) (r q : Result (List ℕ) HttpError) → IsBody framing all r
    → IsBody framing all q → r ≡ q
one-body Empty all r q x y = x ∙ sym y
one-body (Counted size) all r q x y = one-counted size all r q x y
one-body Chunked all r q x y = one-chunked r q [] all x y
one-body ToEnd all r q x y = x ∙ sym y
