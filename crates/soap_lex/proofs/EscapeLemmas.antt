-- What the writers have appended so far.
use Rattle.std.proofs.Common.{◌≡◌, ℕ, ◌+◌, ◌-◌, ◌<◌, ◌≤◌, Bool, List, [], ◌∷◌, ◌++◌, length, take, drop, get_or}
use Rattle.std.proofs.Common.{sym, ap, subst, ◌∙◌, append_assoc, arith, length-drop, get_or-drop}
use Rattle.std.specs.List.{flat_map}
use Rattle.std.proofs.lemmas.List.{take_more, append-nil}
use Rattle.std.proofs.lemmas.List.Concat.{flat_map-append}
use Rattle.soap_lex.specs.Escapes.{escape_of}
use Rattle.soap_lex.proofs.LineLemmas.{front_kept}

-- the bytes before i are written, but for those from start on, which stand for themselves
pub record Escaped (quoted : Bool) (old bytes out : List ℕ) (start i : ℕ) : Type 0 where
  pub low : start ≤ i
  pub high : i ≤ length bytes
  pub so : out ++ take (i - start) (drop start bytes) ≡ old ++ flat_map (escape_of quoted) (take i bytes)
  pub kept : take (length old) out ≡ old

-- the escapes of one byte more
flat_more : (quoted : Bool) (bytes : List ℕ) (i : ℕ) → i < length bytes
    → flat_map (escape_of quoted) (take (i + 1) bytes) ≡ flat_map (escape_of quoted) (take i bytes) ++ escape_of quoted
    (get_or bytes i 0)
flat_more quoted bytes i h =
    ap (λ l. flat_map (escape_of quoted) l) (take_more bytes i 0 h)
    ∙ flat_map-append (escape_of quoted) (take i bytes) (get_or bytes i 0 ∷ [])
    ∙ ap (λ l. flat_map (escape_of quoted) (take i bytes) ++ l) (append-nil (escape_of quoted (get_or bytes i 0)))

run_more : (bytes : List ℕ) (start i : ℕ) → start ≤ i → i < length bytes
    → take (i + 1 - start) (drop start bytes) ≡ take (i - start) (drop start bytes) ++ get_or bytes i 0 ∷ []
run_more bytes start i low h =
    let count : i + 1 - start ≡ (i - start) + 1 = omega arith in
    let place : start + (i - start) ≡ i = omega arith in
    let within : i - start < length (drop start bytes) = omega (arith, length-drop start bytes) in
    ap (λ n. take n (drop start bytes)) count ∙ take_more (drop start bytes) (i - start) 0 within
    ∙ ap (λ x. take (i - start) (drop start bytes) ++ x ∷ []) (get_or-drop start bytes (i - start) 0
    ∙ ap (λ n. get_or bytes n 0) place)

-- a byte that stands for itself
pub Escaped-plain : (quoted : Bool) (old bytes out : List ℕ) (start i : ℕ) → Escaped quoted old bytes out start i
    → i < length bytes
    → escape_of quoted (get_or bytes i 0) ≡ get_or bytes i 0 ∷ [] → Escaped quoted old bytes out start (i + 1)
Escaped-plain quoted old bytes out start i so h plain =
    let low : start ≤ i = so.low in
    record {
      low = omega arith;
      high = omega arith;
      so = ap (λ l. out ++ l) (run_more bytes start i low h)
          ∙ sym (append_assoc out (take (i - start) (drop start bytes)) (get_or bytes i 0 ∷ []))
          ∙ ap (λ l. l ++ get_or bytes i 0 ∷ []) so.so
          ∙ append_assoc old (flat_map (escape_of quoted) (take i bytes)) (get_or bytes i 0 ∷ [])
          ∙ ap (λ l. old ++ (flat_map (escape_of quoted) (take i bytes) ++ l)) (sym plain)
          ∙ ap (λ l. old ++ l) (sym (flat_more quoted bytes i h));
      kept = so.kept;
    }

-- a byte that doesn't
pub Escaped-reference : (quoted : Bool) (old bytes out reference : List ℕ) (start i : ℕ)
    → Escaped quoted old bytes out start i → i < length bytes
    → reference ≡ escape_of quoted (get_or bytes i 0)
    → Escaped quoted old bytes ((out ++ take (i - start) (drop start bytes)) ++ reference) (i + 1) (i + 1)
Escaped-reference quoted old bytes out reference start i so h same =
    let run : List ℕ = take (i - start) (drop start bytes) in
    let none : i + 1 - (i + 1) ≡ 0 = omega arith in
    record {
      low = omega arith;
      high = omega arith;
      so = ap (λ n. ((out ++ run) ++ reference) ++ take n (drop (i + 1) bytes)) none
          ∙ append-nil ((out ++ run) ++ reference)
          ∙ ap (λ l. l ++ reference) so.so
          ∙ append_assoc old (flat_map (escape_of quoted) (take i bytes)) reference
          ∙ ap (λ l. old ++ (flat_map (escape_of quoted) (take i bytes) ++ l)) same
          ∙ ap (λ l. old ++ l) (sym (flat_more quoted bytes i h));
      kept = ap (λ l. take (length old) l) (append_assoc out run reference)
          ∙ front_kept old out (run ++ reference) so.kept;
    }

pub Escaped-moved : (quoted : Bool) (old bytes : List ℕ) {out next : List ℕ} {start place i : ℕ} → next ≡ out
    → place ≡ start
    → Escaped quoted old bytes out start i → Escaped quoted old bytes next place i
Escaped-moved quoted old bytes {out} {next} {start} {place} {i} same there so =
    let P : List ℕ → Type 0 = λ l. Escaped quoted old bytes l place i in
    let Q : ℕ → Type 0 = λ n. Escaped quoted old bytes out n i in
    subst P (sym same) (subst Q (sym there) so)
