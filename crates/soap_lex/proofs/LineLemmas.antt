-- Line ends, and the white space of attribute values.
use Rattle.std.proofs.Common.{◌≡◌, ℕ, ◌+◌, ◌<◌, ◌≤◌, true, false, List, [], ◌∷◌, ◌++◌, length, take, drop, get_or}
use Rattle.std.proofs.Common.{Some, None, refl, sym, ap, ◌∙◌, append_assoc, arith, length-take, eqb-true}
use Rattle.std.specs.Str.{NonePass}
use Rattle.std.proofs.lemmas.List.{append-nil, take-append-le, take_all, take-append-drop, drop_more, drop_all}
use Rattle.std.specs.Prelude.{map}
use Rattle.memchr.specs.Find.{is_byte, IsFirstByte}
use Rattle.soap_lex.proofs.HoldsLemmas.{NonePass-before, NonePass-searched}
use Rattle.soap_lex.specs.Text.{line_ends_after, with_line_ends}
use Rattle.soap_lex.specs.Value.{space_of}

-- bytes without a CR stay
pub line_ends-run : (run rest : List ℕ) → NonePass (is_byte 13) run
    → with_line_ends (run ++ rest) ≡ run ++ with_line_ends rest
line_ends-run [] rest none = refl
line_ends-run (x ∷ run) rest none = rw none.0 (ap (λ l. x ∷ l) (line_ends-run run rest none.1))

pub line_ends-none : (run : List ℕ) → NonePass (is_byte 13) run → with_line_ends run ≡ run
line_ends-none run none = ap with_line_ends (sym (append-nil run)) ∙ line_ends-run run [] none ∙ append-nil run

-- what stood in front stays there
pub front_kept : (start out more : List ℕ) → take (length start) out ≡ start → take (length start) (out ++ more) ≡ start
front_kept start out more kept =
    let fits : length start ≤ length out = omega (arith, ap length kept, length-take (length start) out) in
    take-append-le (length start) out more fits ∙ kept

-- one line is appended, up to its CR
pub lines_step : (start out rest bytes after : List ℕ) (k : ℕ)
    → out ++ with_line_ends rest ≡ start ++ with_line_ends bytes
    → IsFirstByte (is_byte 13) rest (Some k) → line_ends_after false after ≡ line_ends_after true (drop (k + 1) rest)
    → ((out ++ take k rest) ++ 10 ∷ []) ++ with_line_ends after ≡ start ++ with_line_ends bytes
lines_step start out rest bytes after k so found ends =
    let high : k < length rest = found.0.high in
    let at : get_or rest k 0 ≡ 13 = eqb-true (get_or rest k 0) 13 found.1 in
    let split : rest ≡ take k rest ++ (13 ∷ drop (k + 1) rest) =
    sym (take-append-drop k rest)
    ∙ ap (λ l. take k rest ++ l) (drop_more rest k 0 high ∙ ap (λ x. x ∷ drop (k + 1) rest) at) in
    let meant : with_line_ends rest ≡ take k rest ++ (10 ∷ with_line_ends after) =
    ap with_line_ends split ∙ line_ends-run (take k rest) (13 ∷ drop (k + 1) rest)
    (NonePass-before (is_byte 13) rest k found)
    ∙ ap (λ l. take k rest ++ (10 ∷ l)) (sym ends) in
    append_assoc (out ++ take k rest) (10 ∷ []) (with_line_ends after)
    ∙ append_assoc out (take k rest) (10 ∷ with_line_ends after)
    ∙ ap (λ l. out ++ l) (sym meant) ∙ so

-- the last line
pub lines_done : (start out rest bytes : List ℕ) → out ++ with_line_ends rest ≡ start ++ with_line_ends bytes
    → IsFirstByte (is_byte 13) rest None
    → out ++ rest ≡ start ++ with_line_ends bytes
lines_done start out rest bytes so none =
    ap (λ l. out ++ l) (sym (line_ends-none rest (NonePass-searched (is_byte 13) rest none))) ∙ so

-- bytes without a tab and an LF stay
pub no_blanks : (bytes : List ℕ) → NonePass (is_byte 9) bytes → NonePass (is_byte 10) bytes → map space_of bytes ≡ bytes
no_blanks [] tabs lines = refl
no_blanks (x ∷ bytes) tabs lines = rw (tabs.0, lines.0) (ap (λ l. x ∷ l) (no_blanks bytes tabs.1 lines.1))

pub mapped_all : (f : ℕ → ℕ) (n : ℕ) (bytes : List ℕ) → length bytes ≤ n
    → map f (take n bytes) ++ drop n bytes ≡ map f bytes
mapped_all f n bytes h = rw (take_all n bytes h, drop_all n bytes h) (append-nil (map f bytes))
