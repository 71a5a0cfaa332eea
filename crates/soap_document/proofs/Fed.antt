-- What feeding a piece does, and what the reader answers at the end.
use Rattle.std.proofs.Common.{◌≡◌, ◌≢◌, ℕ, ◌+◌, ◌<◌, ◌≤◌, true, false, List, [], ◌∷◌, ◌++◌, Some, None, length, cond}
use Rattle.std.proofs.Common.{get_or, take, drop, refl, sym, ap, subst, ◌∙◌, arith, append-nil, length-take}
use Rattle.std.proofs.Common.{length-drop}
use Rattle.memchr.specs.Find.{IsFirstByte}
use Rattle.soap_lex.specs.TextMachine.{TextState, begun as begun_text, halts as text_halts, is_refused}
use Rattle.soap_lex.specs.TextMachine.{to_stop as text_to_stop, Takes, stay, on}
use Rattle.std.proofs.lemmas.Bool.{true≢false, false_from_ne_true}
use Rattle.std.proofs.lemmas.List.{take-append-drop}
use Rattle.std.proofs.Math.Seq.{drop-length}
use Rattle.soap_lex.specs.ValueMachine.{ValueState, halts, to_stop}
use Rattle.soap_document.specs.Machine.{Mode, State, chars, value_inner, at_chars, in_less, refuse, stops, after_token}
use Rattle.soap_document.specs.Machine.{step, run, counted, after_text, after_value}
use Rattle.soap_document.specs.Seen.{Taken}
use Rattle.soap_lex.specs.First.{all_fail, around, front_fails}
use Rattle.soap_document.proofs.Moves.{kept}
use Rattle.soap_document.proofs.Places.{run-at}
use Rattle.soap_document.proofs.Steps.{at_tag, tag_begins}
use Rattle.soap_document.proofs.Values.{fed}
use Rattle.soap_document.proofs.Words.{refused_halts, fed as text_fed, takes_on, behind}
use Rattle.soap_lex.specs.TextStops.{still as text_still}
use Rattle.soap_lex.specs.ValueStops.{fed_halted, still}

-- ---- what the code's steps take

-- bytes are taken where what is left of them goes on as all of them do
taken_to : {s new : State} {bytes : List ℕ} {n : ℕ} → 0 < n → n ≤ length bytes → run new (drop n bytes) ≡ run s bytes
    → Taken s new bytes n
taken_to {s} {new} {bytes} {n} some within meaning = record {
  some = some;
  within = within;
  meaning = meaning;
  place = sym (run-at new (drop n bytes)) ∙ ap (λ x. x.at) meaning ∙ run-at s bytes;
}

abbrev pub kept_by : State → List ℕ → State
kept_by s bytes = record s { at = s.at + length bytes; token = s.token ++ bytes }

pub taken_all : {s new : State} {bytes : List ℕ} → IsFirstByte (stops s.mode) bytes None → 0 < length bytes
    → new ≡ kept_by s bytes → Taken s new bytes (length bytes)
taken_all {s} {new} {bytes} found some e =
    let runs = (kept s bytes {at = s.at} (all_fail (stops s.mode) bytes found)).moves [] in
    taken_to some (omega arith) (ap (run new) (drop-length bytes) ∙ e ∙ sym (rw append-nil at runs))

pub taken_some : {s new : State} {bytes : List ℕ} {n : ℕ} → IsFirstByte (stops s.mode) bytes (Some n)
    → new ≡ kept_by s (take n bytes)
    → Taken s (counted (after_token new.mode new (get_or bytes n 0))) bytes (n + 1)
taken_some {s} {new} {bytes} {n} found e =
    let c = get_or bytes n 0 in
    let next = kept_by s (take n bytes) in
    let rest : List ℕ = drop (n + 1) bytes in
    taken_to (omega arith) (omega (arith, found.0.high)) (sym (ap (run s) (around (stops s.mode) bytes n found)
    ∙ (kept s (take n bytes) {at = s.at} (front_fails (stops s.mode) bytes n found)).moves (c ∷ rest)
    ∙ ap (λ t. run (counted (cond t (after_token s.mode next c) (record next { token = next.token ++ c ∷ [] }))) rest)
    found.1 ∙ ap (λ x. run (counted (after_token x.mode x c)) rest) (sym e)))

-- nothing of a value is taken behind its end: it was refused
pub taken_none : (s new : State) (t : ValueState) (bytes : List ℕ) → s.mode ≡ value_inner → 0 < length bytes
    → to_stop s.value bytes ≡ (t, drop 0 bytes) → new ≡ refuse (record s { value = t }) → Taken s (counted new) bytes 1
taken_none s new t [] e some fed kept = absurd (omega (arith, some))
taken_none s new t (c ∷ rest) e some fed kept =
    let h = still s.value t c rest fed in
    let first : step s c ≡ counted (refuse s) = rw (e, h.0) in
    taken_to (omega arith) (omega arith)
    (ap (λ x. run (counted x) rest) (kept ∙ ap (λ v. refuse (record s { value = v })) (sym h.1))
    ∙ ap (λ x. run x rest) (sym first))

-- in one mode, up to the end of a token, behind which the reader looks at what was read
taken_after : {s new : State} {bytes : List ℕ} {n : ℕ} (f : State → State) (next : State) (m : Mode) → s.mode ≡ m
    → next.mode ≡ s.mode → n ≢ 0 → n ≤ length bytes → new ≡ f next
    → run (record s { mode = m }) bytes ≡ run (f (record next { mode = m })) (drop n bytes) → Taken s new bytes n
taken_after {s} {new} {bytes} {n} f next m e same some high kept runs =
    taken_to (omega (arith, some)) high
    (ap (λ x. run x (drop n bytes)) (kept ∙ ap (λ k. f (record next { mode = k })) (same ∙ e)) ∙ sym runs
    ∙ ap (λ k. run (record s { mode = k }) bytes) (sym e))

unhalted : (v t : ValueState) (bytes : List ℕ) (n : ℕ) → n ≤ length bytes → n ≢ 0
    → to_stop v bytes ≡ (t, drop n bytes) → halts v.mode ≡ false
unhalted v t bytes n high some fed = false_from_ne_true (halts v.mode) (λ e.
    let ends : (v, bytes) ≡ (t, drop n bytes) = sym (fed_halted v bytes e) ∙ fed in
    let size : length bytes ≡ length (drop n bytes) = ap (λ (p : ValueState × List ℕ). length p.1) ends in
    some (omega (arith, size, length-drop n bytes, high)))

-- within a value, up to the end of a token of it
pub taken_value : (s new : State) (t : ValueState) (bytes : List ℕ) (n : ℕ) → s.mode ≡ value_inner
    → n ≤ length bytes → n ≢ 0 → to_stop s.value bytes ≡ (t, drop n bytes)
    → new ≡ after_value (record s { value = t; at = s.at + n }) → Taken s new bytes n
taken_value s new t bytes n e high some ends kept =
    taken_after after_value (record s { value = t; at = s.at + n }) value_inner e refl some high kept
    (fed s s.value t bytes (drop n bytes) s.at (s.at + n) (unhalted s.value t bytes n high some ends) ends
    (omega (arith, length-drop n bytes)))

-- text of which something was taken was not refused
is_open : (v t : TextState) (bytes : List ℕ) (n : ℕ) → n ≢ 0 → n ≤ length bytes
    → text_to_stop v bytes ≡ (t, drop n bytes) → is_refused v.mode ≡ false
is_open v t [] n some high fed = absurd (some (omega (arith, high)))
is_open v t (c ∷ bytes) n some high fed = false_from_ne_true (is_refused v.mode) (λ e.
    let halted : text_to_stop v (c ∷ bytes) ≡ (v, c ∷ bytes) = rw (refused_halts v.mode (v.token ++ c ∷ []) e) in
    let size : length (c ∷ bytes) ≡ length (drop n (c ∷ bytes)) =
    ap (λ (p : TextState × List ℕ). length p.1) (sym halted ∙ fed) in
    some (omega (arith, size, high, length-drop n (c ∷ bytes))))

-- within text, up to the end of a token of it
pub taken_text : (s new : State) (t : TextState) (bytes : List ℕ) (n : ℕ) → s.mode ≡ chars → n ≤ length bytes → n ≢ 0
    → text_to_stop s.words bytes ≡ (t, drop n bytes) → new ≡ after_text (record s { words = t; at = s.at + n })
    → Taken s new bytes n
taken_text s new t bytes n e high some ends kept =
    taken_after after_text (record s { words = t; at = s.at + n }) chars e refl some high kept
    (text_fed s s.words t bytes (drop n bytes) s.at (s.at + n) (is_open s.words t bytes n some high ends) ends
    (omega (arith, length-drop n bytes)))

takes_open : {v w : TextState} {bytes : List ℕ} → Takes v bytes w → 0 < length bytes → is_refused v.mode ≡ false
takes_open (stay v) some = absurd (omega (arith, some))
takes_open (on v c bytes w h m) some = false_from_ne_true (is_refused v.mode) (λ e.
    true≢false (sym (refused_halts v.mode (v.token ++ c ∷ []) e) ∙ h))

-- what begins a comment or a CDATA section is taken at once
pub taken_opened : (s new : State) (t : TextState) (bytes : List ℕ) (n : ℕ) → s.mode ≡ chars → n ≤ length bytes
    → n ≢ 0 → Takes s.words (take n bytes) t → new ≡ after_text (record s { words = t; at = s.at + n })
    → Taken s new bytes n
taken_opened s new t bytes n e high some takes kept =
    let size : length (take n bytes) ≡ n = omega (arith, length-take n bytes, high) in
    let runs = takes_on s takes (takes_open takes (omega (arith, size, some))) s.at (drop n bytes) in
    taken_after after_text (record s { words = t; at = s.at + n }) chars e refl some high kept
    (ap (run (record s { mode = chars })) (sym (take-append-drop n bytes)) ∙ runs
    ∙ ap (λ k. run (behind s t (s.at + k)) (drop n bytes)) size)

pub takes_none : {v w : TextState} {bytes : List ℕ} → Takes v bytes w → length bytes ≡ 0 → w ≡ v
takes_none (stay v) e = refl
takes_none (on v c bytes w h m) e = absurd (omega (arith, e))

-- where nothing of it was taken, it ends before the first byte
pub text_ends : (w t : TextState) (bytes : List ℕ) → 0 < length bytes → text_to_stop w bytes ≡ (t, drop 0 bytes)
    → (text_halts t (get_or bytes 0 0) ≡ true) × (w ≡ t)
text_ends w t [] some fed = absurd (omega (arith, some))
text_ends w t (c ∷ rest) some fed =
    let h = text_still w t c rest fed in
    (subst (λ x. text_halts x c ≡ true) h.1 h.0, h.1)

pub taken_end : (s : State) (t : TextState) (bytes : List ℕ) → s.mode ≡ chars → 0 < length bytes → s.words ≡ t
    → Taken s (counted (at_chars (record s { words = t }) (get_or bytes 0 0))) bytes 1
taken_end s t [] e some same = absurd (omega (arith, some))
taken_end s t (c ∷ rest) e some same =
    let first : step s c ≡ counted (at_chars s c) = rw e in
    taken_to (omega arith) (omega arith) (ap (λ w. run (counted (at_chars (record s { words = w }) c)) rest) (sym same)
    ∙ ap (λ x. run x rest) (sym first))

-- a < where no text is begun is taken with the byte behind it
pub taken_less : (s : State) (bytes : List ℕ) → s.mode ≡ chars → s.words ≡ begun_text s.words.text → 1 < length bytes
    → get_or bytes 0 0 ≡ 60 → get_or bytes 1 0 ≢ 33
    → Taken s (counted (in_less (at_tag s) (get_or bytes 1 0))) bytes 2
taken_less s [] e fresh some opens other = absurd (omega (arith, some))
taken_less s (b ∷ []) e fresh some opens other = absurd (omega (arith, some))
taken_less s (b ∷ c ∷ rest) e fresh some opens other =
    let begins : s ≡ record s { mode = chars; words = begun_text s.words.text } =
    ap (λ m. record s { mode = m }) e ∙ ap (λ w. record s { mode = chars; words = w }) fresh in
    let two : step (step s 60) c ≡ counted (in_less (at_tag s) c) =
    subst (λ x. step (step x 60) c ≡ counted (in_less (at_tag x) c)) (sym begins) (tag_begins s s.words.text c other) in
    taken_to (omega arith) (omega arith)
    (ap (λ x. run x rest) (sym two) ∙ ap (λ k. run (step (step s k) c) rest) (sym opens))
