-- What a number generates is a script, and no longer than a script may be.
use Rattle.std.proofs.Common.{◌≡◌, ℕ, zero, suc, ◌+◌, ◌*◌, ◌/◌, ◌%◌, ◌^◌, ◌<◌, ◌≤◌, Bool, true, false, not, ◌==◌}
use Rattle.std.proofs.Common.{if◌then◌else◌, nat_le, List, [], ◌∷◌, ◌++◌, length, codes, decimal, None, refl, sym}
use Rattle.std.proofs.Common.{subst, inl, arith, length-append, append_assoc, ap, ◌∙◌}
use Rattle.std.specs.List.{AllByRecursion, list_all, flat_map}
use Rattle.std.specs.Str.Parse.{AllDigits}
use Rattle.std.proofs.lemmas.Grind.{flat_map-append}
use Rattle.std.proofs.lemmas.Bool.{and_parts}
use Rattle.std.proofs.lemmas.Bool.Decides.{nat_tests}
use Rattle.std.proofs.lemmas.Fmt.{decimal_is_IsNumeral, decimal_digit, length-decimal-le}
use Rattle.std.proofs.lemmas.Str.Parse.{digit_from_value}
use Rattle.rand_pcg.specs.Lcg.{Lcg}
use Rattle.rand_pcg.specs.Pcg.{pcg32}
use Rattle.rm_script.specs.Lines.{ended, HasNoLf}
use Rattle.rm_script.specs.Script.{Says, IsScript}
use Rattle.rm_script.specs.declared.event.Side.TheVariants.{One, Two}
use Rattle.rm_script.specs.declared.event.Event.{Event}
use Rattle.rm_script.specs.declared.event.Event.TheVariants.{Create, Send, Tick, Deliver, Ask, Arm, Crash}
use Rattle.rm_script.specs.Soak.Soak.{lines_for, turns, soak_lines, first_of}

-- ---- a line

-- a text without LF, at most so long
record IsShort (most : ℕ) (text : List ℕ) : Type 0 where
  whole : HasNoLf text
  few : length text ≤ most

-- a short line that a script may have
pub record IsLine (line : List ℕ) : Type 0 where
  event : Event
  says : Says line event
  short : IsShort 24 line

abbrev has_no_lf : List ℕ → Bool
has_no_lf text = list_all (λ byte. not (byte == 10)) text

HasNoLf-words : (words : List ℕ) → has_no_lf words ≡ true → HasNoLf words
HasNoLf-words [] h = tt
HasNoLf-words (byte ∷ words) h =
    let (here, more) = and_parts (not (byte == 10)) (has_no_lf words) h in
    (grind (arith, nat_tests, here), HasNoLf-words words more)

HasNoLf-append : (xs ys : List ℕ) → HasNoLf xs → HasNoLf ys → HasNoLf (xs ++ ys)
HasNoLf-append [] ys h k = k
HasNoLf-append (x ∷ xs) ys h k = (h.0, HasNoLf-append xs ys h.1 k)

HasNoLf-digits : (digits : List ℕ) → AllDigits 10 digits → HasNoLf digits
HasNoLf-digits [] h = tt
HasNoLf-digits (d ∷ digits) h = (λ e. omega (arith, digit_from_value d h.0), HasNoLf-digits digits h.1)

-- words with a number behind them
IsShort-number : (words : List ℕ) (n : ℕ) → has_no_lf words ≡ true → n < 10 ^ 8
    → IsShort (length words + 8) (words ++ decimal n)
IsShort-number words n h small = record {
  whole = HasNoLf-append words (decimal n) (HasNoLf-words words h)
      (HasNoLf-digits (decimal n) (decimal_is_IsNumeral n (omega arith)).0.1);
  few = omega (arith, length-append words (decimal n), length-decimal-le 8 n (omega arith) small (omega arith));
}

-- a line that ends with a number
numbered : (words : List ℕ) (n : ℕ) (event : Event) → has_no_lf words ≡ true → length words ≤ 16 → n < 10 ^ 8
    → Says (words ++ decimal n) event → IsLine (words ++ decimal n)
numbered words n event h few small says =
    let text = IsShort-number words n h small in
    record { event = event; says = says; short = record { whole = text.whole; few = omega (arith, text.few) } }

one_is : decimal 1 ≡ codes "1"
one_is = decimal_digit 1 (omega arith)

send_line : (i : ℕ) → i < 10 ^ 8 → IsLine (codes "send 1 1 <p>" ++ decimal i ++ codes "</p>")
send_line i small =
    let front = codes "send 1 1 <p>" in
    let back = codes "</p>" in
    let text = IsShort-number front i refl small in
    record {
      event = Send One 1 (codes "<p>" ++ decimal i ++ back);
      says = (codes "1", (omega arith, omega arith, sym one_is), λ e. absurd (cc), refl);
      short = record {
        whole = HasNoLf-append (front ++ decimal i) back text.whole (HasNoLf-words back refl);
        few = omega (arith, length-append (front ++ decimal i) back, text.few);
      };
    }

deliver_line : (p : ℕ) → 0 < p → p ≤ 65536 → IsLine (codes "deliver " ++ decimal p)
deliver_line p some few =
    numbered (codes "deliver ") p (Deliver p) refl (omega arith) (omega arith) (decimal p, (some, few, refl), refl)

ask_line : IsLine (codes "ask 1 1")
ask_line = record {
  event = Ask One 1;
  says = (codes "1", (omega arith, omega arith, sym one_is), refl);
  short = record { whole = HasNoLf-words (codes "ask 1 1") refl; few = omega arith };
}

tick_line : (ms : ℕ) → ms < 10 ^ 8 → IsLine (codes "tick 1 " ++ decimal ms)
tick_line ms small =
    numbered (codes "tick 1 ") ms (Tick One ms) refl (omega arith) small
    (decimal ms, (omega arith, omega arith, refl), refl)

arm_line : (c : ℕ) → 0 < c → c ≤ 4 → IsLine (codes "arm 2 " ++ decimal c)
arm_line c some few =
    numbered (codes "arm 2 ") c (Arm Two c) refl (omega arith) (omega arith)
    (decimal c, (some, omega arith, refl), refl)

crash_one : (x : ℕ) → x ≤ 3 → IsLine (codes "crash 1 " ++ decimal x)
crash_one x few =
    numbered (codes "crash 1 ") x (Crash One x) refl (omega arith) (omega arith)
    (decimal x, (omega arith, few, refl), refl)

crash_two : (x : ℕ) → x ≤ 3 → IsLine (codes "crash 2 " ++ decimal x)
crash_two x few =
    numbered (codes "crash 2 ") x (Crash Two x) refl (omega arith) (omega arith)
    (decimal x, (omega arith, few, refl), refl)

create_line : IsLine (codes "create 1")
create_line = record {
  event = Create One (record { months = 0; ms = 0 }) false None;
  says = (
    [],
    record {
      expiry = [];
      marked = [];
      offered = [];
      whole = refl;
      expires_ = inl (refl, refl);
      polled_ = refl;
      offers_ = refl;
    },
    refl,
  );
  short = record { whole = HasNoLf-words (codes "create 1") refl; few = omega arith };
}

-- ---- a turn

-- at most so many lines, of which each may stand in a script
pub record AreLines (most : ℕ) (lines : List (List ℕ)) : Type 0 where
  pub each : AllByRecursion IsLine lines
  pub few : length lines ≤ most

one_line : {line : List ℕ} → IsLine line → AreLines 3 (line ∷ [])
one_line h = record { each = (h, tt); few = omega arith }

-- whichever of two cases is taken
either : (b : Bool) {xs ys : List (List ℕ)} → AreLines 3 xs → AreLines 3 ys → AreLines 3 (if b then xs else ys)
either true h k = h
either false h k = k

lines_for-lines : (i c x : ℕ) → i ≤ 3000 → AreLines 3 (lines_for i c x)
lines_for-lines i c x small =
    let deliver = deliver_line (1 + x % (i + 2)) (omega arith) (omega arith) in
    let arm = arm_line (1 + x % 4) (omega arith) (omega arith) in
    let crash = crash_two (x % 4) (omega arith) in
    either (nat_le c 4) (one_line (send_line i (omega arith)))
    (either (nat_le c 11) (one_line deliver)
    (either (c == 12) (one_line ask_line)
    (either (c == 13) (one_line (tick_line (1000 * i) (omega arith)))
    (either (c == 14) (record { each = (arm, (deliver, (crash, tt))); few = omega arith })
    (one_line (crash_one (x % 4) (omega arith)))))))

-- ---- all turns

AreLines-append : (m n : ℕ) (xs ys : List (List ℕ)) → AreLines m xs → AreLines n ys → AreLines (m + n) (xs ++ ys)
AreLines-append m n xs ys h k = record {
  each = all xs ys h.each k.each;
  few = omega (arith, length-append xs ys, h.few, k.few);
}
  where
    all : (us vs : List (List ℕ)) → AllByRecursion IsLine us → AllByRecursion IsLine vs
        → AllByRecursion IsLine (us ++ vs)
    all [] vs f g = g
    all (u ∷ us) vs f g = (f.0, all us vs f.1 g)

turns-lines : (left i : ℕ) (words : Lcg) → i + left ≤ 3001 → AreLines (3 * left) (turns left i words)
unfolding turns
turns-lines zero i words h = record { each = tt; few = omega arith }
turns-lines (suc left) i words h =
    let drawn = pcg32 words in
    let sum : 3 + 3 * left ≡ 3 * suc left = omega arith in
    subst (λ m. AreLines m (turns (suc left) i words)) sum
    (AreLines-append 3 (3 * left) (lines_for i (drawn.0 % 16) (drawn.0 / 16)) (turns left (i + 1) drawn.1)
    (lines_for-lines i (drawn.0 % 16) (drawn.0 / 16) (omega arith)) (turns-lines left (i + 1) drawn.1 (omega arith)))

pub soak_lines-lines : (n : ℕ) → AreLines 9003 (soak_lines n)
soak_lines-lines n =
    let one : IsLine (codes "deliver 1") = rw one_is at (deliver_line 1 (omega arith) (omega arith)) in
    let two : IsLine (codes "deliver 2") =
    rw (decimal_digit 2 (omega arith)) at (deliver_line 2 (omega arith) (omega arith)) in
    let rest = turns-lines 3000 1 (first_of n) (omega arith) in
    record { each = (create_line, (one, (two, rest.each))); few = omega (arith, rest.few) }

-- ---- what lines come to

pub events_of : (lines : List (List ℕ)) → AllByRecursion IsLine lines → (events : List Event) × IsScript lines events
events_of [] h = ([], tt)
events_of (line ∷ lines) h = let rest = events_of lines h.1 in (h.0.event ∷ rest.0, (h.0.says, rest.1))

pub lines_have_no_lf : (lines : List (List ℕ)) → AllByRecursion IsLine lines → AllByRecursion HasNoLf lines
lines_have_no_lf [] h = tt
lines_have_no_lf (line ∷ lines) h = (h.0.short.whole, lines_have_no_lf lines h.1)

pub length-ended : (lines : List (List ℕ)) → AllByRecursion IsLine lines
    → length (flat_map ended lines) ≤ 25 * length lines
length-ended [] h = omega arith
length-ended (line ∷ lines) h =
    let rest = length-ended lines h.1 in
    omega (arith, length-append (ended line) (flat_map ended lines), length-append line (10 ∷ []), h.0.short.few, rest)

-- ---- turn by turn

pub turns-more : (out : List ℕ) (left i : ℕ) (words after : Lcg) (word : ℕ) → (word, after) ≡ pcg32 words
    → (out ++ flat_map ended (lines_for i (word % 16) (word / 16))) ++ flat_map ended (turns left (i + 1) after)
    ≡ out ++ flat_map ended (turns (suc left) i words)
unfolding turns
turns-more out left i words after word drawn =
    let here = lines_for i (word % 16) (word / 16) in
    let rest = turns left (i + 1) after in
    let split = flat_map-append ended here rest in
    append_assoc out (flat_map ended here) (flat_map ended rest)
    ∙ (ap (λ l. out ++ l) (sym split)
    ∙ ap (λ (d : ℕ × Lcg). out ++ flat_map ended (lines_for i (d.0 % 16) (d.0 / 16) ++ turns left (i + 1) d.1)) drawn)

pub turns-none : (left i : ℕ) (words : Lcg) → left ≡ 0 → turns left i words ≡ []
unfolding turns
turns-none zero i words h = refl
turns-none (suc left) i words h = absurd (omega (arith, h))
