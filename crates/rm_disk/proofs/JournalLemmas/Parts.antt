-- Bytes by parts: what a list that stands needs of its bytes, and that a write off these parts leaves it standing in
-- each image.
use Rattle.std.proofs.Common.{◌≡◌, ℕ, zero, suc, ◌+◌, ◌<◌, ◌≤◌, Bool, true, false, not, ◌||◌, cond}
use Rattle.std.proofs.Common.{nat_le, List, [], ◌∷◌, ◌++◌, length, take, drop, slice_index, refl, sym, ◌∙◌, ap}
use Rattle.std.proofs.Common.{inl, inr, arith, append_assoc, length-append, length-take, length-drop}
use Rattle.std.proofs.Common.{take-append-drop}
use Rattle.std.specs.List.{flat_map}
use Rattle.std.specs.Int.{w64, from_be_bytes}
use Rattle.std.proofs.lemmas.Bool.{cases_lt, leb-false, lt-leb}
use Rattle.std.proofs.lemmas.List.{ext_get_or, take_at, get_or-take, get_or-drop, get_or_append_left}
use Rattle.std.proofs.lemmas.List.{get_or-append_right}
use Rattle.std.proofs.lemmas.List.Folds.{list_any-append}
use Rattle.rm_disk.specs.Call.{Call, Wrote, WriteFailed, is_within, State, is_free, is_written, state, seen_of, left_by}
use Rattle.rm_disk.specs.Image.{IsImage, MayLeave}
use Rattle.rm_disk.specs.ImageLemmas.{not_free, crash_leaves_image}
use Rattle.rm_disk.specs.RangeLemmas.{or_parts, within_before, within_behind, overwritten-outside}
use Rattle.rm_disk.specs.StateLemmas.{IsSound, sound, length-filled}
use Rattle.rm_disk.specs.Journal.Entries.{block, is_odd, slot_of, Bank, IsFront, StandsAt}
use Rattle.rm_disk.proofs.JournalLemmas.Places.{gate_within}

-- ---- equal parts

-- a part of two lists that have the same bytes there
pub same_part : (a b : List ℕ) (at count : ℕ) → at + count ≤ length a → at + count ≤ length b
    → ((i : ℕ) → at ≤ i → i < at + count → slice_index a i ≡ slice_index b i)
    → take count (drop at a) ≡ take count (drop at b)
same_part a b at count long_a long_b same =
    let size_a : length (take count (drop at a)) ≡ count =
    omega (arith, length-take count (drop at a), length-drop at a, long_a) in
    let size_b : length (take count (drop at b)) ≡ count =
    omega (arith, length-take count (drop at b), length-drop at b, long_b) in
    ext_get_or 0 _ _ (size_a ∙ sym size_b) λ i low.
    let below : i < count = omega (arith, low, size_a) in
    get_or-take count (drop at a) i 0 below
    ∙ get_or-drop at a i 0
    ∙ same (at + i) (omega arith) (omega (arith, below))
    ∙ sym (get_or-drop at b i 0)
    ∙ sym (get_or-take count (drop at b) i 0 below)

-- ---- what a list that stands needs

-- the place behind the closed gate
abbrev pub last_of : Bank → List (List ℕ) → ℕ
last_of bank entries = bank.start + length (flat_map block entries) + 1

-- what stands before the start that doesn't count isn't in it
clear : (second : Bool) (i : ℕ) → i < 9 → is_within i (slot_of (not second), 8) ≡ false
clear true i low = within_before i 9 8 low
clear false i low = within_before i 17 8 (omega (arith, low))

-- nor is the start that counts
own : (second : Bool) (i : ℕ) → slot_of second ≤ i → i < slot_of second + 8
    → is_within i (slot_of (not second), 8) ≡ false
own true i from below = within_behind i 9 8 (omega (arith, from))
own false i from below = within_before i 17 8 (omega (arith, below))

pub slot_low : (second : Bool) → slot_of second + 8 ≤ 25
slot_low true = omega arith
slot_low false = omega arith

pub slot_high : (second : Bool) → 9 ≤ slot_of second
slot_high true = omega arith
slot_high false = omega arith

-- bytes with the same front, but for the start that doesn't count
abbrev pub SameFront : Bank → List ℕ → List ℕ → Type 0
SameFront bank a b =
    (i : ℕ) → i < 25 → is_within i (slot_of (not bank.second), 8) ≡ false → slice_index a i ≡ slice_index b i

pub front_stays : (bank : Bank) (a b : List ℕ) → IsFront bank a → 25 ≤ length a → 25 ≤ length b → SameFront bank a b
    → IsFront bank b
front_stays bank a b is long_a long_b same =
    let slot = slot_of bank.second in
    record {
      begins =
          sym (same_part a b 0 8 (omega (arith, long_a)) (omega (arith, long_b)) λ i from low. same i
          (omega (arith, low)) (clear bank.second i (omega (arith, low))))
          ∙ is.begins;
      selector = ap is_odd (sym (same 8 (omega arith)
          (clear bank.second 8 (omega arith)))) ∙ is.selector;
      counts =
          ap (λ (l : List ℕ). from_be_bytes w64 l) (sym (same_part a b slot 8
          (omega (arith, slot_low bank.second, long_a)) (omega (arith, slot_low bank.second, long_b))
          λ i from low. same i (omega (arith, slot_low bank.second, low)) (own bank.second i from low)))
          ∙ is.counts;
      behind = is.behind;
    }

-- bytes with the same front and the same list, up to the closed gate
pub stands_stays : (bank : Bank) (entries : List (List ℕ)) (a b : List ℕ) → StandsAt bank entries a
    → last_of bank entries ≤ length b → SameFront bank a b
    → ((i : ℕ) → bank.start ≤ i → i < last_of bank entries → slice_index a i ≡ slice_index b i)
    → StandsAt bank entries b
stands_stays bank entries a b has long front list =
    let start = bank.start in
    let blocks = flat_map block entries in
    let gate = has.ends.gate in
    let count = length blocks + 1 in
    let size : length (blocks ++ gate ∷ []) ≡ count = length-append blocks (gate ∷ []) in
    let within = gate_within bank entries a has in
    let old : take count (drop start a) ≡ blocks ++ gate ∷ [] =
    ap (λ (l : List ℕ). take count l) (has.ends.is ∙ sym (append_assoc blocks (gate ∷ []) has.ends.behind))
    ∙ take_at (blocks ++ gate ∷ []) has.ends.behind count size in
    let same : take count (drop start a) ≡ take count (drop start b) =
    same_part a b start count (omega (arith, within)) (omega (arith, long)) λ i from low. list i from
    (omega (arith, low)) in
    record {
      front = front_stays bank a b has.front (omega (arith, within, has.front.behind))
          (omega (arith, long, has.front.behind)) front;
      ends = record {
        fit = has.ends.fit;
        gate = gate;
        behind = drop count (drop start b);
        closed = has.ends.closed;
        is =
            sym (take-append-drop count (drop start b))
            ∙ ap (λ (l : List ℕ). l ++ drop count (drop start b)) (sym same ∙ old)
            ∙ append_assoc blocks (gate ∷ []) (drop count (drop start b));
      };
    }

-- the front, the blocks, the gate and what follows
pub stands_split : (bank : Bank) (entries : List (List ℕ)) (bytes : List ℕ) (has : StandsAt bank entries bytes)
    → bytes ≡ (take bank.start bytes ++ flat_map block entries) ++ has.ends.gate ∷ has.ends.behind
stands_split bank entries bytes has =
    sym (take-append-drop bank.start bytes)
    ∙ ap (λ (l : List ℕ). take bank.start bytes ++ l) has.ends.is
    ∙ sym (append_assoc (take bank.start bytes) (flat_map block entries) (has.ends.gate ∷ has.ends.behind))

-- ---- bytes exchanged

-- so many bytes, each of one list or of the other
abbrev chosen : (ℕ → Bool) → List ℕ → List ℕ → ℕ → List ℕ
chosen pick xs ys zero = []
chosen pick xs ys (suc n) = chosen pick xs ys n ++ cond (pick n) (slice_index xs n) (slice_index ys n) ∷ []

length-chosen : (pick : ℕ → Bool) (xs ys : List ℕ) (n : ℕ) → length (chosen pick xs ys n) ≡ n
length-chosen pick xs ys zero = refl
length-chosen pick xs ys (suc n) =
    omega (
      arith,
      length-append (chosen pick xs ys n) (cond (pick n) (slice_index xs n) (slice_index ys n) ∷ []),
      length-chosen pick xs ys n,
    )

chosen-at : (pick : ℕ → Bool) (xs ys : List ℕ) (n i : ℕ) → i < n
    → slice_index (chosen pick xs ys n) i ≡ cond (pick i) (slice_index xs i) (slice_index ys i)
chosen-at pick xs ys zero i low = absurd (omega (arith, low))
chosen-at pick xs ys (suc n) i low =
    let rest = cond (pick n) (slice_index xs n) (slice_index ys n) ∷ [] in
    let size = length-chosen pick xs ys n in
    elim (cases_lt i n) [
      | inl early ↦ get_or_append_left (chosen pick xs ys n) rest 0 i (omega (arith, size, early))
          ∙ chosen-at pick xs ys n i early
      | inr late ↦
          let last : i ≡ n = omega (arith, low, late) in
          get_or-append_right (chosen pick xs ys n) rest n i 0 size late
          ∙ ap (λ (k : ℕ). slice_index rest k) {y = 0} (omega (arith, last))
          ∙ ap (λ (k : ℕ). cond (pick k) (slice_index xs k) (slice_index ys k)) (sym last)
    ]

-- one range more doesn't make a place outside of it free
still_kept : (s t : State) (at count i : ℕ) → t.low ≡ s.low → t.written ≡ s.written ++ (at, count) ∷ []
    → is_within i (at, count) ≡ false → is_free s i ≡ false → is_free t i ≡ false
still_kept s t at count i low written outside kept =
    let parts = not_free s i kept in
    ap (λ (n : ℕ). nat_le n i || is_written t.written i) low
    ∙ ap (λ (r : List (ℕ × ℕ)). nat_le s.low i || is_written r i) written
    ∙ ap (λ (b : Bool). nat_le s.low i || b) (list_any-append (is_within i) s.written ((at, count) ∷ []))
    ∙ ap (λ (b : Bool). nat_le s.low i || (is_written s.written i || (b || false))) outside
    ∙ ap (λ (b : Bool). b || (is_written s.written i || false)) (lt-leb s.low i parts.0)
    ∙ ap (λ (b : Bool). b || false) parts.1

-- A state with one range more that was written, or tried to: the others of its bytes read as before.
record HasRange (at count : ℕ) (s t : State) : Type 0 where
  low : t.low ≡ s.low
  written : t.written ≡ s.written ++ (at, count) ∷ []
  seen : (i : ℕ) → i < s.low → is_within i (at, count) ≡ false → slice_index t.seen i ≡ slice_index s.seen i

-- An image of the later state with the bytes of the range as they read before it, and no longer, is one of the earlier.
exchanged : (s t : State) (at count : ℕ) → IsSound s → HasRange at count s t → (bytes : List ℕ) → IsImage t bytes
    → IsImage s (chosen (λ i. is_within i (at, count) || nat_le (length bytes) i) s.seen bytes (length s.seen))
exchanged s t at count sound has bytes image =
    let pick : ℕ → Bool = λ i. is_within i (at, count) || nat_le (length bytes) i in
    let size = length-chosen pick s.seen bytes (length s.seen) in
    record {
      no_shorter = omega (arith, size, sound.low_seen);
      no_longer = omega (arith, size, sound.seen_high);
      same = λ i low kept. chosen-at pick s.seen bytes (length s.seen) i (omega (arith, size, low))
          ∙ (elim (pick i) as (λ b. pick i ≡ b → cond b (slice_index s.seen i) (slice_index bytes i)
          ≡ slice_index s.seen i) [
            | true ↦ λ e. refl
            | false ↦ λ e.
                let parts = or_parts (is_within i (at, count)) (nat_le (length bytes) i) e in
                let free = still_kept s t at count i has.low has.written parts.0 kept in
                image.same i (leb-false (length bytes) i parts.1) free
                ∙ has.seen i (not_free s i kept).0 parts.0
          ]) refl;
    }

-- ---- a write off the parts

-- A range has nothing of the front, but maybe of the start that doesn't count, and nothing of the list.
pub record IsOff (bank : Bank) (last at count : ℕ) : Type 0 where
  pub front : (i : ℕ) → i < 25 → is_within i (slot_of (not bank.second), 8) ≡ false
      → is_within i (at, count) ≡ false
  pub list : (i : ℕ) → bank.start ≤ i → i < last → is_within i (at, count) ≡ false

-- a range behind the list
pub behind_off : (bank : Bank) (last at count : ℕ) → 25 ≤ bank.start → bank.start < last → last ≤ at
    → IsOff bank last at count
behind_off bank last at count long some from = record {
  front = λ i low other. within_before i at count (omega (arith, low, long, some, from));
  list = λ i above below. within_before i at count (omega (arith, below, from));
}

-- between the front and the list
pub between_off : (bank : Bank) (last at count : ℕ) → 25 ≤ at → at + count ≤ bank.start → IsOff bank last at count
between_off bank last at count from room = record {
  front = λ i low other. within_before i at count (omega (arith, low, from));
  list = λ i above below. within_behind i at count (omega (arith, above, room));
}

-- the start that doesn't count
pub slot_off : (bank : Bank) (last : ℕ) → 25 ≤ bank.start → IsOff bank last (slot_of (not bank.second)) 8
slot_off bank last long = record {
  front = λ i low other. other;
  list = λ i above below. within_behind i (slot_of (not bank.second)) 8
      (omega (arith, slot_low (not bank.second), long, above));
}

-- the list and its gate stand in the smallest image
pub low_enough : (past : List Call) (bank : Bank) (entries : List (List ℕ))
    → ((bytes : List ℕ) → MayLeave past bytes → StandsAt bank entries bytes) → last_of bank entries ≤ (state past).low
low_enough past bank entries images =
    let least = images (left_by 3 (state past)) (crash_leaves_image past 3) in
    omega (
      arith,
      length-filled (state past) 0 (state past).low,
      gate_within bank entries (left_by 3 (state past)) least,
    )

off_stays : (past : List Call) (t : State) (bank : Bank) (entries : List (List ℕ))
    → ((bytes : List ℕ) → MayLeave past bytes → StandsAt bank entries bytes) → (at count : ℕ)
    → IsOff bank (last_of bank entries) at count → HasRange at count (state past) t → (bytes : List ℕ)
    → IsImage t bytes → StandsAt bank entries bytes
off_stays past t bank entries images at count off has bytes image =
    let s = state past in
    let pick : ℕ → Bool = λ i. is_within i (at, count) || nat_le (length bytes) i in
    let old = chosen pick s.seen bytes (length s.seen) in
    let stands = images old (exchanged s t at count (sound past) has bytes image) in
    let low = low_enough past bank entries images in
    let long : last_of bank entries ≤ length bytes = omega (arith, low, image.no_shorter, has.low) in
    let seen : last_of bank entries ≤ length s.seen = omega (arith, low, (sound past).low_seen) in
    let same : (i : ℕ) → i < last_of bank entries → is_within i (at, count) ≡ false
    → slice_index old i ≡ slice_index bytes i = λ i below outside.
    chosen-at pick s.seen bytes (length s.seen) i (omega (arith, below, seen))
    ∙ ap (λ (b : Bool). cond (b || nat_le (length bytes) i) (slice_index s.seen i) (slice_index bytes i)) outside
    ∙ ap (λ (b : Bool). cond b (slice_index s.seen i) (slice_index bytes i))
    (lt-leb (length bytes) i (omega (arith, below, long))) in
    stands_stays bank entries old bytes stands long
    (λ i below other. same i (omega (arith, below, stands.front.behind)) (off.front i below other))
    (λ i above below. same i below (off.list i above below))

-- after a write off the parts each image stands for the list still
pub wrote_off : (past : List Call) (bank : Bank) (entries : List (List ℕ))
    → ((bytes : List ℕ) → MayLeave past bytes → StandsAt bank entries bytes) → (at : ℕ) (body : List ℕ)
    → IsOff bank (last_of bank entries) at (length body) → (bytes : List ℕ) → MayLeave (Wrote at body ∷ past) bytes
    → StandsAt bank entries bytes
wrote_off past bank entries images at body off bytes image =
    off_stays past (state (Wrote at body ∷ past)) bank entries images at (length body) off (record {
      low = refl;
      written = refl;
      seen = λ i low outside. overwritten-outside (seen_of past) at body i
          (omega (arith, low, (sound past).low_seen)) outside;
    }) bytes image

-- and so it does where the write failed
pub failed_off : (past : List Call) (bank : Bank) (entries : List (List ℕ))
    → ((bytes : List ℕ) → MayLeave past bytes → StandsAt bank entries bytes) → (at count : ℕ)
    → IsOff bank (last_of bank entries) at count → (bytes : List ℕ) → MayLeave (WriteFailed at count ∷ past) bytes
    → StandsAt bank entries bytes
failed_off past bank entries images at count off bytes image =
    off_stays past (state (WriteFailed at count ∷ past)) bank entries images at count off (record {
      low = refl;
      written = refl;
      seen = λ i low outside. refl;
    }) bytes image
