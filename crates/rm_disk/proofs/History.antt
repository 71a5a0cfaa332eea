-- What a disk in memory keeps, note by note.
use Rattle.std.proofs.Common.{◌≡◌, ℕ, ◌+◌, ◌-◌, ◌<◌, ◌≤◌, Bool, true, false, cond, ◌||◌, replicate, List, [], ◌∷◌, ◌++◌}
use Rattle.std.proofs.Common.{length, take, drop, slice_index, sum_by, refl, inl, inr, length-take, length-append, sym}
use Rattle.std.proofs.Common.{◌∙◌, ap, subst, arith}
use Rattle.std.proofs.lemmas.List.{append-nil, take_all, ext_get_or, get_or-take, get_or-drop, get_or_append_left}
use Rattle.std.proofs.lemmas.List.{get_or-append_right, get_or-replicate, length-replicate}
use Rattle.std.proofs.lemmas.Bool.{cases_lt, lt-leb, le-leb}
use Rattle.rm_disk.specs.Call.{Wrote, State, after, state, is_free, is_written, filled}
use Rattle.rm_disk.specs.Mem.{call_of, used_by, calls_of, AgreeOutside}
use Rattle.rm_disk.specs.declared.note.Note.{Note}
use Rattle.rm_disk.specs.declared.note.Note.TheVariants.{Write}
use Rattle.rm_disk.proofs.Notes.{calls_of-push, used-push}
use Rattle.rm_disk.specs.StateLemmas.{IsSound, sound, length-filled, filled-at}

-- the state that is kept is one that calls lead to
pub kept_sound : (notes : List Note) (wrote : List ℕ) (s : State) → state (calls_of notes wrote) ≡ s → IsSound s
kept_sound notes wrote s e = subst IsSound e (sound (calls_of notes wrote))

-- a note whose call wrote nothing
pub calls_of-note : (notes : List Note) (bytes : List ℕ) (note : Note) → sum_by used_by notes ≡ length bytes
    → calls_of (notes ++ note ∷ []) bytes ≡ call_of note [] ∷ calls_of notes bytes
calls_of-note notes bytes note used = ap (λ (b : List ℕ). calls_of (notes ++ note ∷ []) b) (sym (append-nil bytes))
    ∙ calls_of-push notes bytes note [] used

-- the state after it
pub state-note : (notes : List Note) (bytes : List ℕ) (note : Note) (s : State) → sum_by used_by notes ≡ length bytes
    → state (calls_of notes bytes) ≡ s → state (calls_of (notes ++ note ∷ []) bytes) ≡ after (call_of note []) s
state-note notes bytes note s used is = ap state (calls_of-note notes bytes note used) ∙ ap (after (call_of note [])) is

-- a note whose call wrote these bytes
pub calls_of-write : (notes : List Note) (wrote : List ℕ) (at : ℕ) (bytes : List ℕ)
    → sum_by used_by notes ≡ length wrote → calls_of (notes ++ Write at (length bytes) ∷ []) (wrote ++ bytes)
    ≡ Wrote at bytes ∷ calls_of notes wrote
calls_of-write notes wrote at bytes used =
    calls_of-push notes wrote (Write at (length bytes)) bytes used
    ∙ ap (λ (b : List ℕ). Wrote at b ∷ calls_of notes wrote) (take_all (length bytes) bytes (omega arith))

-- the state after it
pub state-write : (notes : List Note) (wrote : List ℕ) (at : ℕ) (bytes : List ℕ) (s : State)
    → sum_by used_by notes ≡ length wrote → state (calls_of notes wrote) ≡ s
    → state (calls_of (notes ++ Write at (length bytes) ∷ []) (wrote ++ bytes)) ≡ after (Wrote at bytes) s
state-write notes wrote at bytes s used is = ap state (calls_of-write notes wrote at bytes used)
    ∙ ap (after (Wrote at bytes)) is

-- and no more bytes
pub used-note : (notes : List Note) (bytes : List ℕ) (note : Note) → sum_by used_by notes ≡ length bytes
    → used_by note ≡ 0 → sum_by used_by (notes ++ note ∷ []) ≡ length bytes
used-note notes bytes note used none = used-push notes bytes note [] used none ∙ ap length (append-nil bytes)

-- two lists that agree before a place but for some ranges: with the ranges and the end of the second the first is the
-- second
pub patched : (file synced target : List ℕ) (ranges : List (ℕ × ℕ)) (low : ℕ) → low ≤ length file
    → low ≤ length synced → AgreeOutside ranges low synced file → length target ≡ length file
    → ((i : ℕ) → i < length file → slice_index target i ≡ cond (is_written ranges i) (slice_index file i)
    (slice_index (take low synced ++ drop low file) i)) → target ≡ file
patched file synced target ranges low in_file in_synced alike size each =
    ext_get_or 0 target file size λ i inside. at i (omega arith) (is_written ranges i) refl
  where
    at : (i : ℕ) → i < length file → (b : Bool) → is_written ranges i ≡ b → slice_index target i ≡ slice_index file i
    at i inside true e = each i inside ∙ ap (λ (b : Bool). cond b (slice_index file i) (slice_index (take low synced
        ++ drop low file) i)) e
    at i inside false e =
        each i inside
        ∙ ap (λ (b : Bool). cond b (slice_index file i) (slice_index (take low synced ++ drop low file) i)) e
        ∙ elim (cases_lt i low) [
          | inl before ↦
              get_or_append_left (take low synced) (drop low file) 0 i (omega (arith, length-take low synced))
              ∙ get_or-take low synced i 0 before ∙ alike i before e
          | inr behind ↦
              get_or-append_right (take low synced) (drop low file) low i 0 (omega (
                arith,
                length-take low synced,
              )) behind
              ∙ get_or-drop low file (i - low) 0
              ∙ ap (λ (n : ℕ). slice_index file n) {y = i} (omega arith)
        ]

-- The first places, with this byte in the ranges, and then this byte up to a length.
pub filled_is : (s : State) (byte len count : ℕ) (target : List ℕ) → s.low + count ≡ len → length target ≡ s.low
    → ((i : ℕ) → i < s.low → slice_index target i ≡ cond (is_written s.written i) byte (slice_index s.seen i))
    → take len target ++ replicate count byte ≡ filled s byte len
filled_is s byte len count target fits size each =
    ext_get_or 0 _ (filled s byte len) (omega (arith, total, length-filled s byte len)) λ i inside. at i
    (omega (arith, total)) ∙ sym (filled-at s byte len i (omega (arith, total)))
  where
    all : take len target ≡ target
    all = take_all len target (omega (arith, size))

    total : length (take len target ++ replicate count byte) ≡ len
    total = omega (
      arith,
      length-append (take len target) (replicate count byte),
      length-replicate count byte,
      ap length all,
      size,
    )

    at : (i : ℕ) → i < len → slice_index (take len target ++ replicate count byte) i ≡ cond (is_free s i) byte
        (slice_index s.seen i)
    at i inside = elim (cases_lt i s.low) [
      | inl before ↦
          get_or_append_left (take len target) (replicate count byte) 0 i (omega (arith, ap length all, size))
          ∙ ap (λ (l : List ℕ). slice_index l i) all
          ∙ each i before
          ∙ ap (λ (b : Bool). cond (b || is_written s.written i) byte (slice_index s.seen i))
          (sym (lt-leb s.low i before))
      | inr behind ↦
          get_or-append_right (take len target) (replicate count byte) s.low i 0 (ap length all ∙ size) behind
          ∙ get_or-replicate count (i - s.low) byte 0 (omega arith)
          ∙ ap (λ (b : Bool). cond (b || is_written s.written i) byte (slice_index s.seen i))
          (sym (le-leb s.low i behind))
    ]
