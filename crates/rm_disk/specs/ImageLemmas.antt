-- Lemmas on images and moments, beside the definitions so that the proofs of the layers above may cite them.
use Rattle.std.proofs.Common.{◌≡◌, ◌⊎◌, ℕ, ◌<◌, ◌≤◌, Bool, true, false, ◌||◌, cond, ◌==◌, List, [], ◌∷◌, ◌++◌, length}
use Rattle.std.proofs.Common.{slice_index, refl, sym, ◌∙◌, ap, subst, inl, inr, arith, length-append}
use Rattle.std.proofs.lemmas.Bool.{leb-false, lt-leb}
use Rattle.std.proofs.lemmas.List.{ext_get_or, get_or-take}
use Rattle.rm_disk.specs.Call.{Call, Wrote, WriteFailed, CutTo, CutFailed, Synced, SyncFailed, Crashed, State, settled}
use Rattle.rm_disk.specs.Call.{is_free, is_written, filled, left_by, after, state, seen_of}
use Rattle.rm_disk.specs.Image.{IsImage, MayLeave, settles, LeftSince, OnlyLeaves}
use Rattle.rm_disk.specs.RangeLemmas.{or_parts, is_written-push, overwritten-outside}
use Rattle.rm_disk.specs.StateLemmas.{IsSound, sound, length-filled, filled-at}

-- a place that isn't free lies before the smallest length, and no range has it
pub not_free : (s : State) (i : ℕ) → is_free s i ≡ false → (i < s.low) × (is_written s.written i ≡ false)
not_free s i e = let parts = or_parts _ (is_written s.written i) e in (leb-false s.low i parts.0, parts.1)

-- and the other way round
is_kept : (s : State) (i : ℕ) → i < s.low → is_written s.written i ≡ false → is_free s i ≡ false
is_kept s i before none = ap (λ (b : Bool). b || is_written s.written i) (lt-leb s.low i before) ∙ none

seen_image : (s : State) → IsSound s → IsImage s s.seen
seen_image s is = record { no_shorter = is.low_seen; no_longer = is.seen_high; same = λ i low free. refl }

synced_image : (s : State) → IsSound s → IsImage s s.synced
synced_image s is = record {
  no_shorter = is.low_synced;
  no_longer = is.synced_high;
  same = λ i low free. let parts = not_free s i free in is.same i parts.0 parts.1;
}

filled_image : (s : State) (byte n : ℕ) → s.low ≤ n → n ≤ s.high → IsImage s (filled s byte n)
filled_image s byte n least most = record {
  no_shorter = omega (arith, length-filled s byte n);
  no_longer = omega (arith, length-filled s byte n);
  same = λ i low free. filled-at s byte n i (omega (arith, length-filled s byte n))
      ∙ ap (λ (b : Bool). cond b byte (slice_index s.seen i)) free;
}

left_image : (choice : ℕ) (s : State) → IsSound s → IsImage s (left_by choice s)
left_image choice s is =
    let span : s.low ≤ s.high = omega (arith, is.low_seen, is.seen_high) in
    elim (choice == 0) as (λ a. IsImage s (cond a s.synced (cond (choice == 1) s.seen (cond (choice == 2)
    (filled s 1 s.high) (filled s 0 s.low))))) [
      | true ↦ synced_image s is
      | false ↦ elim (choice == 1) as (λ b. IsImage s (cond b s.seen (cond (choice == 2) (filled s 1 s.high)
          (filled s 0 s.low)))) [
            | true ↦ seen_image s is
            | false ↦ elim (choice == 2) as (λ b. IsImage s (cond b (filled s 1 s.high) (filled s 0 s.low))) [
              | true ↦ filled_image s 1 s.high span (omega arith)
              | false ↦ filled_image s 0 s.low (omega arith) span
            ]
          ]
    ]

-- as it reads, a disk is one of its images
pub reads_as_image : (past : List Call) → MayLeave past (seen_of past)
reads_as_image past = seen_image (state past) (sound past)

-- each choice of a crash leaves an image
pub crash_leaves_image : (past : List Call) (choice : ℕ) → MayLeave past (left_by choice (state past))
crash_leaves_image past choice = left_image choice (state past) (sound past)

-- where nothing is unsynced, a crash leaves what a read gives
pub settled_only : (bytes image : List ℕ) → IsImage (settled bytes) image → image ≡ bytes
settled_only bytes image is =
    ext_get_or 0 image bytes (omega (arith, is.no_shorter, is.no_longer)) λ i low. is.same i low
    (free_nowhere i (omega (arith, is.no_longer)))
  where
    free_nowhere : (i : ℕ) → i < length bytes → is_free (settled bytes) i ≡ false
    free_nowhere i low = ap (λ (b : Bool). b || false) (lt-leb (length bytes) i low)

-- after a sync a crash leaves what a read gives
pub synced_only : (past : List Call) (image : List ℕ) → MayLeave (Synced ∷ past) image → image ≡ seen_of past
synced_only past image is = settled_only (seen_of past) image is

-- a sync adds no image
pub synced_fewer : (past : List Call) (image : List ℕ) → MayLeave (Synced ∷ past) image → MayLeave past image
synced_fewer past image is = subst (MayLeave past) (sym (synced_only past image is)) (reads_as_image past)

after_more : (call : Call) (s : State) (image : List ℕ) → IsSound s → settles call ≡ false → IsImage s image
    → IsImage (after call s) image
after_more (Wrote at bytes) s image sound adds is = record {
  no_shorter = is.no_shorter;
  no_longer = omega (arith, is.no_longer);
  same = λ i low kept.
      let parts = not_free (after (Wrote at bytes) s) i kept in
      let ranges = is_written-push s.written (at, length bytes) i parts.1 in
      is.same i low (is_kept s i parts.0 ranges.0)
      ∙ sym (overwritten-outside s.seen at bytes i (omega (arith, sound.low_seen, parts.0)) ranges.1);
}
after_more (WriteFailed at count) s image sound adds is = record {
  no_shorter = is.no_shorter;
  no_longer = omega (arith, is.no_longer);
  same = λ i low kept.
      let parts = not_free (after (WriteFailed at count) s) i kept in
      is.same i low (is_kept s i parts.0 (is_written-push s.written (at, count) i parts.1).0);
}
after_more (CutTo len) s image sound adds is = record {
  no_shorter = omega (arith, is.no_shorter);
  no_longer = is.no_longer;
  same = λ i low kept.
      let parts = not_free (after (CutTo len) s) i kept in
      is.same i low (is_kept s i (omega (arith, parts.0)) parts.1)
      ∙ sym (get_or-take len s.seen i 0 (omega (arith, parts.0)));
}
after_more (CutFailed len) s image sound adds is = record {
  no_shorter = omega (arith, is.no_shorter);
  no_longer = is.no_longer;
  same = λ i low kept.
      let parts = not_free (after (CutFailed len) s) i kept in
      is.same i low (is_kept s i (omega (arith, parts.0)) parts.1);
}
after_more SyncFailed s image sound adds is = is
after_more Synced s image sound adds is = absurd cc
after_more (Crashed choice) s image sound adds is = absurd cc

-- after a call that doesn't settle the disk an image is one still
pub image_stays : (past : List Call) (call : Call) (image : List ℕ) → settles call ≡ false → MayLeave past image
    → MayLeave (call ∷ past) image
image_stays past call image adds is = after_more call (state past) image (sound past) adds is

-- what may be left now might have been left at a moment since any
pub left_now : (past : List Call) (t : ℕ) (bytes : List ℕ) → MayLeave past bytes → LeftSince past t bytes
left_now [] t bytes may = may
left_now (call ∷ earlier) t bytes may = inl may

-- since this moment there is no other
pub left_at_last : (past : List Call) (bytes : List ℕ) → LeftSince past (length past) bytes → MayLeave past bytes
left_at_last [] bytes left = left
left_at_last (call ∷ earlier) bytes (inl may) = may
left_at_last (call ∷ earlier) bytes (inr before) = absurd (omega (arith, before.0))

-- a span of calls that begins here
pub only_from : (past : List Call) (P : List ℕ → Type 0) → ((bytes : List ℕ) → MayLeave past bytes → P bytes)
    → OnlyLeaves past past P
only_from past P each = record { later = ([], refl); each = λ bytes left. each bytes (left_at_last past bytes left) }

-- one call more
pub only_more : (old new : List Call) (call : Call) (P : List ℕ → Type 0) → OnlyLeaves old new P
    → ((bytes : List ℕ) → MayLeave (call ∷ new) bytes → P bytes) → OnlyLeaves old (call ∷ new) P
only_more old new call P only each = record {
  later = (call ∷ only.later.0, ap (λ (l : List Call). call ∷ l) only.later.1);
  each = λ bytes left. elim left [ inl may ↦ each bytes may | inr before ↦ only.each bytes before.1 ];
}

-- the same with less said
pub only_weaker : (old new : List Call) (P Q : List ℕ → Type 0) → ((bytes : List ℕ) → P bytes → Q bytes)
    → OnlyLeaves old new P → OnlyLeaves old new Q
only_weaker old new P Q each only = record {
  later = only.later;
  each = λ bytes left. each bytes (only.each bytes left);
}

-- what might have been left since a moment was left in one of two spans
pub left_in_two : (added middle : List Call) (t : ℕ) (bytes : List ℕ) → LeftSince (added ++ middle) t bytes
    → LeftSince (added ++ middle) (length middle) bytes ⊎ LeftSince middle t bytes
left_in_two [] middle t bytes left = inr left
left_in_two (call ∷ added) middle t bytes (inl may) = inl (inl may)
left_in_two (call ∷ added) middle t bytes (inr before) =
    elim (left_in_two added middle t bytes before.1) [
      | inl later ↦ inl (inr (omega (arith, length-append added middle), later))
      | inr earlier ↦ inr earlier
    ]
