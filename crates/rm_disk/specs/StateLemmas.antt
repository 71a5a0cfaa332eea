-- Lemmas on the states that calls lead to.
use Rattle.std.proofs.Common.{◌≡◌, ℕ, zero, suc, ◌<◌, ◌≤◌, false, cond, List, [], ◌∷◌, length, slice_index, refl, sym}
use Rattle.std.proofs.Common.{◌∙◌, ap, inl, inr, arith, length-append, length-take}
use Rattle.std.proofs.lemmas.Bool.{cases_lt}
use Rattle.std.proofs.lemmas.List.{get_or-take, get_or_append_left, get_or-append_right}
use Rattle.rm_disk.specs.Call.{Call, Wrote, WriteFailed, CutTo, CutFailed, Synced, SyncFailed, Crashed, State, settled}
use Rattle.rm_disk.specs.Call.{is_free, is_written, filled, left_by, after, state}
use Rattle.rm_disk.specs.RangeLemmas.{is_written-push, overwritten-outside, overwritten-no_longer}
use Rattle.rm_disk.specs.RangeLemmas.{overwritten-no_shorter}

-- the lengths lie between the smallest and the greatest, and what wasn't written since the last sync is as it was then
pub record IsSound (s : State) : Type 0 where
  pub low_seen : s.low ≤ length s.seen
  pub seen_high : length s.seen ≤ s.high
  pub low_synced : s.low ≤ length s.synced
  pub synced_high : length s.synced ≤ s.high
  pub same : (i : ℕ) → i < s.low → is_written s.written i ≡ false → slice_index s.synced i ≡ slice_index s.seen i

pub sound_settled : (bytes : List ℕ) → IsSound (settled bytes)
sound_settled bytes = record {
  low_seen = omega arith;
  seen_high = omega arith;
  low_synced = omega arith;
  synced_high = omega arith;
  same = λ i low free. refl;
}

sound_after : (call : Call) (s : State) → IsSound s → IsSound (after call s)
sound_after (Wrote at bytes) s sound = record {
  low_seen = omega (arith, sound.low_seen, overwritten-no_shorter s.seen at bytes);
  seen_high = omega (arith, sound.seen_high, overwritten-no_longer s.seen at bytes);
  low_synced = sound.low_synced;
  synced_high = omega (arith, sound.synced_high);
  same = λ i low free.
      let parts = is_written-push s.written (at, length bytes) i free in
      sound.same i low parts.0 ∙ sym (overwritten-outside s.seen at bytes i (omega (arith, sound.low_seen)) parts.1);
}
sound_after (WriteFailed at count) s sound = record {
  low_seen = sound.low_seen;
  seen_high = omega (arith, sound.seen_high);
  low_synced = sound.low_synced;
  synced_high = omega (arith, sound.synced_high);
  same = λ i low free. sound.same i low (is_written-push s.written (at, count) i free).0;
}
sound_after (CutTo len) s sound = record {
  low_seen = omega (arith, sound.low_seen, length-take len s.seen);
  seen_high = omega (arith, sound.seen_high, length-take len s.seen);
  low_synced = omega (arith, sound.low_synced);
  synced_high = sound.synced_high;
  same = λ i low free. sound.same i (omega arith) free ∙ sym (get_or-take len s.seen i 0 (omega arith));
}
sound_after (CutFailed len) s sound = record {
  low_seen = omega (arith, sound.low_seen);
  seen_high = sound.seen_high;
  low_synced = omega (arith, sound.low_synced);
  synced_high = sound.synced_high;
  same = λ i low free. sound.same i (omega arith) free;
}
sound_after Synced s sound = sound_settled s.seen
sound_after SyncFailed s sound = sound
sound_after (Crashed choice) s sound = sound_settled (left_by choice s)

pub sound : (past : List Call) → IsSound (state past)
sound [] = sound_settled []
sound (call ∷ earlier) = sound_after call (state earlier) (sound earlier)

pub length-filled : (s : State) (byte n : ℕ) → length (filled s byte n) ≡ n
length-filled s byte zero = refl
length-filled s byte (suc n) =
    omega (
      arith,
      length-append (filled s byte n) (cond (is_free s n) byte (slice_index s.seen n) ∷ []),
      length-filled s byte n,
    )

-- each place of a filled list
pub filled-at : (s : State) (byte n i : ℕ) → i < n
    → slice_index (filled s byte n) i ≡ cond (is_free s i) byte (slice_index s.seen i)
filled-at s byte zero i low = absurd (omega arith)
filled-at s byte (suc n) i low =
    let rest = cond (is_free s n) byte (slice_index s.seen n) ∷ [] in
    let size = length-filled s byte n in
    elim (cases_lt i n) [
      | inl early ↦ get_or_append_left (filled s byte n) rest 0 i (omega arith) ∙ filled-at s byte n i early
      | inr late ↦
          let last : i ≡ n = omega arith in
          get_or-append_right (filled s byte n) rest n i 0 size late
          ∙ ap (λ (k : ℕ). slice_index rest k) {y = 0} (omega arith)
          ∙ ap (λ (k : ℕ). cond (is_free s k) byte (slice_index s.seen k)) (sym last)
    ]
