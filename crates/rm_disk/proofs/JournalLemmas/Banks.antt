-- What a crash leaves while a fresh list is written. It is put where the bytes mean nothing, and so is its start: the
-- list that stands is read as before. Once both are synced, the selector decides.
use Rattle.std.proofs.Common.{◌≡◌, ◌⊎◌, ℕ, ◌+◌, ◌-◌, ◌^◌, ◌<◌, ◌≤◌, Bool, true, false, not, List, [], ◌∷◌}
use Rattle.std.proofs.Common.{◌++◌, length, take, drop, slice_index, refl, sym, ◌∙◌, ap, subst, inl, inr, arith}
use Rattle.std.proofs.Common.{append_assoc, length-append, length-drop, length-take, max, take-append-drop}
use Rattle.std.specs.List.{flat_map}
use Rattle.std.specs.Int.{w64, to_be_bytes, from_be_bytes}
use Rattle.std.proofs.Math.Seq.{drop-cons, get_or-append_seam}
use Rattle.std.proofs.lemmas.Bool.{false≢true}
use Rattle.std.proofs.lemmas.Nat.{from_be_bytes-to_be_bytes_8}
use Rattle.std.proofs.lemmas.List.{take_at, drop_at, drop-drop}
use Rattle.rm_disk.specs.Call.{Call, Wrote, WriteFailed, Synced, SyncFailed, overwritten, state, seen_of, settled}
use Rattle.rm_disk.specs.Image.{MayLeave, OnlyLeaves}
use Rattle.rm_disk.specs.ImageLemmas.{reads_as_image, synced_only, synced_fewer, only_from, only_more}
use Rattle.rm_disk.specs.RangeLemmas.{within_behind, overwritten-outside}
use Rattle.rm_disk.specs.Journal.Entries.{head, block, list_of, AllFit, EndsBlocks, Bank, is_odd, slot_of, StandsAt}
use Rattle.rm_disk.specs.Journal.Entries.{StandsForOneOf}
use Rattle.rm_disk.specs.Journal.Journal.{selector_of, with_list}
use Rattle.rm_disk.specs.Journal.Scan.{WritesList}
use Rattle.rm_disk.proofs.JournalLemmas.Crash.{torn_gate, gate_wrote, gate_failed}
use Rattle.rm_disk.proofs.JournalLemmas.Parts.{same_part, slot_low, slot_high, last_of, IsOff, slot_off, wrote_off}
use Rattle.rm_disk.proofs.JournalLemmas.Parts.{failed_off}
use Rattle.rm_disk.proofs.JournalLemmas.Places.{gate_within}

length-overwritten : (old : List ℕ) (at : ℕ) (bytes : List ℕ) → at ≤ length old
    → length (overwritten old at bytes) ≡ max (length old) (at + length bytes)
length-overwritten old at bytes within =
    omega (
      arith,
      length-append (take at old ++ bytes) (drop (at + length bytes) old),
      length-append (take at old) bytes,
      length-take at old,
      length-drop (at + length bytes) old,
    )

-- what was written stands there
written_there : (old : List ℕ) (at : ℕ) (bytes : List ℕ) → at ≤ length old
    → take (length bytes) (drop at (overwritten old at bytes)) ≡ bytes
written_there old at bytes within =
    let behind = drop (at + length bytes) old in
    let size : length (take at old) ≡ at = omega (arith, length-take at old, within) in
    ap (λ (l : List ℕ). take (length bytes) (drop at l)) (append_assoc (take at old) bytes behind)
    ∙ ap (λ (l : List ℕ). take (length bytes) l) (drop_at (take at old) (bytes ++ behind) at size)
    ∙ take_at bytes behind (length bytes) refl

-- bytes with the selector exchanged
abbrev turned_to : List ℕ → ℕ → List ℕ
turned_to bytes y = take 8 bytes ++ y ∷ drop 9 bytes

turned_back : (bytes : List ℕ) → 25 ≤ length bytes → bytes ≡ turned_to bytes (slice_index bytes 8)
turned_back bytes long = sym (take-append-drop 8 bytes)
    ∙ ap (λ (l : List ℕ). take 8 bytes ++ l) (drop-cons bytes 8 0 (omega (arith, long)))

length-first : (bytes : List ℕ) → 25 ≤ length bytes → length (take 8 bytes) ≡ 8
length-first bytes long = omega (arith, length-take 8 bytes, long)

-- what stands behind the selector stays
behind_selector : (bytes : List ℕ) (y k : ℕ) → 25 ≤ length bytes → 9 ≤ k → drop k (turned_to bytes y) ≡ drop k bytes
behind_selector bytes y k long from =
    let whole : 9 + (k - 9) ≡ k = omega (arith, from) in
    let nine : length (take 8 bytes ++ y ∷ []) ≡ 9 =
    omega (arith, length-append (take 8 bytes) (y ∷ []), length-first bytes long) in
    let first : drop 9 (turned_to bytes y) ≡ drop 9 bytes =
    ap (λ (l : List ℕ). drop 9 l) (sym (append_assoc (take 8 bytes) (y ∷ []) (drop 9 bytes)))
    ∙ drop_at (take 8 bytes ++ y ∷ []) (drop 9 bytes) 9 nine in
    ap (λ (n : ℕ). drop n (turned_to bytes y)) (sym whole)
    ∙ sym (drop-drop (k - 9) 9 (turned_to bytes y))
    ∙ ap (λ (l : List ℕ). drop (k - 9) l) first
    ∙ drop-drop (k - 9) 9 bytes
    ∙ ap (λ (n : ℕ). drop n bytes) whole

-- Where the bytes have the start of a bank in its slot and its list from there on, a selector for it has it count.
turned_stands : (bank : Bank) (entries : List (List ℕ)) (bytes : List ℕ) (y : ℕ) → 25 ≤ length bytes
    → take 8 bytes ≡ head → is_odd y ≡ bank.second
    → from_be_bytes w64 (take 8 (drop (slot_of bank.second) bytes)) ≡ bank.start → 25 ≤ bank.start
    → EndsBlocks entries (drop bank.start bytes) → StandsAt bank entries (turned_to bytes y)
turned_stands bank entries bytes y long begins odd counts behind ends =
    let eight = length-first bytes long in
    record {
      front = record {
        begins = take_at (take 8 bytes) (y ∷ drop 9 bytes) 8 eight ∙ begins;
        selector =
            ap (λ (k : ℕ). is_odd (slice_index (turned_to bytes y) k)) (sym eight)
            ∙ ap is_odd (get_or-append_seam (take 8 bytes) y (drop 9 bytes) 0)
            ∙ odd;
        counts =
            ap (λ (l : List ℕ). from_be_bytes w64 (take 8 l))
            (behind_selector bytes y (slot_of bank.second) long (slot_high bank.second))
            ∙ counts;
        behind = behind;
      };
      ends = subst (EndsBlocks entries) (sym (behind_selector bytes y bank.start long (omega (arith, behind)))) ends;
    }

-- one of two
one_or_not : (a b : Bool) → (a ≡ b) ⊎ (a ≡ not b)
one_or_not true true = inl refl
one_or_not true false = inr refl
one_or_not false true = inr refl
one_or_not false false = inl refl

odd_selector : (second : Bool) → is_odd (selector_of second) ≡ second
odd_selector true = refl
odd_selector false = refl

-- where a fresh list may be put while another stands
pub record HasRoom (past : List Call) (bank : Bank) (entries fresh : List (List ℕ)) (next : Bank) : Type 0 where
  pub images : (bytes : List ℕ) → MayLeave past bytes → StandsAt bank entries bytes
  pub fit : AllFit fresh
  pub turns : next.second ≡ not bank.second
  pub behind : 25 ≤ next.start
  pub within : next.start ≤ length (seen_of past)
  pub small : next.start < 2 ^ 64
  pub off : IsOff bank (last_of bank entries) next.start (length (list_of fresh))

module _ (past : List Call) (bank : Bank) (entries fresh : List (List ℕ)) (next : Bank)
    (room : HasRoom past bank entries fresh next) where
  list : List ℕ
  list = list_of fresh

  slot : ℕ
  slot = slot_of next.second

  number : List ℕ
  number = to_be_bytes w64 next.start

  reads : StandsAt bank entries (seen_of past)
  reads = room.images (seen_of past) (reads_as_image past)

  put_off : IsOff bank (last_of bank entries) next.start (length list)
  unfolding list
  put_off = room.off

  number_off : IsOff bank (last_of bank entries) slot 8
  unfolding slot
  number_off = subst (λ (b : Bool). IsOff bank (last_of bank entries) (slot_of b) 8) (sym room.turns)
      (slot_off bank (last_of bank entries) reads.front.behind)

  -- while both are written, each image stands for the old entries
  put : (bytes : List ℕ) → MayLeave (Wrote next.start list ∷ past) bytes → StandsAt bank entries bytes
  put = wrote_off past bank entries room.images next.start list put_off

  put_failed : (bytes : List ℕ) → MayLeave (WriteFailed next.start (length list) ∷ past) bytes
      → StandsAt bank entries bytes
  put_failed = failed_off past bank entries room.images next.start (length list) put_off

  -- the calls so far
  both : List Call
  both = Wrote slot number ∷ Wrote next.start list ∷ past

  laid_off : (bytes : List ℕ) → MayLeave both bytes → StandsAt bank entries bytes
  unfolding both number
  laid_off = wrote_off (Wrote next.start list ∷ past) bank entries put slot number number_off

  number_failed : (bytes : List ℕ) → MayLeave (WriteFailed slot 8 ∷ Wrote next.start list ∷ past) bytes
      → StandsAt bank entries bytes
  number_failed = failed_off (Wrote next.start list ∷ past) bank entries put slot 8 number_off

  -- the bytes then
  bytes : List ℕ
  bytes = seen_of both

  old : StandsAt bank entries bytes
  unfolding bytes
  old = laid_off (seen_of both) (reads_as_image both)

  long : 25 ≤ length bytes
  long = omega (arith, gate_within bank entries bytes old, old.front.behind)

  first : List ℕ
  first = overwritten (seen_of past) next.start list

  first_long : length (seen_of past) ≤ length first
  unfolding first
  first_long = omega (arith, length-overwritten (seen_of past) next.start list room.within)

  list_within : next.start + length list ≤ length first
  unfolding first
  list_within = omega (arith, length-overwritten (seen_of past) next.start list room.within)

  slot_within : slot + 8 ≤ length first
  unfolding slot
  slot_within = omega (
    arith,
    first_long,
    slot_low next.second,
    gate_within bank entries (seen_of past) reads,
    reads.front.behind,
  )

  bytes_long : length first ≤ length bytes
  unfolding bytes both number first
  bytes_long = omega (arith, length-overwritten first slot (to_be_bytes w64 next.start) (omega (arith, slot_within)))

  number_there : take 8 (drop slot bytes) ≡ number
  unfolding bytes both number first
  number_there = written_there first slot (to_be_bytes w64 next.start) (omega (arith, slot_within))

  slot_under : slot + 8 ≤ 25
  unfolding slot
  slot_under = slot_low next.second

  list_there : take (length list) (drop next.start bytes) ≡ list
  unfolding bytes both number first
  list_there =
      sym (same_part first bytes next.start (length list) list_within (omega (arith, list_within, bytes_long))
      λ i from low. sym (overwritten-outside first slot (to_be_bytes w64 next.start) i
      (omega (arith, list_within, low)) (within_behind i slot 8 (omega (arith, from, room.behind, slot_under)))))
      ∙ written_there (seen_of past) next.start list room.within

  ends_fresh : EndsBlocks fresh (drop next.start bytes)
  unfolding list
  ends_fresh = record {
    fit = room.fit;
    gate = 0;
    behind = drop (length list) (drop next.start bytes);
    closed = λ e. omega (arith, e);
    is =
        sym (take-append-drop (length list) (drop next.start bytes))
        ∙ ap (λ (l : List ℕ). l ++ drop (length list) (drop next.start bytes)) list_there
        ∙ append_assoc (flat_map block fresh) (0 ∷ []) (drop (length list) (drop next.start bytes));
  }

  -- a selector for the next bank has the fresh list count
  turned_fresh : (y : ℕ) → is_odd y ≡ next.second → StandsAt next fresh (turned_to bytes y)
  unfolding slot number
  turned_fresh y odd = turned_stands next fresh bytes y long old.front.begins odd
      (ap (λ (l : List ℕ). from_be_bytes w64 l) number_there ∙ from_be_bytes-to_be_bytes_8 next.start room.small)
      room.behind ends_fresh

  P : List ℕ → Type 0
  P = StandsForOneOf bank entries next fresh

  -- whatever byte the selector is, it is the old list or the fresh one
  either : (y : ℕ) → P (turned_to bytes y)
  unfolding P
  either y = elim (one_or_not (is_odd y) bank.second) [
    | inl same ↦ inl (turned_stands bank entries bytes y long old.front.begins same old.front.counts
        old.front.behind old.ends)
    | inr other ↦ inr (turned_fresh y (other ∙ sym room.turns))
  ]

  there : state (Synced ∷ both) ≡ settled (turned_to bytes (slice_index bytes 8))
  unfolding bytes
  there = ap settled (turned_back bytes long)

  eight : length (take 8 bytes) ≡ 8
  eight = length-first bytes long

  torn_selector : (image : List ℕ) → MayLeave (Wrote 8 (selector_of next.second ∷ []) ∷ Synced ∷ both) image
      → P image
  torn_selector image may =
      subst P (sym (torn_gate (take 8 bytes) (slice_index bytes 8) (drop 9 bytes) _
      (gate_wrote (take 8 bytes) (slice_index bytes 8) (drop 9 bytes) (Synced ∷ both) there
      (selector_of next.second)) image (subst (λ (k : ℕ). MayLeave (Wrote k (selector_of next.second
      ∷ []) ∷ Synced ∷ both) image) (sym eight) may))) (either _)

  failed_selector : (image : List ℕ) → MayLeave (WriteFailed 8 1 ∷ Synced ∷ both) image → P image
  failed_selector image may =
      subst P (sym (torn_gate (take 8 bytes) (slice_index bytes 8) (drop 9 bytes) _
      (gate_failed (take 8 bytes) (slice_index bytes 8) (drop 9 bytes) (Synced ∷ both) there) image
      (subst (λ (k : ℕ). MayLeave (WriteFailed k 1 ∷ Synced ∷ both) image) (sym eight) may))) (either _)

  -- once all is synced, the fresh list is there
  all_there : (image : List ℕ) → MayLeave (Synced ∷ Wrote 8 (selector_of next.second ∷ []) ∷ Synced ∷ both) image
      → StandsAt next fresh image
  unfolding bytes
  all_there image may =
      subst (StandsAt next fresh)
      (sym (synced_only (Wrote 8 (selector_of next.second ∷ []) ∷ Synced ∷ both) image may
      ∙ append_assoc (take 8 bytes) (selector_of next.second ∷ []) (drop 9 bytes)))
      (turned_fresh (selector_of next.second) (odd_selector next.second))

  start : OnlyLeaves past past P
  unfolding P
  start = only_from past P λ image may. inl (room.images image may)

  first_failed : OnlyLeaves past (WriteFailed next.start (length list) ∷ past) P
  unfolding P
  first_failed = only_more past past _ P start λ image may. inl (put_failed image may)

  first_done : OnlyLeaves past (Wrote next.start list ∷ past) P
  unfolding P
  first_done = only_more past past _ P start λ image may. inl (put image may)

  second_failed : OnlyLeaves past (WriteFailed slot 8 ∷ Wrote next.start list ∷ past) P
  unfolding P
  second_failed = only_more past _ _ P first_done λ image may. inl (number_failed image may)

  second_done : OnlyLeaves past both P
  unfolding P both
  second_done = only_more past _ _ P first_done λ image may. inl (laid_off image may)

  unsynced : OnlyLeaves past (SyncFailed ∷ both) P
  unfolding P
  unsynced = only_more past both SyncFailed P second_done λ image may. inl (laid_off image may)

  synced : OnlyLeaves past (Synced ∷ both) P
  unfolding P
  synced = only_more past both Synced P second_done λ image may. inl (laid_off image (synced_fewer both image may))

  third_failed : OnlyLeaves past (WriteFailed 8 1 ∷ Synced ∷ both) P
  third_failed = only_more past _ _ P synced failed_selector

  third_done : OnlyLeaves past (Wrote 8 (selector_of next.second ∷ []) ∷ Synced ∷ both) P
  third_done = only_more past _ _ P synced torn_selector

  third_unsynced : OnlyLeaves past (SyncFailed ∷ Wrote 8 (selector_of next.second ∷ []) ∷ Synced ∷ both) P
  third_unsynced = only_more past _ SyncFailed P third_done torn_selector

  all_done : OnlyLeaves past (Synced ∷ Wrote 8 (selector_of next.second ∷ []) ∷ Synced ∷ both) P
  unfolding P
  all_done = only_more past _ Synced P third_done λ image may. inr (all_there image may)

  moments : (new : List Call) (all_well : Bool) → WritesList next (list_of fresh) past new all_well
      → OnlyLeaves past new P
  unfolding list slot number both
  moments new true calls = subst (λ l. OnlyLeaves past l P) (sym calls) all_done
  moments new false (inl calls) = subst (λ l. OnlyLeaves past l P) (sym calls) first_failed
  moments new false (inr (inl calls)) = subst (λ l. OnlyLeaves past l P) (sym calls) second_failed
  moments new false (inr (inr (inl calls))) = subst (λ l. OnlyLeaves past l P) (sym calls) unsynced
  moments new false (inr (inr (inr (inl calls)))) = subst (λ l. OnlyLeaves past l P) (sym calls) third_failed
  moments new false (inr (inr (inr (inr calls)))) = subst (λ l. OnlyLeaves past l P) (sym calls) third_unsynced

  done : (new : List Call) → WritesList next (list_of fresh) past new true → (image : List ℕ) → MayLeave new image
      → StandsAt next fresh image
  unfolding list slot number both
  done new calls image may = all_there image (subst (λ l. MayLeave l image) calls may)

-- A crash at any moment of the five calls, or of those up to the first that failed, leaves the old list or the fresh.
pub list_moments : (past : List Call) (bank : Bank) (entries fresh : List (List ℕ)) (next : Bank)
    → HasRoom past bank entries fresh next → (new : List Call) (all_well : Bool)
    → WritesList next (list_of fresh) past new all_well
    → OnlyLeaves past new (StandsForOneOf bank entries next fresh)
unfolding P
list_moments past bank entries fresh next room new all_well calls =
    moments past bank entries fresh next room new all_well calls

-- After all five each image stands for the fresh list.
pub list_done : (past : List Call) (bank : Bank) (entries fresh : List (List ℕ)) (next : Bank)
    → HasRoom past bank entries fresh next → (new : List Call) (all_well : Bool) → all_well ≡ true
    → WritesList next (list_of fresh) past new all_well → (image : List ℕ) → MayLeave new image
    → StandsAt next fresh image
list_done past bank entries fresh next room new true well calls image may =
    done past bank entries fresh next room new calls image may
list_done past bank entries fresh next room new false well calls image may = absurd (false≢true well)

-- After all five the bytes are the old ones with the list, its start and the selector written over them.
pub list_bytes : (past new : List Call) (next : Bank) (fresh : List (List ℕ)) (all_well : Bool) → all_well ≡ true
    → WritesList next (list_of fresh) past new all_well → state new ≡ settled (with_list (seen_of past) next fresh)
list_bytes past new next fresh true well calls = ap state calls
list_bytes past new next fresh false well calls = absurd (false≢true well)

-- No call was made.
pub no_list : (past new : List Call) (bank : Bank) (entries fresh : List (List ℕ)) (next : Bank)
    → ((bytes : List ℕ) → MayLeave past bytes → StandsAt bank entries bytes) → new ≡ past
    → OnlyLeaves past new (StandsForOneOf bank entries next fresh)
no_list past new bank entries fresh next images same =
    subst (λ l. OnlyLeaves past l (StandsForOneOf bank entries next fresh)) (sym same)
    (only_from past (StandsForOneOf bank entries next fresh) λ bytes may. inl (images bytes may))
