-- What a crash leaves while an entry is added. A block that is torn behind the gate leaves the entries as they are; and
-- once it is synced, the byte of the gate decides.
use Rattle.std.proofs.Common.{◌≡◌, ◌≢◌, ◌⊎◌, ℕ, zero, suc, ◌+◌, ◌-◌, ◌<◌, ◌≤◌, Bool, true, false, ◌||◌}
use Rattle.std.proofs.Common.{List, [], ◌∷◌, ◌++◌, length, take, drop, slice_index, refl, sym, ◌∙◌, ap, subst, inl, inr}
use Rattle.std.proofs.Common.{arith, append_assoc, length-append, length-take, length-drop}
use Rattle.std.specs.List.{flat_map}
use Rattle.std.proofs.lemmas.Bool.{false≢true, cases_lt, cases_eq, lt-leb}
use Rattle.std.specs.Int.{w32, to_be_bytes}
use Rattle.std.proofs.Math.Seq.{get_or-append_seam}
use Rattle.std.proofs.lemmas.List.{ext_get_or, take_all, take-take, take-append-le, take_at, drop_at}
use Rattle.std.proofs.lemmas.List.{get_or_append_left, append-nil}
use Rattle.rm_disk.specs.Call.{Call, is_within, Wrote, WriteFailed, CutTo, Synced, SyncFailed, State, is_free}
use Rattle.rm_disk.specs.Call.{overwritten, after, state, seen_of, settled}
use Rattle.rm_disk.specs.Image.{IsImage, MayLeave, OnlyLeaves}
use Rattle.rm_disk.specs.ImageLemmas.{reads_as_image, settled_only, synced_only, only_from, only_more}
use Rattle.rm_disk.specs.RangeLemmas.{within_before, within_behind}
use Rattle.rm_disk.specs.Journal.Entries.{longest, block, Bank, first_bank, first_bytes, IsFront, EndsBlocks, StandsAt}
use Rattle.rm_disk.specs.Journal.Entries.{StandsForEither, StandsForOneOf, AllFit, list_of}
use Rattle.rm_disk.specs.Journal.Journal.{with_block}
use Rattle.rm_disk.specs.Journal.EntryLemmas.{ends_before, fit_cons, stands_at-bytes_of}
use Rattle.rm_disk.specs.Journal.Scan.{WritesBlock}
use Rattle.rm_disk.proofs.JournalLemmas.Parts.{front_stays, stands_split, last_of, IsOff, behind_off, wrote_off}
use Rattle.rm_disk.proofs.JournalLemmas.Parts.{failed_off}
use Rattle.rm_disk.proofs.JournalLemmas.Places.{gate_within}

-- What stands behind the gate of an entry: its length, the entry and the next closed gate.
abbrev pub body_of : List ℕ → List ℕ
body_of entry = to_be_bytes w32 (length entry) ++ entry ++ 0 ∷ []

-- the place where two lists differ alone
other_places : (before behind : List ℕ) (x y i : ℕ) → i ≢ length before
    → slice_index (before ++ x ∷ behind) i ≡ slice_index (before ++ y ∷ behind) i
other_places [] behind x y zero other = absurd (other refl)
other_places [] behind x y (suc i) other = refl
other_places (b ∷ before) behind x y zero other = refl
other_places (b ∷ before) behind x y (suc i) other = other_places before behind x y i λ e. other (ap suc e)

-- the bytes with the gate written over
gate_over : (before : List ℕ) (gate : ℕ) (behind : List ℕ) (x : ℕ)
    → overwritten (before ++ gate ∷ behind) (length before) (x ∷ []) ≡ before ++ x ∷ behind
gate_over before gate behind x =
    ap (λ (l : List ℕ). l ++ (x ∷ []) ++ drop (length before + 1) (before ++ gate ∷ behind))
    (take_at before (gate ∷ behind) (length before) refl)
    ∙ ap (λ (l : List ℕ). before ++ (x ∷ []) ++ l) (
    ap (λ (l : List ℕ). drop (length before + 1) l) (sym (append_assoc before (gate ∷ []) behind))
    ∙ drop_at (before ++ gate ∷ []) behind (length before + 1) (length-append before (gate ∷ [])))
    ∙ append_assoc before (x ∷ []) behind

-- A state whose bytes are settled but for the gate: an image has any byte there, and the others as they are.
pub record SameButGate (before : List ℕ) (gate : ℕ) (behind : List ℕ) (t : State) : Type 0 where
  pub low : t.low ≡ length (before ++ gate ∷ behind)
  pub high : t.high ≡ length (before ++ gate ∷ behind)
  pub free : (i : ℕ) → i < length (before ++ gate ∷ behind) → i ≢ length before → is_free t i ≡ false
  pub seen : (i : ℕ) → i ≢ length before → slice_index t.seen i ≡ slice_index (before ++ gate ∷ behind) i

pub torn_gate : (before : List ℕ) (gate : ℕ) (behind : List ℕ) (t : State) → SameButGate before gate behind t
    → (bytes : List ℕ) → IsImage t bytes → bytes ≡ before ++ slice_index bytes (length before) ∷ behind
torn_gate before gate behind t same bytes image =
    let x = slice_index bytes (length before) in
    let long : length (before ++ x ∷ behind) ≡ length (before ++ gate ∷ behind) =
    length-append before (x ∷ behind) ∙ sym (length-append before (gate ∷ behind)) in
    let size : length bytes ≡ length (before ++ x ∷ behind) =
    omega (arith, long, image.no_shorter, image.no_longer, same.low, same.high) in
    ext_get_or 0 bytes (before ++ x ∷ behind) size λ i low. elim (cases_eq i (length before)) [
      | inl here ↦ ap (λ (k : ℕ). slice_index bytes k) here
          ∙ sym (ap (λ (k : ℕ). slice_index (before ++ x ∷ behind) k) here ∙ get_or-append_seam before x behind 0)
      | inr other ↦
          image.same i low (same.free i (omega (arith, size, long, low)) other)
          ∙ same.seen i other
          ∙ other_places before behind gate x i other
    ]

-- the only place of a range of one byte
within_gate : (i gate : ℕ) → i ≢ gate → is_within i (gate, 1) ≡ false
within_gate i gate other = elim (cases_lt i gate) [
  | inl before ↦ within_before i gate 1 before
  | inr from ↦ within_behind i gate 1 (omega (arith, from, other))
]

-- settled bytes with the gate written over, or with a write there that failed
pub gate_wrote : (before : List ℕ) (gate : ℕ) (behind : List ℕ) (past : List Call)
    → state past ≡ settled (before ++ gate ∷ behind) → (x : ℕ)
    → SameButGate before gate behind (state (Wrote (length before) (x ∷ []) ∷ past))
gate_wrote before gate behind past is x =
    let bytes = before ++ gate ∷ behind in
    let size : length bytes ≡ length before + suc (length behind) = length-append before (gate ∷ behind) in
    subst (λ s. SameButGate before gate behind (after (Wrote (length before) (x ∷ [])) s)) (sym is) (record {
      low = refl;
      high = omega (arith, size);
      free = λ i low other. ap (λ (b : Bool). b || (is_within i (length before, 1) || false))
          (lt-leb (length bytes) i low) ∙ ap (λ (b : Bool). b || false) (within_gate i (length before) other);
      seen = λ i other. written_over before gate behind x i other;
    })
  where
    written_over : (before : List ℕ) (gate : ℕ) (behind : List ℕ) (x i : ℕ) → i ≢ length before
        → slice_index (overwritten (before ++ gate ∷ behind) (length before) (x ∷ [])) i
        ≡ slice_index (before ++ gate ∷ behind) i
    written_over before gate behind x i other = ap (λ (l : List ℕ). slice_index l i) (gate_over before gate behind x)
        ∙ other_places before behind x gate i other

pub gate_failed : (before : List ℕ) (gate : ℕ) (behind : List ℕ) (past : List Call)
    → state past ≡ settled (before ++ gate ∷ behind)
    → SameButGate before gate behind (state (WriteFailed (length before) 1 ∷ past))
gate_failed before gate behind past is =
    let bytes = before ++ gate ∷ behind in
    let size : length bytes ≡ length before + suc (length behind) = length-append before (gate ∷ behind) in
    subst (λ s. SameButGate before gate behind (after (WriteFailed (length before) 1) s)) (sym is) (record {
      low = refl;
      high = omega (arith, size);
      free = λ i low other. ap (λ (b : Bool). b || (is_within i (length before, 1) || false))
          (lt-leb (length bytes) i low) ∙ ap (λ (b : Bool). b || false) (within_gate i (length before) other);
      seen = λ i other. refl;
    })

-- a front with other bytes behind it
front_before : (bank : Bank) (before s t : List ℕ) → 25 ≤ length before → IsFront bank (before ++ s)
    → IsFront bank (before ++ t)
front_before bank before s t long is =
    front_stays bank (before ++ s) (before ++ t) is (omega (arith, long, length-append before s))
    (omega (arith, long, length-append before t)) λ i low other.
    get_or_append_left before s 0 i (omega (arith, low, long))
    ∙ sym (get_or_append_left before t 0 i (omega (arith, low, long)))

module _ (past : List Call) (bank : Bank) (entries : List (List ℕ)) (images : (bytes : List ℕ) → MayLeave past bytes
    → StandsAt bank entries bytes) where
  reads : StandsAt bank entries (seen_of past)
  reads = images (seen_of past) (reads_as_image past)

  front : List ℕ
  front = take bank.start (seen_of past)

  -- what stands before the closed gate
  before : List ℕ
  before = front ++ flat_map block entries

  gate : ℕ
  gate = reads.ends.gate

  within : bank.start + length (flat_map block entries) < length (seen_of past)
  within = gate_within bank entries (seen_of past) reads

  size : length front ≡ bank.start
  unfolding front
  size = omega (arith, length-take bank.start (seen_of past), within)

  ends_at : length before ≡ bank.start + length (flat_map block entries)
  unfolding before
  ends_at = omega (arith, length-append front (flat_map block entries), size)

  split : seen_of past ≡ before ++ gate ∷ reads.ends.behind
  unfolding before front gate
  split = stands_split bank entries (seen_of past) reads

  n : ℕ
  n = length before + 1

  -- Whatever is written behind the closed gate, and whatever list the bytes with the gate open stand for then: the one
  -- byte decides between the two.
  module _ (body : List ℕ) (all : List (List ℕ))
      (opens : StandsAt bank all (before ++ 1 ∷ (body ++ drop (n + length body) (seen_of past)))) where
    rest : List ℕ
    rest = body ++ drop (n + length body) (seen_of past)

    -- the bytes once the body stands behind the closed gate
    body_there : seen_of (Wrote n body ∷ past) ≡ before ++ gate ∷ rest
    unfolding n rest
    body_there =
        let after = drop (n + length body) (seen_of past) in
        let first : take n (seen_of past) ≡ before ++ gate ∷ [] =
        ap (λ (l : List ℕ). take n l) (split ∙ sym (append_assoc before (gate ∷ []) reads.ends.behind))
        ∙ take_at (before ++ gate ∷ []) reads.ends.behind n (length-append before (gate ∷ [])) in
        ap (λ (l : List ℕ). l ++ body ++ after) first
        ∙ ap (λ (l : List ℕ). l ++ after) (append_assoc before (gate ∷ []) body)
        ∙ append_assoc before (gate ∷ body) after

    -- the front is the same, whatever the gate is
    front_there : (x : ℕ) → IsFront bank (before ++ x ∷ rest)
    front_there x = front_before bank before (gate ∷ reads.ends.behind) (x ∷ rest)
        (omega (arith, ends_at, reads.front.behind)) (subst (IsFront bank) split reads.front)

    list_there : (x : ℕ) → drop bank.start (before ++ x ∷ rest) ≡ flat_map block entries ++ x ∷ rest
    unfolding before
    list_there x = ap (λ (l : List ℕ). drop bank.start l) (append_assoc front (flat_map block entries) (x ∷ rest))
        ∙ drop_at front (flat_map block entries ++ x ∷ rest) bank.start size

    -- whatever byte the gate is, the list is the old one or the new one
    opened_list : StandsAt bank all (before ++ 1 ∷ rest)
    unfolding rest
    opened_list = opens

    P : List ℕ → Type 0
    P = StandsForOneOf bank entries bank all

    either : (x : ℕ) → P (before ++ x ∷ rest)
    unfolding P
    either x = elim (cases_eq x 1) [
      | inl opens ↦ inr (subst (λ (y : ℕ). StandsAt bank all (before ++ y ∷ rest)) (sym opens) opened_list)
      | inr closed ↦ inl (record {
        front = front_there x;
        ends = record {
          fit = reads.ends.fit;
          gate = x;
          behind = rest;
          closed = closed;
          is = list_there x;
        };
      })
    ]

    there : state (Synced ∷ Wrote n body ∷ past) ≡ settled (before ++ gate ∷ rest)
    there = ap settled body_there

    -- what is torn behind the gate
    torn_off : (count : ℕ) → IsOff bank (last_of bank entries) n count
    unfolding n
    torn_off count = behind_off bank (last_of bank entries) n count reads.front.behind (omega arith)
        (omega (arith, ends_at))

    start : OnlyLeaves past past P
    unfolding P
    start = only_from past P λ bytes may. inl (images bytes may)

    first_failed : OnlyLeaves past (WriteFailed n (length body) ∷ past) P
    unfolding P
    first_failed = only_more past past _ P start λ bytes may. inl
        (failed_off past bank entries images n (length body) (torn_off (length body)) bytes may)

    torn : (bytes : List ℕ) → MayLeave (Wrote n body ∷ past) bytes → P bytes
    unfolding P
    torn bytes may = inl (wrote_off past bank entries images n body (torn_off (length body)) bytes may)

    first : OnlyLeaves past (Wrote n body ∷ past) P
    first = only_more past past _ P start torn

    first_unsynced : OnlyLeaves past (SyncFailed ∷ Wrote n body ∷ past) P
    first_unsynced = only_more past _ SyncFailed P first torn

    staged_only : OnlyLeaves past (Synced ∷ Wrote n body ∷ past) P
    staged_only = only_more past _ Synced P first λ bytes may.
        subst P (sym (settled_only (before ++ gate ∷ rest) bytes
        (subst (λ s. IsImage s bytes) there may))) (either gate)

    second_failed : OnlyLeaves past (WriteFailed (length before) 1 ∷ Synced ∷ Wrote n body ∷ past) P
    second_failed = only_more past _ _ P staged_only λ bytes may.
        subst P (sym (torn_gate before gate rest _
        (gate_failed before gate rest (Synced ∷ Wrote n body ∷ past) there) bytes may)) (either _)

    second_bytes : (bytes : List ℕ)
        → MayLeave (Wrote (length before) (1 ∷ []) ∷ Synced ∷ Wrote n body ∷ past) bytes → P bytes
    second_bytes bytes may =
        subst P (sym (torn_gate before gate rest _
        (gate_wrote before gate rest (Synced ∷ Wrote n body ∷ past) there 1) bytes may)) (either _)

    second : OnlyLeaves past (Wrote (length before) (1 ∷ []) ∷ Synced ∷ Wrote n body ∷ past) P
    second = only_more past _ _ P staged_only second_bytes

    second_unsynced : OnlyLeaves past
        (SyncFailed ∷ Wrote (length before) (1 ∷ []) ∷ Synced ∷ Wrote n body ∷ past) P
    second_unsynced = only_more past _ SyncFailed P second second_bytes

    -- once all is synced, the new list is there
    all_there : (bytes : List ℕ)
        → MayLeave (Synced ∷ Wrote (length before) (1 ∷ []) ∷ Synced ∷ Wrote n body ∷ past) bytes
        → StandsAt bank all bytes
    all_there bytes may =
        let is = synced_only (Wrote (length before) (1 ∷ []) ∷ Synced ∷ Wrote n body ∷ past) bytes may in
        let over = ap (λ s. overwritten s.seen (length before) (1 ∷ [])) there ∙ gate_over before gate rest 1 in
        subst (StandsAt bank all) (sym (is ∙ over)) opened_list

    all_only : OnlyLeaves past
        (Synced ∷ Wrote (length before) (1 ∷ []) ∷ Synced ∷ Wrote n body ∷ past) P
    unfolding P
    all_only = only_more past _ Synced P second λ bytes may. inr (all_there bytes may)

    moments : (new : List Call) (all_well : Bool) → WritesBlock (length before) body past new all_well
        → OnlyLeaves past new P
    unfolding n
    moments new true calls = subst (λ l. OnlyLeaves past l P) (sym calls) all_only
    moments new false (inl calls) = subst (λ l. OnlyLeaves past l P) (sym calls) first_failed
    moments new false (inr (inl calls)) = subst (λ l. OnlyLeaves past l P) (sym calls) first_unsynced
    moments new false (inr (inr (inl calls))) = subst (λ l. OnlyLeaves past l P) (sym calls) second_failed
    moments new false (inr (inr (inr calls))) = subst (λ l. OnlyLeaves past l P) (sym calls) second_unsynced

    done : (new : List Call) → WritesBlock (length before) body past new true → (bytes : List ℕ)
        → MayLeave new bytes → StandsAt bank all bytes
    unfolding n
    done new calls bytes may = all_there bytes (subst (λ l. MayLeave l bytes) calls may)

  -- the bytes with the open gate and the body written over those that stood there
  opens_over : (body : List ℕ) → overwritten (seen_of past) (length before) (1 ∷ body)
      ≡ before ++ 1 ∷ (body ++ drop (n + length body) (seen_of past))
  unfolding n
  opens_over body =
      let tail = drop (length before + 1 + length body) (seen_of past) in
      ap (λ (l : List ℕ). l ++ (1 ∷ body) ++ drop (length before + length (1 ∷ body)) (seen_of past))
      (ap (λ (l : List ℕ). take (length before) l) split
      ∙ take_at before (gate ∷ reads.ends.behind) (length before) refl)
      ∙ ap (λ (k : ℕ). before ++ (1 ∷ body) ++ drop k (seen_of past)) {y = length before + 1 + length body}
      (omega arith)
      ∙ append_assoc before (1 ∷ body) tail

  -- where that is a row of blocks and a closed gate, the list has these entries more
  row_opens : (added : List (List ℕ)) (body : List ℕ) → AllFit added → 1 ∷ body ≡ list_of added
      → StandsAt bank (entries ++ added) (before ++ 1 ∷ (body ++ drop (n + length body) (seen_of past)))
  unfolding before
  row_opens added body fit is =
      let tail = drop (n + length body) (seen_of past) in
      let list : EndsBlocks added (1 ∷ (body ++ tail)) = record {
        fit = fit;
        gate = 0;
        behind = tail;
        closed = λ e. omega (arith, e);
        is = ap (λ (l : List ℕ). l ++ tail) is ∙ append_assoc (flat_map block added) (0 ∷ []) tail;
      } in
      record {
        front = front_before bank (front ++ flat_map block entries) (gate ∷ reads.ends.behind) (1 ∷ (body ++ tail))
            (omega (arith, ends_at, reads.front.behind)) (subst (IsFront bank) split reads.front);
        ends = subst (EndsBlocks (entries ++ added))
            (sym (ap (λ (l : List ℕ). drop bank.start l)
            (append_assoc front (flat_map block entries) (1 ∷ (body ++ tail)))
            ∙ drop_at front (flat_map block entries ++ 1 ∷ (body ++ tail)) bank.start size))
            (ends_before entries added (1 ∷ (body ++ tail)) reads.ends.fit list);
      }

-- a disk that has these entries in this bank, as it reads and after any crash now
abbrev StandsFirm : List Call → Bank → List (List ℕ) → Type 0
StandsFirm past bank entries = (bytes : List ℕ) → MayLeave past bytes → StandsAt bank entries bytes

-- Something is written behind the closed gate, and then the gate is opened: a crash at any moment of the four calls, or
-- of those up to the first that failed, leaves the old list, or the one for which the bytes with all written stand.
pub gate_moments : (past : List Call) (bank : Bank) (entries all : List (List ℕ)) → StandsFirm past bank entries
    → (body : List ℕ) (end : ℕ) → end ≡ bank.start + length (flat_map block entries)
    → StandsAt bank all (overwritten (seen_of past) end (1 ∷ body)) → (new : List Call) (all_well : Bool)
    → WritesBlock end body past new all_well → OnlyLeaves past new (StandsForOneOf bank entries bank all)
unfolding P
gate_moments past bank entries all images body end e opens new all_well calls =
    let at = e ∙ sym (ends_at past bank entries images) in
    moments past bank entries images body all
    (subst (StandsAt bank all) (opens_over past bank entries images body)
    (subst (λ (k : ℕ). StandsAt bank all (overwritten (seen_of past) k (1 ∷ body))) at opens)) new all_well
    (subst (λ (k : ℕ). WritesBlock k body past new all_well) at calls)

-- After all four each image stands for that list.
pub gate_done : (past : List Call) (bank : Bank) (entries all : List (List ℕ)) → StandsFirm past bank entries
    → (body : List ℕ) (end : ℕ) → end ≡ bank.start + length (flat_map block entries)
    → StandsAt bank all (overwritten (seen_of past) end (1 ∷ body)) → (new : List Call) (all_well : Bool)
    → all_well ≡ true → WritesBlock end body past new all_well → (bytes : List ℕ) → MayLeave new bytes
    → StandsAt bank all bytes
gate_done past bank entries all images body end e opens new true well calls bytes may =
    let at = e ∙ sym (ends_at past bank entries images) in
    done past bank entries images body all
    (subst (StandsAt bank all) (opens_over past bank entries images body)
    (subst (λ (k : ℕ). StandsAt bank all (overwritten (seen_of past) k (1 ∷ body))) at opens)) new
    (subst (λ (k : ℕ). WritesBlock k body past new true) at calls) bytes may
gate_done past bank entries all images body end e opens new false well calls bytes may = absurd (false≢true well)

-- A row of blocks and a closed gate is what is written: the list has these entries more.
pub row_over : (past : List Call) (bank : Bank) (entries added : List (List ℕ)) → StandsFirm past bank entries
    → (body : List ℕ) → AllFit added → 1 ∷ body ≡ list_of added → (end : ℕ)
    → end ≡ bank.start + length (flat_map block entries)
    → StandsAt bank (entries ++ added) (overwritten (seen_of past) end (1 ∷ body))
row_over past bank entries added images body fit is end e =
    let at = e ∙ sym (ends_at past bank entries images) in
    subst (λ (k : ℕ). StandsAt bank (entries ++ added) (overwritten (seen_of past) k (1 ∷ body))) (sym at)
    (subst (StandsAt bank (entries ++ added)) (sym (opens_over past bank entries images body))
    (row_opens past bank entries images added body fit is))

-- the body of one entry is such a row
one_body : (entry : List ℕ) → 1 ∷ body_of entry ≡ list_of (entry ∷ [])
one_body entry = ap (λ (l : List ℕ). l ++ 0 ∷ []) (sym (append-nil (block entry)))

one_over : (past : List Call) (bank : Bank) (entries : List (List ℕ)) → StandsFirm past bank entries
    → (entry : List ℕ) → length entry ≤ longest → (end : ℕ) → end ≡ bank.start + length (flat_map block entries)
    → StandsAt bank (entries ++ entry ∷ []) (overwritten (seen_of past) end (1 ∷ body_of entry))
one_over past bank entries images entry short end e =
    row_over past bank entries (entry ∷ []) images (body_of entry)
    (fit_cons entry [] short λ k d low. absurd (omega arith)) (one_body entry) end e

-- A crash at any moment of the four calls, or of those up to the first that failed, leaves the old entries or the new.
pub block_moments : (past : List Call) (bank : Bank) (entries : List (List ℕ))
    → ((bytes : List ℕ) → MayLeave past bytes → StandsAt bank entries bytes) → (entry : List ℕ)
    → length entry ≤ longest → (end : ℕ) → end ≡ bank.start + length (flat_map block entries) → (new : List Call)
    (all_well : Bool) → WritesBlock end (body_of entry) past new all_well
    → OnlyLeaves past new (StandsForEither bank entries entry)
block_moments past bank entries images entry short end e new all_well calls =
    gate_moments past bank entries (entries ++ entry ∷ []) images (body_of entry) end e
    (one_over past bank entries images entry short end e) new all_well calls

-- After all four each image stands for the new list.
pub block_done : (past : List Call) (bank : Bank) (entries : List (List ℕ))
    → ((bytes : List ℕ) → MayLeave past bytes → StandsAt bank entries bytes) → (entry : List ℕ)
    → length entry ≤ longest → (end : ℕ) → end ≡ bank.start + length (flat_map block entries) → (new : List Call)
    (all_well : Bool) → all_well ≡ true → WritesBlock end (body_of entry) past new all_well → (bytes : List ℕ)
    → MayLeave new bytes → StandsAt bank (entries ++ entry ∷ []) bytes
block_done past bank entries images entry short end e new all_well well calls bytes may =
    gate_done past bank entries (entries ++ entry ∷ []) images (body_of entry) end e
    (one_over past bank entries images entry short end e) new all_well well calls bytes may

-- A block behind a gate, and then the gate, are the gate and the block.
gate_last : (bytes : List ℕ) (gate : ℕ) (body : List ℕ) → gate < length bytes
    → overwritten (overwritten bytes (gate + 1) body) gate (1 ∷ []) ≡ overwritten bytes gate (1 ∷ body)
gate_last bytes gate body within =
    let behind = drop (gate + 1 + length body) bytes in
    let first = take (gate + 1) bytes in
    let size : length first ≡ gate + 1 = omega (arith, length-take (gate + 1) bytes, within) in
    let all : overwritten bytes (gate + 1) body ≡ first ++ (body ++ behind) = append_assoc first body behind in
    let before : take gate (overwritten bytes (gate + 1) body) ≡ take gate bytes =
    ap (λ (l : List ℕ). take gate l) all
    ∙ take-append-le gate first (body ++ behind) (omega (arith, size))
    ∙ take-take gate (gate + 1) bytes (omega arith) in
    let after : drop (gate + 1) (overwritten bytes (gate + 1) body) ≡ body ++ behind =
    ap (λ (l : List ℕ). drop (gate + 1) l) all ∙ drop_at first (body ++ behind) (gate + 1) size in
    ap (λ (l : List ℕ). l ++ (1 ∷ []) ++ drop (gate + 1) (overwritten bytes (gate + 1) body)) before
    ∙ ap (λ (l : List ℕ). take gate bytes ++ (1 ∷ []) ++ l) after
    ∙ append_assoc (take gate bytes) (1 ∷ []) (body ++ behind)
    ∙ sym (append_assoc (take gate bytes) (1 ∷ body) behind)
    ∙ ap (λ (n : ℕ). take gate bytes ++ (1 ∷ body) ++ drop n bytes) (omega arith)

-- After all four the bytes are the old ones with the open gate and the body written over them, and nothing is unsynced.
pub gate_bytes : (past new : List Call) (gate : ℕ) (body : List ℕ) (all_well : Bool) → all_well ≡ true
    → gate < length (seen_of past) → WritesBlock gate body past new all_well
    → state new ≡ settled (overwritten (seen_of past) gate (1 ∷ body))
gate_bytes past new at body true well inside calls = ap state calls
    ∙ ap settled (gate_last (seen_of past) at body inside)
gate_bytes past new _ body false well _ calls = absurd (false≢true well)

-- so it is with one entry
pub block_bytes : (past new : List Call) (gate : ℕ) (entry : List ℕ) (all_well : Bool) → all_well ≡ true
    → gate < length (seen_of past) → WritesBlock gate (body_of entry) past new all_well
    → state new ≡ settled (with_block (seen_of past) gate entry)
block_bytes past new gate entry all_well well within calls =
    gate_bytes past new gate (body_of entry) all_well well within calls

-- No call was made.
pub nothing_done : (past new : List Call) (bank : Bank) (entries : List (List ℕ))
    → ((bytes : List ℕ) → MayLeave past bytes → StandsAt bank entries bytes) → (entry : List ℕ) → new ≡ past
    → OnlyLeaves past new (StandsForEither bank entries entry)
nothing_done past new bank entries images entry same =
    subst (λ l. OnlyLeaves past l (StandsForEither bank entries entry)) (sym same)
    (only_from past (StandsForEither bank entries entry) λ bytes may. inl (images bytes may))

-- a disk cut to nothing and given a front and a closed gate
pub empty_journal : (past new : List Call) → new ≡ Synced ∷ Wrote 0 first_bytes ∷ CutTo 0 ∷ past
    → (bytes : List ℕ) → MayLeave new bytes → StandsAt first_bank [] bytes
empty_journal past new calls bytes may =
    let is = synced_only (Wrote 0 first_bytes ∷ CutTo 0 ∷ past) bytes (subst (λ l. MayLeave l bytes) calls may) in
    subst (StandsAt first_bank []) (sym is) (stands_at-bytes_of [] λ k d low. absurd (omega arith))

-- a sync, or one that failed, or none
pub synced_moments : (old new : List Call) → (new ≡ old) ⊎ (new ≡ SyncFailed ∷ old) ⊎ (new ≡ Synced ∷ old)
    → OnlyLeaves old new (MayLeave old)
synced_moments old new (inl calls) = subst (λ l. OnlyLeaves old l (MayLeave old)) (sym calls) (only_from old
    (MayLeave old) λ bytes may. may)
synced_moments old new (inr (inl calls)) =
    subst (λ l. OnlyLeaves old l (MayLeave old)) (sym calls)
    (only_more old old SyncFailed (MayLeave old) (only_from old (MayLeave old) λ bytes may. may) λ bytes may. may)
synced_moments old new (inr (inr calls)) =
    subst (λ l. OnlyLeaves old l (MayLeave old)) (sym calls) (
    only_more old old Synced (MayLeave old) (only_from old (MayLeave old) λ bytes may. may) λ bytes may.
    subst (MayLeave old) (sym (synced_only old bytes may)) (reads_as_image old))

-- A disk that was synced and read: where its bytes have a front, and from its start on end a list, the disk has that
-- list, after any crash too.
pub mounted : (old now : List Call) (bank : Bank) (entries : List (List ℕ)) (bytes rest : List ℕ)
    → bytes ≡ seen_of old → now ≡ Synced ∷ old → IsFront bank bytes → rest ≡ bytes
    → EndsBlocks entries (take (length rest - bank.start) (drop bank.start rest))
    → StandsAt bank entries (seen_of old) × ((image : List ℕ) → MayLeave now image → StandsAt bank entries image)
mounted old now bank entries bytes rest read synced front same ends =
    let all : take (length rest - bank.start) (drop bank.start rest) ≡ drop bank.start rest =
    take_all (length rest - bank.start) (drop bank.start rest) (omega (arith, length-drop bank.start rest)) in
    let stands : StandsAt bank entries (seen_of old) = record {
      front = subst (IsFront bank) read front;
      ends = subst (EndsBlocks entries) (all ∙ ap (λ (l : List ℕ). drop bank.start l) (same ∙ read)) ends;
    } in (
      stands,
      λ image may. subst (StandsAt bank entries) (sym (synced_only old image
          (subst (λ (l : List Call). MayLeave l image) synced may))) stands,
    )

-- the list of a bank, cut out of the bytes
pub cut_out : (bank other : Bank) (entries : List (List ℕ)) (bytes rest : List ℕ) → other ≡ bank → rest ≡ bytes
    → EndsBlocks entries (drop bank.start bytes)
    → EndsBlocks entries (take (length rest - other.start) (drop other.start rest))
cut_out bank other entries bytes rest one same ends =
    subst (EndsBlocks entries) (sym (take_all (length rest - other.start) (drop other.start rest)
    (omega (arith, length-drop other.start rest))
    ∙ ap (λ (b : Bank). drop b.start rest) one ∙ ap (λ (l : List ℕ). drop bank.start l) same)) ends
