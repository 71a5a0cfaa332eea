-- Lemmas on entries and the bytes that they stand as, beside the definitions so that the layers above may cite them.
use Rattle.std.proofs.Common.{◌≡◌, ◌⊎◌, inl, inr, ℕ, zero, suc, ◌+◌, ◌-◌, ◌<◌, ◌≤◌, Bool, false, List, [], ◌∷◌}
use Rattle.std.proofs.Common.{◌++◌, length, take, drop, get_or, slice_index, refl, sym, ◌∙◌, ap, subst, arith}
use Rattle.std.proofs.Common.{append_assoc, length-append}
use Rattle.std.specs.List.{flat_map}
use Rattle.std.specs.Int.{w32, w64, to_be_bytes, from_be_bytes}
use Rattle.std.proofs.lemmas.Nat.{from_be_bytes-to_be_bytes_4}
use Rattle.std.proofs.lemmas.Grind.{flat_map-append}
use Rattle.std.proofs.lemmas.List.{take_all, take_at, drop_at, drop_all, append-nil}
use Rattle.rm_disk.specs.Call.{Call}
use Rattle.rm_disk.specs.Image.{MayLeave}
use Rattle.rm_disk.specs.Journal.Entries.{longest, block, list_of, AllFit, EndsBlocks, Bank, first_bank, slot_of}
use Rattle.rm_disk.specs.Journal.Entries.{IsFront}
use Rattle.rm_disk.specs.Journal.Entries.{StandsAt, StandsForEither, StandsForOneOf, bytes_of, gates_from}
use Rattle.rm_disk.specs.Journal.JournalState.{JournalState, end_of}
use Rattle.rm_disk.specs.Journal.Journal.{Fits, with_block, with_entry}

-- the length of an entry takes four bytes
pub length-number : (n : ℕ) → length (to_be_bytes w32 n) ≡ 4
length-number n = refl

-- a block is five bytes longer than its entry
pub length-block : (entry : List ℕ) → length (block entry) ≡ 5 + length entry
length-block entry = omega (arith, length-append (to_be_bytes w32 (length entry)) entry, length-number (length entry))

-- lists of the same length that begin the same list are the same
pub same_prefix : (a b s t : List ℕ) → length a ≡ length b → a ++ s ≡ b ++ t → (a ≡ b) × (s ≡ t)
same_prefix a b s t size e = (
  sym (take_at a s (length a) refl) ∙ ap (λ (l : List ℕ). take (length a) l) e ∙ take_at b t (length a) (sym size),
  sym (drop_at a s (length a) refl) ∙ ap (λ (l : List ℕ). drop (length a) l) e ∙ drop_at b t (length a) (sym size),
)

-- a block is read in one way
pub same_block : (a b s t : List ℕ) → length a ≤ longest → length b ≤ longest → block a ++ s ≡ block b ++ t
    → (a ≡ b) × (s ≡ t)
same_block a b s t short_a short_b e =
    let number : to_be_bytes w32 (length a) ≡ to_be_bytes w32 (length b) = ap (λ (l : List ℕ). take 4 (drop 1 l)) e in
    let size : length a ≡ length b =
    sym (from_be_bytes-to_be_bytes_4 (length a) (omega (arith, short_a)))
    ∙ ap (λ (l : List ℕ). from_be_bytes w32 l) number
    ∙ from_be_bytes-to_be_bytes_4 (length b) (omega (arith, short_b)) in
    same_prefix a b s t size (ap (λ (l : List ℕ). drop 5 l) e)

-- an open gate ends no list
pub open_gate : (bytes : List ℕ) → EndsBlocks [] (1 ∷ bytes) → ⊥
open_gate bytes ends = ends.closed (sym (ap (λ (l : List ℕ). slice_index l 0) ends.is))

-- one entry more before others that are short enough
pub fit_cons : (entry : List ℕ) (entries : List (List ℕ)) → length entry ≤ longest → AllFit entries
    → AllFit (entry ∷ entries)
fit_cons entry entries short fit zero d low = short
fit_cons entry entries short fit (suc k) d low = fit k d (omega arith)

-- and the entries behind it
pub fit_rest : (entry : List ℕ) (entries : List (List ℕ)) → AllFit (entry ∷ entries) → AllFit entries
fit_rest entry entries fit k d low = fit (suc k) d (omega arith)

pub ends_cons : (entry : List ℕ) (entries : List (List ℕ)) (rest : List ℕ) → length entry ≤ longest
    → EndsBlocks entries rest → EndsBlocks (entry ∷ entries) (block entry ++ rest)
ends_cons entry entries rest short ends = record {
  fit = fit_cons entry entries short ends.fit;
  gate = ends.gate;
  behind = ends.behind;
  closed = ends.closed;
  is = ap (λ (l : List ℕ). block entry ++ l) ends.is
      ∙ sym (append_assoc (block entry) (flat_map block entries) (ends.gate ∷ ends.behind));
}

-- the bytes behind the first block
pub record HasFirst (entry : List ℕ) (entries : List (List ℕ)) (bytes : List ℕ) : Type 0 where
  pub short : length entry ≤ longest
  pub rest : List ℕ
  pub is : bytes ≡ block entry ++ rest
  pub ends : EndsBlocks entries rest

pub ends_uncons : (entry : List ℕ) (entries : List (List ℕ)) (bytes : List ℕ) → EndsBlocks (entry ∷ entries) bytes
    → HasFirst entry entries bytes
ends_uncons entry entries bytes ends = record {
  short = ends.fit 0 [] (omega arith);
  rest = flat_map block entries ++ ends.gate ∷ ends.behind;
  is = ends.is ∙ append_assoc (block entry) (flat_map block entries) (ends.gate ∷ ends.behind);
  ends = record {
    fit = fit_rest entry entries ends.fit;
    gate = ends.gate;
    behind = ends.behind;
    closed = ends.closed;
    is = refl;
  };
}

-- The list that bytes end begins with the entries whose blocks they begin with.
pub ends_after : (entries all : List (List ℕ)) (rest : List ℕ) → AllFit entries
    → EndsBlocks all (flat_map block entries ++ rest)
    → (more : List (List ℕ)) × (all ≡ entries ++ more) × EndsBlocks more rest
ends_after [] all rest fit ends = (all, refl, ends)
ends_after (entry ∷ entries) [] rest fit ends = absurd (open_gate _ ends)
ends_after (entry ∷ entries) (other ∷ all) rest fit ends =
    let first = ends_uncons other all _ ends in
    let split : block entry ++ (flat_map block entries ++ rest) ≡ block other ++ first.rest =
    sym (append_assoc (block entry) (flat_map block entries) rest) ∙ first.is in
    let same = same_block entry other (flat_map block entries ++ rest) first.rest
    (fit 0 [] (omega arith)) first.short split in
    let inner = ends_after entries all rest (fit_rest entry entries fit)
    (subst (EndsBlocks all) (sym same.1) first.ends) in (
      inner.0,
      ap (λ (l : List (List ℕ)). other ∷ l) inner.1
          ∙ ap (λ (x : List ℕ). x ∷ (entries ++ inner.0)) (sym same.0),
      inner.2,
    )

-- and the other way round
pub ends_before : (entries more : List (List ℕ)) (rest : List ℕ) → AllFit entries → EndsBlocks more rest
    → EndsBlocks (entries ++ more) (flat_map block entries ++ rest)
ends_before [] more rest fit ends = ends
ends_before (entry ∷ entries) more rest fit ends =
    subst (EndsBlocks (entry ∷ (entries ++ more))) (sym (append_assoc (block entry) (flat_map block entries) rest)) (
    ends_cons entry (entries ++ more) _ (fit 0 [] (omega arith))
    (ends_before entries more rest (fit_rest entry entries fit) ends))

pub ends_one : (a b : List (List ℕ)) (bytes : List ℕ) → EndsBlocks a bytes → EndsBlocks b bytes → a ≡ b
ends_one a b bytes is_a is_b =
    let after = ends_after a b (is_a.gate ∷ is_a.behind) is_a.fit (subst (EndsBlocks b) is_a.is is_b) in
    sym (after.1 ∙ ap (λ (l : List (List ℕ)). a ++ l) (none_left after.0 after.2) ∙ append-nil a)
  where
    none_left : (more : List (List ℕ)) → EndsBlocks more (is_a.gate ∷ is_a.behind) → more ≡ []
    none_left [] ends = refl
    none_left (entry ∷ more) ends =
        absurd (is_a.closed (ap (λ (l : List ℕ). slice_index l 0) (ends_uncons entry more _ ends).is))

same_start : (x y : Bank) (bytes : List ℕ) → x.second ≡ y.second → IsFront x bytes → IsFront y bytes
    → x.start ≡ y.start
same_start x y bytes same is_x is_y =
    sym is_x.counts ∙ ap (λ (b : Bool). from_be_bytes w64 (take 8 (drop (slot_of b) bytes))) same ∙ is_y.counts

-- bytes have at most one bank
pub front_of_one : (x y : Bank) (bytes : List ℕ) → IsFront x bytes → IsFront y bytes → x ≡ y
front_of_one x y bytes is_x is_y =
    let same : x.second ≡ y.second = sym is_x.selector ∙ is_y.selector in
    let start = same_start x y bytes same is_x is_y in
    ap (λ (b : Bool). record { second = b; start = x.start }) same
    ∙ ap (λ (n : ℕ). record { second = y.second; start = n }) start

-- bytes stand for at most one list, in one bank
pub stands_for_one : (x y : Bank) (a b : List (List ℕ)) (bytes : List ℕ) → StandsAt x a bytes → StandsAt y b bytes
    → (x ≡ y) × (a ≡ b)
stands_for_one x y a b bytes is_a is_b =
    let same = front_of_one x y bytes is_a.front is_b.front in (
      same,
      ends_one a b (drop x.start bytes) is_a.ends
          (subst (λ (n : ℕ). EndsBlocks b (drop n bytes)) (sym (ap (λ (z : Bank). z.start) same)) is_b.ends),
    )

-- the blocks of one entry more
pub blocks-push : (entries : List (List ℕ)) (entry : List ℕ)
    → flat_map block (entries ++ entry ∷ []) ≡ flat_map block entries ++ block entry
blocks-push entries entry = flat_map-append block entries (entry ∷ [])
    ∙ ap (λ (l : List ℕ). flat_map block entries ++ l) (append-nil (block entry))

pub fit_push : (entries : List (List ℕ)) (entry : List ℕ) → length entry ≤ longest → AllFit entries
    → AllFit (entries ++ entry ∷ [])
fit_push [] entry short fit = fit_cons entry [] short λ k d low. absurd (omega arith)
fit_push (first ∷ entries) entry short fit =
    fit_cons first (entries ++ entry ∷ []) (fit 0 [] (omega arith))
    (fit_push entries entry short (fit_rest first entries fit))

-- the gate behind one entry more
pub gates_from-push : (at : ℕ) (entries : List (List ℕ)) (entry : List ℕ)
    → gates_from at (entries ++ entry ∷ []) ≡ gates_from at entries
    ++ (at + length (flat_map block entries) + (5 + length entry)) ∷ []
gates_from-push at [] entry = ap (λ (n : ℕ). n ∷ []) (omega arith)
gates_from-push at (first ∷ entries) entry =
    let next = at + 5 + length first in
    let size = length-append (block first) (flat_map block entries) in
    ap (λ (l : List ℕ). next ∷ l) (
    gates_from-push next entries entry
    ∙ ap (λ (n : ℕ). gates_from next entries ++ n ∷ []) (omega (arith, size, length-block first)))

-- as many gates as entries
pub length-gates_from : (at : ℕ) (entries : List (List ℕ)) → length (gates_from at entries) ≡ length entries
length-gates_from at [] = refl
length-gates_from at (entry ∷ entries) = ap suc (length-gates_from (at + 5 + length entry) entries)

-- the gate behind an entry
pub gate_at : (at d : ℕ) (entries : List (List ℕ)) (k : ℕ) → k < length entries
    → get_or (gates_from at entries) k d ≡ at + length (flat_map block (take (suc k) entries))
gate_at at d [] k low = absurd (omega arith)
gate_at at d (entry ∷ entries) zero low = omega (arith, length-append (block entry) [], length-block entry)
gate_at at d (entry ∷ entries) (suc k) low =
    omega (
      arith,
      gate_at (at + 5 + length entry) d entries k (omega (arith, low)),
      length-append (block entry) (flat_map block (take (suc k) entries)),
      length-block entry,
    )

-- the closed gate stands behind the blocks
pub end_is : (journal : JournalState) (entries : List (List ℕ)) → journal.gates ≡ gates_from journal.bank.start entries
    → end_of journal ≡ journal.bank.start + length (flat_map block entries)
end_is journal entries gates =
    ap (λ (l : List ℕ). get_or l (length l - 1) journal.bank.start) gates ∙ last journal.bank.start entries
  where
    last : (at : ℕ) (entries : List (List ℕ)) → get_or (gates_from at entries) (length (gates_from at entries) - 1) at
        ≡ at + length (flat_map block entries)
    last at [] = omega arith
    last at (entry ∷ entries) =
        ap (λ (k : ℕ). get_or (gates_from at (entry ∷ entries)) k at) (omega (
          arith,
          length-gates_from (at + 5 + length entry) entries,
        ))
        ∙ gate_at at at (entry ∷ entries) (length entries) (omega arith)
        ∙ ap (λ (l : List (List ℕ)). at + length (flat_map block l))
        (take_all (suc (length entries)) (entry ∷ entries) (omega arith))

-- so it stands no earlier than the first block
pub start_is_before : (start : ℕ) (gates : List ℕ) (entries : List (List ℕ)) → gates ≡ gates_from start entries
    → start ≤ get_or gates (length gates - 1) start
start_is_before start gates entries e =
    let journal : JournalState = record {
      bank = record { second = false; start = start };
      gates = gates;
      is_down = false;
    } in
    omega (arith, end_is journal entries e)

-- one gate more with one entry more
pub gates-with_entry : (journal : JournalState) (entries : List (List ℕ)) (entry : List ℕ)
    → journal.gates ≡ gates_from journal.bank.start entries
    → (with_entry journal (length entry)).gates ≡ gates_from journal.bank.start (entries ++ entry ∷ [])
gates-with_entry journal entries entry gates =
    let start = journal.bank.start in
    let place : end_of journal + 5 + length entry ≡ start + length (flat_map block entries) + (5 + length entry) =
    omega (arith, end_is journal entries gates) in
    ap (λ (n : ℕ). journal.gates ++ n ∷ []) place
    ∙ ap (λ (l : List ℕ). l ++ (start + length (flat_map block entries) + (5 + length entry)) ∷ []) gates
    ∙ sym (gates_from-push start entries entry)

-- a journal of these entries with nothing behind its closed gate stands for them
pub stands_at-bytes_of : (entries : List (List ℕ)) → AllFit entries → StandsAt first_bank entries (bytes_of entries)
stands_at-bytes_of entries fit = record {
  front = record { begins = refl; selector = refl; counts = refl; behind = omega arith };
  ends = record {
    fit = fit;
    gate = 0;
    behind = [];
    closed = λ e. omega (arith, e);
    is = refl;
  };
}

-- where nothing stands behind the closed gate, nothing stands behind it with one entry more
pub with_block-list_of : (front : List ℕ) (entries : List (List ℕ)) (entry : List ℕ)
    → with_block (front ++ list_of entries) (length front + length (flat_map block entries)) entry
    ≡ front ++ list_of (entries ++ entry ∷ [])
with_block-list_of front entries entry =
    let blocks = flat_map block entries in
    let before = front ++ blocks in
    let added = block entry ++ 0 ∷ [] in
    let at = length front + length blocks in
    let size : length before ≡ at = length-append front blocks in
    let none : drop (at + length added) (before ++ 0 ∷ []) ≡ [] =
    drop_all (at + length added) (before ++ 0 ∷ [])
    (omega (arith, size, length-append before (0 ∷ []), length-append (block entry) (0 ∷ []))) in
    ap (λ (l : List ℕ). with_block l at entry) (sym (append_assoc front blocks (0 ∷ [])))
    ∙ ap (λ (l : List ℕ). l ++ added ++ drop (at + length added) (before ++ 0 ∷ [])) (take_at before (0 ∷ []) at size)
    ∙ ap (λ (l : List ℕ). before ++ added ++ l) none
    ∙ append-nil (before ++ added)
    ∙ append_assoc front blocks added
    ∙ ap (λ (l : List ℕ). front ++ l) (sym (append_assoc blocks (block entry) (0 ∷ [])))
    ∙ ap (λ (l : List ℕ). front ++ (l ++ 0 ∷ [])) (sym (blocks-push entries entry))

gates_so : (x y : Bank) (gates : List ℕ) (a b : List (List ℕ)) → x ≡ y → a ≡ b → gates ≡ gates_from y.start b
    → gates ≡ gates_from x.start a
gates_so x y gates a b at are is =
    is ∙ ap (λ (z : Bank). gates_from z.start b) (sym at) ∙ ap (λ (l : List (List ℕ)). gates_from x.start l) (sym are)

pub image_now : (bank : Bank) (entries all : List (List ℕ)) (past : List Call) (journal : JournalState)
    (image : List ℕ) → Fits entries past journal → MayLeave past image → StandsAt bank all image
    → (bank ≡ journal.bank) × (all ≡ entries) × (journal.gates ≡ gates_from bank.start all)
image_now bank entries all past journal image fits may stands =
    let one = stands_for_one bank journal.bank all entries image stands (fits.images image may) in
    (one.0, one.1, gates_so bank journal.bank journal.gates all entries one.0 one.1 fits.gates)

pub image_append : (bank : Bank) (entries all : List (List ℕ)) (past : List Call) (journal : JournalState)
    (entry image : List ℕ) → Fits entries past journal → StandsForEither journal.bank entries entry image
    → StandsAt bank all image → (bank ≡ journal.bank)
    × (((all ≡ entries) × (journal.gates ≡ gates_from bank.start all)) ⊎ ((all ≡ entries ++ entry ∷ [])
    × ((with_entry journal (length entry)).gates ≡ gates_from bank.start all)))
image_append bank entries all past journal entry image fits (inl old) stands =
    let one = stands_for_one bank journal.bank all entries image stands old in
    (one.0, inl (one.1, gates_so bank journal.bank journal.gates all entries one.0 one.1 fits.gates))
image_append bank entries all past journal entry image fits (inr new) stands =
    let one = stands_for_one bank journal.bank all (entries ++ entry ∷ []) image stands new in (
      one.0,
      inr (
        one.1,
        gates_so bank journal.bank _ all (entries ++ entry ∷ []) one.0 one.1
            (gates-with_entry journal entries entry fits.gates),
      ),
    )

pub image_compact : (bank next : Bank) (entries fresh all : List (List ℕ)) (past : List Call)
    (journal : JournalState) (image : List ℕ) → Fits entries past journal
    → StandsForOneOf journal.bank entries next fresh image → StandsAt bank all image
    → ((bank ≡ journal.bank) × (all ≡ entries) × (journal.gates ≡ gates_from bank.start all))
    ⊎ ((bank ≡ next) × (all ≡ fresh))
image_compact bank next entries fresh all past journal image fits (inl old) stands =
    let one = stands_for_one bank journal.bank all entries image stands old in
    inl (one.0, one.1, gates_so bank journal.bank journal.gates all entries one.0 one.1 fits.gates)
image_compact bank next entries fresh all past journal image fits (inr new) stands =
    inr (stands_for_one bank next all fresh image stands new)
