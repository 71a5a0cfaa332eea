-- What stands at a gate, and a walk over the gates.
use Rattle.std.proofs.Common.{◌≡◌, ◌≢◌, ℕ, ◌+◌, ◌<◌, ◌≤◌, ◌^◌, List, [], ◌∷◌, ◌++◌, length, take, drop, slice_index}
use Rattle.std.proofs.Common.{refl, sym, ◌∙◌, ap, subst, arith, append_assoc, length-append, length-take, length-drop}
use Rattle.std.specs.List.{flat_map}
use Rattle.std.specs.Int.{w32, to_be_bytes, from_be_bytes}
use Rattle.std.proofs.lemmas.Nat.{from_be_bytes-to_be_bytes_4}
use Rattle.std.proofs.lemmas.List.{drop-drop, take-append-drop}
use Rattle.rm_disk.specs.Journal.Entries.{longest, block, EndsBlocks, gates_from}
use Rattle.rm_disk.specs.Journal.Scan.{HasBlock, IsWalked}
use Rattle.rm_disk.specs.Journal.EntryLemmas.{length-block, ends_uncons, ends_after, blocks-push, fit_push}
use Rattle.rm_disk.specs.Journal.EntryLemmas.{gates_from-push}

-- a closed gate ends the empty list
pub ends_here : (rest : List ℕ) → 0 < length rest → slice_index rest 0 ≢ 1 → EndsBlocks [] rest
ends_here [] long closed = absurd (omega (arith, long))
ends_here (gate ∷ behind) long closed = record {
  fit = λ k d low. absurd (omega arith);
  gate = gate;
  behind = behind;
  closed = closed;
  is = refl;
}

-- bytes too short for a gate end no list
pub ends_nothing : (entries : List (List ℕ)) → EndsBlocks entries [] → ⊥
ends_nothing entries ends =
    omega (arith, ap length ends.is, length-append (flat_map block entries) (ends.gate ∷ ends.behind))

-- At an open gate an entry stands, and so do the bytes of its length.
pub entry_needed : (entries : List (List ℕ)) (rest : List ℕ) → slice_index rest 0 ≡ 1 → EndsBlocks entries rest
    → (entry : List ℕ) × (length entry ≤ longest) × (5 + length entry ≤ length rest)
    × (take 4 (drop 1 rest) ≡ to_be_bytes w32 (length entry))
entry_needed [] rest opens ends = absurd (ends.closed (sym (ap (λ (l : List ℕ). slice_index l 0) ends.is) ∙ opens))
entry_needed (entry ∷ entries) rest opens ends =
    let first = ends_uncons entry entries rest ends in (
      entry,
      first.short,
      omega (arith, ap length first.is, length-append (block entry) first.rest, length-block entry),
      ap (λ (l : List ℕ). take 4 (drop 1 l)) first.is,
    )

-- the length that is read is the entry's
pub length_read : (n m : ℕ) → n < 2 ^ 32 → m ≤ longest → to_be_bytes w32 n ≡ to_be_bytes w32 m → n ≡ m
length_read n m small short e =
    sym (from_be_bytes-to_be_bytes_4 n small) ∙ ap (λ (l : List ℕ). from_be_bytes w32 l) e
    ∙ from_be_bytes-to_be_bytes_4 m (omega (arith, short))

pub has_block : (n : ℕ) (rest : List ℕ) → slice_index rest 0 ≡ 1 → n ≤ longest → 5 + n ≤ length rest
    → to_be_bytes w32 n ≡ take 4 (drop 1 rest) → HasBlock n rest
has_block n (gate ∷ a ∷ b ∷ c ∷ d ∷ after) opens short within number =
    let size : length (take n after) ≡ n = omega (arith, length-take n after, within) in
    let rest = gate ∷ a ∷ b ∷ c ∷ d ∷ after in
    record {
      entry = take n after;
      size = size;
      fits = short;
      within = within;
      is =
          ap (λ (g : ℕ). g ∷ a ∷ b ∷ c ∷ d ∷ after) opens
          ∙ ap (λ (l : List ℕ). 1 ∷ a ∷ b ∷ c ∷ d ∷ l) (sym (take-append-drop n after))
          ∙ ap (λ (l : List ℕ). 1 ∷ (l ++ (take n after ++ drop n after))) (sym number
          ∙ ap (λ (m : ℕ). to_be_bytes w32 m) (sym size))
          ∙ ap (λ (l : List ℕ). block (take n after) ++ l) (drop-drop n 5 rest);
    }
has_block n [] opens short within number = absurd (omega (arith, within))
has_block n (gate ∷ []) opens short within number = absurd (omega (arith, within))
has_block n (gate ∷ a ∷ []) opens short within number = absurd (omega (arith, within))
has_block n (gate ∷ a ∷ b ∷ []) opens short within number = absurd (omega (arith, within))
has_block n (gate ∷ a ∷ b ∷ c ∷ []) opens short within number = absurd (omega (arith, within))

-- one entry further
pub walked_more : (start : ℕ) (bytes gates rest : List ℕ) (at len : ℕ) → IsWalked start bytes gates at rest
    → HasBlock len rest → IsWalked start bytes (gates ++ (at + (5 + len)) ∷ []) (at + (5 + len)) (drop (5 + len) rest)
walked_more start bytes gates rest at len walked found =
    let entries = walked.entries in
    let entry = found.entry in
    let more = blocks-push entries entry in
    let place : start + length (flat_map block entries) + (5 + length entry) ≡ at + (5 + len) =
    omega (arith, walked.at, found.size) in
    record {
      entries = entries ++ entry ∷ [];
      gates =
          ap (λ (l : List ℕ). l ++ (at + (5 + len)) ∷ []) walked.gates
          ∙ ap (λ (n : ℕ). gates_from start entries ++ n ∷ []) (sym place)
          ∙ sym (gates_from-push start entries entry);
      at = omega (
        arith,
        place,
        ap length more,
        length-append (flat_map block entries) (block entry),
        length-block entry,
      );
      size = omega (arith, walked.size, found.within, length-drop (5 + len) rest);
      is =
          walked.is
          ∙ ap (λ (l : List ℕ). flat_map block entries ++ l) found.is
          ∙ sym (append_assoc (flat_map block entries) (block entry) (drop (5 + len) rest))
          ∙ ap (λ (l : List ℕ). l ++ drop (5 + len) rest) (sym more);
      fit = fit_push entries entry (omega (arith, found.size, found.fits)) walked.fit;
    }

-- where the rest ends no list, the bytes end none
pub walked_nowhere : (start : ℕ) (bytes gates rest : List ℕ) (at : ℕ) → IsWalked start bytes gates at rest
    → ((entries : List (List ℕ)) → EndsBlocks entries rest → ⊥) → (entries : List (List ℕ)) → EndsBlocks entries bytes
    → ⊥
walked_nowhere start bytes gates rest at walked none all ends =
    let after = ends_after walked.entries all rest walked.fit (subst (EndsBlocks all) walked.is ends) in
    none after.0 after.2

-- at a gate that isn't open the bytes end the entries of the walk
pub walked_all : (start : ℕ) (bytes gates rest : List ℕ) (at : ℕ) → IsWalked start bytes gates at rest
    → EndsBlocks [] rest
    → (entries : List (List ℕ)) × EndsBlocks entries bytes × (gates ≡ gates_from start entries)
walked_all start bytes gates rest at walked ends = (
  walked.entries,
  record {
    fit = walked.fit;
    gate = ends.gate;
    behind = ends.behind;
    closed = ends.closed;
    is = walked.is ∙ ap (λ (l : List ℕ). flat_map block walked.entries ++ l) ends.is;
  },
  walked.gates,
)
