-- A list as it is written, block by block.
use Rattle.std.proofs.Common.{◌≡◌, ℕ, suc, ◌+◌, ◌<◌, ◌≤◌, List, [], ◌∷◌, ◌++◌, length, take, drop, get_or, sym, ◌∙◌, ap}
use Rattle.std.proofs.Common.{arith, length-append}
use Rattle.std.specs.List.{flat_map}
use Rattle.std.proofs.lemmas.List.{take_more}
use Rattle.rm_disk.specs.Journal.Entries.{block, list_of, gates_from}
use Rattle.rm_disk.specs.Journal.EntryLemmas.{length-block, blocks-push, gates_from-push}
use Rattle.rm_disk.proofs.JournalLemmas.Places.{blocks_split}

-- after so many entries
pub record IsWritten (start : ℕ) (fresh : List (List ℕ)) (k at : ℕ) (bytes gates : List ℕ) : Type 0 where
  pub within : k ≤ length fresh
  pub place : at ≡ start + length bytes
  pub blocks : bytes ≡ flat_map block (take k fresh)
  pub are : gates ≡ gates_from start (take k fresh)

-- the next entry ends within the list
pub entry_ends : (start : ℕ) (fresh : List (List ℕ)) (k at : ℕ) (bytes gates : List ℕ)
    → IsWritten start fresh k at bytes gates → k < length fresh → (len : ℕ) → len ≡ length (get_or fresh k [])
    → at + (5 + len) ≤ start + length (list_of fresh)
entry_ends start fresh k at bytes gates is low len size =
    let entry = get_or fresh k [] in
    let more = flat_map block (drop (suc k) fresh) in
    omega (
      arith,
      is.place,
      ap length is.blocks,
      size,
      ap length (blocks_split fresh k low),
      length-append (flat_map block (take k fresh)) (block entry ++ more),
      length-append (block entry) more,
      length-block entry,
      length-append (flat_map block fresh) (0 ∷ []),
    )

pub written_more : (start : ℕ) (fresh : List (List ℕ)) (k at : ℕ) (bytes gates : List ℕ)
    → IsWritten start fresh k at bytes gates → k < length fresh → (len : ℕ) → len ≡ length (get_or fresh k [])
    → (new new_gates : List ℕ) → new ≡ bytes ++ block (get_or fresh k []) → new_gates ≡ gates ++ (at + (5 + len)) ∷ []
    → IsWritten start fresh (k + 1) (at + (5 + len)) new new_gates
written_more start fresh k at bytes gates is low len size new new_gates is_new are_new =
    let entry = get_or fresh k [] in
    let more = take_more fresh k [] low in
    let blocks = flat_map block (take k fresh) in
    let place : at + (5 + len) ≡ start + length blocks + (5 + length entry) =
    omega (arith, is.place, ap length is.blocks, size) in
    record {
      within = omega (arith, low);
      place = omega (arith, is.place, ap length is_new, length-append bytes (block entry), length-block entry, size);
      blocks = is_new ∙ ap (λ (l : List ℕ). l ++ block entry) is.blocks ∙ sym (blocks-push (take k fresh) entry)
          ∙ ap (λ (l : List (List ℕ)). flat_map block l) (sym more);
      are = are_new ∙ ap (λ (l : List ℕ). l ++ (at + (5 + len)) ∷ []) is.are
          ∙ ap (λ (n : ℕ). gates_from start (take k fresh) ++ n ∷ []) place
          ∙ sym (gates_from-push start (take k fresh) entry)
          ∙ ap (λ (l : List (List ℕ)). gates_from start l) (sym more);
    }
