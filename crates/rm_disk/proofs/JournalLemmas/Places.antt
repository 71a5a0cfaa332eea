-- The places of a journal's gates and entries.
use Rattle.std.proofs.Common.{◌≡◌, ◌≢◌, ℕ, zero, suc, ◌+◌, ◌-◌, ◌^◌, ◌<◌, ◌≤◌, min, List, [], ◌∷◌, ◌++◌, length, take}
use Rattle.std.proofs.Common.{drop, get_or, refl, sym, ◌∙◌, ap, arith, append_assoc, length-append, length-drop}
use Rattle.std.proofs.Common.{take-append-drop}
use Rattle.std.proofs.Common.{drop-cons}
use Rattle.std.specs.List.{flat_map}
use Rattle.std.specs.Int.{w32, to_be_bytes}
use Rattle.std.proofs.Math.Seq.{take-suc}
use Rattle.std.proofs.lemmas.Grind.{flat_map-append}
use Rattle.std.proofs.lemmas.List.{take_at, drop_at, drop-drop}
use Rattle.rm_disk.specs.Journal.Entries.{block, EndsBlocks, Bank, StandsAt, gates_from, first_of}
use Rattle.rm_disk.specs.Journal.EntryLemmas.{length-block, length-gates_from, gate_at}

-- the blocks of the entries before one, its block and those behind it
pub blocks_split : (entries : List (List ℕ)) (k : ℕ) → k < length entries
    → flat_map block entries ≡ flat_map block (take k entries)
    ++ (block (get_or entries k []) ++ flat_map block (drop (suc k) entries))
blocks_split entries k low =
    ap (λ (l : List (List ℕ)). flat_map block l) (sym (take-append-drop k entries)
    ∙ ap (λ (l : List (List ℕ)). take k entries ++ l) (drop-cons entries k [] low))
    ∙ flat_map-append block (take k entries) (get_or entries k [] ∷ drop (suc k) entries)

-- where the first byte of an entry stands
pub start_of : ℕ → List (List ℕ) → ℕ → ℕ
start_of start entries k = start + 5 + length (flat_map block (take k entries))

-- the gate behind an entry stands as many bytes further as it has
pub gate_behind : (start : ℕ) (entries : List (List ℕ)) (k d : ℕ) → k < length entries
    → get_or (gates_from start entries) k d ≡ start_of start entries k + length (get_or entries k [])
unfolding start_of
gate_behind start entries k d low =
    gate_at start d entries k low
    ∙ ap (λ (l : List (List ℕ)). start + length (flat_map block l)) (take-suc entries k [] low)
    ∙ omega (
      arith,
      ap length (flat_map-append block (take k entries) (get_or entries k [] ∷ [])),
      length-append (flat_map block (take k entries)) (block (get_or entries k []) ++ []),
      length-append (block (get_or entries k [])) [],
      length-block (get_or entries k []),
    )

-- the bytes there are the entry
there : (start : ℕ) (entries : List (List ℕ)) (list : List ℕ) (k : ℕ) → k < length entries
    → EndsBlocks entries list
    → take (length (get_or entries k [])) (drop (5 + length (flat_map block (take k entries))) list)
    ≡ get_or entries k []
there start entries list k low has =
    let entry = get_or entries k [] in
    let before = flat_map block (take k entries) in
    let more = flat_map block (drop (suc k) entries) in
    let number = to_be_bytes w32 (length entry) in
    let tail = more ++ has.gate ∷ has.behind in
    let is : list ≡ (before ++ 1 ∷ number) ++ (entry ++ tail) =
    has.is
    ∙ ap (λ (l : List ℕ). l ++ has.gate ∷ has.behind) (blocks_split entries k low)
    ∙ simp append_assoc in
    let first : length (before ++ 1 ∷ number) ≡ 5 + length before = omega (arith, length-append before (1 ∷ number)) in
    ap (λ (l : List ℕ). take (length entry) (drop (5 + length before) l)) is
    ∙ ap (λ (l : List ℕ). take (length entry) l) (drop_at (before ++ 1 ∷ number) (entry
    ++ tail) (5 + length before) first)
    ∙ take_at entry tail (length entry) refl

pub entry_there : (bank : Bank) (entries : List (List ℕ)) (bytes : List ℕ) (k : ℕ) → k < length entries
    → StandsAt bank entries bytes
    → take (length (get_or entries k [])) (drop (start_of bank.start entries k) bytes) ≡ get_or entries k []
unfolding start_of
entry_there bank entries bytes k low has =
    let before = flat_map block (take k entries) in
    ap (λ (l : List ℕ). take (length (get_or entries k [])) l)
    (ap (λ (n : ℕ). drop n bytes) {y = bank.start + (5 + length before)} (omega arith)
    ∙ sym (drop-drop (5 + length before) bank.start bytes))
    ∙ there bank.start entries (drop bank.start bytes) k low has.ends

-- the closed gate lies within the bytes
pub gate_within : (bank : Bank) (entries : List (List ℕ)) (bytes : List ℕ) → StandsAt bank entries bytes
    → bank.start + length (flat_map block entries) < length bytes
gate_within bank entries bytes has =
    omega (
      arith,
      ap length has.ends.is,
      length-append (flat_map block entries) (has.ends.gate ∷ has.ends.behind),
      length-drop bank.start bytes,
    )

-- an entry lies within the bytes
pub entry_within : (bank : Bank) (entries : List (List ℕ)) (bytes : List ℕ) (k : ℕ) → k < length entries
    → StandsAt bank entries bytes → start_of bank.start entries k + length (get_or entries k []) ≤ length bytes
unfolding start_of
entry_within bank entries bytes k low has =
    let entry = get_or entries k [] in
    let before = flat_map block (take k entries) in
    let more = flat_map block (drop (suc k) entries) in
    omega (
      arith,
      gate_within bank entries bytes has,
      ap length (blocks_split entries k low),
      length-append before (block entry ++ more),
      length-append (block entry) more,
      length-block entry,
    )

pub first_is : (start : ℕ) (entries : List (List ℕ)) (k : ℕ) → k < length entries
    → first_of start (gates_from start entries) k ≡ start_of start entries k
unfolding start_of
first_is start entries zero low = omega arith
first_is start entries (suc k) low = omega (arith, gate_at start 0 entries k (omega (arith, low)))

-- what is computed from the gates is the entry's place and length
pub entry_span : (from : ℕ) (entries : List (List ℕ)) (gates : List ℕ) (k gate start len : ℕ)
    → gates ≡ gates_from from entries → k < length gates → gate ≡ get_or gates k 0 → gate < 2 ^ 64
    → start ≡ min (first_of from gates k) (2 ^ 64 - 1)
    → len ≡ gate - start → (start ≡ first_of from gates k) × (len ≡ length (get_or entries k []))
entry_span from entries gates k gate start len are low is small first size =
    let below : k < length entries = omega (arith, low, ap length are, length-gates_from from entries) in
    let place : first_of from gates k ≡ start_of from entries k = ap (λ (l : List ℕ). first_of from l k) are
    ∙ first_is from entries k below in
    let next : gate ≡ start_of from entries k + length (get_or entries k []) = is
    ∙ ap (λ (l : List ℕ). get_or l k 0) are ∙ gate_behind from entries k 0 below in
    let there : start ≡ start_of from entries k = omega (arith, first, place, next, small) in
    (there ∙ sym place, omega (arith, size, there, next))

pub gate_behind_first : (start : ℕ) (gates : List ℕ) (k : ℕ) → k ≢ 0
    → get_or gates (k - 1) 0 ≡ get_or (start ∷ gates) k 0
gate_behind_first start gates zero some = absurd (some refl)
gate_behind_first start gates (suc k) some = ap (λ (n : ℕ). get_or gates n 0) (omega arith)
