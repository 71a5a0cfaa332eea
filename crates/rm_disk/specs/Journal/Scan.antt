-- The calls that write a block or a list, and what is found at a gate.
use Rattle.std.specs.Prelude.{◌≡◌, ◌⊎◌, ◌≤◌, ℕ, ◌+◌, Bool, true, false, List, [], ◌∷◌, ◌++◌, length, drop}
use Rattle.std.specs.List.{flat_map}
use Rattle.std.specs.Int.{w64, to_be_bytes}
use Rattle.rm_disk.specs.Call.{Call, Wrote, WriteFailed, Synced, SyncFailed}
use Rattle.rm_disk.specs.Journal.Entries.{Bank, longest, block, slot_of, AllFit, EndsBlocks, gates_from}
use Rattle.rm_disk.specs.Journal.Journal.{selector_of}
use Rattle.rm_disk.specs.declared.journal.scan.Found.{Found}
use Rattle.rm_disk.specs.declared.journal.scan.Found.TheVariants.{End, Entry, Bad}

-- a block is written behind the gate and synced
abbrev pub staged : ℕ → List ℕ → List Call → List Call
staged gate block past = Synced ∷ Wrote (gate + 1) block ∷ past

-- and then the gate is opened
abbrev pub opened : ℕ → List ℕ → List Call → List Call
opened gate block past = Wrote gate (1 ∷ []) ∷ staged gate block past

-- all four calls, or those up to the first that failed
abbrev pub WritesBlock : ℕ → List ℕ → List Call → List Call → Bool → Type 0
WritesBlock gate block old new true = new ≡ Synced ∷ opened gate block old
WritesBlock gate block old new false =
    (new ≡ WriteFailed (gate + 1) (length block) ∷ old)
    ⊎ (new ≡ SyncFailed ∷ Wrote (gate + 1) block ∷ old)
    ⊎ (new ≡ WriteFailed gate 1 ∷ staged gate block old)
    ⊎ (new ≡ SyncFailed ∷ opened gate block old)

-- a list and its start are written
abbrev pub laid : Bank → List ℕ → List Call → List Call
laid bank list past = Wrote (slot_of bank.second) (to_be_bytes w64 bank.start) ∷ Wrote bank.start list ∷ past

-- they are synced, and then the selector is written
abbrev pub turned : Bank → List ℕ → List Call → List Call
turned bank list past = Wrote 8 (selector_of bank.second ∷ []) ∷ Synced ∷ laid bank list past

-- all five calls, or those up to the first that failed
abbrev pub WritesList : Bank → List ℕ → List Call → List Call → Bool → Type 0
WritesList bank list old new true = new ≡ Synced ∷ turned bank list old
WritesList bank list old new false =
    (new ≡ WriteFailed bank.start (length list) ∷ old)
    ⊎ (new ≡ WriteFailed (slot_of bank.second) 8 ∷ Wrote bank.start list ∷ old)
    ⊎ (new ≡ SyncFailed ∷ laid bank list old)
    ⊎ (new ≡ WriteFailed 8 1 ∷ Synced ∷ laid bank list old)
    ⊎ (new ≡ SyncFailed ∷ turned bank list old)

-- an entry of this length stands there, with an open gate before it
pub record HasBlock (len : ℕ) (rest : List ℕ) : Type 0 where
  pub entry : List ℕ
  pub size : length entry ≡ len
  pub fits : len ≤ longest
  pub within : 5 + len ≤ length rest
  pub is : rest ≡ block entry ++ drop (5 + len) rest

-- the list ends there, an entry stands there, or the bytes from there on end no list
abbrev pub IsFound : Found → List ℕ → Type 0
IsFound End rest = EndsBlocks [] rest
IsFound (Entry len) rest = HasBlock len rest
IsFound Bad rest = (entries : List (List ℕ)) → EndsBlocks entries rest → ⊥

-- after a walk so far: the bytes from this place on begin with the blocks of some entries, whose gates these are
pub record IsWalked (start : ℕ) (bytes : List ℕ) (found : List ℕ) (place : ℕ) (rest : List ℕ) : Type 0 where
  pub entries : List (List ℕ)
  pub gates : found ≡ gates_from start entries
  pub at : place ≡ start + length (flat_map block entries)
  pub size : place + length rest ≡ start + length bytes
  pub is : bytes ≡ flat_map block entries ++ rest
  pub fit : AllFit entries
