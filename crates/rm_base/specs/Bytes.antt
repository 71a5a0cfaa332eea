-- What lies under `Bytes`: few bytes in place, and more in a box.
use Rattle.std.specs.Prelude.{ℕ, ◌≤◌, List, take, ⊤}
use Rattle.rm_base.specs.declared.bytes.Kept.{Kept}
use Rattle.rm_base.specs.declared.bytes.Kept.TheVariants.{Few, Many}

-- the bytes that are kept
abbrev pub kept_bytes : Kept → List ℕ
kept_bytes (Few len bytes) = take len bytes
kept_bytes (Many blob) = blob.value

-- no more than 22 bytes are few
abbrev pub IsKept : Kept → Type 0
IsKept (Few len bytes) = len ≤ 22
IsKept (Many blob) = ⊤
