-- How a call on a disk fails.
use Rattle.std.specs.Prelude.{Bool, true, false, Result, Err}
use Rattle.node_store.specs.declared.error.StoreError.{StoreError}
use Rattle.node_store.specs.declared.error.StoreError.TheVariants as Variant

-- the disk failed
abbrev pub is_disk : {T : Type 0} → Result T StoreError → Bool
is_disk (Err Variant.Disk) = true
is_disk _ = false
