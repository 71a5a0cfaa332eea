-- How make ends.
use Rattle.std.proofs.Common.{◌≡◌, ◌≢◌, ◌⊎◌, ℕ, List, [], inl, inr, refl, sym, ap, subst}
use Rattle.std.specs.Prelude.{Err}
use Rattle.node_store.specs.Changes.{WasNotMade}
use Rattle.rm_disk.specs.Call.{seen_of}
use Rattle.rm_disk.specs.Told.{Told}
use Rattle.rm_node.specs.declared.error.NodeError.{NodeError}
use Rattle.rm_node.specs.declared.error.NodeError.TheVariants as node
use Rattle.rm_host.specs.Ends.{node_end}
use Rattle.rm_host.specs.Makings.{EndsMaking, MakesNode}
use Rattle.rm_host.specs.declared.end.End.{End}
use Rattle.rm_host.specs.declared.end.End.TheVariants.{DiskFault, Memory, NotEmpty}

-- want of memory alone ends a command with it
pub wants-memory : (e : NodeError) → node_end e ≡ Memory → e ≡ node.Memory
wants-memory node.Memory same = refl
wants-memory node.Disk same = absurd cc
wants-memory node.Down same = absurd cc
wants-memory (node.Refused cause) same = absurd cc

-- a node isn't made by want of memory, or by a fault of the disk
pub unmade : (e : NodeError) → (e ≡ node.Memory) ⊎ (e ≡ node.Disk) → (node_end e ≡ Memory) ⊎ (node_end e ≡ DiskFault)
unmade e (inl wants) = inl (ap node_end wants)
unmade e (inr fails) = inr (ap node_end fails)

-- ---- a node is made

-- a disk that isn't empty is refused, or its length can't be told
pub unempty-ends : (e : End) → (e ≡ DiskFault) ⊎ (e ≡ NotEmpty) → EndsMaking (Err e)
unempty-ends e (inl fails) = inr (inr fails)
unempty-ends e (inr full) = inl full

pub unempty : (first now : Told) (number : ℕ) (address : List ℕ) (e : End) → (e ≡ DiskFault) ⊎ (e ≡ NotEmpty)
    → (e ≡ NotEmpty → seen_of first.past ≢ []) → now.past ≡ first.past → MakesNode first now number address (Err e)
unempty first now number address e (inl fails) has past =
    subst (λ (x : End). MakesNode first now number address (Err x)) (sym fails) (inl past)
unempty first now number address e (inr full) has past =
    subst (λ (x : End). MakesNode first now number address (Err x)) (sym full) (has full, past)

-- an empty disk gets no node
pub unmade-ends : (e : End) → (e ≡ Memory) ⊎ (e ≡ DiskFault) → EndsMaking (Err e)
unmade-ends e how = inr how

pub unmade-disk : (first now : Told) (number : ℕ) (address : List ℕ) (e : End) → (e ≡ Memory) ⊎ (e ≡ DiskFault)
    → seen_of first.past ≡ [] → (e ≡ Memory → WasNotMade first.past now.past)
    → MakesNode first now number address (Err e)
unmade-disk first now number address e (inl wants) empty left =
    subst (λ (x : End). MakesNode first now number address (Err x)) (sym wants) (empty, inl (left wants))
unmade-disk first now number address e (inr fails) empty left =
    subst (λ (x : End). MakesNode first now number address (Err x)) (sym fails) (inr empty)
