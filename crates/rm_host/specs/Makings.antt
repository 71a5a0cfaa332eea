-- What make does to the disk, and what inbox tells.
use Rattle.std.specs.Prelude.{◌≡◌, ◌≢◌, ◌⊎◌, ℕ, Bool, List, [], ◌∷◌, codes, Result, Ok, Err, IsTrue}
use Rattle.node_store.specs.Changes.{WasNotMade}
use Rattle.node_store.specs.Has.{Has}
use Rattle.node_store.specs.Stored.{first_stored}
use Rattle.record_batch.specs.Fact.{Made}
use Rattle.rm_disk.specs.Call.{seen_of}
use Rattle.rm_disk.specs.Told.{Told}
use Rattle.http_endpoint.specs.Link.Lines.{Net}
use Rattle.rm_serve.specs.Steps.{Place, Step}
use Rattle.rm_host.specs.Sequences.{inbox_answer}
use Rattle.rm_host.specs.declared.end.End.{End}
use Rattle.rm_host.specs.declared.end.End.TheVariants.{DiskFault, Memory, NotEmpty}

-- the disk has a node of this number and address, with the one record that it was made
abbrev pub HasMade : Told → ℕ → List ℕ → Type 0
HasMade now number address = Has ((Made number address ∷ []) ∷ []) now.past (first_stored number address)

-- What make does on a disk that tells: it makes a node where the disk has no bytes, and refuses one that has some.
-- Where memory was wanting the disk is as it was or has an empty journal, or the node was made already. Where the disk
-- failed it is as it was, or it had no bytes, and then it holds anything.
abbrev pub MakesNode : Told → Told → ℕ → List ℕ → Result (List ℕ) End → Type 0
MakesNode first now number address (Ok printed) = (seen_of first.past ≡ []) × HasMade now number address
MakesNode first now number address (Err NotEmpty) = (seen_of first.past ≢ []) × (now.past ≡ first.past)
MakesNode first now number address (Err Memory) =
    (seen_of first.past ≡ []) × (WasNotMade first.past now.past ⊎ HasMade now number address)
MakesNode first now number address (Err DiskFault) = (now.past ≡ first.past) ⊎ (seen_of first.past ≡ [])
MakesNode first now number address (Err _) = ⊥

-- how make ends
abbrev pub EndsMaking : Result (List ℕ) End → Type 0
EndsMaking (Ok printed) = printed ≡ codes "made\n"
EndsMaking (Err e) = (e ≡ NotEmpty) ⊎ (e ≡ Memory) ⊎ (e ≡ DiskFault)

-- what make does
pub record Making (tells : Bool) (first now : Told) (old new : Net) (number : ℕ) (address : List ℕ)
    (result : Result (List ℕ) End) : Type 0 where
  pub ends : EndsMaking result
  pub disk : IsTrue tells → MakesNode first now number address result
  pub link : new ≡ old

-- what inbox does: it makes no call, and prints what is in the inbox of the node that was found
pub record TellsInbox (seq : ℕ) (x z : Place) (old new : Net) (steps : List Step) (result : Result (List ℕ) End)
    : Type 0 where
  pub none : steps ≡ []
  pub same : z ≡ x
  pub told : (result ≡ Err Memory) ⊎ (result ≡ inbox_answer x.node.stored.records seq)
  pub link : new ≡ old
