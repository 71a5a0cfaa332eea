-- What a run shows of its input and its output, before it and after it.
use Rattle.std.specs.Prelude.{◌≡◌, ◌≢◌, ℕ, ◌+◌, ◌<◌, ◌≤◌, ◌⊎◌, List, length, Bool, false, IfSome}
use Rattle.std.specs.Io.KnownBytes.{Appends, IsAtEnd}
use Rattle.rm_base.specs.Count.{Rose, RoseBy}
use Rattle.rm_base.specs.Outside.{Stream, Lasts, AppendsFront}
use Rattle.rm_command.specs.declared.end.End.{End}
use Rattle.rm_command.specs.declared.end.End.TheVariants.{TooLong, Memory}

-- one side of a run, its source or its sink: itself, and what it tells
pub record Side (T : Type 0) : Type 0 where
  pub itself : T
  pub told : Stream

-- the input and the output of a call, before it and after it, and whether calls of the output may want memory
pub record Edge (S K : Type 0) : Type 0 where
  pub input : Side S
  pub input_after : Side S
  pub out : Side K
  pub out_after : Side K
  pub wants_memory : Bool

-- a side, by the ghost member of its trait
abbrev pub side_of : {T : Type 0} → (T → Stream) → T → Side T
side_of told side = record { itself = side; told = told side }

-- both, before a call and after it
abbrev pub edge_of : {S K : Type 0} → (S → Stream) → (K → Stream) → Bool → S → S → K → K → Edge S K
edge_of seen shown wants_memory input input_after out out_after = record {
  input = side_of seen input;
  input_after = side_of seen input_after;
  out = side_of shown out;
  out_after = side_of shown out_after;
  wants_memory = wants_memory;
}

-- these bytes were read to the input's end: all that were left, where that is known, and no more than the limit
pub record WasRead (limit : ℕ) (old new : Stream) (bytes : List ℕ) : Type 0 where
  pub whole : IfSome old.left (λ all. bytes ≡ all)
  pub short : length bytes ≤ limit
  pub at_end : IsAtEnd new.left

-- more bytes than the limit were taken, and there were as many, where that is known
pub record WasTooLong (limit : ℕ) (old new : Stream) : Type 0 where
  pub taken : RoseBy old.taken new.taken (limit + 1)
  pub longer : IfSome old.left (λ all. limit < length all)

-- this was written whole
abbrev pub WasWritten : Stream → Stream → List ℕ → Type 0
WasWritten old new text = Appends old.held new.held text

-- some first bytes of this were written
abbrev pub WasBegun : Stream → Stream → List ℕ → Type 0
WasBegun old new text = AppendsFront old.held new.held text

-- this line was to be written: some first bytes were, and all of it where no call failed or wanted memory
pub record WasSaid (wants_memory : Bool) (old new : Stream) (line : List ℕ) : Type 0 where
  pub front : WasBegun old new line
  pub whole : wants_memory ≡ false → WasWritten old new line ⊎ Rose old.faults new.faults

-- what holds of an output however a call ends: what lasts of it; and where memory ran out and its calls want none,
-- nothing was written
pub record KeepsOutput {K : Type 0} (wants_memory : Bool) (end : End) (old new : Side K) : Type 0 where
  pub lasts : Lasts old.told new.told
  pub unwritten : end ≡ Memory → wants_memory ≡ false → new.itself ≡ old.itself

-- no more bytes than the limit were taken, and one more only where they are too many or memory ran out
pub record TookWithin (limit : ℕ) (end : End) (old new : Stream) : Type 0 where
  pub stops : new.taken ≤ old.taken + (limit + 1)
  pub within : end ≢ TooLong → end ≢ Memory → new.taken ≤ old.taken + limit

-- what a call keeps that reads so many bytes at most, by how it ended
pub record KeepsEdge {S K : Type 0} (limit : ℕ) (end : End) (e : Edge S K) : Type 0 where
  pub input : Lasts e.input.told e.input_after.told
  pub taken : TookWithin limit end e.input.told e.input_after.told
  pub out : KeepsOutput e.wants_memory end e.out e.out_after
