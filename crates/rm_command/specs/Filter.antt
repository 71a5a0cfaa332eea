-- What a command does that reads its input to the end and prints a text of it.
use Rattle.std.specs.Prelude.{◌≡◌, ℕ, ◌<◌, ◌≤◌, ◌⊎◌, List, length, Result, Ok, Err}
use Rattle.rm_base.specs.Count.{Rose}
use Rattle.rm_base.specs.Outside.{Stream}
use Rattle.rm_script.specs.Report.Exits as exits
use Rattle.rm_command.specs.declared.end.End.{End}
use Rattle.rm_command.specs.declared.end.End.TheVariants.{Done, Usage, BadLine, ReadFault, WriteFault, TooLong}
use Rattle.rm_command.specs.declared.end.End.TheVariants.{Refused, Memory}
use Rattle.rm_command.specs.Edge.{Edge, WasRead, WasTooLong, WasWritten, WasBegun, WasSaid}
use Rattle.rm_command.specs.Status.{IsUnread, IsOutside}
use Rattle.rm_command.specs.Texts.{line_of}

-- at most so many bytes were read, and the text of them was written
pub record Printed {S K : Type 0} (limit : ℕ) (Prints : List ℕ → List ℕ → Type 0) (e : Edge S K) : Type 0 where
  pub bytes : List ℕ
  pub text : List ℕ
  pub read : WasRead limit e.input.told e.input_after.told bytes
  pub prints : Prints bytes text
  pub written : WasWritten e.out.told e.out_after.told text

-- at most so many bytes were read, and some first bytes of the text of them were written
pub record PrintedInPart {S K : Type 0} (limit : ℕ) (Prints : List ℕ → List ℕ → Type 0) (e : Edge S K) : Type 0 where
  pub bytes : List ℕ
  pub text : List ℕ
  pub read : WasRead limit e.input.told e.input_after.told bytes
  pub prints : Prints bytes text
  pub begun : WasBegun e.out.told e.out_after.told text

-- at most so many bytes were read, memory ran out while a text was made of them, and nothing was written
pub record CutShort {S K : Type 0} (limit : ℕ) (Cuts : List ℕ → Type 0) (e : Edge S K) : Type 0 where
  pub bytes : List ℕ
  pub read : WasRead limit e.input.told e.input_after.told bytes
  pub cut : Cuts bytes
  pub silent : e.out_after ≡ e.out

-- at most so many bytes were read and refused, and the line of the refusal was to be written
pub record RefusedInput {S K : Type 0} (limit : ℕ) (Refuses : List ℕ → End → Type 0) (end : End) (e : Edge S K)
    : Type 0 where
  pub bytes : List ℕ
  pub read : WasRead limit e.input.told e.input_after.told bytes
  pub refuses : Refuses bytes end
  pub said : WasSaid e.wants_memory e.out.told e.out_after.told (line_of end)

-- the input was not read to its end, for one of three reasons
abbrev pub EndsUnread : {S K : Type 0} → (limit : ℕ) → End → Edge S K → Type 0
EndsUnread limit ReadFault e =
    Rose e.input.told.faults e.input_after.told.faults
    × WasSaid e.wants_memory e.out.told e.out_after.told (line_of ReadFault)
EndsUnread limit TooLong e =
    WasTooLong limit e.input.told e.input_after.told
    × WasSaid e.wants_memory e.out.told e.out_after.told (line_of TooLong)
EndsUnread limit Memory e = e.out_after ≡ e.out
EndsUnread limit Done e = ⊥
EndsUnread limit Usage e = ⊥
EndsUnread limit (BadLine line) e = ⊥
EndsUnread limit WriteFault e = ⊥
EndsUnread limit (Refused fault) e = ⊥

-- how a text was written, by how the call ended
abbrev pub EndsWriting : List ℕ → End → Stream → Stream → Type 0
EndsWriting text Done old new = WasWritten old new text
EndsWriting text WriteFault old new = Rose old.faults new.faults × WasBegun old new text
EndsWriting text Memory old new = WasBegun old new text
EndsWriting text Usage old new = ⊥
EndsWriting text (BadLine line) old new = ⊥
EndsWriting text ReadFault old new = ⊥
EndsWriting text TooLong old new = ⊥
EndsWriting text (Refused fault) old new = ⊥

-- how reading an input ended, where what was read is no end
abbrev pub end_of : {A : Type 0} → Result A End → End
end_of (Ok read) = Done
end_of (Err end) = end

-- what the command did, by how it ended. Untouched is what stands where nothing was made of the input, Prints what does
-- where a text was made of it, Cuts what does where memory ran out before, and Refuses says why bytes are refused
abbrev pub EndsFilter : {S K : Type 0} → (limit : ℕ) → (Untouched : Type 0) → (Prints : List ℕ → List ℕ → Type 0)
    → (Cuts : List ℕ → Type 0) → (Refuses : List ℕ → End → Type 0) → End → Edge S K → Type 0
EndsFilter limit Untouched Prints Cuts Refuses Done e = Printed limit Prints e
EndsFilter limit Untouched Prints Cuts Refuses Usage e = ⊥
EndsFilter limit Untouched Prints Cuts Refuses (BadLine line) e = RefusedInput limit Refuses (BadLine line) e
EndsFilter limit Untouched Prints Cuts Refuses ReadFault e = Untouched × EndsUnread limit ReadFault e
EndsFilter limit Untouched Prints Cuts Refuses WriteFault e =
    Rose e.out.told.faults e.out_after.told.faults × PrintedInPart limit Prints e
EndsFilter limit Untouched Prints Cuts Refuses TooLong e = Untouched × EndsUnread limit TooLong e
EndsFilter limit Untouched Prints Cuts Refuses (Refused fault) e = RefusedInput limit Refuses (Refused fault) e
EndsFilter limit Untouched Prints Cuts Refuses Memory e =
    (Untouched × EndsUnread limit Memory e) ⊎ (PrintedInPart limit Prints e ⊎ CutShort limit Cuts e)

-- of good bytes comes 0, of others the status of a refusal, of more bytes 8, unless the input, the output or the
-- machine fails
pub record IsFilterStatus (limit refusal : ℕ) (Good : Type 0) (bytes : List ℕ) (status : ℕ) : Type 0 where
  pub good : length bytes ≤ limit → Good → (status ≡ exits.done) ⊎ IsOutside status
  pub bad : length bytes ≤ limit → ¬ Good → (status ≡ refusal) ⊎ IsUnread status
  pub longer : limit < length bytes → (status ≡ exits.too_long) ⊎ IsUnread status
