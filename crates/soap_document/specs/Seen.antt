-- The state of the machine that a reader stands for.
use Rattle.std.specs.Prelude.{◌≡◌, ℕ, ◌+◌, ◌<◌, ◌≤◌, List, [], ◌∷◌, Bool, true, not, ◌&&◌, drop, length, map, reverse}
use Rattle.std.specs.Prelude.{vec_len}
use Rattle.soap_document.specs.Machine.{Mode, beginning, declaring, outside, marking, commenting, chars, less}
use Rattle.soap_document.specs.Machine.{tagging, naming, named, valuing, value_inner, slashed, ending, refused, Frame}
use Rattle.soap_document.specs.Machine.{State, is_none, run}
use Rattle.soap_lex.specs.Readers.{text_state, value_state}
use Rattle.soap_lex.specs.Tests.{is_nil}
use Rattle.soap_document.specs.declared.scan.Mode.{Mode as CodeMode}
use Rattle.soap_document.specs.declared.scan.Mode.TheVariants.{Beginning, Declaring, Outside, Marking, Commenting}
use Rattle.soap_document.specs.declared.scan.Mode.TheVariants.{Chars, Less, Tagging, Naming, Named, Valuing}
use Rattle.soap_document.specs.declared.scan.Mode.TheVariants.{ValueInner, Slashed, Ending, Refused}
use Rattle.soap_document.specs.declared.open_elements.OpenElements.{OpenElements}
use Rattle.soap_document.specs.declared.reader.Reader.{Reader}
use Rattle.soap_document.specs.declared.scan.Scan.{Scan}

-- where a reader stands
abbrev pub mode_of : CodeMode → Mode
mode_of Beginning = beginning
mode_of Declaring = declaring
mode_of Outside = outside
mode_of Marking = marking
mode_of Commenting = commenting
mode_of Chars = chars
mode_of Less = less
mode_of Tagging = tagging
mode_of Naming = naming
mode_of Named = named
mode_of Valuing = valuing
mode_of ValueInner = value_inner
mode_of Slashed = slashed
mode_of Ending = ending
mode_of Refused = refused

-- with these elements open
abbrev pub seen : Scan → Frame → List Frame → State
seen r top below = record {
  mode = mode_of r.mode;
  fresh = r.fresh;
  at = r.at;
  markup = r.markup;
  token = r.token.items;
  words = text_state r.words r.text.items;
  name = r.name;
  attributes = r.attributes.items;
  attribute = r.attribute;
  value = value_state r.valued r.value.items;
  top = top;
  below = below;
}

-- an element is open, or the document has a part
abbrev pub is_begun : Frame → List Frame → Bool
is_begun top [] = not (is_none top.parts)
is_begun top (frame ∷ frames) = true

-- no element is open, and the document has a part: its root has ended
abbrev pub is_ended : Frame → List Frame → Bool
is_ended top below = is_nil below && is_begun top below

-- these elements are open, and this stands for them
pub record Holds {H : Type 0} (stands : H → Frame → List Frame → Type 0) (stack : OpenElements H) (top : Frame)
    (below : List Frame) : Type 0 where
  pub name : stack.name ≡ top.name
  pub names : reverse stack.names.items ≡ map (λ (frame : Frame). frame.name) below
  pub begun : stack.begun ≡ is_begun top below
  pub stands_for : stands stack.handler top below

-- a handler was told of as many open elements as there are
abbrev pub Counts : {H : Type 0} → (H → ℕ) → OpenElements H → Type 0
Counts depth stack = depth stack.handler ≡ vec_len stack.names

-- the same of a reader's handler
abbrev pub IsTold : {H : Type 0} → (H → ℕ) → Reader H → Type 0
IsTold depth r = Counts depth r.stack

-- how many bytes a reader was fed
abbrev pub fed_len : {H : Type 0} → Reader H → ℕ
fed_len r = r.scan.at

-- a reader stands for a state, and its handler for the elements that are open in it
pub record Sees {H : Type 0} (stands : H → Frame → List Frame → Type 0) (r : Reader H) (s : State) : Type 0 where
  pub is : seen r.scan s.top s.below ≡ s
  pub holds : Holds stands r.stack s.top s.below

-- some of the bytes were taken, and no more of them than there are
pub record Taken (old new : State) (bytes : List ℕ) (n : ℕ) : Type 0 where
  pub some : 0 < n
  pub within : n ≤ length bytes
  pub meaning : run new (drop n bytes) ≡ run old bytes
  pub place : new.at + length (drop n bytes) ≡ old.at + length bytes

-- the reader stands for what the rest of the bytes go on from
pub record TakenBy {H : Type 0} (stands : H → Frame → List Frame → Type 0) (old : State) (r : Reader H) (bytes : List
    ℕ) (n : ℕ) : Type 0 where
  pub state : State
  pub sees : Sees stands r state
  pub taken : Taken old state bytes n
