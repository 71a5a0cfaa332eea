-- How the reader moves over bytes: from a state at a place to one at the place behind them.
use Rattle.std.proofs.Common.{◌≡◌, ℕ, ◌+◌, List, [], ◌∷◌, ◌++◌, Bool, true, false, length, ap, ◌∙◌, arith}
use Rattle.std.proofs.Common.{append_assoc, append-nil, length-append}
use Rattle.std.specs.List.{AllByRecursion}
use Rattle.soap_lex.specs.TextMachine.{begun}
use Rattle.soap_lex.specs.ValueMachine.{ValueState}
use Rattle.soap_document.specs.Tree.{Attribute}
use Rattle.soap_document.specs.Machine.{Mode, less, tagging, naming, Frame, State, stops, step, run, no_value}
use Rattle.soap_document.specs.Machine.{text_mode}

-- the places of two runs of bytes, one behind the other
pub place_append : (at : ℕ) (b d : List ℕ) → at + length b + length d ≡ at + length (b ++ d)
place_append at b d = omega (arith, length-append b d)

pub place_one : (at c : ℕ) (d : List ℕ) → at + 1 + length d ≡ at + length (c ∷ d)
place_one at c d = omega arith

pub place_nil : (at : ℕ) → at ≡ at + length {A = ℕ} []
place_nil at = omega arith

abbrev pub At : Type 0
At = ℕ → State

-- over the bytes from a place on, the reader goes from one state to the other
abbrev pub Moves : ℕ → List ℕ → At → At → Type 0
Moves at b from to = (rest : List ℕ) → run (from at) (b ++ rest) ≡ run (to (at + length b)) rest

-- no byte ends the token
abbrev pub NoStops : Mode → List ℕ → Type 0
NoStops mode bytes = AllByRecursion (λ c. stops mode c ≡ false) bytes

abbrev pub at_place : State → At
at_place s at = record s { at = at }

abbrev pub longer : State → List ℕ → State
longer s bytes = record s { token = s.token ++ bytes }

-- the same as a record, which shows the places, the bytes and the states to the check
pub record Reads (at : ℕ) (b : List ℕ) (s t : At) : Type 0 where
  pub moves : Moves at b s t

pub no_byte : {at : ℕ} {s : At} → Reads at [] s s
no_byte {at} {s} = record { moves = λ rest. ap (λ p. run (s p) rest) (place_nil at) }

pub and_then : {at : ℕ} {b d : List ℕ} {s t u : At} → Reads at b s t → Reads (at + length b) d t u
    → Reads at (b ++ d) s u
and_then {at} {b} {d} {s} {t} {u} m n = record {
  moves = λ rest.
      ap (run (s at)) (append_assoc b d rest) ∙ m.moves (d ++ rest) ∙ n.moves rest
      ∙ ap (λ p. run (u p) rest) (place_append at b d);
}

pub next_byte : {at c : ℕ} {d : List ℕ} {s t u : At} → step (s at) c ≡ t (at + 1) → Reads (at + 1) d t u
    → Reads at (c ∷ d) s u
next_byte {at} {c} {d} {s} {t} {u} e n = record {
  moves = λ rest. ap (λ x. run x (d ++ rest)) e ∙ n.moves rest ∙ ap (λ p. run (u p) rest) (place_one at c d);
}

pub last_byte : {at c : ℕ} {s t : At} → step (s at) c ≡ t (at + 1) → Reads at (c ∷ []) s t
last_byte {at} {c} {s} {t} e = record { moves = λ rest. ap (λ x. run x rest) e }

-- bytes that end no token lengthen it
pub kept : (s : State) (bytes : List ℕ) {at : ℕ} → NoStops s.mode bytes
    → Reads at bytes (at_place s) (at_place (longer s bytes))
kept s [] h = rw append-nil no_byte
kept s (c ∷ bytes) {at} h =
    let next = longer s (c ∷ []) in
    next_byte {t = at_place next} (rw h.0) (simp append_assoc at (kept next bytes {at = at + 1} h.1))

-- ---- states

-- outside of tags, where no text is being read
abbrev pub plain_at : Mode → Bool → ℕ → Frame → List Frame → List ℕ → List ℕ → At
plain_at mode fresh markup top below text token at = record {
  mode = mode;
  fresh = fresh;
  at = at;
  markup = markup;
  token = token;
  words = begun text;
  name = [];
  attributes = [];
  attribute = [];
  value = no_value;
  top = top;
  below = below;
}

-- where text begins, or outside of the root
abbrev pub chars_at : Frame → List Frame → List ℕ → List ℕ → At
chars_at top below text token = plain_at (text_mode below) false 0 top below text token

abbrev pub less_at : Bool → ℕ → Frame → List Frame → List ℕ → List ℕ → At
less_at fresh markup top below text token = plain_at less fresh markup top below text token

-- in a start tag
pub record Tag : Type 0 where
  pub fresh : Bool
  pub markup : ℕ
  pub top : Frame
  pub below : List Frame
  pub name : List ℕ

abbrev pub tag_at : Mode → Tag → List Attribute → List ℕ → ValueState → List ℕ → At
tag_at mode tag attributes attribute value token at = record {
  mode = mode;
  fresh = tag.fresh;
  at = at;
  markup = tag.markup;
  token = token;
  words = begun [];
  name = tag.name;
  attributes = attributes;
  attribute = attribute;
  value = value;
  top = tag.top;
  below = tag.below;
}

-- where an attribute may follow, with white space before it or not
abbrev pub between : Bool → Mode
between false = tagging
between true = naming

abbrev pub between_at : Bool → Tag → List Attribute → At
between_at spaced tag attributes = tag_at (between spaced) tag attributes [] no_value []
