-- The reader of documents, a byte at a time. It says how a document is read, and nothing of what a document is: that
-- stands in Grammar. Bytes that end a token have their meaning, and all others only lengthen it.
use Rattle.std.specs.Prelude.{ℕ, ◌+◌, ◌-◌, List, [], ◌∷◌, ◌++◌, Bool, true, false, not, ◌&&◌, ◌||◌, ◌==◌, nat_lt}
use Rattle.std.specs.Prelude.{if◌then◌else◌, Option, Some, None, codes, length}
use Rattle.std.specs.Str.{bytes_eq}
use Rattle.xml_chars.specs.Classes.{is_space}
use Rattle.soap_lex.specs.TextMachine.{TextState, begun as begun_text, halts as text_halts, is_less}
use Rattle.soap_lex.specs.TextMachine.{is_refused as text_refused, step as text_step}
use Rattle.soap_lex.specs.ValueMachine.{ValueState, begun as begun_value, halts as value_halts, is_closed}
use Rattle.soap_lex.specs.ValueMachine.{is_refused as value_refused, step as value_step}
use Rattle.soap_document.specs.Tree.{Attribute, Element, element, Parts, none, text, child, onto}
use Rattle.soap_document.specs.Grammar.{max_depth}
use Rattle.soap_document.specs.Tokens.{is_white, is_qname}
use Rattle.soap_lex.specs.Tests.{is_nil, is_comment, without}
use Rattle.soap_document.specs.Declaration.{is_declaration}
use Rattle.soap_lex.specs.Bytes.{less_than, greater_than, double_quote, single_quote, slash, equals_sign}
use Rattle.soap_lex.specs.Bytes.{exclamation_mark, question_mark}

-- where the reader stands
pub data Mode : Type 0 where
  -- before the first < or white space; in an XML declaration
  beginning declaring : Mode
  -- outside of the root; just after <! there, in a comment there
  outside marking commenting : Mode
  -- in text within an element, which the machine of soap_lex reads; just after a <, or in a name there
  chars less : Mode
  -- in a start tag: where an attribute or white space may follow; in an attribute's name; behind one; behind =; in a
  -- value, which the machine of soap_lex reads; behind /
  tagging naming named valuing value_inner slashed : Mode
  -- in an end tag; the bytes are no document
  ending refused : Mode

-- an element whose end tag has not come, with its parts so far; the lowest is the document itself, without a name
pub record Frame : Type 0 where
  pub name : List ℕ
  pub attributes : List Attribute
  pub start : ℕ
  pub parts : Parts

-- what was read, and what of it still matters
pub record State : Type 0 where
  pub mode : Mode
  -- whether no text, comment or tag was read
  pub fresh : Bool
  -- how many bytes were read; where the < of the markup stands
  pub at : ℕ
  pub markup : ℕ
  -- the bytes of the token that is not ended, the text, and what was read of a start tag
  pub token : List ℕ
  pub words : TextState
  pub name : List ℕ
  pub attributes : List Attribute
  pub attribute : List ℕ
  pub value : ValueState
  -- the elements that are open, the innermost first
  pub top : Frame
  pub below : List Frame

-- where no value is read
abbrev pub no_value : ValueState
no_value = begun_value double_quote []

-- parts before others
abbrev pub join : Parts → Parts → Parts
join none parts = parts
join (text bytes more) parts = text bytes (join more parts)
join (child first more) parts = child first (join more parts)

-- an open element with these parts more
abbrev pub with_parts : Frame → Parts → Frame
with_parts frame more = record frame { parts = join frame.parts more }

-- the bytes are no document
abbrev pub refuse : State → State
refuse s = record s { mode = refused; token = [] }

-- in text, where elements are open
abbrev pub text_mode : List Frame → Mode
text_mode [] = outside
text_mode (frame ∷ frames) = chars

-- back in text, or outside of the root
abbrev pub calm : State → State
calm s = record s { mode = text_mode s.below; fresh = false; markup = 0; token = [] }

-- the text becomes a part
abbrev pub settle : State → State
settle s = record s { top = with_parts s.top (onto s.words.text none); words = begun_text [] }

-- white space, or a byte that may stand behind a name in a tag
abbrev pub is_name_end : ℕ → Bool
is_name_end c =
    is_space c || ((c == greater_than) || ((c == slash) || ((c == equals_sign) || ((c == exclamation_mark)
    || (c == question_mark)))))

-- whether a byte ends the token
abbrev pub stops : Mode → ℕ → Bool
stops beginning c = is_space c || (c == less_than)
stops declaring c = c == greater_than
stops outside c = c == less_than
stops marking c = true
stops commenting c = c == greater_than
stops chars c = true
stops less c = is_name_end c
stops tagging c = true
stops naming c = is_name_end c
stops named c = true
stops valuing c = true
stops value_inner c = true
stops slashed c = true
stops ending c = c == greater_than
stops refused c = true

-- a byte order mark, or nothing (XML 1.0, 4.3.3)
abbrev pub is_mark : List ℕ → Bool
is_mark bytes = is_nil bytes || bytes_eq bytes (0xEF ∷ 0xBB ∷ 0xBF ∷ [])

-- white space or a < ends what stands before all markup
abbrev pub at_beginning : State → ℕ → State
at_beginning s c =
    if is_mark s.token
    then (if c == less_than then record s { mode = less; markup = s.at; token = [] } else calm s)
    else refuse s

-- a > ends the XML declaration
abbrev pub at_declaring : State → State
at_declaring s = if is_declaration s.token then calm s else refuse s

-- outside of the root there is only white space
abbrev pub at_outside : State → ℕ → State
at_outside s c =
    if is_white s.token && (c == less_than) then record s { mode = less; markup = s.at; token = [] } else refuse s

-- the byte behind <! that makes this token: a comment begins with two dashes
abbrev pub at_marking : State → List ℕ → State
at_marking s token =
    if bytes_eq token (codes "-") then record s { token = token }
    else if bytes_eq token (codes "--") then record s { mode = commenting; token = [] }
    else refuse s

-- a comment ends, or holds a >
abbrev pub at_commenting : State → Option (List ℕ) → State
at_commenting s None = record s { token = s.token ++ greater_than ∷ [] }
at_commenting s (Some comment) = if is_comment comment then calm s else refuse s

-- the start tag ends: an element is open
abbrev pub opened : State → State
opened s = calm (record s {
  name = [];
  attributes = [];
  top = record { name = s.name; attributes = s.attributes; start = s.at + 1; parts = none };
  below = s.top ∷ s.below;
})

-- the empty-element tag ends
abbrev pub emptied : State → State
emptied s = calm (record s {
  name = [];
  attributes = [];
  top = with_parts s.top (child (element s.name s.attributes (s.at + 1) (s.at + 1) none) none);
})

-- within a start tag, where no token is begun
abbrev pub at_tagging : State → ℕ → State
at_tagging s c =
    if is_space c then record s { mode = naming; token = [] }
    else if c == greater_than then opened s
    else if c == slash then record s { mode = slashed; token = [] }
    else refuse s

-- there are no parts
abbrev pub is_none : Parts → Bool
is_none none = true
is_none (text bytes parts) = false
is_none (child first parts) = false

-- whether an element may begin
abbrev pub has_room : List Frame → Parts → Bool
has_room frames parts = if is_nil frames then is_none parts else nat_lt (length frames) max_depth

-- a byte that may stand behind a name ends what stands behind a <
abbrev pub at_less : State → ℕ → State
at_less s c =
    if is_nil s.token then
    (if (c == slash) && not (is_nil s.below) then record (settle s) { mode = ending }
    else if c == exclamation_mark then record s { mode = marking }
    else if (c == question_mark) && s.fresh then record s { mode = declaring }
    else refuse s)
    else if is_qname s.token && has_room s.below s.top.parts then
    at_tagging (record (settle s) { name = s.token }) c
    else refuse s

-- a byte behind a <, or in a name there
abbrev pub in_less : State → ℕ → State
in_less s c = if is_name_end c then at_less s c else record s { token = s.token ++ c ∷ [] }

-- where text was refused, so are the bytes
abbrev pub after_text : State → State
after_text s = if text_refused s.words.mode then refuse s else s

-- text ends before a <, where the byte behind it begins no comment and no CDATA section
abbrev pub at_chars : State → ℕ → State
at_chars s c =
    if text_halts s.words c then
    (if is_less s.words
    then in_less (record s { mode = less; markup = s.at - 1; token = []; words = begun_text s.words.text }) c
    else refuse s)
    else after_text (record s { words = text_step s.words c })

-- a byte behind the name of an attribute
abbrev pub at_named : State → ℕ → State
at_named s c =
    if is_space c then record s { mode = named } else if c == equals_sign then record s { mode = valuing } else refuse s

-- a byte ends the name of an attribute, or stands where none is begun
abbrev pub at_naming : State → ℕ → State
at_naming s c =
    if is_nil s.token then at_tagging s c
    else if is_qname s.token then at_named (record s { attribute = s.token; token = [] }) c
    else refuse s

-- a byte behind the = of an attribute
abbrev pub at_valuing : State → ℕ → State
at_valuing s c =
    if is_space c then s
    else if (c == double_quote) || (c == single_quote) then record s { mode = value_inner; value = begun_value c [] }
    else refuse s

-- the attribute ends where its value is closed; where that was refused, so are the bytes
abbrev pub after_value : State → State
after_value s =
    if is_closed s.value.mode then record s {
      mode = tagging;
      token = [];
      attribute = [];
      value = no_value;
      attributes = s.attributes ++ record { name = s.attribute; value = s.value.value } ∷ [];
    }
    else if value_refused s.value.mode then refuse s
    else s

-- a byte within a value
abbrev pub at_value : State → ℕ → State
at_value s c =
    if value_halts s.value.mode then refuse s else after_value (record s { value = value_step s.value c })

-- the end tag ends, which names the innermost element; after its name there may be white space
abbrev pub is_end : List ℕ → List ℕ → Bool
is_end [] token = is_white token
is_end (b ∷ name) [] = false
is_end (b ∷ name) (c ∷ token) = (b == c) && is_end name token

-- a > ends the end tag
abbrev pub closed : List Frame → State → State
closed [] s = refuse s
closed (frame ∷ frames) s =
    if is_end s.top.name s.token then calm (record s {
      top = with_parts frame (child (element s.top.name s.top.attributes s.top.start s.markup s.top.parts) none);
      below = frames;
    })
    else refuse s

-- what a byte that ends the token does
abbrev pub after_token : Mode → State → ℕ → State
after_token beginning s c = at_beginning s c
after_token declaring s c = at_declaring s
after_token outside s c = at_outside s c
after_token marking s c = at_marking s (s.token ++ c ∷ [])
after_token commenting s c = at_commenting s (without (codes "--") s.token)
after_token chars s c = at_chars s c
after_token less s c = at_less s c
after_token tagging s c = at_tagging s c
after_token naming s c = at_naming s c
after_token named s c = at_named s c
after_token valuing s c = at_valuing s c
after_token value_inner s c = at_value s c
after_token slashed s c = if c == greater_than then emptied s else refuse s
after_token ending s c = closed s.below s
after_token refused s c = s

-- one byte more was read
abbrev pub counted : State → State
counted s = record s { at = s.at + 1 }

-- what a byte does
abbrev pub step : State → ℕ → State
step s c = counted (if stops s.mode c then after_token s.mode s c else record s { token = s.token ++ c ∷ [] })

-- what bytes do
abbrev pub run : State → List ℕ → State
run s [] = s
run s (c ∷ bytes) = run (step s c) bytes

-- the document, where nothing was read
abbrev pub nothing_open : Frame
nothing_open = record { name = []; attributes = []; start = 0; parts = none }

-- nothing was read
abbrev pub start : State
start = record {
  mode = beginning;
  fresh = true;
  at = 0;
  markup = 0;
  token = [];
  words = begun_text [];
  name = [];
  attributes = [];
  attribute = [];
  value = no_value;
  top = nothing_open;
  below = [];
}

-- the element that is the only part
abbrev pub only_child : Parts → Option Element
only_child none = None
only_child (text bytes parts) = None
only_child (child first none) = Some first
only_child (child first (text bytes parts)) = None
only_child (child first (child second parts)) = None

-- the reader stands outside of the root
abbrev pub is_outside_mode : Mode → Bool
is_outside_mode outside = true
is_outside_mode beginning = false
is_outside_mode declaring = false
is_outside_mode marking = false
is_outside_mode commenting = false
is_outside_mode chars = false
is_outside_mode less = false
is_outside_mode tagging = false
is_outside_mode naming = false
is_outside_mode named = false
is_outside_mode valuing = false
is_outside_mode value_inner = false
is_outside_mode slashed = false
is_outside_mode ending = false
is_outside_mode refused = false

-- whether the bytes are no document, whatever follows
abbrev pub is_refused : Mode → Bool
is_refused refused = true
is_refused beginning = false
is_refused declaring = false
is_refused outside = false
is_refused marking = false
is_refused commenting = false
is_refused chars = false
is_refused less = false
is_refused tagging = false
is_refused naming = false
is_refused named = false
is_refused valuing = false
is_refused value_inner = false
is_refused slashed = false
is_refused ending = false

-- the root, where what was read is a document
abbrev pub root_of : State → Option Element
root_of s =
    if is_outside_mode s.mode && (is_nil s.below && is_white s.token) then only_child s.top.parts else None
