-- The bytes that mean something in XML, by their names.
use Rattle.std.specs.Prelude.{ℕ}

-- < begins markup
abbrev pub less_than : ℕ
less_than = 60

-- > ends it
abbrev pub greater_than : ℕ
greater_than = 62

-- & begins a reference
abbrev pub ampersand_sign : ℕ
ampersand_sign = 38

-- ; ends it
abbrev pub semicolon : ℕ
semicolon = 59

-- one quote of a value
abbrev pub double_quote : ℕ
double_quote = 34

-- the other
abbrev pub single_quote : ℕ
single_quote = 39

-- a tab, which is white space, as the next three are
abbrev pub tab : ℕ
tab = 9

-- an LF
abbrev pub line_feed : ℕ
line_feed = 10

-- a CR
abbrev pub carriage_return : ℕ
carriage_return = 13

-- a space
abbrev pub space_byte : ℕ
space_byte = 32

-- / stands in the tags of empty elements and in end tags
abbrev pub slash : ℕ
slash = 47

-- = stands behind the name of an attribute
abbrev pub equals_sign : ℕ
equals_sign = 61

-- ! begins a comment behind a <
abbrev pub exclamation_mark : ℕ
exclamation_mark = 33

-- ? begins the XML declaration behind a <
abbrev pub question_mark : ℕ
question_mark = 63
