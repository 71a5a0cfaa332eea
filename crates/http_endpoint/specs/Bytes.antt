-- The bytes that stand between the parts of a message and of an address, by their names.
use Rattle.std.specs.Prelude.{ℕ}

-- CR stands before the LF that ends a line
abbrev pub carriage_return : ℕ
carriage_return = 13

-- LF ends it
abbrev pub line_feed : ℕ
line_feed = 10

-- ; begins the parameters of a media type
abbrev pub semicolon : ℕ
semicolon = 59

-- ? begins a query
abbrev pub question_mark : ℕ
question_mark = 63
