-- The states of the machines that the readers stand for, where this was appended so far.
use Rattle.std.specs.Prelude.{ℕ, List}
use Rattle.soap_lex.specs.TextMachine.{TextMode, chars, referring, opening, commenting, quoting, refused, TextState}
use Rattle.soap_lex.specs.ValueMachine
use Rattle.soap_lex.specs.ValueMachine.{ValueMode, ValueState}
use Rattle.soap_lex.specs.declared.text.TextMode.{TextMode as CodeMode}
use Rattle.soap_lex.specs.declared.text.TextMode.TheVariants.{Chars, Referring, Opening, Commenting, Quoting, Refused}
use Rattle.soap_lex.specs.declared.text.TextReader.{TextReader}
use Rattle.soap_lex.specs.declared.value.Quote.{Quote}
use Rattle.soap_lex.specs.declared.value.Quote.TheVariants.{Double, Single}
use Rattle.soap_lex.specs.declared.value.ValueMode.{ValueMode as CodeValueMode}
use Rattle.soap_lex.specs.declared.value.ValueMode.TheVariants.{Plain, Referring as Refers, Closed, Refused as Refuses}
use Rattle.soap_lex.specs.declared.value.ValueReader.{ValueReader}
use Rattle.soap_lex.specs.Bytes.{double_quote, single_quote}

-- where a reader of text stands
abbrev pub text_mode : CodeMode → TextMode
text_mode Chars = chars
text_mode Referring = referring
text_mode Opening = opening
text_mode Commenting = commenting
text_mode Quoting = quoting
text_mode Refused = refused

-- the state of the machine that a reader of text stands for, where this was appended
abbrev pub text_state : TextReader → List ℕ → TextState
text_state r text = record { mode = text_mode r.mode; token = r.token.items; text = text }

-- the byte that a quote is
abbrev pub quote_byte : Quote → ℕ
quote_byte Double = double_quote
quote_byte Single = single_quote

-- where a reader of values stands
abbrev pub value_mode : CodeValueMode → ValueMode
value_mode Plain = ValueMachine.plain
value_mode Refers = ValueMachine.referring
value_mode Closed = ValueMachine.closed
value_mode Refuses = ValueMachine.refused

-- the state of the machine that a reader of values stands for, where this was appended
abbrev pub value_state : ValueReader → List ℕ → ValueState
value_state r value = record {
  mode = value_mode r.mode;
  quote = quote_byte r.quote;
  token = r.token.items;
  value = value;
}
