-- What the readers of elements answer, and the names that they read.
use Rattle.std.specs.Prelude.{◌≡◌, ℕ, List, Option, Some, None, Result, Ok, Err}
use Rattle.soap_document.specs.declared.profile.name.Expanded.{Expanded}
use Rattle.soap_writer.specs.Frame.{messaging_space, connection_space}
use Rattle.soap_writer.specs.Values.Children.{name_in}
use Rattle.rm_message.specs.declared.elements.error.ElementError.{ElementError}
use Rattle.rm_message.specs.declared.elements.error.ElementError.TheVariants.{Memory, Malformed, Rollover}

-- a name of WS-ReliableMessaging, and one of WS-MakeConnection
abbrev pub rm : List ℕ → Expanded
rm local = name_in messaging_space local

-- a name of WS-MakeConnection
abbrev pub mc : List ℕ → Expanded
mc local = name_in connection_space local

-- what was read, or that the element of this name is malformed
abbrev pub named : {A : Type 0} → List ℕ → Option A → Result (Option A) ElementError
named local (Some x) = Ok (Some x)
named local None = Err (Malformed local)

-- what a function answers is this, unless memory ran out
abbrev pub Answers : {A : Type 0} → Result A ElementError → Result A ElementError → Type 0
Answers (Ok x) read = read ≡ Ok x
Answers (Err Memory) read = Unit {0}
Answers (Err (Malformed name)) read = read ≡ Err (Malformed name)
Answers (Err (Rollover ident)) read = read ≡ Err (Rollover ident)
