-- What the code's steps do to the state that it stands for.
use Rattle.std.proofs.Common.{◌≡◌, ◌≢◌, ℕ, ◌+◌, ◌-◌, List, [], ◌∷◌, true, false, ◌&&◌, nat_eq, length}
use Rattle.std.proofs.Common.{refl, sym, ap, ◌∙◌, arith, append-nil}
use Rattle.std.specs.Str.{is_utf8, chars as characters}
use Rattle.std.proofs.lemmas.Bool.{eq-eqb, ne_eqb, true≢false}
use Rattle.xml_chars.specs.Classes.{is_space}
use Rattle.soap_lex.specs.Tests.{is_chars, is_char_data, is_nil}
use Rattle.soap_lex.specs.TextMachine.{begun as begun_text, halts, is_less}
use Rattle.soap_lex.specs.ValueMachine.{begun}
use Rattle.soap_lex.specs.Readers.{quote_byte}
use Rattle.soap_lex.specs.declared.value.Quote.{Quote}
use Rattle.soap_lex.specs.declared.value.Quote.TheVariants.{Double, Single}
use Rattle.soap_document.specs.Tree.{Parts, none, text, child}
use Rattle.soap_document.specs.Machine.{chars, less, value_inner, Frame, State, join, step, counted}
use Rattle.soap_document.specs.Machine.{in_less, at_chars, settle, has_room, at_valuing, at_tagging, at_less}
use Rattle.soap_document.specs.Tokens.{is_qname}

pub not_nil : {A : Type 0} (xs : List A) (n : ℕ) → n ≡ length xs → nat_eq n 0 ≡ false → is_nil xs ≡ false
not_nil [] n e h = absurd (true≢false (sym (eq-eqb n 0 e) ∙ h))
not_nil (x ∷ xs) n e h = refl

pub join-none : (ps : Parts) → join ps none ≡ ps
join-none none = refl
join-none (text x ps) = ap (text x) (join-none ps)
join-none (child u ps) = ap (child u) (join-none ps)

pub settled_empty : (s : State) → s.words.text ≡ [] → record s { words = begun_text [] } ≡ settle s
settled_empty s e = rw (e, join-none)

-- a value begins at its opening quote
pub value_begins : (s : State) (c : ℕ) (quote : Quote) → quote_byte quote ≡ c → is_space c ≡ false
    → record s { mode = value_inner; value = begun c [] } ≡ at_valuing s c
value_begins s c Double e f = rw (f, ← e)
value_begins s c Single e f = rw (f, ← e)

-- a tag begins at the < that text ends with
abbrev pub begun_tag : State → State
begun_tag s = record s { mode = less; markup = s.at - 1; token = []; words = begun_text s.words.text }

pub chars_less : (s : State) (c : ℕ) → halts s.words c ≡ true → is_less s.words ≡ true → in_less (begun_tag s) c
    ≡ at_chars s c
chars_less s c e f = rw (e, f)

-- ---- a < where no text is begun

-- no bytes are character data
no_data : is_char_data [] ≡ true
unfolding is_char_data is_chars is_utf8 characters
no_data = refl

-- behind the <, where a tag begins
abbrev pub at_tag : State → State
at_tag s = record s { mode = less; at = s.at + 1; markup = s.at; token = [] }

pub tag_begins : (s : State) (t : List ℕ) (c : ℕ) → c ≢ 33
    → step (step (record s { mode = chars; words = begun_text t }) 60) c
    ≡ counted (in_less (at_tag (record s { mode = chars; words = begun_text t })) c)
tag_begins s t c e =
    let back : s.at + 1 - 1 ≡ s.at = omega arith in
    rw (no_data, append-nil, ne_eqb c 33 e, back)

-- a tag has a name
pub less_named : (s : State) (c : ℕ) → is_nil s.token ≡ false → (is_qname s.token && has_room s.below s.top.parts)
    ≡ true → at_tagging (record (settle s) { name = s.token }) c ≡ at_less s c
less_named s c e f = rw (e, f)

-- where an element is open, there is an innermost one
pub some_open : (P : List Frame → Type 0) → ((frame : Frame) (frames : List Frame) → P (frame ∷ frames))
    → (below : List Frame) → is_nil below ≡ false → P below
some_open P f [] e = cc
some_open P f (frame ∷ frames) e = f frame frames
