-- The reader answers the tree of a document.
use Rattle.std.proofs.Common.{◌≡◌, ℕ, ◌+◌, ◌⊎◌, inl, inr, List, [], ◌∷◌, ◌++◌, Bool, true, false, Some, length, codes}
use Rattle.std.proofs.Common.{refl, sym, ap, ◌∙◌, arith, append_assoc, append-nil, length-append}
use Rattle.xml_chars.specs.Classes.{is_space}
use Rattle.soap_lex.specs.Text.{IsComment}
use Rattle.soap_document.specs.Tree.{Element, none, child}
use Rattle.soap_document.specs.Grammar.{IsMisc, white, comment, IsMark, unmarked, marked, IsDocument, document}
use Rattle.soap_document.specs.Machine.{beginning, declaring, Frame, step, run, start, nothing_open, root_of, is_mark}
use Rattle.soap_document.specs.Declaration.{is_declaration}
use Rattle.soap_document.specs.Tokens.{is_white}
use Rattle.soap_document.proofs.Moves.{At, Reads, NoStops, no_byte, and_then, next_byte, last_byte, kept, plain_at}
use Rattle.soap_document.proofs.Moves.{chars_at, less_at}
use Rattle.soap_document.proofs.OnlyElements.{element_only}
use Rattle.soap_document.proofs.OnlyComments.{comment_moves}
use Rattle.soap_document.proofs.TokenLaws.{white_passes, white_outside}
use Rattle.soap_document.proofs.Declarations.{Declares, declaration_passes}
use Rattle.soap_lex.specs.Facts.{other}
use Rattle.soap_document.proofs.Lexing.{Lexes}

-- behind the < of a comment, up to its end and what follows it
comment_only : (lex : Lexes) → (fresh : Bool) (markup : ℕ) (top : Frame) {comment rest : List ℕ} {at : ℕ} {to : At}
    → IsComment comment → ((p : ℕ) → Reads p rest (chars_at top [] [] []) to)
    → Reads at (codes "!--" ++ (comment ++ (codes "-->" ++ rest))) (less_at fresh markup top [] [] []) to
comment_only lex fresh markup top {comment} {rest} {at} c m =
    rw (← append_assoc comment (codes "-->") rest) (and_then {b = codes "!--" ++ (comment ++ codes "-->")}
    {t = chars_at top [] [] []} (record { moves = comment_moves fresh markup top [] [] lex comment at c }) (m _))

-- outside of the root, text ends in white space
record MiscEnds (top : Frame) (bytes : List ℕ) : Type 0 where
  token : List ℕ
  is : is_white token ≡ true
  moves : (at : ℕ) → Reads at bytes (chars_at top [] [] []) (chars_at top [] [] token)

outer_less : (top : Frame) (token : List ℕ) (at : ℕ) → is_white token ≡ true → step (chars_at top [] [] token at) 60
    ≡ less_at false at top [] [] [] (at + 1)
outer_less top token at e = rw e

misc_only : (lex : Lexes) → {bytes : List ℕ} → IsMisc bytes → (top : Frame) → MiscEnds top bytes
misc_only lex (white space h) top = record {
  token = space;
  is = white_passes space h;
  moves = λ at. kept (chars_at top [] [] [] 0) space (white_outside space h);
}
misc_only lex (comment space inner rest h c m) top =
    let after = misc_only lex m top in
    record {
      token = after.token;
      is = after.is;
      moves = λ at. and_then (kept (chars_at top [] [] [] 0) space (white_outside space h))
          (next_byte (outer_less top space _ (white_passes space h)) (comment_only lex false _ top c after.moves));
    }

abbrev beginning_at : List ℕ → At
beginning_at token = plain_at beginning true 0 nothing_open [] [] token

abbrev outer_at : List ℕ → At
outer_at token = chars_at nothing_open [] [] token

-- where the root begins
record Starts (mark bytes : List ℕ) : Type 0 where
  fresh : Bool
  before : At
  enters : (p : ℕ) → step (before p) 60 ≡ less_at fresh p nothing_open [] [] [] (p + 1)
  moves : (at : ℕ) → Reads at bytes (beginning_at mark) before

-- behind white space, a comment or a declaration
begun : {mark bytes rest : List ℕ} → MiscEnds nothing_open rest
    → ((to : At) → ((p : ℕ) → Reads p rest (outer_at []) to) → (at : ℕ) → Reads at bytes (beginning_at mark) to)
    → Starts mark bytes
begun ends m = record {
  fresh = false;
  before = outer_at ends.token;
  enters = λ p. outer_less nothing_open ends.token p ends.is;
  moves = m (outer_at ends.token) ends.moves;
}

first_less : (mark : List ℕ) (at : ℕ) → is_mark mark ≡ true → step (beginning_at mark at) 60
    ≡ less_at true at nothing_open [] [] [] (at + 1)
first_less mark at e = rw e

mark_passes : {mark : List ℕ} → IsMark mark → is_mark mark ≡ true
mark_passes unmarked = refl
mark_passes marked = refl

first_white : (mark : List ℕ) (c at : ℕ) → is_mark mark ≡ true → is_space c ≡ true → step (beginning_at mark at) c
    ≡ outer_at [] (at + 1)
first_white mark c at e w = rw (w, e, other is_space c 60 w refl)

misc_first : (lex : Lexes) → {bytes : List ℕ} → IsMisc bytes → (mark : List ℕ) → is_mark mark ≡ true
    → Starts mark bytes
misc_first lex (white [] h) mark e = record {
  fresh = true;
  before = beginning_at mark;
  enters = λ p. first_less mark p e;
  moves = λ at. no_byte;
}
misc_first lex (white (c ∷ space) h) mark e =
    begun (misc_only lex (white space h.1) nothing_open) (λ to m at. next_byte (first_white mark c at e h.0) (m _))
misc_first lex (comment [] inner rest h c m) mark e =
    begun (misc_only lex m nothing_open) (λ to m at. next_byte (first_less mark at e) (comment_only lex true at
    nothing_open c m))
misc_first lex (comment (b ∷ space) inner rest h c m) mark e =
    begun (misc_only lex (comment space inner rest h.1 c m) nothing_open) (λ to m at. next_byte (first_white mark b at
    e h.0) (m _))

abbrev declaring_at : ℕ → List ℕ → At
declaring_at markup token = plain_at declaring true markup nothing_open [] [] token

declared_moves : (mark inner : List ℕ) (at : ℕ) → is_mark mark ≡ true → NoStops declaring inner
    → is_declaration inner ≡ true → Reads at (60 ∷ 63 ∷ (inner ++ 62 ∷ [])) (beginning_at mark) (outer_at [])
declared_moves mark inner at e h passes =
    next_byte {t = less_at true at nothing_open [] [] []} (first_less mark at e)
    (next_byte {t = declaring_at at []} refl
    (and_then (kept (declaring_at at [] 0) inner h) (last_byte (rw passes))))

starts : (lex : Lexes) → (mark declaration before : List ℕ) → is_mark mark ≡ true
    → (declaration ≡ []) ⊎ Declares declaration → IsMisc before → Starts mark (declaration ++ before)
starts lex mark declaration before e (inl none_said) m = rw none_said (misc_first lex m mark e)
starts lex mark declaration before e (inr d) m =
    begun (misc_only lex m nothing_open) (λ to m at. and_then (rw d.there (declared_moves mark d.inner at e d.text
    d.passes)) (m _))

mark_moves : {mark : List ℕ} → IsMark mark → Reads 0 mark (beginning_at []) (beginning_at mark)
mark_moves unmarked = no_byte
mark_moves marked = kept (beginning_at [] 0) (0xEF ∷ 0xBB ∷ 0xBF ∷ []) (refl, (refl, (refl, tt)))

abbrev rooted : Element → Frame
rooted root = record { name = []; attributes = []; start = 0; parts = child root none }

read_root : (root : Element) (token bytes : List ℕ) → is_white token ≡ true
    → Reads 0 bytes (beginning_at []) (chars_at (rooted root) [] [] token) → root_of (run start bytes) ≡ Some root
read_root root token bytes e m =
    ap (λ x. root_of (run start x)) (sym (append-nil bytes)) ∙ ap root_of (m.moves []) ∙ rw e

pub document_only : (lex : Lexes) → {bytes : List ℕ} {root : Element} → IsDocument bytes root
    → root_of (run start bytes) ≡ Some root
document_only lex (document mark declaration before bytes root after m d b e a) =
    let s = starts lex mark declaration before (mark_passes m) (declaration_passes d) b in
    let ends = misc_only lex a (rooted root) in
    let inside = element_only lex e nothing_open [] [] s.fresh s.before (λ _. refl) refl (λ c rest _.
    ap (λ x. run x (c ∷ rest)) (s.enters _)) in
    let place : 0 + length mark + length (declaration ++ before) ≡ length mark + length declaration + length before =
    omega (arith, length-append declaration before) in
    read_root root ends.token (mark ++ (declaration ++ (before ++ (bytes ++ after)))) ends.is
    (rw (← append_assoc declaration before (bytes ++ after)) (and_then (mark_moves m) (and_then (s.moves _)
    (rw place (and_then inside (ends.moves _))))))

pub one_tree : (lex : Lexes) → (bytes : List ℕ) (root other : Element) → IsDocument bytes root
    → IsDocument bytes other → root ≡ other
one_tree lex bytes root other h k = let e = sym (document_only lex h) ∙ document_only lex k in cc
