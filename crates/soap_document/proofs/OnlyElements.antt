-- The reader takes elements and their content as the grammar has them.
use Rattle.std.proofs.Common.{◌≡◌, ℕ, suc, ◌+◌, ◌<◌, ◌⊎◌, inl, inr, List, [], ◌∷◌, ◌++◌, Bool, true, false, length}
use Rattle.std.proofs.Common.{codes, nat_eq, refl, sym, ap, ◌∙◌, arith, append_assoc, length-append}
use Rattle.std.proofs.lemmas.Bool.{lt-ltb, ne_eqb, true≢false}
use Rattle.xml_chars.specs.Classes.{is_space}
use Rattle.soap_lex.specs.Text.{IsText}
use Rattle.soap_lex.specs.TextMachine.{chars, text_in}
use Rattle.soap_document.specs.Tree.{Attribute, Element, element, Parts, none, text, child, onto}
use Rattle.soap_document.specs.Grammar.{IsWhite, IsQName, IsAttributes, end, more, IsElement, full, empty, IsContent}
use Rattle.soap_document.specs.Grammar.{last, start_tag, empty_tag, max_depth}
use Rattle.soap_document.specs.Machine.{no_value, ending, slashed, Frame, step, run, join, with_parts, has_room}
use Rattle.soap_document.specs.Machine.{is_name_end}
use Rattle.soap_document.proofs.Moves.{At, Reads, and_then, next_byte, last_byte, kept, Tag, tag_at}
use Rattle.soap_document.proofs.Moves.{between_at, plain_at, chars_at, less_at}
use Rattle.soap_document.proofs.OnlyTags.{attributes_only}
use Rattle.soap_document.proofs.TokenLaws.{qname_passes, qname_some, qname_less, qname_ending, white_ending}
use Rattle.soap_document.proofs.TokenLaws.{white_passes}
use Rattle.soap_document.proofs.TokenLaws.{end_begins}
use Rattle.soap_document.proofs.Words.{words_at, words_move, words_less}
use Rattle.soap_document.proofs.Lexing.{Lexes}

-- ---- parts

join-assoc : (a b c : Parts) → join (join a b) c ≡ join a (join b c)
join-assoc none b c = refl
join-assoc (text x a) b c = ap (text x) (join-assoc a b c)
join-assoc (child u a) b c = ap (child u) (join-assoc a b c)

join-onto : (x : List ℕ) (a b : Parts) → join (onto x a) b ≡ onto x (join a b)
join-onto [] a b = refl
join-onto (c ∷ x) a b = refl

pub grown : (top : Frame) (x : List ℕ) (u : Element) (ps : Parts)
    → with_parts (with_parts (with_parts top (onto x none)) (child u none)) ps ≡ with_parts top (onto x (child u ps))
grown top x u ps = ap (λ (k : Parts). record top { parts = k })
    (join-assoc (join top.parts (onto x none)) (child u none) ps ∙ join-assoc top.parts (onto x none) (child u ps)
    ∙ ap (join top.parts) (join-onto x none (child u ps)))

-- ---- a <

-- a < is the first byte of a tag, where no ! follows
abbrev pub Enters : At → ℕ → Bool → Frame → List Frame → List ℕ → Type 0
Enters s at fresh top below x = (c : ℕ) (rest : List ℕ) → nat_eq c 33 ≡ false
    → run (s at) (60 ∷ c ∷ rest) ≡ run (less_at fresh at top below x [] (at + 1)) (c ∷ rest)

name_byte : (c : ℕ) → is_name_end c ≡ false → nat_eq c 33 ≡ false
name_byte c h = ne_eqb c 33 (λ e. true≢false (sym (ap is_name_end e) ∙ h))

module _ {s : At} {at : ℕ} (fresh : Bool) (top : Frame) (below : List Frame) (x : List ℕ) (enters : Enters s at fresh
    top below x) where
  enter : {c : ℕ} {bytes : List ℕ} {to : At} → nat_eq c 33 ≡ false
      → Reads (at + 1) (c ∷ bytes) (less_at fresh at top below x []) to → Reads at (60 ∷ c ∷ bytes) s to
  enter {c} {bytes} {to} h m = record {
    moves = λ rest. enters c (bytes ++ rest) h ∙ m.moves rest
        ∙ ap (λ p. run (to p) rest) (omega arith);
  }

  enter_name : (name bytes : List ℕ) {to : At} → IsQName name
      → Reads (at + 1) (name ++ bytes) (less_at fresh at top below x []) to → Reads at (60 ∷ (name ++ bytes)) s to
  enter_name [] bytes q m = let some = qname_some [] q in cc
  enter_name (c ∷ name) bytes q m = enter (name_byte c (qname_less (c ∷ name) q).0) m

-- ---- start tags

abbrev IsTagByte : ℕ → Type 0
IsTagByte c = (is_space c ≡ true) ⊎ ((c ≡ 62) ⊎ (c ≡ 47))

module _ (fresh : Bool) (at : ℕ) (top : Frame) (below : List Frame) (text name : List ℕ) (q : IsQName name)
    (room : has_room below top.parts ≡ true) where
  abbrev here : Tag
  here = record { fresh = fresh; markup = at; top = with_parts top (onto text none); below = below; name = name }

  tag_step : (c p : ℕ) → IsTagByte c
      → step (less_at fresh at top below text name p) c ≡ step (between_at false here [] p) c
  tag_step c p (inl e) = rw (e, qname_some name q, qname_passes name q, room)
  tag_step c p (inr (inl e)) = rw (e, qname_some name q, qname_passes name q, room)
  tag_step c p (inr (inr e)) = rw (e, qname_some name q, qname_passes name q, room)

  behind_name : {c : ℕ} {bytes : List ℕ} {p : ℕ} {to : At} → IsTagByte c
      → Reads p (c ∷ bytes) (between_at false here []) to
      → Reads p (c ∷ bytes) (less_at fresh at top below text name) to
  behind_name {c} {bytes} {p} f m =
      record { moves = λ rest. ap (λ s. run s (bytes ++ rest)) (tag_step c p f) ∙ m.moves rest }

  attributes_begin : {tag : List ℕ} {attributes : List Attribute} → IsAttributes tag attributes
      → {c : ℕ} (bytes : List ℕ) {p : ℕ} {to : At} → IsTagByte c → Reads p (tag ++ c ∷ bytes) (between_at false here
      []) to → Reads p (tag ++ c ∷ bytes) (less_at fresh at top below text name) to
  attributes_begin (end [] h) bytes f m = behind_name f m
  attributes_begin (end (b ∷ space) h) bytes f m = behind_name (inl h.0) m
  attributes_begin (more [] n left right quoted value tail attributes s q l r v h) bytes f m = absurd (s.some refl)
  attributes_begin (more (b ∷ space) n left right quoted value tail attributes s q l r v h) bytes f m =
      behind_name (inl s.white.0) m

  -- a tag up to what ends it
  tag_only : (lex : Lexes) → {tag : List ℕ} {attributes : List Attribute} → IsAttributes tag attributes
      → {c : ℕ} {bytes : List ℕ} {s to : At} → IsTagByte c → Enters s at fresh top below text
      → ((spaced : Bool) (p : ℕ) → p ≡ at + 1 + length name + length tag → Reads p (c ∷ bytes)
      (between_at spaced here attributes) to) → Reads at (60 ∷ (name ++ (tag ++ c ∷ bytes))) s to
  tag_only lex h f enters m =
      let attrs = attributes_only lex h here false [] in
      enter_name fresh top below text enters name _ q
      (and_then (kept (less_at fresh at top below text [] 0) name (qname_less name q))
      (attributes_begin h _ f (and_then (attrs.moves _) (m attrs.ends_spaced _ refl))))

  open_step : (spaced : Bool) (attributes : List Attribute) (p start : ℕ) → p + 1 ≡ start
      → step (between_at spaced here attributes p) 62
      ≡ chars_at (record { name = name; attributes = attributes; start = start; parts = none })
      (with_parts top (onto text none) ∷ below) [] [] (p + 1)
  open_step true attributes p start e = rw e
  open_step false attributes p start e = rw e

  slash_step : (spaced : Bool) (attributes : List Attribute) (p : ℕ) → step (between_at spaced here attributes p) 47
      ≡ tag_at slashed here attributes [] no_value [] (p + 1)
  slash_step true attributes p = refl
  slash_step false attributes p = refl

-- ---- end tags

module _ (top frame : Frame) (frames : List Frame) (markup : ℕ) where
  abbrev ending_at : List ℕ → At
  ending_at token = plain_at ending false markup top (frame ∷ frames) [] token

  -- behind the </ of an end tag, up to its end
  close_moves : (space : List ℕ) (at : ℕ) → IsQName top.name → IsWhite space
      → Reads at (top.name ++ (space ++ codes ">")) (ending_at [])
      (chars_at (with_parts frame (child (element top.name top.attributes top.start markup top.parts) none)) frames
      [] [])
  close_moves space at q h =
      and_then (kept (ending_at [] 0) top.name (qname_ending top.name q))
      (and_then (kept (ending_at top.name 0) space (white_ending space h))
      (last_byte (rw (end_begins, white_passes space h))))

-- ---- elements and content

-- text within an element, up to a <
text_only : (lex : Lexes) → {bytes meaning : List ℕ} → IsText bytes meaning → (top frame : Frame) (frames : List Frame)
    → {at : ℕ} {more : List ℕ} {to : At} → ((s : At) → Enters s (at + length bytes) false top (frame ∷ frames) meaning
    → Reads (at + length bytes) more s to) → Reads at (bytes ++ more) (chars_at top (frame ∷ frames) [] []) to
text_only lex {bytes} {meaning} t top frame frames {at} m =
    let ends = lex.text_taken _ _ [] t in
    let before = words_at top frame frames (text_in ends.before chars ends.token) in
    let words : Reads at bytes (chars_at top (frame ∷ frames) [] []) before =
    record { moves = words_move top frame frames ends.takes refl refl at } in
    and_then words (m before (words_less top frame frames [] meaning bytes ends (at + length bytes)))

mutual
  pub element_only : (lex : Lexes) → {depth at : ℕ} {bytes : List ℕ} {u : Element} → IsElement depth at bytes u
      → (top : Frame) (below : List Frame) (x : List ℕ) (fresh : Bool) (s : At) → (depth < max_depth
      → has_room below top.parts ≡ true) → length below ≡ depth → Enters s at fresh top below x
      → Reads at bytes s (chars_at (with_parts (with_parts top (onto x none)) (child u none)) below [] [])
  element_only lex (full depth at name tag attributes content parts space d q h c w) top below x fresh s room deep
      enters =
      let start : ℕ = at + length (start_tag name tag) in
      let settled = with_parts top (onto x none) in
      let frame : Frame = record { name = name; attributes = attributes; start = start; parts = none } in
      let done : Frame = record { name = name; attributes = attributes; start = start; parts = parts } in
      and_then {b = start_tag name tag} {t = chars_at frame (settled ∷ below) [] []}
      (tag_only fresh at top below x name q (room d) lex h (inr (inl refl)) enters (λ spaced p e.
      last_byte (open_step fresh at top below x name q (room d) spaced attributes p start (omega (
        arith,
        e,
        length-append name (tag ++ codes ">"),
        length-append tag (codes ">"),
      )))))
      (content_only lex c frame settled below (ap suc deep) (start + length content) refl (λ p.
      close_moves done settled below (start + length content) space p q w))
  element_only lex (empty depth at name tag attributes d q h) top below x fresh s room deep enters =
      let slash = tag_at slashed (here fresh at top below x name q (room d)) attributes [] no_value [] in
      tag_only fresh at top below x name q (room d) lex h (inr (inr refl)) enters (λ spaced p e.
      let place : p + 1 + 1 ≡ at + length (empty_tag name tag) =
      omega (arith, e, length-append name (tag ++ codes "/>"), length-append tag (codes "/>")) in
      next_byte {t = slash} (slash_step fresh at top below x name q (room d) spaced attributes p)
      (last_byte (rw place)))

  -- the content of an element, its </ and what follows that
  pub content_only : (lex : Lexes) → {depth at : ℕ} {bytes : List ℕ} {parts : Parts} → IsContent depth at bytes parts
      → (top frame : Frame) (frames : List Frame) → length (frame ∷ frames) ≡ depth → (markup : ℕ)
      → at + length bytes ≡ markup → {later : List ℕ} {to : At}
      → ((p : ℕ) → Reads p later (ending_at (with_parts top parts) frame frames markup []) to)
      → Reads at (bytes ++ 60 ∷ 47 ∷ later) (chars_at top (frame ∷ frames) [] []) to
  content_only lex (last depth at bytes meaning t) top frame frames deep markup e m =
      text_only lex t top frame frames (λ s enters. enter false top (frame ∷ frames) meaning enters refl
      (next_byte (rw e) (m _)))
  content_only lex (more depth at bytes meaning inner first rest parts t i c) top frame frames deep markup e m =
      let next = with_parts (with_parts top (onto meaning none)) (child first none) in
      rw (append_assoc, append_assoc) (text_only lex t top frame frames (λ s enters.
      and_then (element_only lex i top (frame ∷ frames) meaning false s (λ h. lt-ltb (length (frame ∷ frames)) max_depth
      (rw deep h)) deep enters)
      (content_only lex c next frame frames deep markup (omega (
        arith,
        e,
        length-append bytes (inner ++ rest),
        length-append inner rest,
      )) (λ p. rw (grown top meaning first parts) (m p)))))
