-- The machine that reads text, against the grammar: what the grammar has it reads, and what it reads the grammar has.
use Rattle.std.proofs.Common.{◌≡◌, ℕ, inl, inr, List, [], ◌∷◌, ◌++◌, Bool, true, false, nat_eq, Some, None, codes}
use Rattle.std.proofs.Common.{encode_utf8, refl, sym, ap, ap₂, subst, ◌∙◌, append_assoc, append-nil}
use Rattle.std.specs.List.{AllByRecursion}
use Rattle.std.specs.Str.{bytes_eq}
use Rattle.std.proofs.lemmas.Bool.{eqb-true}
use Rattle.soap_lex.specs.Cut.{EndsText, IsTextFirst}
use Rattle.soap_lex.specs.Text.{IsText, run as plain, more, IsMarkup, reference, cdata, comment, IsComment, IsCdata}
use Rattle.soap_lex.specs.Text.{with_line_ends}
use Rattle.soap_lex.specs.Tests
use Rattle.soap_lex.specs.Tests.{begins, is_char_data, is_comment, is_cdata, without}
use Rattle.soap_lex.specs.TextMachine.{TextMode, chars, referring, opening, commenting, quoting, refused, TextState}
use Rattle.soap_lex.specs.TextMachine.{begun, stops, opens, halts_in, halts, longer, step, run, ended, with_rest}
use Rattle.soap_lex.specs.TextMachine.{reads, is_less_in, is_less}
use Rattle.soap_lex.proofs.EndLemmas.{comment_open, cdata_open}
use Rattle.soap_lex.proofs.ReferenceTests.{Referred, reference_passes}
use Rattle.soap_lex.proofs.TestLemmas.{data_passes, data_bytes, comment_passes, cdata_passes}
use Rattle.soap_lex.specs.Ends.{without-append}
use Rattle.soap_lex.specs.Facts.{same}
use Rattle.soap_lex.specs.Ends.{IsOpen, IsOpen-tail, IsOpen-here}
use Rattle.soap_lex.specs.TextMachine.{Takes, stay, on, TextEnds}

-- ---- how the machine moves

pub then : {s t u : TextState} {a b : List ℕ} → Takes s a t → Takes t b u → Takes s (a ++ b) u
then (stay s) n = n
then (on s c bytes t h m) n = on s c _ _ h (then m n)

pub byte : (s next t : TextState) (c : ℕ) (bytes : List ℕ) → halts s c ≡ false → step s c ≡ next → Takes next bytes t
    → Takes s (c ∷ bytes) t
byte s next t c bytes h e m = on s c bytes t h (subst (λ x. Takes x bytes t) (sym e) m)

pub one : (s t : TextState) (c : ℕ) → halts s c ≡ false → step s c ≡ t → Takes s (c ∷ []) t
one s t c h e = byte s t t c [] h e (stay t)

pub retarget : {s t u : TextState} {bytes : List ℕ} → t ≡ u → Takes s bytes t → Takes s bytes u
retarget {s} {t} {u} {bytes} e m = subst (λ x. Takes s bytes x) e m

pub over : {s t : TextState} {a b : List ℕ} → a ≡ b → Takes s a t → Takes s b t
over {s} {t} {a} {b} e m = subst (λ x. Takes s x t) e m

pub run_takes : {s t : TextState} {bytes : List ℕ} → Takes s bytes t → (rest : List ℕ)
    → run s (bytes ++ rest) ≡ run t rest
run_takes (stay s) rest = refl
run_takes (on s c bytes t h m) rest = rw h (run_takes m rest)

-- no byte ends the token
abbrev pub NoStops : TextMode → List ℕ → Type 0
NoStops mode bytes = AllByRecursion (λ c. stops mode c ≡ false) bytes

pub no_halt : (mode : TextMode) (token : List ℕ) (c : ℕ) → stops mode c ≡ false → halts_in mode token ≡ false
no_halt chars token c e = refl
no_halt referring token c e = refl
no_halt opening token c e = cc
no_halt commenting token c e = refl
no_halt quoting token c e = refl
no_halt refused token c e = cc

kept_step : (s : TextState) (c : ℕ) → stops s.mode c ≡ false → step s c ≡ longer s (c ∷ [])
kept_step s c e = rw e

-- bytes that end no token lengthen it
pub kept : (s : TextState) (bytes : List ℕ) → NoStops s.mode bytes → Takes s bytes (longer s bytes)
kept s [] h = retarget (ap (λ t. record s { token = t }) (sym (append-nil s.token))) (stay s)
kept s (c ∷ bytes) h =
    byte s (longer s (c ∷ [])) (longer s (c ∷ bytes)) c bytes (no_halt s.mode (s.token ++ c ∷ []) c h.0)
    (kept_step s c h.0)
    (retarget (ap (λ t. record s { token = t }) (append_assoc s.token (c ∷ []) bytes))
    (kept (longer s (c ∷ [])) bytes h.1))

-- ---- what the grammar has

module _ (text : List ℕ) where
  abbrev pub in_mode : TextMode → List ℕ → TextState
  in_mode mode token = record { mode = mode; token = token; text = text }

  comment_step : (token : List ℕ) (c : ℕ) (b : Bool) → nat_eq c 62 ≡ b → (c ≡ 62 → without (codes "--") token ≡ None)
      → step (in_mode commenting token) c ≡ in_mode commenting (token ++ c ∷ [])
  comment_step token c true e h =
      let same = eqb-true c 62 e in
      rw (e, h same) (ap (λ x. in_mode commenting (token ++ x ∷ [])) (sym same))
  comment_step token c false e h = rw e

  pub comment_run : (token bytes : List ℕ) → IsOpen (codes "--") token bytes
      → Takes (in_mode commenting token) bytes (in_mode commenting (token ++ bytes))
  comment_run token [] h = retarget (ap (in_mode commenting) (sym (append-nil token))) (stay (in_mode commenting token))
  comment_run token (c ∷ bytes) h =
      byte (in_mode commenting token) (in_mode commenting (token ++ c ∷ [])) (in_mode commenting (token
      ++ (c ∷ bytes))) c
      bytes refl
      (comment_step token c (nat_eq c 62) refl (IsOpen-here (codes "--") token c bytes h))
      (retarget (ap (in_mode commenting) (append_assoc token (c ∷ []) bytes))
      (comment_run (token ++ c ∷ []) bytes (IsOpen-tail (codes "--") token c bytes h)))

  cdata_step : (token : List ℕ) (c : ℕ) (b : Bool) → nat_eq c 62 ≡ b → (c ≡ 62 → without (codes "]]") token ≡ None)
      → step (in_mode quoting token) c ≡ in_mode quoting (token ++ c ∷ [])
  cdata_step token c true e h =
      let same = eqb-true c 62 e in
      rw (e, h same) (ap (λ x. in_mode quoting (token ++ x ∷ [])) (sym same))
  cdata_step token c false e h = rw e

  cdata_run : (token bytes : List ℕ) → IsOpen (codes "]]") token bytes
      → Takes (in_mode quoting token) bytes (in_mode quoting (token ++ bytes))
  cdata_run token [] h = retarget (ap (in_mode quoting) (sym (append-nil token))) (stay (in_mode quoting token))
  cdata_run token (c ∷ bytes) h =
      byte (in_mode quoting token) (in_mode quoting (token ++ c ∷ [])) (in_mode quoting (token ++ (c ∷ bytes))) c
      bytes refl
      (cdata_step token c (nat_eq c 62) refl (IsOpen-here (codes "]]") token c bytes h))
      (retarget (ap (in_mode quoting) (append_assoc token (c ∷ []) bytes))
      (cdata_run (token ++ c ∷ []) bytes (IsOpen-tail (codes "]]") token c bytes h)))

  comment_end : (bytes : List ℕ) → IsComment bytes → step (in_mode commenting (bytes ++ codes "--")) 62 ≡ begun text
  comment_end bytes h = rw (without-append (codes "--") bytes, comment_passes bytes h)

  cdata_end : (bytes : List ℕ) → IsCdata bytes
      → step (in_mode quoting (bytes ++ codes "]]")) 62 ≡ begun (text ++ with_line_ends bytes)
  cdata_end bytes h = rw (without-append (codes "]]") bytes, cdata_passes bytes h)

  -- behind a <, what begins a comment
  pub comment_begins : Takes (in_mode opening (codes "<")) (codes "!--") (in_mode commenting [])
  comment_begins =
      let end = in_mode commenting [] in
      let at : List ℕ → TextState = in_mode opening in
      byte (at (codes "<")) (at (codes "<!")) end 33 _ refl refl
      (byte (at (codes "<!")) (at (codes "<!-")) end 45 _ refl refl
      (one (at (codes "<!-")) end 45 refl refl))

  -- behind a <, what begins a CDATA section
  pub cdata_begins : Takes (in_mode opening (codes "<")) (codes "![CDATA[") (in_mode quoting [])
  cdata_begins =
      let end = in_mode quoting [] in
      let at : List ℕ → TextState = in_mode opening in
      byte (at (codes "<")) (at (codes "<!")) end 33 _ refl refl
      (byte (at (codes "<!")) (at (codes "<![")) end 91 _ refl refl
      (byte (at (codes "<![")) (at (codes "<![C")) end 67 _ refl refl
      (byte (at (codes "<![C")) (at (codes "<![CD")) end 68 _ refl refl
      (byte (at (codes "<![CD")) (at (codes "<![CDA")) end 65 _ refl refl
      (byte (at (codes "<![CDA")) (at (codes "<![CDAT")) end 84 _ refl refl
      (byte (at (codes "<![CDAT")) (at (codes "<![CDATA")) end 65 _ refl refl
      (one (at (codes "<![CDATA")) end 91 refl refl)))))))

  -- behind the < of a comment, up to its end
  comment_takes : (bytes : List ℕ) → IsComment bytes
      → Takes (in_mode opening (60 ∷ [])) (codes "!--" ++ (bytes ++ codes "-->")) (begun text)
  comment_takes bytes h =
      let inside = comment_run [] (bytes ++ codes "--") (λ a b e. comment_open bytes a b h e) in
      let last = one (in_mode commenting (bytes ++ codes "--")) (begun text) 62 refl (comment_end bytes h) in
      then comment_begins (over (append_assoc bytes (codes "--") (codes ">")) (then inside last))

  -- behind the < of a CDATA section, up to its end
  cdata_takes : (bytes : List ℕ) → IsCdata bytes
      → Takes (in_mode opening (60 ∷ [])) (codes "![CDATA[" ++ (bytes ++ codes "]]>"))
      (begun (text ++ with_line_ends bytes))
  cdata_takes bytes h =
      let end = begun (text ++ with_line_ends bytes) in
      let inside = cdata_run [] (bytes ++ codes "]]") (λ a b e. cdata_open bytes a b h e) in
      let last = one (in_mode quoting (bytes ++ codes "]]")) end 62 refl (cdata_end bytes h) in
      then cdata_begins (over (append_assoc bytes (codes "]]") (codes ">")) (then inside last))

  -- the state, where a < was read last
  less_is : (mode : TextMode) (token : List ℕ) → is_less_in mode token ≡ true
      → in_mode opening (codes "<") ≡ in_mode mode token
  less_is chars token e = cc
  less_is referring token e = cc
  less_is opening token e = ap (in_mode opening) (sym (same token (codes "<") e))
  less_is commenting token e = cc
  less_is quoting token e = cc
  less_is refused token e = cc

  -- a word is taken where a < was read last
  pub begins_at : (s t u : TextState) (a b : List ℕ) → s.text ≡ text → is_less s ≡ true
      → Takes (in_mode opening (codes "<")) a t → b ≡ a → u ≡ t → Takes s b u
  begins_at s t u a b f e m over_b at_u =
      let here : in_mode opening (codes "<") ≡ s = less_is s.mode s.token e ∙ ap (λ x. record s { text = x }) (sym f) in
      subst (λ x. Takes x b u) here (over (sym over_b) (retarget (sym at_u) m))

-- character data ends before a < or a reference
less_step : (text token : List ℕ) → is_char_data token ≡ true
    → step (in_mode text chars token) 60 ≡ in_mode (text ++ with_line_ends token) opening (60 ∷ [])
less_step text token e = rw e

reference_step : (text token : List ℕ) → is_char_data token ≡ true
    → step (in_mode text chars token) 38 ≡ in_mode (text ++ with_line_ends token) referring (38 ∷ [])
reference_step text token e = rw e

reference_end : (text inner : List ℕ) (c : ℕ) → Tests.reference (38 ∷ (inner ++ 59 ∷ [])) ≡ Some c
    → step (in_mode text referring (38 ∷ inner)) 59 ≡ begun (text ++ encode_utf8 c)
reference_end text inner c e = rw e

reference_takes : (text token bytes : List ℕ) (c : ℕ) → is_char_data token ≡ true → Referred bytes c
    → Takes (in_mode text chars token) bytes (begun ((text ++ with_line_ends token) ++ encode_utf8 c))
reference_takes text token bytes c e r =
    let so_far : List ℕ = text ++ with_line_ends token in
    let end = begun (so_far ++ encode_utf8 c) in
    over (sym r.there)
    (byte (in_mode text chars token) (in_mode so_far referring (38 ∷ [])) end 38 (r.inner ++ 59 ∷ []) refl
    (reference_step text token e)
    (then (kept (in_mode so_far referring (38 ∷ [])) r.inner r.text)
    (one (in_mode so_far referring (38 ∷ r.inner)) end 59 refl
    (reference_end so_far r.inner c (rw r.there at r.passes)))))

markup_takes : {markup meaning : List ℕ} → IsMarkup markup meaning → (text token : List ℕ) → is_char_data token ≡ true
    → Takes (in_mode text chars token) markup (begun ((text ++ with_line_ends token) ++ meaning))
markup_takes (reference bytes c h) text token e = reference_takes text token bytes c e (reference_passes bytes c h)
markup_takes (cdata bytes h) text token e =
    byte (in_mode text chars token) (in_mode (text ++ with_line_ends token) opening (60 ∷ []))
    (begun ((text ++ with_line_ends token) ++ with_line_ends bytes)) 60 _ refl (less_step text token e)
    (cdata_takes (text ++ with_line_ends token) bytes h)
markup_takes (comment bytes h) text token e =
    let so_far : List ℕ = text ++ with_line_ends token in
    byte (in_mode text chars token) (in_mode so_far opening (60 ∷ [])) (begun (so_far ++ [])) 60 _ refl
    (less_step text token e)
    (retarget (ap begun (sym (append-nil so_far))) (comment_takes so_far bytes h))

pub text_takes : {bytes meaning : List ℕ} → IsText bytes meaning → (text : List ℕ) → TextEnds text bytes meaning
text_takes (plain bytes h) text = record {
  before = text;
  token = bytes;
  passes = data_passes bytes h;
  sum = refl;
  takes = kept (begun text) bytes (data_bytes bytes h);
}
text_takes (more bytes markup meaning rest later h m t) text =
    let so_far : List ℕ = (text ++ with_line_ends bytes) ++ meaning in
    let after = text_takes t so_far in
    record {
      before = after.before;
      token = after.token;
      passes = after.passes;
      sum = after.sum ∙ append_assoc (text ++ with_line_ends bytes) meaning later
          ∙ append_assoc text (with_line_ends bytes) (meaning ++ later);
      takes = then (kept (begun text) bytes (data_bytes bytes h))
          (then (markup_takes m text bytes (data_passes bytes h)) after.takes);
    }

-- behind a <, where no comment and no CDATA section begins
module _ (text : List ℕ) where
  opening_step : (token : List ℕ) (c : ℕ) (after : List ℕ) (a b : Bool) → opens (token ++ c ∷ []) ≡ true
      → bytes_eq (token ++ c ∷ []) (codes "<!--") ≡ a → bytes_eq (token ++ c ∷ []) (codes "<![CDATA[") ≡ b
      → ((r : List ℕ) → token ++ c ∷ after ≡ codes "<!--" ++ r → ⊥)
      → ((r : List ℕ) → token ++ c ∷ after ≡ codes "<![CDATA[" ++ r → ⊥)
      → step (in_mode text opening token) c ≡ in_mode text opening (token ++ c ∷ [])
  opening_step token c after true b o e f nc nd =
      absurd (nc after (sym (append_assoc token (c ∷ []) after) ∙ ap (λ (x : List ℕ). x ++ after) (same _ _ e)))
  opening_step token c after false true o e f nc nd =
      absurd (nd after (sym (append_assoc token (c ∷ []) after) ∙ ap (λ (x : List ℕ). x ++ after) (same _ _ f)))
  opening_step token c after false false o e f nc nd = rw (e, f)

  opening_more : (token : List ℕ) (c : ℕ) (after : List ℕ) → ((r : List ℕ) → token ++ c ∷ after ≡ codes "<!--" ++ r → ⊥)
      → ((r : List ℕ) → token ++ c ∷ after ≡ codes "<![CDATA[" ++ r → ⊥) → (b : Bool) → opens (token ++ c ∷ []) ≡ b
      → reads (in_mode text opening (token ++ c ∷ [])) after ≡ Some (text, (token ++ c ∷ []) ++ after)
      → reads (in_mode text opening token) (c ∷ after) ≡ Some (text, token ++ (c ∷ after))
  opening_more token c after nc nd false e later = rw e
  opening_more token c after nc nd true e later =
      let next : List ℕ = token ++ c ∷ [] in
      let s = opening_step token c after (bytes_eq next (codes "<!--")) (bytes_eq next (codes "<![CDATA[")) e refl refl
      nc nd in
      let first : reads (in_mode text opening token) (c ∷ after) ≡ reads (step (in_mode text opening token) c) after =
      rw e in
      first ∙ ap (λ x. reads x after) s ∙ later ∙ ap (λ (x : List ℕ). Some (text, x)) (append_assoc token
      (c ∷ []) after)

  pub opening_stays : (token after : List ℕ) → ((r : List ℕ) → token ++ after ≡ codes "<!--" ++ r → ⊥)
      → ((r : List ℕ) → token ++ after ≡ codes "<![CDATA[" ++ r → ⊥)
      → reads (in_mode text opening token) after ≡ Some (text, token ++ after)
  opening_stays token [] nc nd = refl
  opening_stays token (c ∷ after) nc nd =
      let spread = append_assoc token (c ∷ []) after in
      opening_more token c after nc nd (opens (token ++ c ∷ [])) refl
      (opening_stays (token ++ c ∷ []) after (λ r f. nc r (sym spread ∙ f)) (λ r f. nd r (sym spread ∙ f)))

-- what the grammar has is read: its meaning, and what follows it
reads_rest : (text meaning bytes rest : List ℕ) (ends : TextEnds text bytes meaning) → EndsText rest
    → reads (in_mode ends.before chars ends.token) rest ≡ Some (text ++ meaning, rest)
reads_rest text meaning bytes rest ends stop = elim stop.less_or_none [
  | inl none ↦ rw none (rw ends.passes (ap (λ (x : List ℕ). Some (x, [])) ends.sum))
  | inr less ↦
      let so_far : List ℕ = ends.before ++ with_line_ends ends.token in
      let first : reads (in_mode ends.before chars ends.token) (60 ∷ less.0)
      ≡ reads (in_mode so_far opening (60 ∷ [])) less.0 = rw ends.passes in
      ap (reads (in_mode ends.before chars ends.token)) less.1 ∙ first
      ∙ opening_stays so_far (60 ∷ []) less.0 (λ r e. stop.no_comment r (less.1
      ∙ e)) (λ r e. stop.no_cdata r (less.1 ∙ e))
      ∙ ap₂ (λ (x y : List ℕ). Some (x, y)) ends.sum (sym less.1)
]

pub reads_only : (bytes text rest meaning before : List ℕ) → IsTextFirst bytes text rest meaning
    → reads (begun before) bytes ≡ Some (before ++ meaning, rest)
reads_only bytes text rest meaning before cut =
    let ends = text_takes cut.is before in
    ap (reads (begun before)) cut.there
    ∙ ap (λ (x : TextState × List ℕ). with_rest (ended x.0) x.1) (run_takes ends.takes rest)
    ∙ reads_rest before meaning text rest ends cut.ends
