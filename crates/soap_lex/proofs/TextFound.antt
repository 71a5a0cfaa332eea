-- What the machine reads as text is text of the grammar.
use Rattle.std.proofs.Common.{◌≡◌, ℕ, suc, ◌≤◌, ◌⊎◌, inl, inr, List, [], ◌∷◌, ◌++◌, Bool, true, false, ◌||◌, nat_eq}
use Rattle.std.proofs.Common.{cond, Option, Some, None, length, drop, codes, encode_utf8, refl, sym, ap, subst, ◌∙◌}
use Rattle.std.proofs.Common.{arith, append_assoc, append-nil, length-append}
use Prim.Native.Nat.{zero}
use Rattle.std.proofs.lemmas.Bool.{eqb-true, or_cases, true≢false}
use Rattle.soap_lex.specs.Cut.{EndsText}
use Rattle.soap_lex.specs.References.{IsReference}
use Rattle.soap_lex.specs.Text.{IsText, run as plain, more, IsMarkup, reference, cdata, comment, IsComment, IsCdata}
use Rattle.soap_lex.specs.Text.{with_line_ends}
use Rattle.soap_lex.specs.Tests
use Rattle.soap_lex.specs.Tests.{begins, is_char_data, is_comment, is_cdata, without}
use Rattle.soap_lex.specs.TextMachine.{TextMode, chars, referring, opening, commenting, quoting, TextState, begun}
use Rattle.soap_lex.specs.TextMachine.{stops, halts_in, halts, refuse, longer, at_referring, at_commenting}
use Rattle.soap_lex.specs.TextMachine.{at_quoting, after_token, ended, with_rest, reads}
use Rattle.soap_lex.proofs.ReferenceTests.{reference_from}
use Rattle.soap_lex.proofs.TestLemmas.{data_from, comment_from, cdata_from}
use Rattle.soap_lex.proofs.TextRead.{in_mode, opening_stays}
use Rattle.soap_lex.specs.Ends.{without_from}
use Rattle.soap_lex.specs.Facts.{begins-append, front_from_begins}

-- from a state on, the text means the one, and the other follows it
abbrev pub Reads : TextState → List ℕ → (List ℕ × List ℕ) → Type 0
Reads s bytes p = reads s bytes ≡ Some p

pub refused_never : (s : TextState) (bytes : List ℕ) (p : List ℕ × List ℕ) → Reads (refuse s) bytes p → ⊥
refused_never s [] p h = cc
refused_never s (c ∷ bytes) p h = cc

-- a test that was made, and passed
pub passed : (t : Bool) (x s : TextState) (bytes : List ℕ) (p : List ℕ × List ℕ) → Reads (cond t x (refuse s)) bytes p
    → (t ≡ true) × Reads x bytes p
passed true x s bytes p h = (refl, h)
passed false x s bytes p h = absurd (refused_never s bytes p h)

-- a choice, as it went
pub chosen : (t : Bool) (x y : TextState) (bytes : List ℕ) (p : List ℕ × List ℕ) → Reads (cond t x y) bytes p
    → ((t ≡ true) × Reads x bytes p) ⊎ ((t ≡ false) × Reads y bytes p)
chosen true x y bytes p h = inl (refl, h)
chosen false x y bytes p h = inr (refl, h)

-- the bytes up to the next that ends the token
pub record Next (s : TextState) (bytes : List ℕ) (p : List ℕ × List ℕ) : Type 0 where
  pub token : List ℕ
  pub last : ℕ
  pub rest : List ℕ
  pub there : bytes ≡ token ++ last ∷ rest
  pub stop : stops s.mode last ≡ true
  pub later : Reads (after_token s.mode (longer s token) last) rest p

next_at : (s : TextState) (c : ℕ) (bytes : List ℕ) (p : List ℕ × List ℕ) (t : Bool) → stops s.mode c ≡ t
    → halts s c ≡ false → Reads s (c ∷ bytes) p
    → ((t ≡ true) × Reads (after_token s.mode s c) bytes p) ⊎ ((t ≡ false) × Reads (longer s (c ∷ [])) bytes p)
next_at s c bytes p true e f h = let x : Reads (after_token s.mode s c) bytes p = rw (f, e) at h in inl (refl, x)
next_at s c bytes p false e f h = let x : Reads (longer s (c ∷ [])) bytes p = rw (f, e) at h in inr (refl, x)

-- the last token: it goes to the end
abbrev pub Last : TextState → List ℕ → (List ℕ × List ℕ) → Type 0
Last s bytes p = with_rest (ended (longer s bytes)) [] ≡ Some p

next_more : (s : TextState) (c : ℕ) (bytes : List ℕ) (p : List ℕ × List ℕ)
    → (Last (longer s (c ∷ [])) bytes p) ⊎ (Next (longer s (c ∷ [])) bytes p)
    → (Last s (c ∷ bytes) p) ⊎ (Next s (c ∷ bytes) p)
next_more s c bytes p (inl h) =
    inl (subst (λ t. with_rest (ended (record s { token = t })) [] ≡ Some p) (append_assoc s.token (c ∷ []) bytes) h)
next_more s c bytes p (inr n) = inr (record {
  token = c ∷ n.token;
  last = n.last;
  rest = n.rest;
  there = ap (λ (x : List ℕ). c ∷ x) n.there;
  stop = n.stop;
  later = subst (λ t. Reads (after_token s.mode (record s { token = t }) n.last) n.rest p)
      (append_assoc s.token (c ∷ []) n.token) n.later;
})

-- no byte is halted at
abbrev pub Steady : TextMode → Type 0
Steady mode = (token : List ℕ) → halts_in mode token ≡ false

pub next : (s : TextState) (bytes : List ℕ) (p : List ℕ × List ℕ) → Steady s.mode → Reads s bytes p
    → (Last s bytes p) ⊎ (Next s bytes p)
next s [] p steady h =
    inl (subst (λ t. with_rest (ended (record s { token = t })) [] ≡ Some p) (sym (append-nil s.token)) h)
next s (c ∷ bytes) p steady h =
    elim (next_at s c bytes p (stops s.mode c) refl (steady (s.token ++ c ∷ [])) h) [
      | inl k ↦ inr (record {
        token = [];
        last = c;
        rest = bytes;
        there = refl;
        stop = k.0;
        later = subst (λ t. Reads (after_token s.mode (record s { token = t }) c) bytes p)
            (sym (append-nil s.token)) k.1;
      })
      | inr k ↦ next_more s c bytes p (next (longer s (c ∷ [])) bytes p steady k.1)
    ]

-- where no text ends
pub next_of : (s : TextState) (bytes : List ℕ) (p : List ℕ × List ℕ) → Steady s.mode
    → ((t : List ℕ) → ended (record s { token = t }) ≡ None) → Reads s bytes p → Next s bytes p
next_of s bytes p steady none h = elim (next s bytes p steady h) [
  | inl k ↦ (let x : None ≡ Some p = sym (ap (λ o. with_rest o []) (none (s.token ++ bytes))) ∙ k in cc)
  | inr n ↦ n
]

pub shorter : (b m rest : List ℕ) (c : ℕ) → b ≡ m ++ c ∷ rest → suc (length rest) ≤ length b
shorter b m rest c e = omega (arith, ap length e, length-append m (c ∷ rest))

-- ---- references

pub record ReferenceFound (bytes : List ℕ) (P : ℕ → List ℕ → Type 0) : Type 0 where
  pub inner : List ℕ
  pub c : ℕ
  pub rest : List ℕ
  pub there : bytes ≡ inner ++ 59 ∷ rest
  pub is : IsReference (38 ∷ (inner ++ 59 ∷ [])) c
  pub later : P c rest

module _ (text : List ℕ) (p : List ℕ × List ℕ) where
  referred : (inner rest : List ℕ) (o : Option ℕ) → Tests.reference (38 ∷ (inner ++ 59 ∷ [])) ≡ o
      → Reads (at_referring (in_mode text referring (38 ∷ inner)) o) rest p
      → (c : ℕ) × IsReference (38 ∷ (inner ++ 59 ∷ [])) c × Reads (begun (text ++ encode_utf8 c)) rest p
  referred inner rest None e h = absurd (refused_never (in_mode text referring (38 ∷ inner)) rest p h)
  referred inner rest (Some c) e h = (c, reference_from (38 ∷ (inner ++ 59 ∷ [])) c e, h)

  reference_found : (bytes : List ℕ) → Reads (in_mode text referring (38 ∷ [])) bytes p
      → ReferenceFound bytes (λ c rest. Reads (begun (text ++ encode_utf8 c)) rest p)
  reference_found bytes h =
      let n = next_of (in_mode text referring (38 ∷ [])) bytes p (λ _. refl) (λ _. refl) h in
      let r = referred n.token n.rest (Tests.reference (38 ∷ (n.token ++ 59 ∷ []))) refl n.later in
      record {
        inner = n.token;
        c = r.0;
        rest = n.rest;
        there = n.there ∙ ap (λ k. n.token ++ k ∷ n.rest) (eqb-true n.last 59 n.stop);
        is = r.1;
        later = r.2;
      }

-- ---- comments and CDATA sections

-- what ends at the word and a >
pub record EndFound (word token bytes : List ℕ) (P : List ℕ → List ℕ → Type 0) : Type 0 where
  pub front : List ℕ
  pub inner : List ℕ
  pub rest : List ℕ
  pub there : bytes ≡ front ++ 62 ∷ rest
  pub is : token ++ front ≡ inner ++ word
  pub later : P inner rest

EndFound-more : (word token bytes m rest : List ℕ) (P : List ℕ → List ℕ → Type 0) → bytes ≡ m ++ 62 ∷ rest
    → EndFound word ((token ++ m) ++ 62 ∷ []) rest P → EndFound word token bytes P
EndFound-more word token bytes m rest P e h = record {
  front = m ++ 62 ∷ h.front;
  inner = h.inner;
  rest = h.rest;
  there = e ∙ ap (λ (x : List ℕ). m ++ 62 ∷ x) h.there ∙ sym (append_assoc m (62 ∷ h.front) (62 ∷ h.rest));
  is = spread token m h.front ∙ h.is;
  later = h.later;
}
  where
    spread : (token m front : List ℕ) → token ++ (m ++ 62 ∷ front) ≡ ((token ++ m) ++ 62 ∷ []) ++ front
    spread token m front = simp append_assoc

module _ (text : List ℕ) (p : List ℕ × List ℕ) where
  abbrev AfterComment : List ℕ → List ℕ → Type 0
  AfterComment inner rest = IsComment inner × Reads (begun text) rest p

  comment_end : (token rest : List ℕ) (o : Option (List ℕ)) → without (codes "--") token ≡ o
      → Reads (at_commenting (in_mode text commenting token) o) rest p
      → ((inner : List ℕ) × (token ≡ inner ++ codes "--") × IsComment inner × Reads (begun text) rest p)
      ⊎ Reads (in_mode text commenting (token ++ 62 ∷ [])) rest p
  comment_end token rest None e h = inr h
  comment_end token rest (Some inner) e h =
      let q = passed (is_comment inner) (begun text) (in_mode text commenting token) rest p h in
      inl (inner, without_from (codes "--") token inner e, comment_from inner q.0, q.1)

  comment_found : (fuel : ℕ) (token bytes : List ℕ) → length bytes ≤ fuel
      → Reads (in_mode text commenting token) bytes p → EndFound (codes "--") token bytes AfterComment
  comment_found zero token bytes short h =
      let n = next_of (in_mode text commenting token) bytes p (λ _. refl) (λ _. refl) h in
      absurd (omega (arith, shorter bytes n.token n.rest n.last n.there))
  comment_found (suc fuel) token bytes short h =
      let n = next_of (in_mode text commenting token) bytes p (λ _. refl) (λ _. refl) h in
      let there : bytes ≡ n.token ++ 62 ∷ n.rest =
      n.there ∙ ap (λ k. n.token ++ k ∷ n.rest) (eqb-true n.last 62 n.stop) in
      elim (comment_end (token ++ n.token) n.rest (without (codes "--") (token ++ n.token)) refl n.later) [
        | inl r ↦ record { front = n.token; inner = r.0; rest = n.rest; there = there; is = r.1; later = (r.2, r.3) }
        | inr r ↦ EndFound-more (codes "--") token bytes n.token n.rest AfterComment there
            (comment_found fuel ((token ++ n.token) ++ 62 ∷ []) n.rest
            (omega (arith, shorter bytes n.token n.rest n.last n.there)) r)
      ]

  abbrev AfterCdata : List ℕ → List ℕ → Type 0
  AfterCdata inner rest = IsCdata inner × Reads (begun (text ++ with_line_ends inner)) rest p

  cdata_end : (token rest : List ℕ) (o : Option (List ℕ)) → without (codes "]]") token ≡ o
      → Reads (at_quoting (in_mode text quoting token) o) rest p
      → ((inner : List ℕ) × (token ≡ inner ++ codes "]]") × IsCdata inner
      × Reads (begun (text ++ with_line_ends inner)) rest p)
      ⊎ Reads (in_mode text quoting (token ++ 62 ∷ [])) rest p
  cdata_end token rest None e h = inr h
  cdata_end token rest (Some inner) e h =
      let q = passed (is_cdata inner) (begun (text ++ with_line_ends inner)) (in_mode text quoting token) rest p h in
      inl (inner, without_from (codes "]]") token inner e, cdata_from inner q.0, q.1)

  cdata_found : (fuel : ℕ) (token bytes : List ℕ) → length bytes ≤ fuel
      → Reads (in_mode text quoting token) bytes p → EndFound (codes "]]") token bytes AfterCdata
  cdata_found zero token bytes short h =
      let n = next_of (in_mode text quoting token) bytes p (λ _. refl) (λ _. refl) h in
      absurd (omega (arith, shorter bytes n.token n.rest n.last n.there))
  cdata_found (suc fuel) token bytes short h =
      let n = next_of (in_mode text quoting token) bytes p (λ _. refl) (λ _. refl) h in
      let there : bytes ≡ n.token ++ 62 ∷ n.rest =
      n.there ∙ ap (λ k. n.token ++ k ∷ n.rest) (eqb-true n.last 62 n.stop) in
      elim (cdata_end (token ++ n.token) n.rest (without (codes "]]") (token ++ n.token)) refl n.later) [
        | inl r ↦ record { front = n.token; inner = r.0; rest = n.rest; there = there; is = r.1; later = (r.2, r.3) }
        | inr r ↦ EndFound-more (codes "]]") token bytes n.token n.rest AfterCdata there
            (cdata_found fuel ((token ++ n.token) ++ 62 ∷ []) n.rest
            (omega (arith, shorter bytes n.token n.rest n.last n.there)) r)
      ]

  -- ---- behind a <

  -- a comment, a CDATA section, or the end of the text
  data Opened : List ℕ → Type 0 where
    comments : (rest : List ℕ) → Reads (in_mode text commenting []) rest p → Opened (codes "!--" ++ rest)
    quotes : (rest : List ℕ) → Reads (in_mode text quoting []) rest p → Opened (codes "![CDATA[" ++ rest)
    ends : (rest : List ℕ) → EndsText (60 ∷ rest) → p ≡ (text, 60 ∷ rest) → Opened rest

  less_than : (word rest r : List ℕ) → 60 ∷ rest ≡ 60 ∷ (word ++ r) → rest ≡ word ++ r
  less_than word rest r e = cc

  opened_by : (bytes : List ℕ) (a b : Bool) → begins (codes "!--") bytes ≡ a → begins (codes "![CDATA[") bytes ≡ b
      → Reads (in_mode text opening (60 ∷ [])) bytes p → Opened bytes
  opened_by bytes true b e f h =
      let there = front_from_begins (codes "!--") bytes e in
      subst Opened (sym there) (comments (drop 3 bytes)
      (subst (λ (x : List ℕ). Reads (in_mode text opening (60 ∷ [])) x p) there h))
  opened_by bytes false true e f h =
      let there = front_from_begins (codes "![CDATA[") bytes f in
      subst Opened (sym there) (quotes (drop 8 bytes)
      (subst (λ (x : List ℕ). Reads (in_mode text opening (60 ∷ [])) x p) there h))
  opened_by bytes false false e f h =
      let no_comment = λ (r : List ℕ) (g : 60 ∷ bytes ≡ codes "<!--" ++ r).
      true≢false (sym (ap (begins (codes "!--")) (less_than (codes "!--") bytes r g)
      ∙ begins-append (codes "!--") r) ∙ e) in
      let no_cdata = λ (r : List ℕ) (g : 60 ∷ bytes ≡ codes "<![CDATA[" ++ r).
      true≢false (sym (ap (begins (codes "![CDATA[")) (less_than (codes "![CDATA[") bytes r g)
      ∙ begins-append (codes "![CDATA[") r) ∙ f) in
      let both : Some p ≡ Some (text, 60 ∷ bytes) = sym h ∙ opening_stays text (60 ∷ []) bytes no_comment no_cdata in
      ends bytes (record { less_or_none = inr (bytes, refl); no_cdata = no_cdata; no_comment = no_comment }) cc

  opened : (bytes : List ℕ) → Reads (in_mode text opening (60 ∷ [])) bytes p → Opened bytes
  opened bytes h = opened_by bytes (begins (codes "!--") bytes) (begins (codes "![CDATA[") bytes) refl refl h

-- ---- text

-- the text up to where it ends
pub record TextFound (text bytes : List ℕ) (p : List ℕ × List ℕ) : Type 0 where
  pub front : List ℕ
  pub meaning : List ℕ
  pub there : bytes ≡ front ++ p.1
  pub is : IsText front meaning
  pub stop : EndsText p.1
  pub sum : p.0 ≡ text ++ meaning

nothing_left : EndsText []
nothing_left = record { less_or_none = inl refl; no_cdata = λ after e. cc; no_comment = λ after e. cc }

TextFound-more : (text bytes : List ℕ) (p : List ℕ × List ℕ) (m markup meaning b : List ℕ) → bytes ≡ m ++ (markup ++ b)
    → is_char_data m ≡ true → IsMarkup markup meaning → TextFound ((text ++ with_line_ends m) ++ meaning) b p
    → TextFound text bytes p
TextFound-more text bytes p m markup meaning b e passes is r = record {
  front = m ++ (markup ++ r.front);
  meaning = with_line_ends m ++ (meaning ++ r.meaning);
  there = e ∙ ap (λ (x : List ℕ). m ++ (markup ++ x)) r.there ∙ spread;
  is = more m markup meaning r.front r.meaning (data_from m passes) is r.is;
  stop = r.stop;
  sum = r.sum ∙ append_assoc (text ++ with_line_ends m) meaning r.meaning
      ∙ append_assoc text (with_line_ends m) (meaning ++ r.meaning);
}
  where
    spread : m ++ (markup ++ (r.front ++ p.1)) ≡ (m ++ (markup ++ r.front)) ++ p.1
    spread = simp append_assoc

-- the same for shorter bytes
abbrev Recur : ℕ → Type 0
Recur fuel = (text bytes : List ℕ) (p : List ℕ × List ℕ) → length bytes ≤ fuel → Reads (begun text) bytes p
    → TextFound text bytes p

module _ (text bytes : List ℕ) (p : List ℕ × List ℕ) (m : List ℕ) (passes : is_char_data m ≡ true) (fuel : ℕ)
    (recur : Recur fuel) where
  abbrev so_far : List ℕ
  so_far = text ++ with_line_ends m

  at_reference : (rest : List ℕ) → bytes ≡ m ++ 38 ∷ rest → length bytes ≤ suc fuel
      → Reads (in_mode so_far referring (38 ∷ [])) rest p → TextFound text bytes p
  at_reference rest e short h =
      let r = reference_found so_far p rest h in
      let markup : List ℕ = 38 ∷ (r.inner ++ 59 ∷ []) in
      TextFound-more text bytes p m markup (encode_utf8 r.c) r.rest
      (e ∙ ap (λ (x : List ℕ). m ++ 38 ∷ x) (r.there ∙ sym (append_assoc r.inner (59 ∷ []) r.rest))) passes
      (reference markup r.c r.is)
      (recur (so_far ++ encode_utf8 r.c) r.rest p
      (omega (arith, shorter bytes m rest 38 e, shorter rest r.inner r.rest 59 r.there)) r.later)

  at_end : (rest : List ℕ) → bytes ≡ m ++ 60 ∷ rest → EndsText (60 ∷ rest) → p ≡ (so_far, 60 ∷ rest)
      → TextFound text bytes p
  at_end rest e stop q = record {
    front = m;
    meaning = with_line_ends m;
    there = e ∙ ap (λ (x : List ℕ × List ℕ). m ++ x.1) (sym q);
    is = plain m (data_from m passes);
    stop = subst (λ (x : List ℕ × List ℕ). EndsText x.1) (sym q) stop;
    sum = ap (λ (x : List ℕ × List ℕ). x.0) q;
  }

  at_less : (rest : List ℕ) → bytes ≡ m ++ 60 ∷ rest → length bytes ≤ suc fuel → Opened so_far p rest
      → TextFound text bytes p
  at_less _ e short (comments rest h) =
      let r = comment_found so_far p (length rest) [] rest (omega arith) h in
      let inside : rest ≡ r.inner ++ (codes "-->" ++ r.rest) =
      r.there ∙ ap (λ (x : List ℕ). x ++ 62 ∷ r.rest) r.is ∙ append_assoc r.inner (codes "--") (62 ∷ r.rest) in
      TextFound-more text bytes p m (codes "<!--" ++ (r.inner ++ codes "-->")) [] r.rest
      (e ∙ ap (λ (x : List ℕ). m ++ (codes "<!--" ++ x)) (inside ∙ sym (append_assoc r.inner (codes "-->") r.rest)))
      passes (comment r.inner r.later.0)
      (recur (so_far ++ []) r.rest p
      (omega (arith, shorter bytes m (codes "!--" ++ rest) 60 e, shorter rest r.front r.rest 62 r.there))
      (subst (λ (t : List ℕ). Reads (begun t) r.rest p) (sym (append-nil so_far)) r.later.1))
  at_less _ e short (quotes rest h) =
      let r = cdata_found so_far p (length rest) [] rest (omega arith) h in
      let inside : rest ≡ r.inner ++ (codes "]]>" ++ r.rest) =
      r.there ∙ ap (λ (x : List ℕ). x ++ 62 ∷ r.rest) r.is ∙ append_assoc r.inner (codes "]]") (62 ∷ r.rest) in
      TextFound-more text bytes p m (codes "<![CDATA[" ++ (r.inner ++ codes "]]>")) (with_line_ends r.inner) r.rest
      (e ∙ ap (λ (x : List ℕ). m ++ (codes "<![CDATA[" ++ x)) (inside ∙ sym (append_assoc r.inner
      (codes "]]>") r.rest)))
      passes (cdata r.inner r.later.0)
      (recur (so_far ++ with_line_ends r.inner) r.rest p
      (omega (arith, shorter bytes m (codes "![CDATA[" ++ rest) 60 e, shorter rest r.front r.rest 62 r.there))
      r.later.1)
  at_less _ e short (ends rest stop q) = at_end rest e stop q

second : (c : ℕ) → (nat_eq c 60 || nat_eq c 38) ≡ true → nat_eq c 60 ≡ false → c ≡ 38
second c e f = elim (or_cases (nat_eq c 60) (nat_eq c 38) e) [
  | inl k ↦ absurd (true≢false (sym k ∙ f))
  | inr k ↦ eqb-true c 38 k
]

last_run : (text bytes : List ℕ) (p : List ℕ × List ℕ) (t : Bool) → is_char_data bytes ≡ t → Last (begun text) bytes p
    → TextFound text bytes p
last_run text bytes p true e h =
    let q : Some (text ++ with_line_ends bytes, []) ≡ Some p = rw e at h in
    let r : p ≡ (text ++ with_line_ends bytes, []) = cc in
    record {
      front = bytes;
      meaning = with_line_ends bytes;
      there = sym (append-nil bytes) ∙ ap (λ (x : List ℕ × List ℕ). bytes ++ x.1) (sym r);
      is = plain bytes (data_from bytes e);
      stop = subst (λ (x : List ℕ × List ℕ). EndsText x.1) (sym r) nothing_left;
      sum = ap (λ (x : List ℕ × List ℕ). x.0) r;
    }
last_run text bytes p false e h = let q : None ≡ Some p = rw e at h in cc

next_run : (text bytes : List ℕ) (p : List ℕ × List ℕ) (fuel : ℕ) → Recur fuel → length bytes ≤ suc fuel
    → Next (begun text) bytes p → TextFound text bytes p
next_run text bytes p fuel recur short n =
    let so_far : List ℕ = text ++ with_line_ends n.token in
    let q = passed (is_char_data n.token) (cond (nat_eq n.last 60) (in_mode so_far opening (60 ∷ []))
    (in_mode so_far referring (38 ∷ []))) (in_mode text chars n.token) n.rest p n.later in
    elim (chosen (nat_eq n.last 60) (in_mode so_far opening (60 ∷ [])) (in_mode so_far referring
    (38 ∷ [])) n.rest p q.1) [
      | inl k ↦ at_less text bytes p n.token q.0 fuel recur n.rest
          (n.there ∙ ap (λ c. n.token ++ c ∷ n.rest) (eqb-true n.last 60 k.0)) short (opened so_far p n.rest k.1)
      | inr k ↦ at_reference text bytes p n.token q.0 fuel recur n.rest
          (n.there ∙ ap (λ c. n.token ++ c ∷ n.rest) (second n.last n.stop k.0)) short k.1
    ]

text_found : (fuel : ℕ) → Recur fuel
text_found zero text bytes p short h = elim (next (begun text) bytes p (λ _. refl) h) [
  | inl k ↦ last_run text bytes p (is_char_data bytes) refl k
  | inr n ↦ absurd (omega (arith, shorter bytes n.token n.rest n.last n.there))
]
text_found (suc fuel) text bytes p short h = elim (next (begun text) bytes p (λ _. refl) h) [
  | inl k ↦ last_run text bytes p (is_char_data bytes) refl k
  | inr n ↦ next_run text bytes p fuel (text_found fuel) short n
]

-- what is read, the grammar has
pub reads_found : (text bytes meaning rest : List ℕ) → reads (begun text) bytes ≡ Some (meaning, rest)
    → TextFound text bytes (meaning, rest)
reads_found text bytes meaning rest h = text_found (length bytes) text bytes (meaning, rest) (omega arith) h
