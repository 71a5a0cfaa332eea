-- Attribute values that are read whole.
use Rattle.std.proofs.Common.{◌≡◌, ℕ, ◌⊎◌, inl, inr, List, [], ◌∷◌, ◌++◌, Bool, true, false, nat_eq, cond, Some, None}
use Rattle.std.proofs.Common.{Result, Ok, Err, IfOk, IfErr, Bor, length, get_or, take, ◌≤◌, ◌-◌, arith, drop, refl}
use Rattle.std.proofs.Common.{sym, ap, ap₂, subst, ◌∙◌, append_assoc}
use Rattle.std.proofs.lemmas.List.{take_rest}
use Rattle.soap_lex.specs.Cut.{IsValueFirst, OnRefusal}
use Rattle.soap_lex.specs.declared.error.LexError.{LexError}
use Rattle.soap_lex.specs.Readers.{quote_byte}
use Rattle.soap_lex.specs.declared.value.Quote.{Quote}
use Rattle.soap_lex.specs.declared.value.Quote.TheVariants.{Double, Single}
use Rattle.soap_lex.proofs.AnswerLemmas.{OnRefusal-weaker}
use Rattle.soap_lex.specs.Value.{IsInner, IsValue, double, single}
use Rattle.soap_lex.specs.ValueMachine.{ValueState, begun, to_stop, run, is_closed, reads}
use Rattle.soap_lex.proofs.TextWhole.{some_is, some_none}
use Rattle.soap_lex.proofs.ValueFed.{run_still}
use Rattle.soap_lex.proofs.ValueRead.{reads_only, reads_found}

-- nothing was taken, so the value was closed or refused
module _ (quote taken : ℕ) (value bytes rest : List ℕ) (s t : ValueState) (so : run s rest ≡ run
    (begun quote value) bytes) (fed : to_stop s rest ≡ (t, drop taken rest)) (none : taken ≡ 0) where
  end_state : run (begun quote value) bytes ≡ (t, rest)
  end_state = sym so ∙ run_still s t rest (fed ∙ ap (λ k. (t, drop k rest)) none)

  ending : (b : Bool) → is_closed t.mode ≡ b
      → reads (begun quote value) bytes ≡ cond b (Some (t.value, rest)) None
  ending b e =
      ap (λ (p : ValueState × List ℕ). cond (is_closed p.0.mode) (Some (p.0.value, p.1)) None) end_state
      ∙ ap (λ (x : Bool). cond x (Some (t.value, rest)) None) e

  pub whole_some : is_closed t.mode ≡ true → reads (begun quote value) bytes ≡ Some (t.value, rest)
  whole_some e = ending true e

  pub whole_none : is_closed t.mode ≡ false → reads (begun quote value) bytes ≡ None
  whole_none e = ending false e

-- ---- behind the opening quote

-- a value in these quotes
pub record Quoted (quote : ℕ) (inner rest meaning : List ℕ) : Type 0 where
  pub inside : List ℕ
  pub there : inner ≡ inside ++ quote ∷ rest
  pub is : IsInner quote inside meaning
  pub quotes : (quote ≡ 34) ⊎ (quote ≡ 39)

head_of : {x y : ℕ} {xs ys : List ℕ} → x ∷ xs ≡ y ∷ ys → x ≡ y
head_of e = cc

tail_of : {x y : ℕ} {xs ys : List ℕ} → x ∷ xs ≡ y ∷ ys → xs ≡ ys
tail_of e = cc

quoted_at : (quote first : ℕ) (inside inner rest meaning : List ℕ) → (quote ≡ 34) ⊎ (quote ≡ 39)
    → IsInner quote inside meaning → quote ∷ ((inside ++ quote ∷ []) ++ rest) ≡ first ∷ inner
    → Quoted first inner rest meaning
quoted_at quote first inside inner rest meaning quotes is e =
    subst (λ q. Quoted q inner rest meaning) (head_of e) (record {
      inside = inside;
      there = sym (tail_of e) ∙ append_assoc inside (quote ∷ []) rest;
      is = is;
      quotes = quotes;
    })

quoted : {value meaning : List ℕ} → IsValue value meaning → (first : ℕ) (inner rest : List ℕ)
    → value ++ rest ≡ first ∷ inner → Quoted first inner rest meaning
quoted (double inside meaning is) first inner rest e = quoted_at 34 first inside inner rest meaning (inl refl) is e
quoted (single inside meaning is) first inner rest e = quoted_at 39 first inside inner rest meaning (inr refl) is e

pub no_ampersand : (quote : ℕ) → (quote ≡ 34) ⊎ (quote ≡ 39) → nat_eq quote 38 ≡ false
no_ampersand quote (inl e) = rw e
no_ampersand quote (inr e) = rw e

is_value : (quote : ℕ) (inside meaning : List ℕ) → (quote ≡ 34) ⊎ (quote ≡ 39) → IsInner quote inside meaning
    → IsValue (quote ∷ (inside ++ quote ∷ [])) meaning
is_value quote inside meaning (inl e) is =
    subst (λ q. IsValue (q ∷ (inside ++ q ∷ [])) meaning) (sym e) (double inside meaning (subst (λ q. IsInner q inside
    meaning) e is))
is_value quote inside meaning (inr e) is =
    subst (λ q. IsValue (q ∷ (inside ++ q ∷ [])) meaning) (sym e) (single inside meaning (subst (λ q. IsInner q inside
    meaning) e is))

module _ (quote first : ℕ) (bytes inner old : List ℕ) (same : quote ≡ first) (there : bytes ≡ first ∷ inner) where
  pub value_found : (quote ≡ 34) ⊎ (quote ≡ 39) → (new rest : List ℕ)
      → reads (begun quote old) inner ≡ Some (new, rest)
      → (value : List ℕ) × (meaning : List ℕ) × IsValueFirst bytes value rest meaning × (new ≡ old ++ meaning)
  value_found quotes new rest e =
      let found = reads_found quote old inner new rest e in (
        quote ∷ (found.inner ++ quote ∷ []),
        found.meaning,
        record {
          there = there ∙ ap₂ (λ (q : ℕ) (l : List ℕ). q ∷ l) (sym same)
              (found.there ∙ sym (append_assoc found.inner (quote ∷ []) rest));
          is = is_value quote found.inner found.meaning quotes found.is;
        },
        found.sum,
      )

  pub read_all : (value rest meaning : List ℕ) → IsValueFirst bytes value rest meaning
      → reads (begun quote old) inner ≡ Some (old ++ meaning, rest)
  read_all value rest meaning cut =
      let q = quoted cut.is first inner rest (sym cut.there ∙ there) in
      ap₂ (λ (k : ℕ) (l : List ℕ). reads (begun k old) l) same q.there
      ∙ reads_only first q.inside rest meaning old (no_ampersand first q.quotes) q.is

  pub value_only : (new left : List ℕ) → reads (begun quote old) inner ≡ Some (new, left)
      → (value rest meaning : List ℕ) → IsValueFirst bytes value rest meaning → rest ≡ left
  value_only new left e value rest meaning cut =
      ap (λ (p : List ℕ × List ℕ). p.1) (some_is (sym (read_all value rest meaning cut) ∙ e))

  pub value_refused : reads (begun quote old) inner ≡ None
      → (value rest meaning : List ℕ) → IsValueFirst bytes value rest meaning → ⊥
  value_refused e value rest meaning cut = some_none (sym (read_all value rest meaning cut) ∙ e)

  -- the answers of the code
  pub found_ok : (quote ≡ 34) ⊎ (quote ≡ 39) → (new : List ℕ) (r : Result (Bor (List ℕ)) LexError)
      → IfOk r (λ rest. reads (begun quote old) inner ≡ Some (new, rest.now))
      → IfOk r (λ rest. (value : List ℕ) × (meaning : List ℕ) × IsValueFirst bytes value rest.now meaning
      × (new ≡ old ++ meaning))
  found_ok quotes new (Ok rest) e = value_found quotes new rest.now e
  found_ok quotes new (Err error) e = tt

  pub only_ok : (new : List ℕ) (r : Result (Bor (List ℕ)) LexError)
      → IfOk r (λ rest. reads (begun quote old) inner ≡ Some (new, rest.now))
      → IfOk r (λ left. (value rest meaning : List ℕ) → IsValueFirst bytes value rest meaning → rest ≡ left.now)
  only_ok new (Ok left) e = λ value rest meaning cut. value_only new left.now e value rest meaning cut
  only_ok new (Err error) e = tt

  pub refused_err : (r : Result (Bor (List ℕ)) LexError)
      → IfErr r (λ error. OnRefusal error (reads (begun quote old) inner ≡ None))
      → IfErr r (λ error. OnRefusal error ((value rest meaning : List ℕ) → IsValueFirst bytes value rest meaning → ⊥))
  refused_err (Ok rest) e = tt
  refused_err (Err error) e = OnRefusal-weaker error _ _ value_refused e

pub quote_kind : (quote : Quote) → (quote_byte quote ≡ 34) ⊎ (quote_byte quote ≡ 39)
quote_kind Double = inl refl
quote_kind Single = inr refl

-- the first byte, and the others
pub first_byte : (bytes : List ℕ) → 1 ≤ length bytes
    → bytes ≡ get_or bytes 0 0 ∷ take (length bytes - 1) (drop 1 bytes)
first_byte [] h = absurd (omega arith)
first_byte (x ∷ bytes) h = ap (λ (l : List ℕ). x ∷ l) (sym (take_rest (x ∷ bytes) 1))
