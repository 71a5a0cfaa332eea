-- The machine that reads attribute values, against the grammar: what the grammar has it reads, and what it reads the
-- grammar has.
use Rattle.std.proofs.Common.{◌≡◌, ℕ, suc, ◌≤◌, ◌⊎◌, inl, inr, List, [], ◌∷◌, ◌++◌, Bool, true, false, ◌||◌, nat_eq}
use Rattle.std.proofs.Common.{cond, Option, Some, None, length, encode_utf8, refl, sym, ap, subst, ◌∙◌, arith}
use Rattle.std.proofs.Common.{append_assoc, append-nil, length-append}
use Prim.Native.Nat.{zero}
use Rattle.std.specs.List.{AllByRecursion}
use Rattle.std.proofs.lemmas.Bool.{eqb-true, eq-eqb, or_cases, true≢false}
use Rattle.soap_lex.specs.References.{IsReference}
use Rattle.soap_lex.specs.Value.{IsInner, run as inner_run, more as inner_more, with_spaces}
use Rattle.soap_lex.specs.Tests
use Rattle.soap_lex.specs.Tests.{is_plain}
use Rattle.soap_lex.specs.ValueMachine.{ValueMode, plain, referring, closed, refused, ValueState, begun, stops, halts}
use Rattle.soap_lex.specs.ValueMachine.{refuse, longer, at_referring, after_token, step, run, is_closed, reads}
use Rattle.soap_lex.proofs.ReferenceTests.{Referred, reference_passes, reference_from}
use Rattle.soap_lex.proofs.TestLemmas.{plain_passes, plain_bytes, plain_from}
use Rattle.soap_lex.specs.ValueMachine.{Takes, stay, on}

-- ---- how the machine moves

pub then : {s t u : ValueState} {a b : List ℕ} → Takes s a t → Takes t b u → Takes s (a ++ b) u
then (stay s) n = n
then (on s c bytes t h m) n = on s c _ _ h (then m n)

pub byte : (s next t : ValueState) (c : ℕ) (bytes : List ℕ) → halts s.mode ≡ false → step s c ≡ next
    → Takes next bytes t → Takes s (c ∷ bytes) t
byte s next t c bytes h e m = on s c bytes t h (subst (λ x. Takes x bytes t) (sym e) m)

one : (s t : ValueState) (c : ℕ) → halts s.mode ≡ false → step s c ≡ t → Takes s (c ∷ []) t
one s t c h e = byte s t t c [] h e (stay t)

retarget : {s t u : ValueState} {bytes : List ℕ} → t ≡ u → Takes s bytes t → Takes s bytes u
retarget {s} {t} {u} {bytes} e m = subst (λ x. Takes s bytes x) e m

over : {s t : ValueState} {a b : List ℕ} → a ≡ b → Takes s a t → Takes s b t
over {s} {t} {a} {b} e m = subst (λ x. Takes s x t) e m

run_takes : {s t : ValueState} {bytes : List ℕ} → Takes s bytes t → (rest : List ℕ) → run s (bytes ++ rest) ≡ run t rest
run_takes (stay s) rest = refl
run_takes (on s c bytes t h m) rest = rw h (run_takes m rest)

-- no byte ends the token
abbrev pub NoStops : ValueMode → ℕ → List ℕ → Type 0
NoStops mode quote bytes = AllByRecursion (λ c. stops mode quote c ≡ false) bytes

pub no_halt : (mode : ValueMode) (quote c : ℕ) → stops mode quote c ≡ false → halts mode ≡ false
no_halt plain quote c e = refl
no_halt referring quote c e = refl
no_halt closed quote c e = cc
no_halt refused quote c e = cc

kept_step : (s : ValueState) (c : ℕ) → stops s.mode s.quote c ≡ false → step s c ≡ longer s (c ∷ [])
kept_step s c e = rw e

-- bytes that end no token lengthen it
kept : (s : ValueState) (bytes : List ℕ) → NoStops s.mode s.quote bytes → Takes s bytes (longer s bytes)
kept s [] h = retarget (ap (λ t. record s { token = t }) (sym (append-nil s.token))) (stay s)
kept s (c ∷ bytes) h =
    byte s (longer s (c ∷ [])) (longer s (c ∷ bytes)) c bytes (no_halt s.mode s.quote c h.0) (kept_step s c h.0)
    (retarget (ap (λ t. record s { token = t }) (append_assoc s.token (c ∷ []) bytes))
    (kept (longer s (c ∷ [])) bytes h.1))

-- ---- what the grammar has

module _ (quote : ℕ) where
  abbrev pub in_mode : ValueMode → List ℕ → List ℕ → ValueState
  in_mode mode token value = record { mode = mode; quote = quote; token = token; value = value }

  -- a run of characters ends before a reference, or before the quote
  reference_step : (value token : List ℕ) → is_plain quote token ≡ true
      → step (in_mode plain token value) 38 ≡ in_mode referring (38 ∷ []) (value ++ with_spaces token)
  reference_step value token e = go (nat_eq 38 quote) refl
    where
      go : (b : Bool) → nat_eq 38 quote ≡ b
          → step (in_mode plain token value) 38 ≡ in_mode referring (38 ∷ []) (value ++ with_spaces token)
      go true f = rw (f, e)
      go false f = rw (f, e)

  quote_step : (value token : List ℕ) → nat_eq quote 38 ≡ false → is_plain quote token ≡ true
      → step (in_mode plain token value) quote ≡ in_mode closed [] (value ++ with_spaces token)
  quote_step value token f e = rw (eq-eqb quote quote refl, e, f)

  reference_end : (value inner : List ℕ) (c : ℕ) → Tests.reference (38 ∷ (inner ++ 59 ∷ [])) ≡ Some c
      → step (in_mode referring (38 ∷ inner) value) 59 ≡ begun quote (value ++ encode_utf8 c)
  reference_end value inner c e = rw e

  reference_takes : (value token bytes : List ℕ) (c : ℕ) → is_plain quote token ≡ true → Referred bytes c
      → Takes (in_mode plain token value) bytes (begun quote ((value ++ with_spaces token) ++ encode_utf8 c))
  reference_takes value token bytes c e r =
      let so_far : List ℕ = value ++ with_spaces token in
      let end = begun quote (so_far ++ encode_utf8 c) in
      over (sym r.there)
      (byte (in_mode plain token value) (in_mode referring (38 ∷ []) so_far) end 38 (r.inner ++ 59 ∷ []) refl
      (reference_step value token e)
      (then (kept (in_mode referring (38 ∷ []) so_far) r.inner r.text)
      (one (in_mode referring (38 ∷ r.inner) so_far) end 59 refl
      (reference_end so_far r.inner c (rw r.there at r.passes)))))

  -- what stands before the closing quote, and that
  pub inner_takes : {inner meaning : List ℕ} → IsInner quote inner meaning → (value : List ℕ) → nat_eq quote 38 ≡ false
      → Takes (begun quote value) (inner ++ quote ∷ []) (in_mode closed [] (value ++ meaning))
  inner_takes (inner_run bytes h) value f =
      then (kept (begun quote value) bytes (plain_bytes quote bytes h))
      (one (in_mode plain bytes value) (in_mode closed [] (value ++ with_spaces bytes)) quote refl
      (quote_step value bytes f (plain_passes quote bytes h)))
  inner_takes (inner_more bytes token c rest later h r later_inner) value f =
      let so_far : List ℕ = (value ++ with_spaces bytes) ++ encode_utf8 c in
      over (spread bytes token rest)
      (then (kept (begun quote value) bytes (plain_bytes quote bytes h))
      (then (reference_takes value bytes token c (plain_passes quote bytes h) (reference_passes token c r))
      (retarget (ap (in_mode closed [])
      (append_assoc (value ++ with_spaces bytes) (encode_utf8 c) later
      ∙ append_assoc value (with_spaces bytes) (encode_utf8 c ++ later))) (inner_takes later_inner so_far f))))
    where
      spread : (bytes token rest : List ℕ)
          → bytes ++ (token ++ (rest ++ quote ∷ [])) ≡ (bytes ++ (token ++ rest)) ++ quote ∷ []
      spread bytes token rest = simp append_assoc

closed_run : (s : ValueState) (rest : List ℕ) → s.mode ≡ closed → run s rest ≡ (s, rest)
closed_run s [] e = refl
closed_run s (c ∷ rest) e = rw e

-- what the grammar has is read: its meaning, and what follows it
pub reads_only : (quote : ℕ) (inner rest meaning value : List ℕ) → nat_eq quote 38 ≡ false → IsInner quote inner meaning
    → reads (begun quote value) (inner ++ quote ∷ rest) ≡ Some (value ++ meaning, rest)
reads_only quote inner rest meaning value f is =
    let end = in_mode quote closed [] (value ++ meaning) in
    let all : run (begun quote value) (inner ++ quote ∷ rest) ≡ (end, rest) =
    ap (run (begun quote value)) (sym (append_assoc inner (quote ∷ []) rest))
    ∙ run_takes (inner_takes quote is value f) rest ∙ closed_run end rest refl in
    ap (λ (x : ValueState × List ℕ). cond (is_closed x.0.mode) (Some (x.0.value, x.1)) None) all

-- ---- what is read

-- from a state on, the value means the one, and the other follows it
abbrev pub Reads : ValueState → List ℕ → (List ℕ × List ℕ) → Type 0
Reads s bytes p = reads s bytes ≡ Some p

refused_never : (s : ValueState) (bytes : List ℕ) (p : List ℕ × List ℕ) → Reads (refuse s) bytes p → ⊥
refused_never s [] p h = cc
refused_never s (c ∷ bytes) p h = cc

passed : (t : Bool) (x s : ValueState) (bytes : List ℕ) (p : List ℕ × List ℕ) → Reads (cond t x (refuse s)) bytes p
    → (t ≡ true) × Reads x bytes p
passed true x s bytes p h = (refl, h)
passed false x s bytes p h = absurd (refused_never s bytes p h)

chosen : (t : Bool) (x y : ValueState) (bytes : List ℕ) (p : List ℕ × List ℕ) → Reads (cond t x y) bytes p
    → ((t ≡ true) × Reads x bytes p) ⊎ ((t ≡ false) × Reads y bytes p)
chosen true x y bytes p h = inl (refl, h)
chosen false x y bytes p h = inr (refl, h)

-- the bytes up to the next that ends the token
record Next (s : ValueState) (bytes : List ℕ) (p : List ℕ × List ℕ) : Type 0 where
  pub token : List ℕ
  pub last : ℕ
  pub rest : List ℕ
  pub there : bytes ≡ token ++ last ∷ rest
  pub stop : stops s.mode s.quote last ≡ true
  pub later : Reads (after_token s.mode (longer s token) last) rest p

next_at : (s : ValueState) (c : ℕ) (bytes : List ℕ) (p : List ℕ × List ℕ) (t : Bool) → stops s.mode s.quote c ≡ t
    → halts s.mode ≡ false → Reads s (c ∷ bytes) p
    → ((t ≡ true) × Reads (after_token s.mode s c) bytes p) ⊎ ((t ≡ false) × Reads (longer s (c ∷ [])) bytes p)
next_at s c bytes p true e f h = let x : Reads (after_token s.mode s c) bytes p = rw (f, e) at h in inl (refl, x)
next_at s c bytes p false e f h = let x : Reads (longer s (c ∷ [])) bytes p = rw (f, e) at h in inr (refl, x)

open_mode : (mode : ValueMode) → halts mode ≡ false → is_closed mode ≡ false
open_mode plain e = refl
open_mode referring e = refl
open_mode closed e = cc
open_mode refused e = refl

next : (s : ValueState) (bytes : List ℕ) (p : List ℕ × List ℕ) → halts s.mode ≡ false → Reads s bytes p → Next s bytes p
next s [] p e h = let x : None ≡ Some p = rw (open_mode s.mode e) at h in cc
next s (c ∷ bytes) p e h =
    elim (next_at s c bytes p (stops s.mode s.quote c) refl e h) [
      | inl k ↦ record {
        token = [];
        last = c;
        rest = bytes;
        there = refl;
        stop = k.0;
        later = subst (λ t. Reads (after_token s.mode (record s { token = t }) c) bytes p)
            (sym (append-nil s.token)) k.1;
      }
      | inr k ↦
          let n = next (longer s (c ∷ [])) bytes p e k.1 in
          record {
            token = c ∷ n.token;
            last = n.last;
            rest = n.rest;
            there = ap (λ (x : List ℕ). c ∷ x) n.there;
            stop = n.stop;
            later = subst (λ t. Reads (after_token s.mode (record s { token = t }) n.last) n.rest p)
                (append_assoc s.token (c ∷ []) n.token) n.later;
          }
    ]

shorter : (b m rest : List ℕ) (c : ℕ) → b ≡ m ++ c ∷ rest → suc (length rest) ≤ length b
shorter b m rest c e = omega (arith, ap length e, length-append m (c ∷ rest))

-- the value up to its closing quote
pub record InnerFound (quote : ℕ) (value bytes : List ℕ) (p : List ℕ × List ℕ) : Type 0 where
  pub inner : List ℕ
  pub meaning : List ℕ
  pub there : bytes ≡ inner ++ quote ∷ p.1
  pub is : IsInner quote inner meaning
  pub sum : p.0 ≡ value ++ meaning

record ReferenceFound (bytes : List ℕ) (P : ℕ → List ℕ → Type 0) : Type 0 where
  pub inner : List ℕ
  pub c : ℕ
  pub rest : List ℕ
  pub there : bytes ≡ inner ++ 59 ∷ rest
  pub is : IsReference (38 ∷ (inner ++ 59 ∷ [])) c
  pub later : P c rest

module _ (quote : ℕ) (value : List ℕ) (p : List ℕ × List ℕ) where
  referred : (inner rest : List ℕ) (o : Option ℕ) → Tests.reference (38 ∷ (inner ++ 59 ∷ [])) ≡ o
      → Reads (at_referring (in_mode quote referring (38 ∷ inner) value) o) rest p
      → (c : ℕ) × IsReference (38 ∷ (inner ++ 59 ∷ [])) c × Reads (begun quote (value ++ encode_utf8 c)) rest p
  referred inner rest None e h = absurd (refused_never (in_mode quote referring (38 ∷ inner) value) rest p h)
  referred inner rest (Some c) e h = (c, reference_from (38 ∷ (inner ++ 59 ∷ [])) c e, h)

  reference_found : (bytes : List ℕ) → Reads (in_mode quote referring (38 ∷ []) value) bytes p
      → ReferenceFound bytes (λ c rest. Reads (begun quote (value ++ encode_utf8 c)) rest p)
  reference_found bytes h =
      let n = next (in_mode quote referring (38 ∷ []) value) bytes p refl h in
      let r = referred n.token n.rest (Tests.reference (38 ∷ (n.token ++ 59 ∷ []))) refl n.later in
      record {
        inner = n.token;
        c = r.0;
        rest = n.rest;
        there = n.there ∙ ap (λ k. n.token ++ k ∷ n.rest) (eqb-true n.last 59 n.stop);
        is = r.1;
        later = r.2;
      }

InnerFound-more : (quote : ℕ) (value bytes : List ℕ) (p : List ℕ × List ℕ) (m token b : List ℕ) (c : ℕ)
    → bytes ≡ m ++ (token ++ b) → is_plain quote m ≡ true → IsReference token c
    → InnerFound quote ((value ++ with_spaces m) ++ encode_utf8 c) b p → InnerFound quote value bytes p
InnerFound-more quote value bytes p m token b c e passes is r = record {
  inner = m ++ (token ++ r.inner);
  meaning = with_spaces m ++ (encode_utf8 c ++ r.meaning);
  there = e ∙ ap (λ (x : List ℕ). m ++ (token ++ x)) r.there ∙ spread;
  is = inner_more m token c r.inner r.meaning (plain_from quote m passes) is r.is;
  sum = r.sum ∙ append_assoc (value ++ with_spaces m) (encode_utf8 c) r.meaning
      ∙ append_assoc value (with_spaces m) (encode_utf8 c ++ r.meaning);
}
  where
    spread : m ++ (token ++ (r.inner ++ quote ∷ p.1)) ≡ (m ++ (token ++ r.inner)) ++ quote ∷ p.1
    spread = simp append_assoc

-- the same for shorter bytes
abbrev Recur : ℕ → ℕ → Type 0
Recur quote fuel = (value bytes : List ℕ) (p : List ℕ × List ℕ) → length bytes ≤ fuel
    → Reads (begun quote value) bytes p
    → InnerFound quote value bytes p

at_quote : (quote : ℕ) (value bytes m rest : List ℕ) (p : List ℕ × List ℕ) → bytes ≡ m ++ quote ∷ rest
    → is_plain quote m ≡ true → Reads (in_mode quote closed [] (value ++ with_spaces m)) rest p
    → InnerFound quote value bytes p
at_quote quote value bytes m rest p e passes h =
    let so_far : List ℕ = value ++ with_spaces m in
    let closing = in_mode quote closed [] so_far in
    let whole : Some (so_far, rest) ≡ Some p =
    sym (ap (λ (x : ValueState × List ℕ). cond (is_closed x.0.mode) (Some (x.0.value, x.1)) None)
    (closed_run closing rest refl)) ∙ h in
    let q : p ≡ (so_far, rest) = cc in
    record {
      inner = m;
      meaning = with_spaces m;
      there = e ∙ ap (λ (x : List ℕ × List ℕ). m ++ quote ∷ x.1) (sym q);
      is = inner_run m (plain_from quote m passes);
      sum = ap (λ (x : List ℕ × List ℕ). x.0) q;
    }

not_ampersand : (c quote : ℕ) → (nat_eq c quote || nat_eq c 38) ≡ true → nat_eq c 38 ≡ false → c ≡ quote
not_ampersand c quote e f = elim (or_cases (nat_eq c quote) (nat_eq c 38) e) [
  | inl k ↦ eqb-true c quote k
  | inr k ↦ absurd (true≢false (sym k ∙ f))
]

next_run : (quote : ℕ) (value bytes : List ℕ) (p : List ℕ × List ℕ) (fuel : ℕ) → Recur quote fuel
    → length bytes ≤ suc fuel → Next (begun quote value) bytes p → InnerFound quote value bytes p
next_run quote value bytes p fuel recur short n =
    let so_far : List ℕ = value ++ with_spaces n.token in
    let refers = in_mode quote referring (38 ∷ []) so_far in
    let closes = in_mode quote closed [] so_far in
    let q = passed (is_plain quote n.token) (cond (nat_eq n.last 38) refers closes) (in_mode quote plain n.token value)
    n.rest p n.later in
    elim (chosen (nat_eq n.last 38) refers closes n.rest p q.1) [
      | inl k ↦
          let r = reference_found quote so_far p n.rest k.1 in
          let there : bytes ≡ n.token ++ 38 ∷ n.rest =
          n.there ∙ ap (λ c. n.token ++ c ∷ n.rest) (eqb-true n.last 38 k.0) in
          InnerFound-more quote value bytes p n.token (38 ∷ (r.inner ++ 59 ∷ [])) r.rest r.c
          (there ∙ ap (λ (x : List ℕ). n.token ++ 38 ∷ x) (r.there ∙ sym (append_assoc r.inner (59 ∷ []) r.rest)))
          q.0 r.is
          (recur (so_far ++ encode_utf8 r.c) r.rest p
          (omega (arith, shorter bytes n.token n.rest 38 there, shorter n.rest r.inner r.rest 59 r.there)) r.later)
      | inr k ↦ at_quote quote value bytes n.token n.rest p
          (n.there ∙ ap (λ c. n.token ++ c ∷ n.rest) (not_ampersand n.last quote n.stop k.0)) q.0 k.1
    ]

inner_found : (quote fuel : ℕ) → Recur quote fuel
inner_found quote zero value bytes p short h =
    let n = next (begun quote value) bytes p refl h in
    absurd (omega (arith, shorter bytes n.token n.rest n.last n.there))
inner_found quote (suc fuel) value bytes p short h =
    next_run quote value bytes p fuel (inner_found quote fuel) short (next (begun quote value) bytes p refl h)

-- what is read, the grammar has
pub reads_found : (quote : ℕ) (value bytes meaning rest : List ℕ) → reads (begun quote value) bytes ≡ Some
    (meaning, rest)
    → InnerFound quote value bytes (meaning, rest)
reads_found quote value bytes meaning rest h =
    inner_found quote (length bytes) value bytes (meaning, rest) (omega arith) h
