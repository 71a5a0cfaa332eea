-- How the reader of documents reads a value: as the machine of values does.
use Rattle.std.proofs.Common.{◌≡◌, ℕ, ◌+◌, List, [], ◌∷◌, ◌++◌, true, false, ◌||◌, cond, Some, length, refl}
use Rattle.std.proofs.Common.{sym, ap, subst, ◌∙◌, arith, length-append}
use Rattle.std.proofs.lemmas.Bool.{true≢false, or_parts, cond_both}
use Rattle.soap_lex.specs.ValueMachine.{ValueMode, plain, referring, closed, refused, ValueState}
use Rattle.soap_lex.specs.ValueMachine.{stops as value_stops, halts, is_closed, is_refused}
use Rattle.soap_lex.specs.ValueMachine.{step as value_step, to_stop, run as value_run, reads}
use Rattle.soap_document.specs.Tree.{Attribute, Element}
use Rattle.soap_document.specs.Machine.{tagging, value_inner, no_value, State, step, run, refuse, counted, after_value}
use Rattle.soap_document.specs.Machine.{root_of}
use Rattle.soap_document.proofs.Accepts.{Accepts, refused_never}
use Rattle.soap_document.proofs.Moves.{Tag, tag_at, between_at}
use Rattle.soap_lex.specs.ValueMachine.{Takes, stay, on}

-- ---- the machine of values

-- what is read no more was closed or refused
halting : (mode : ValueMode) → halts mode ≡ (is_closed mode || is_refused mode)
halting plain = refl
halting referring = refl
halting closed = refl
halting refused = refl

pub refused_open : (mode : ValueMode) → is_refused mode ≡ true → is_closed mode ≡ false
refused_open plain e = refl
refused_open referring e = refl
refused_open closed e = cc
refused_open refused e = refl

-- it goes over bytes to a state, and leaves the others
abbrev Goes : ValueState → List ℕ → ValueState × List ℕ → Type 0
Goes v bytes x = (front : List ℕ) × Takes v front x.0 × (bytes ≡ front ++ x.1)

one_more : (v : ValueState) (c : ℕ) (bytes : List ℕ) (x : ValueState × List ℕ) → halts v.mode ≡ false
    → Goes (value_step v c) bytes x → Goes v (c ∷ bytes) x
one_more v c bytes x e r = (c ∷ r.0, on v c r.0 x.0 e r.1, ap (λ (y : List ℕ). c ∷ y) r.2)

stopped : (v : ValueState) (bytes : List ℕ) → Goes v bytes (to_stop v bytes)
stopped v [] = ([], stay v, refl)
stopped v (c ∷ bytes) =
    let next = value_step v c in
    cond_both (halts v.mode) (v, c ∷ bytes) (cond (value_stops v.mode v.quote c) (next, bytes) (to_stop next bytes))
    (Goes v (c ∷ bytes)) (λ e. ([], stay v, refl)) (λ e. one_more v c bytes _ e
    (cond_both (value_stops v.mode v.quote c) (next, bytes) (to_stop next bytes) (Goes next bytes)
    (λ f. ([], stay next, refl)) (λ f. stopped next bytes)))

ended : (v : ValueState) (bytes : List ℕ)
    → Goes v bytes (value_run v bytes) × (halts (value_run v bytes).0.mode ≡ false → (value_run v bytes).1 ≡ [])
ended v [] = (([], stay v, refl), λ e. refl)
ended v (c ∷ bytes) =
    let next = value_step v c in
    cond_both (halts v.mode) (v, c ∷ bytes) (value_run next bytes)
    (λ x. Goes v (c ∷ bytes) x × (halts x.0.mode ≡ false → x.1 ≡ []))
    (λ e. (([], stay v, refl), λ f. absurd (true≢false (sym e ∙ f))))
    (λ e. let r = ended next bytes in (one_more v c bytes (value_run next bytes) e r.0, r.1))

-- ---- within a value, all else as it is

pub open_value : (s : State) → is_closed s.value.mode ≡ false → is_refused s.value.mode ≡ false → after_value s ≡ s
open_value s e f = rw (e, f)

pub refused_value : (s : State) → is_closed s.value.mode ≡ false → is_refused s.value.mode ≡ true
    → after_value s ≡ refuse s
refused_value s e f = rw (e, f)

module _ (base : State) where
  abbrev pub within : ValueState → ℕ → State
  within v at = record base { mode = value_inner; value = v; at = at }

  -- behind the value
  abbrev pub closing : List ℕ → ℕ → State
  closing value at = record base {
    mode = tagging;
    token = [];
    attribute = [];
    value = no_value;
    attributes = base.attributes ++ record { name = base.attribute; value = value } ∷ [];
    at = at;
  }

  -- the state behind a byte that was read
  abbrev pub behind : ValueState → ℕ → State
  behind v at = after_value (within v at)

  behind_open : (v : ValueState) (at : ℕ) → halts v.mode ≡ false → behind v at ≡ within v at
  behind_open v at e =
      let (f, g) = or_parts (is_closed v.mode) (is_refused v.mode) (sym (halting v.mode) ∙ e) in
      open_value (within v at) f g

  behind_closed : (v : ValueState) (at : ℕ) → is_closed v.mode ≡ true → behind v at ≡ closing v.value at
  behind_closed v at e = rw e

  counted_behind : (v : ValueState) (at : ℕ) → counted (behind v at) ≡ behind v (at + 1)
  counted_behind v at = grind arith

  value_next : (v : ValueState) (at c : ℕ) → halts v.mode ≡ false
      → step (within v at) c ≡ behind (value_step v c) (at + 1)
  value_next v at c e =
      let first : step (within v at) c ≡ counted (behind (value_step v c) at) = rw e in
      first ∙ counted_behind (value_step v c) at

  moved : {v w : ValueState} {bytes : List ℕ} → Takes v bytes w → (at : ℕ) (rest : List ℕ)
      → run (behind v at) (bytes ++ rest) ≡ run (behind w (at + length bytes)) rest
  moved (stay s) at rest = ap (λ p. run (behind s p) rest) (omega arith)
  moved (on s c bytes w h m) at rest =
      ap (λ x. run x (c ∷ (bytes ++ rest))) (behind_open s at h) ∙ ap (λ x. run x (bytes ++ rest)) (value_next s at c h)
      ∙ moved m (at + 1) rest ∙ ap (λ p. run (behind w p) rest) (omega arith)

  value_moves : {v w : ValueState} {bytes : List ℕ} → Takes v bytes w → halts v.mode ≡ false → (at : ℕ)
      (rest : List ℕ) → run (within v at) (bytes ++ rest) ≡ run (behind w (at + length bytes)) rest
  value_moves {v} {bytes = bytes} m e at rest =
      ap (λ x. run x (bytes ++ rest)) (sym (behind_open v at e)) ∙ moved m at rest

  goes_on : (v : ValueState) (bytes : List ℕ) (x : ValueState × List ℕ) (r : Goes v bytes x) → halts v.mode ≡ false
      → (at : ℕ) → run (within v at) bytes ≡ run (behind x.0 (at + length r.0)) x.1
  goes_on v bytes x r e at = ap (run (within v at)) r.2 ∙ value_moves r.1 e at x.1

  -- what a piece does, up to the end of a token
  pub fed : (v w : ValueState) (bytes rest : List ℕ) (q p : ℕ) → halts v.mode ≡ false → to_stop v bytes ≡ (w, rest)
      → p + length rest ≡ q + length bytes → run (within v q) bytes ≡ run (behind w p) rest
  fed v w bytes rest q p h e place =
      let r = subst (Goes v bytes) e (stopped v bytes) in
      let size : length bytes ≡ length (r.0 ++ rest) = ap length r.2 in
      let here : q + length r.0 ≡ p = omega (arith, place, size, length-append r.0 rest) in
      goes_on v bytes (w, rest) r h q ∙ ap (λ k. run (behind w k) rest) here

  -- what is read
  pub record ValueRead (u : Element) (v : ValueState) (bytes : List ℕ) (at : ℕ) : Type 0 where
    pub meaning : List ℕ
    pub rest : List ℕ
    pub place : ℕ
    pub is : reads v bytes ≡ Some (meaning, rest)
    pub so_far : place + length rest ≡ at + length bytes
    pub later : Accepts (closing meaning place) rest u

  -- behind all of a value it is closed
  value_ends : (u : Element) (w : ValueState) (at : ℕ) (rest : List ℕ) → (halts w.mode ≡ false → rest ≡ [])
      → Accepts (behind w at) rest u → (is_closed w.mode ≡ true) × Accepts (closing w.value at) rest u
  value_ends u w at rest last =
      let s = within w at in
      let Reads : State → Type 0 =
      λ x. Accepts x rest u → (is_closed w.mode ≡ true) × Accepts (closing w.value at) rest u in
      cond_both (is_closed w.mode) (closing w.value at) (cond (is_refused w.mode) (refuse s) s) Reads (λ e h. (e, h))
      (λ e. cond_both (is_refused w.mode) (refuse s) s Reads (λ f h. absurd (refused_never s rest u h)) (λ f h.
      let none : root_of s ≡ Some u = subst (λ (x : List ℕ). Accepts s x u) (last (rw (halting w.mode, e, f))) h in cc))

  pub value_read : (u : Element) (v : ValueState) (at : ℕ) (bytes : List ℕ) → halts v.mode ≡ false
      → Accepts (within v at) bytes u → ValueRead u v bytes at
  value_read u v at bytes e h =
      let x = value_run v bytes in
      let (r, last) = ended v bytes in
      let place = at + length r.0 in
      let size : length bytes ≡ length (r.0 ++ x.1) = ap length r.2 in
      let (f, k) =
      value_ends u x.0 place x.1 last (ap root_of (sym (goes_on v bytes x r e at)) ∙ h) in
      record {
        meaning = x.0.value;
        rest = x.1;
        place = place;
        is = rw f;
        so_far = omega (arith, size, length-append r.0 x.1);
        later = k;
      }

-- ---- within a tag

module _ (tag : Tag) (attributes : List Attribute) (name : List ℕ) where
  abbrev base : State
  base = tag_at value_inner tag attributes name no_value [] 0

  abbrev pub value_at : ValueState → ℕ → State
  value_at v at = tag_at value_inner tag attributes name v [] at

  abbrev pub added : List ℕ → List Attribute
  added value = attributes ++ record { name = name; value = value } ∷ []

  pub tag_moves : {v w : ValueState} {bytes : List ℕ} → Takes v bytes w → halts v.mode ≡ false
      → is_closed w.mode ≡ true → (at : ℕ) (rest : List ℕ)
      → run (value_at v at) (bytes ++ rest) ≡ run (between_at false tag (added w.value) (at + length bytes)) rest
  tag_moves {w = w} {bytes = bytes} m e f at rest =
      value_moves base m e at rest ∙ ap (λ x. run x rest) (behind_closed base w (at + length bytes) f)

  pub tag_read : (u : Element) (v : ValueState) (at : ℕ) (bytes : List ℕ) → halts v.mode ≡ false
      → Accepts (value_at v at) bytes u → ValueRead base u v bytes at
  tag_read u v at bytes e h = value_read base u v at bytes e h
