-- What the reader answers was a document: what was found among the bytes.
use Rattle.std.proofs.Common.{◌≡◌, ℕ, ◌+◌, ◌≤◌, ◌⊎◌, inl, inr, List, [], ◌∷◌, ◌++◌, Bool, true, false, cond, Some}
use Rattle.std.proofs.Common.{length, refl, sym, ap, subst, ◌∙◌, arith, append_assoc, append-nil, length-append}
use Rattle.soap_document.specs.Tree.{Element}
use Rattle.soap_document.specs.Machine.{State, run, refuse, counted, root_of}
use Rattle.soap_document.proofs.Moves.{place_append, place_one, place_nil}

-- from a state on, the bytes are read to the end, and the root is u
abbrev pub Accepts : State → List ℕ → Element → Type 0
Accepts s bytes u = root_of (run s bytes) ≡ Some u

pub refused_never : (s : State) (bytes : List ℕ) (u : Element) → Accepts (refuse s) bytes u → ⊥
refused_never s [] u h = cc
refused_never s (c ∷ bytes) u h = refused_never (counted (refuse s)) bytes u h

-- a test that was made, and passed
pub sure : (t : Bool) (x y : State) (bytes : List ℕ) (u : Element) → Accepts (counted (cond t x y)) bytes u
    → y ≡ refuse y → (t ≡ true) × Accepts (counted x) bytes u
sure true x y bytes u h e = (refl, h)
sure false x y bytes u h e = absurd (refused_never (counted y) bytes u (subst (λ s. Accepts (counted s) bytes u) e h))

-- a choice, as it went
pub chosen : (t : Bool) (x y : State) (bytes : List ℕ) (u : Element) → Accepts (counted (cond t x y)) bytes u → ((t
    ≡ true) × Accepts (counted x) bytes u) ⊎ ((t ≡ false) × Accepts (counted y) bytes u)
chosen true x y bytes u h = inl (refl, h)
chosen false x y bytes u h = inr (refl, h)

-- bytes behind a token: what the token has become with some of them, and what is known of the rest and its place
pub record Found {X : Type 0} (P : X → List ℕ → Type 0) (K : X → ℕ → List ℕ → Type 0) (token : List ℕ) (at : ℕ)
    (bytes : List ℕ) : Type 0 where
  pub meaning : X
  pub front : List ℕ
  pub rest : List ℕ
  pub there : bytes ≡ front ++ rest
  pub is : P meaning (token ++ front)
  pub later : K meaning (at + length front) rest

module _ {X : Type 0} {P : X → List ℕ → Type 0} {K : X → ℕ → List ℕ → Type 0} where
  -- the token is whole
  abbrev pub found_here : {token : List ℕ} {at : ℕ} {bytes : List ℕ} (x : X) → P x token → K x at bytes
      → Found P K token at bytes
  found_here {token} {at} {bytes} x p k = record {
    meaning = x;
    front = [];
    rest = bytes;
    there = refl;
    is = subst (P x) (sym (append-nil token)) p;
    later = subst (λ q. K x q bytes) (place_nil at) k;
  }

  -- one byte ends it
  abbrev pub found_byte : {token : List ℕ} {at c : ℕ} {bytes : List ℕ} (x : X) → P x (token ++ c ∷ [])
      → K x (at + 1) bytes → Found P K token at (c ∷ bytes)
  found_byte {token} {at} {c} {bytes} x p k = record {
    meaning = x;
    front = c ∷ [];
    rest = bytes;
    there = refl;
    is = p;
    later = k;
  }

  -- one byte makes it longer
  abbrev pub found_on : {token : List ℕ} {at c : ℕ} {bytes : List ℕ} → Found P K (token ++ c ∷ []) (at + 1) bytes
      → Found P K token at (c ∷ bytes)
  found_on {token} {at} {c} {bytes} f = record {
    meaning = f.meaning;
    front = c ∷ f.front;
    rest = f.rest;
    there = ap (λ (x : List ℕ). c ∷ x) f.there;
    is = subst (P f.meaning) (append_assoc token (c ∷ []) f.front) f.is;
    later = subst (λ q. K f.meaning q f.rest) (place_one at c f.front) f.later;
  }

  -- behind other bytes, whatever these are
  abbrev pub found_behind : {token : List ℕ} {at : ℕ} (front : List ℕ) {rest bytes : List ℕ} → bytes ≡ front ++ rest
      → Found P K token (at + length front) rest → Found (λ _ _. Unit) K [] at bytes
  found_behind {token} {at} front e f = record {
    meaning = f.meaning;
    front = front ++ f.front;
    rest = f.rest;
    there = e ∙ ap (λ (x : List ℕ). front ++ x) f.there ∙ sym (append_assoc front f.front f.rest);
    is = tt;
    later = subst (λ q. K f.meaning q f.rest) (place_append at front f.front) f.later;
  }

  -- the same bytes, for what they are
  abbrev pub found_as : {Y : Type 0} {Q : Y → List ℕ → Type 0} {L : Y → ℕ → List ℕ → Type 0} {before token : List ℕ}
      {at : ℕ} {bytes : List ℕ} (f : Found Q L before at bytes) (x : X) → P x (token ++ f.front)
      → K x (at + length f.front) f.rest → Found P K token at bytes
  found_as {token = token} f x p k = record {
    meaning = x;
    front = f.front;
    rest = f.rest;
    there = f.there;
    is = p;
    later = k;
  }

  pub no_longer : {token : List ℕ} {at : ℕ} {bytes : List ℕ} (f : Found P K token at bytes)
      → length f.rest ≤ length bytes
  no_longer f = omega (arith, ap length f.there, length-append f.front f.rest)
