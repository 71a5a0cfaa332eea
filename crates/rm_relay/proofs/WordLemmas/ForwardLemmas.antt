-- What a node forwarded is a prefix of what it received, as its records go on.
use Rattle.std.proofs.Common.{◌≡◌, ◌⊎◌, ℕ, zero, suc, ◌+◌, ◌==◌, Bool, true, false, cond, List, [], ◌∷◌, ◌++◌}
use Rattle.std.proofs.Common.{length, refl, sym, ap, ◌∙◌, subst, append-nil, append_assoc, inl, inr}
use Rattle.std.specs.Prelude.{Option, Some, slice_get}
use Rattle.std.specs.List.{AllByRecursion}
use Rattle.std.proofs.lemmas.Bool.{eq-eqb, eqb-true}
use Rattle.std.proofs.lemmas.List.{map-append}
use Rattle.std.proofs.lemmas.List.Concat.{flat_map-append}
use Rattle.rm_base.specs.Numbered.{numbered}
use Rattle.rm_base.specs.declared.message.Payload.{Payload}
use Rattle.record_batch.specs.Fact.{Fact, Accepted}
use Rattle.record_batch.specs.Sequences.Words.{Text}
use Rattle.record_batch.specs.Sequences.Destinations.{released, texts}
use Rattle.record_batch.specs.Sequences.Find.{find_from}
use Rattle.record_batch.specs.Sequences.Fits.{is_incoming_side, is_outgoing_side}
use Rattle.record_batch.specs.Sequences.Makers.{Maker, makers, makers_of}
use Rattle.record_batch.specs.Sequences.Sources.{accepted, accepted_of}
use Rattle.rm_protocol.specs.Consumed.{GoesOn}
use Rattle.rm_protocol.specs.Word.{IsPrefixOf}
use Rattle.rm_relay.specs.Word.Ends.{first_incoming, first_outgoing}
use Rattle.rm_relay.specs.Word.FirstLemmas.{numbered-at, tested}

-- ---- prefixes

pub prefix-then : {A : Type 0} (xs ys zs : List A) → IsPrefixOf xs ys → IsPrefixOf ys zs → IsPrefixOf xs zs
prefix-then xs ys zs p q = (p.0 ++ q.0, q.1 ∙ ap (λ l. l ++ q.0) p.1 ∙ append_assoc xs p.0 q.0)

pub prefix-texts : (xs ys : List Payload) → IsPrefixOf xs ys → IsPrefixOf (texts xs) (texts ys)
prefix-texts xs ys p = (texts p.0, ap texts p.1 ∙ map-append (λ (x : Payload). x.bytes) xs p.0)

at-end : {A : Type 0} (xs rest : List A) → slice_get (xs ++ rest) (length xs) ≡ slice_get rest 0
at-end [] rest = refl
at-end (x ∷ xs) rest = at-end xs rest

-- a prefix and the item behind it
pub prefix-next : {A : Type 0} (xs ys : List A) (y : A) → IsPrefixOf xs ys → numbered ys (length xs + 1) ≡ Some y
    → IsPrefixOf (xs ++ y ∷ []) ys
prefix-next {A = A} xs ys y p e = by_rest p.0 p.1 there
  where
    there : slice_get p.0 0 ≡ Some y
    there = sym (at-end xs p.0) ∙ ap (λ l. slice_get l (length xs)) (sym p.1) ∙ sym (numbered-at ys (length xs)) ∙ e

    by_rest : (rest : List A) → ys ≡ xs ++ rest → slice_get rest 0 ≡ Some y → IsPrefixOf (xs ++ y ∷ []) ys
    by_rest [] f g = absurd (cc)
    by_rest (x ∷ rest) f g =
        let same : x ≡ y = cc in
        (rest, f ∙ ap (λ z. xs ++ z ∷ rest) same ∙ sym (append_assoc xs (y ∷ []) rest))

slice_get-texts : (ps : List Payload) (k : ℕ) (p : Payload) → slice_get ps k ≡ Some p
    → slice_get (texts ps) k ≡ Some p.bytes
slice_get-texts [] k p e = absurd (cc)
slice_get-texts (x ∷ ps) zero p e = let same : x ≡ p = cc in ap (λ z. Some z.bytes) same
slice_get-texts (x ∷ ps) (suc k) p e = slice_get-texts ps k p e

pub numbered-texts : (ps : List Payload) (k : ℕ) (p : Payload) → numbered ps (k + 1) ≡ Some p
    → numbered (texts ps) (k + 1) ≡ Some p.bytes
numbered-texts ps k p e =
    numbered-at (texts ps) k ∙ slice_get-texts ps k p (sym (numbered-at ps k) ∙ e)

-- ---- the first sequences stay

found-append : (f : ℕ → Maker → Bool) (k : ℕ) (ms ns : List Maker) (s : ℕ) → find_from f k ms ≡ Some s
    → find_from f k (ms ++ ns) ≡ Some s
found-append f k [] ns s e = absurd (cc)
found-append f k (m ∷ ms) ns s e =
    elim (f (suc k) m) as (λ b. cond b (Some (suc k)) (find_from f (suc k) ms) ≡ Some s
    → cond b (Some (suc k)) (find_from f (suc k) (ms ++ ns)) ≡ Some s) [
      | true ↦ λ h. h
      | false ↦ λ h. found-append f (suc k) ms ns s h
    ] e

pub first-add : (test : Option Maker → Bool) (r d : List Fact) (s : ℕ) → find_from (tested test) 0 (makers r) ≡ Some s
    → find_from (tested test) 0 (makers (r ++ d)) ≡ Some s
first-add test r d s e = ap (find_from (tested test) 0) (flat_map-append makers_of r d)
    ∙ found-append (tested test) 0 (makers r) (makers d) s e

-- ---- what was accepted

-- no payload is accepted with the record
abbrev pub IsNoAccept : Fact → Type 0
IsNoAccept (Accepted s p) = ⊥
IsNoAccept _ = Unit {0}

none-accepted : (s : ℕ) (rec : Fact) → IsNoAccept rec → accepted_of s rec ≡ []
none-accepted s (Accepted t p) h = absurd h
none-accepted s _ h = refl

none-of : (s : ℕ) (d : List Fact) → AllByRecursion IsNoAccept d → accepted d s ≡ []
none-of s [] h = refl
none-of s (rec ∷ d) h = ap (λ z. z ++ accepted d s) (none-accepted s rec h.0) ∙ none-of s d h.1

pub accepted-same : (b d : List Fact) (s : ℕ) → accepted d s ≡ [] → accepted (b ++ d) s ≡ accepted b s
accepted-same b d s e = flat_map-append (accepted_of s) b d ∙ ap (λ z. accepted b s ++ z) e ∙ append-nil (accepted b s)

-- what was accepted on this sequence came on the first incoming one, if anything was
pub record Relays (b : List Fact) (out : ℕ) : Type 0 where
  pub from : ℕ
  pub incoming : first_incoming b ≡ Some from
  pub outgoing : first_outgoing b ≡ Some out
  pub prefix : IsPrefixOf (accepted b out) (texts (released b from))

abbrev pub HasRelayed : List Fact → Type 0
HasRelayed b = (out : ℕ) → (accepted b out ≡ []) ⊎ Relays b out

-- this batch forwards the next item
pub record Forwarding (b d : List Fact) : Type 0 where
  pub from : ℕ
  pub out : ℕ
  pub payload : Payload
  pub is : d ≡ Accepted out payload.bytes ∷ []
  pub incoming : first_incoming b ≡ Some from
  pub outgoing : first_outgoing b ≡ Some out
  pub item : numbered (released b from) (length (accepted b out) + 1) ≡ Some payload

-- a batch that accepts nothing, or forwards
abbrev pub MayRelay : List Fact → List Fact → Type 0
MayRelay b d = AllByRecursion IsNoAccept d ⊎ Forwarding b d

still : (b d : List Fact) (out : ℕ) → accepted (b ++ d) out ≡ accepted b out
    → ((t : ℕ) → GoesOn b (b ++ d) t) → (accepted b out ≡ []) ⊎ Relays b out
    → (accepted (b ++ d) out ≡ []) ⊎ Relays (b ++ d) out
still b d out same on (inl e) = inl (same ∙ e)
still b d out same on (inr r) = inr (record {
  from = r.from;
  incoming = first-add is_incoming_side b d r.from r.incoming;
  outgoing = first-add is_outgoing_side b d out r.outgoing;
  prefix = subst (λ z. IsPrefixOf z (texts (released (b ++ d) r.from))) (sym same)
      (prefix-then (accepted b out) (texts (released b r.from)) (texts (released (b ++ d) r.from)) r.prefix
      (prefix-texts (released b r.from) (released (b ++ d) r.from) (on r.from).released_));
})

pub same-some : {A : Type 0} (o : Option A) (x y : A) → o ≡ Some x → o ≡ Some y → x ≡ y
same-some o x y e f = cc

one-accepted : (out : ℕ) (p : Text) → accepted (Accepted out p ∷ []) out ≡ p ∷ []
one-accepted out p = ap (λ b. cond b (p ∷ []) [] ++ []) (eq-eqb out out refl)

none-elsewhere : (out s : ℕ) (p : Text) → (out == s) ≡ false → accepted (Accepted out p ∷ []) s ≡ []
none-elsewhere out s p e = ap (λ b. cond b (p ∷ []) [] ++ []) e

-- one item more
forwarded : (b d : List Fact) (f : Forwarding b d) → ((t : ℕ) → GoesOn b (b ++ d) t)
    → (accepted b f.out ≡ []) ⊎ Relays b f.out → Relays (b ++ d) f.out
forwarded b d f on h = record {
  from = f.from;
  incoming = first-add is_incoming_side b d f.from f.incoming;
  outgoing = first-add is_outgoing_side b d f.out f.outgoing;
  prefix = prefix-then (accepted (b ++ d) f.out) (texts (released b f.from)) (texts (released (b ++ d) f.from))
      (subst (λ z. IsPrefixOf z (texts (released b f.from))) (sym more)
      (prefix-next (accepted b f.out) (texts (released b f.from)) f.payload.bytes before
      (numbered-texts (released b f.from) (length (accepted b f.out)) f.payload f.item)))
      (prefix-texts (released b f.from) (released (b ++ d) f.from) (on f.from).released_);
}
  where
    more : accepted (b ++ d) f.out ≡ accepted b f.out ++ f.payload.bytes ∷ []
    more = flat_map-append (accepted_of f.out) b d
        ∙ ap (λ z. accepted b f.out ++ z) (ap (λ z. accepted z f.out) f.is ∙ one-accepted f.out f.payload.bytes)

    before : IsPrefixOf (accepted b f.out) (texts (released b f.from))
    before = elim h [
      | inl e ↦ (texts (released b f.from), ap (λ z. z ++ texts (released b f.from)) (sym e))
      | inr r ↦ subst (λ t. IsPrefixOf (accepted b f.out) (texts (released b t)))
          (same-some (first_incoming b) r.from f.from r.incoming f.incoming) r.prefix
    ]

-- with a batch more
pub relayed-add : (b d : List Fact) → HasRelayed b → MayRelay b d → ((t : ℕ) → GoesOn b (b ++ d) t)
    → HasRelayed (b ++ d)
relayed-add b d h (inl none) on = λ out. still b d out (accepted-same b d out (none-of out d none)) on (h out)
relayed-add b d h (inr f) on = λ out.
    elim (f.out == out) as (λ z. (f.out == out) ≡ z → (accepted (b ++ d) out ≡ []) ⊎ Relays (b ++ d) out) [
      | true ↦ λ e. subst (λ s. (accepted (b ++ d) s ≡ []) ⊎ Relays (b ++ d) s) (eqb-true f.out out e)
          (inr (forwarded b d f on (h f.out)))
      | false ↦ λ e. still b d out (accepted-same b d out
          (ap (λ z. accepted z out) f.is ∙ none-elsewhere f.out out f.payload.bytes e)) on (h out)
    ] refl
