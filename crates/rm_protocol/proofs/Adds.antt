-- Records that may be added keep both nodes in agreement.
use Rattle.std.proofs.Common.{◌≡◌, ℕ, ◌+◌, ◌<◌, ◌≤◌, List, [], ◌∷◌, ◌++◌, length, refl, sym, ap, ◌∙◌, arith, subst}
use Rattle.std.proofs.Common.{map, append-nil, append_assoc, length-append, inl, inr}
use Rattle.std.specs.Prelude.{Option, Some, None}
use Rattle.std.specs.List.{flat_map}
use Rattle.std.proofs.lemmas.List.{map-append}
use Rattle.std.proofs.lemmas.List.Concat.{flat_map-append}
use Rattle.rm_base.specs.Numbered.{numbered}
use Rattle.record_batch.specs.Fact.{Fact, Creating, Created, Granted}
use Rattle.record_batch.specs.Sequences.Words.{Text}
use Rattle.record_batch.specs.Sequences.Makers.{Maker, Incoming, Taken, makers, makers_of, draws_of, counter, created}
use Rattle.record_batch.specs.Sequences.Makers.{created_of, ident_in, seq_in}
use Rattle.record_batch.specs.Sequences.Find.{acks_to}
use Rattle.rm_protocol.specs.Sound.{Justified, Rises, highest, drawn, Owns, Agree, Fresh, Allows}
use Rattle.rm_protocol.proofs.ListLemmas.{numbered-append, numbered-last, numbered-within, All-weaker, All-push}
use Rattle.rm_protocol.proofs.ListLemmas.{Rises-append, highest-append, ident_in-append, ident_in-push}
use Rattle.rm_protocol.proofs.ListLemmas.{ident_in-last, seq_in-none, seq_in-push}
use Rattle.rm_protocol.proofs.Growth.{Grows, Grows-same, Grows-then, Grows-add, created-add, Justified-grows}

-- the numbers of the sequences of r
abbrev drawn_in : List Fact → List (Option ℕ)
drawn_in r = map drawn (makers r)

drawn_in-add : (r : List Fact) (rec : Fact) → drawn_in (r ++ rec ∷ []) ≡ drawn_in r ++ map drawn (makers_of rec)
drawn_in-add r rec =
    ap (map drawn) (flat_map-append makers_of r (rec ∷ []) ∙ ap (λ z. makers r ++ z) (append-nil (makers_of rec)))
    ∙ map-append drawn (makers r) (makers_of rec)

counter-add : (r : List Fact) (rec : Fact) → counter (r ++ rec ∷ []) ≡ counter r + length (draws_of rec)
counter-add r rec =
    ap length (flat_map-append draws_of r (rec ∷ []) ∙ ap (λ z. flat_map draws_of r ++ z) (append-nil (draws_of rec)))
    ∙ length-append (flat_map draws_of r) (draws_of rec)

-- the numbers stay in order
record Numbers (r : List Fact) : Type 0 where
  rising : Rises 0 (drawn_in r)
  below : highest 0 (drawn_in r) ≤ counter r

-- the numbers that a record draws are the next
new_numbers : (r : List Fact) (rec : Fact) (last : ℕ) → Fresh r rec → last ≤ counter r
    → Rises last (map drawn (makers_of rec))
    × (highest last (map drawn (makers_of rec)) ≤ counter r + length (draws_of rec))
new_numbers r (Creating t to via lapse None) last f h = ((omega (arith, f.0), tt), omega (arith, f.0))
new_numbers r (Creating t to via lapse (Some own)) last f h =
    ((omega (arith, f.0), (omega (arith, f.0, f.1), tt)), omega (arith, f.0, f.1))
new_numbers r (Granted c t acks_to y deadline lapse None) last f h = ((omega (arith, f.0), tt), omega (arith, f.0))
new_numbers r (Granted c t acks_to y deadline lapse (Some taken)) last f h =
    ((omega (arith, f.0), tt), omega (arith, f.0))
new_numbers r _ last f h = (tt, omega arith)

numbers-add : (r : List Fact) (rec : Fact) → Fresh r rec → Numbers r → Numbers (r ++ rec ∷ [])
numbers-add r rec f h =
    let new = new_numbers r rec (highest 0 (drawn_in r)) f h.below in
    record {
      rising = rw (drawn_in-add r rec) (Rises-append 0 (drawn_in r) (map drawn (makers_of rec)) h.rising new.0);
      below = rw (drawn_in-add r rec, highest-append 0 (drawn_in r) (map drawn (makers_of rec)), counter-add r rec)
          new.1;
    }

-- the identifiers stay apart, and are of sequences that were made
record Idents (ms : List Maker) (cs : List (ℕ × Text)) : Type 0 where
  made : (s : ℕ) (q : Text) → ident_in cs s ≡ Some q → (m : Maker) × (numbered ms s ≡ Some m)
  unique : (s t : ℕ) (q : Text) → ident_in cs s ≡ Some q → ident_in cs t ≡ Some q → s ≡ t
  found : (s : ℕ) (q : Text) → seq_in cs q ≡ Some s → ident_in cs s ≡ Some q

idents-push : (ms ns : List Maker) (cs : List (ℕ × Text)) (s : ℕ) (q : Text) → (m : Maker)
    × (numbered (ms ++ ns) s ≡ Some m)
    → seq_in cs q ≡ None → ident_in cs s ≡ None → Idents ms cs → Idents (ms ++ ns) (cs ++ (s, q) ∷ [])
idents-push ms ns cs s q w i k h = record {
  made = λ a p e.
      elim (ident_in-push cs s q a p e) [
        | inl x ↦ let old = h.made a p x in (old.0, numbered-append ms ns a old.0 old.1)
        | inr x ↦ subst (λ z. (m : Maker) × (numbered (ms ++ ns) z ≡ Some m)) x.0 w
      ];
  unique = λ a b p e f.
      elim (ident_in-push cs s q a p e) [
        | inl x ↦ elim (ident_in-push cs s q b p f) [
          | inl y ↦ h.unique a b p x y
          | inr y ↦ absurd (seq_in-none cs a q i (x ∙ ap Some (sym y.1)))
        ]
        | inr x ↦ elim (ident_in-push cs s q b p f) [
          | inl y ↦ absurd (seq_in-none cs b q i (y ∙ ap Some (sym x.1)))
          | inr y ↦ sym x.0 ∙ y.0
        ]
      ];
  found = λ a p e.
      elim (seq_in-push cs s q a p e) [
        | inl x ↦ ident_in-append cs ((s, q) ∷ []) a p (h.found a p x)
        | inr x ↦ subst (λ z. ident_in (cs ++ (s, q) ∷ []) z ≡ Some p) x.0 (ident_in-last cs s q k ∙ ap Some x.1)
      ];
}

same_idents : (ms ns : List Maker) (cs : List (ℕ × Text)) → Idents ms cs → Idents (ms ++ ns) (cs ++ [])
same_idents ms ns cs h = subst (Idents (ms ++ ns)) (sym (append-nil cs)) (record {
  made = λ s q e. let old = h.made s q e in (old.0, numbered-append ms ns s old.0 old.1);
  unique = h.unique;
  found = h.found;
})

none_past : (ms : List Maker) (cs : List (ℕ × Text)) (s : ℕ) → length ms < s → Idents ms cs → ident_in cs s ≡ None
none_past ms cs s l h = by_found (ident_in cs s) refl
  where
    by_found : (x : Option Text) → ident_in cs s ≡ x → x ≡ None
    by_found None e = refl
    by_found (Some q) e =
        let old = h.made s q e in let within : s ≤ length ms = numbered-within ms s old.0 old.1 in absurd (omega arith)

pub second_last : (ms : List Maker) (x y : Maker) → numbered (ms ++ x ∷ y ∷ []) (length ms + 2) ≡ Some y
second_last ms x y =
    let place : length (ms ++ x ∷ []) + 1 ≡ length ms + 2 = omega (arith, length-append ms (x ∷ [])) in
    ap (λ z. numbered z (length ms + 2)) (sym (append_assoc ms (x ∷ []) (y ∷ [])))
    ∙ subst (λ k. numbered (ms ++ x ∷ [] ++ y ∷ []) k ≡ Some y) place (numbered-last (ms ++ x ∷ []) y)

idents-by : (r : List Fact) (rec : Fact) → Fresh r rec → Idents (makers r) (created r)
    → Idents (makers r ++ makers_of rec) (created r ++ created_of (length (makers r)) rec)
idents-by r (Created s q accept) f h =
    idents-push _ _ (created r) s q (f.0.0, numbered-append (makers r) [] s f.0.0 f.0.1) f.1 f.2 h
idents-by r (Granted c t acks_to y deadline lapse (Some taken)) f h =
    idents-push _ _ (created r) (length (makers r) + 2) taken.ident (
      Taken t taken.ident taken.endpoint,
      second_last (makers r) (Incoming c t acks_to y deadline lapse)
          (Taken t taken.ident taken.endpoint),
    ) f.1
    (none_past _ (created r) (length (makers r) + 2) (omega arith) h) h
idents-by r (Granted c t acks_to y deadline lapse None) f h = same_idents _ _ (created r) h
idents-by r _ f h = same_idents _ _ (created r) h

idents-add : (r : List Fact) (rec : Fact) → Fresh r rec → Idents (makers r) (created r)
    → Idents (makers (r ++ rec ∷ [])) (created (r ++ rec ∷ []))
idents-add r rec f h =
    rw (
      flat_map-append makers_of r (rec ∷ [])
          ∙ ap (λ z. makers r ++ z) (append-nil (makers_of rec)),
      created-add r rec,
    ) (idents-by r rec f h)

pub Owns-add : (n : ℕ) (r : List Fact) (rec : Fact) → Fresh r rec → Owns n r → Owns n (r ++ rec ∷ [])
Owns-add n r rec f h =
    let numbers = numbers-add r rec f (record { rising = h.rising; below = h.below }) in
    let idents = idents-add r rec f (record {
      made = λ s q e. h.made s q (record { is = e });
      unique = λ s t q e k. h.unique s t q (record { is = e }) (record { is = k });
      found = λ s q e. (h.found s q e).is;
    }) in
    record {
      number = (Grows-add r rec f).number ∙ h.number;
      rising = numbers.rising;
      below = numbers.below;
      made = λ s q e. idents.made s q e.is;
      unique = λ s t q e k. idents.unique s t q e.is k.is;
      found = λ s q e. record { is = idents.found s q e };
    }

pub Agree-swap : (n m : ℕ) (a b : List Fact) → Agree n m a b → Agree m n b a
Agree-swap n m a b h = record {
  owns = h.others;
  others = h.owns;
  justified = h.others_justified;
  others_justified =
      h.justified;
}

-- one record is added
pub Agree-add : (n m : ℕ) (a b : List Fact) (rec : Fact) → Fresh a rec → Justified a b rec → Agree n m a b
    → Agree n m (a ++ rec ∷ []) b
Agree-add n m a b rec f j h =
    let g : Grows a (a ++ rec ∷ []) = Grows-add a rec f in
    let same : Grows b b = Grows-same b in
    record {
      owns = Owns-add n a rec f h.owns;
      others = h.others;
      justified = All-push (Justified (a ++ rec ∷ []) b) a rec
          (All-weaker (Justified a b) (Justified (a ++ rec ∷ []) b) (Justified-grows a b (a ++ rec ∷ []) b g same) a
          h.justified)
          (Justified-grows a b (a ++ rec ∷ []) b g same rec j);
      others_justified = All-weaker (Justified b a) (Justified b (a ++ rec ∷ []))
          (Justified-grows b a b (a ++ rec ∷ []) same g) b h.others_justified;
    }

-- a batch is added
pub Agree-adds : (n m : ℕ) (a b delta : List Fact) → Allows a b delta → Agree n m a b → Agree n m (a ++ delta) b
Agree-adds n m a b [] w h = subst (λ z. Agree n m z b) (sym (append-nil a)) h
Agree-adds n m a b (rec ∷ delta) w h =
    subst (λ z. Agree n m z b) (append_assoc a (rec ∷ []) delta)
    (Agree-adds n m (a ++ rec ∷ []) b delta w.2 (Agree-add n m a b rec w.0 w.1 h))

pub Grows-adds : (a b delta : List Fact) → Allows a b delta → Grows a (a ++ delta)
Grows-adds a b [] w = subst (λ z. Grows a z) (sym (append-nil a)) (Grows-same a)
Grows-adds a b (rec ∷ delta) w =
    subst (λ z. Grows a z) (append_assoc a (rec ∷ []) delta)
    (Grows-then a (a ++ rec ∷ []) (a ++ rec ∷ [] ++ delta) (Grows-add a rec w.0)
    (Grows-adds (a ++ rec ∷ []) b delta w.2))

pub Owns-adds : (n : ℕ) (a b delta : List Fact) → Allows a b delta → Owns n a → Owns n (a ++ delta)
Owns-adds n a b [] w h = subst (Owns n) (sym (append-nil a)) h
Owns-adds n a b (rec ∷ delta) w h =
    subst (Owns n) (append_assoc a (rec ∷ []) delta)
    (Owns-adds n (a ++ rec ∷ []) b delta w.2 (Owns-add n a rec w.0 h))

-- two batches, one after the other
pub Allows-then : (a b d e : List Fact) → Allows a b d → Allows (a ++ d) b e → Allows a b (d ++ e)
Allows-then a b [] e h k = subst (λ z. Allows z b e) (append-nil a) k
Allows-then a b (rec ∷ d) e h k =
    (h.0, h.1, Allows-then (a ++ rec ∷ []) b d e h.2 (subst (λ z. Allows z b e) (sym (append_assoc a (rec ∷ []) d)) k))
