-- Where at most 64 keys are due, each of them is emitted.
use Rattle.std.proofs.Common.{◌≡◌, ◌⊎◌, ℕ, zero, suc, ◌≤◌, ◌==◌, ◌&&◌, ◌||◌, nat_le, cond, Bool, true, false, List}
use Rattle.std.proofs.Common.{[], ◌∷◌, ◌++◌, length, take, filter, refl, sym, ap, subst, arith, inl, inr}
use Rattle.std.specs.Prelude.{flat_map}
use Rattle.std.proofs.lemmas.Bool.{eq-eqb, eqb-true, le-leb}
use Rattle.rm_base.specs.NumberSet.{has_number}
use Rattle.timers.specs.declared.slots.timers.Key.{Key}
use Rattle.timers.specs.Slots.Waits.{classes_in_order}
use Rattle.timers.specs.Keys.KeyLemmas.{same_key-refl}
use Rattle.timers.specs.Keys.Waits.{Wait, due_at, first_due, has_key, keys_of, most_emitted, same_key}

take-all : {A : Type 0} (n : ℕ) (xs : List A) → length xs ≤ n → take n xs ≡ xs
take-all zero [] le = refl
take-all zero (x ∷ xs) le = absurd (omega (arith, le))
take-all (suc n) [] le = refl
take-all (suc n) (x ∷ xs) le = ap (λ ys. x ∷ ys) (take-all n xs (omega (arith, le)))

or-first : (x y : Bool) → x ≡ true → (x || y) ≡ true
or-first true y h = refl
or-first false y h = absurd (cc (h))

or-second : (x y : Bool) → y ≡ true → (x || y) ≡ true
or-second true y h = refl
or-second false y h = h

or-either : (x y : Bool) → (x || y) ≡ true → (x ≡ true) ⊎ (y ≡ true)
or-either true y h = inl refl
or-either false y h = inr h

has-front : (xs ys : List Wait) (k : Key) → has_key (keys_of xs) k ≡ true → has_key (keys_of (xs ++ ys)) k ≡ true
has-front [] ys k h = absurd (cc (h))
has-front (x ∷ xs) ys k h = elim (or-either (same_key k x.key) (has_key (keys_of xs) k) h) [
  | inl e ↦ or-first (same_key k x.key) (has_key (keys_of (xs ++ ys)) k) e
  | inr e ↦ or-second (same_key k x.key) (has_key (keys_of (xs ++ ys)) k) (has-front xs ys k e)
]

has-back : (xs ys : List Wait) (k : Key) → has_key (keys_of ys) k ≡ true → has_key (keys_of (xs ++ ys)) k ≡ true
has-back [] ys k h = h
has-back (x ∷ xs) ys k h = or-second (same_key k x.key) (has_key (keys_of (xs ++ ys)) k) (has-back xs ys k h)

-- those of a class that are due
abbrev of_class : ℕ → List Wait → ℕ → List Wait
of_class now waits class = filter (λ (w : Wait). (w.class == class) && nat_le w.due now) waits

in-class : (now class : ℕ) (before : List Wait) (w : Wait) (behind : List Wait)
    → ((w.class == class) && nat_le w.due now) ≡ true
    → has_key (keys_of (of_class now (before ++ w ∷ behind) class)) w.key ≡ true
in-class now class [] w behind h =
    subst (λ b. has_key (keys_of (cond b (w ∷ of_class now behind class) (of_class now behind class))) w.key ≡ true)
    (sym h) (or-first (same_key w.key w.key) (has_key (keys_of (of_class now behind class)) w.key)
    (same_key-refl w.key))
in-class now class (x ∷ before) w behind h =
    let rest = in-class now class before w behind h in
    elim ((x.class == class) && nat_le x.due now) as (λ b.
    has_key (keys_of (cond b (x ∷ of_class now (before ++ w ∷ behind) class)
    (of_class now (before ++ w ∷ behind) class))) w.key ≡ true) [
      | true ↦ or-second (same_key w.key x.key) (has_key (keys_of (of_class now (before ++ w ∷ behind) class)) w.key)
          rest
      | false ↦ rest
    ]

in-classes : (now : ℕ) (waits : List Wait) (k : Key) (class : ℕ)
    → has_key (keys_of (of_class now waits class)) k ≡ true → (classes : List ℕ)
    → has_number classes class ≡ true → has_key (keys_of (flat_map (of_class now waits) classes)) k ≡ true
in-classes now waits k class h [] e = absurd (cc (e))
in-classes now waits k class h (c ∷ cs) e = elim (or-either (c == class) (has_number cs class) e) [
  | inl is ↦ has-front (of_class now waits c) (flat_map (of_class now waits) cs) k
      (subst (λ n. has_key (keys_of (of_class now waits n)) k ≡ true) (sym (eqb-true c class is)) h)
  | inr is ↦ has-back (of_class now waits c) (flat_map (of_class now waits) cs) k
      (in-classes now waits k class h cs is)
]

classes-have : (class : ℕ) → class ≤ 6 → has_number classes_in_order class ≡ true
classes-have zero le = refl
classes-have (suc zero) le = refl
classes-have (suc (suc zero)) le = refl
classes-have (suc (suc (suc zero))) le = refl
classes-have (suc (suc (suc (suc zero)))) le = refl
classes-have (suc (suc (suc (suc (suc zero))))) le = refl
classes-have (suc (suc (suc (suc (suc (suc zero)))))) le = refl
classes-have (suc (suc (suc (suc (suc (suc (suc n))))))) le = absurd (omega (arith, le))

both : (x y : Bool) → x ≡ true → y ≡ true → (x && y) ≡ true
both true y h k = k
both false y h k = absurd (cc (h))

pub few-emitted : (now : ℕ) (before : List Wait) (w : Wait) (behind : List Wait)
    → length (due_at now (before ++ w ∷ behind)) ≤ most_emitted → w.class ≤ 6 → w.due ≤ now
    → has_key (first_due now (before ++ w ∷ behind)) w.key ≡ true
few-emitted now before w behind few class due =
    let waits = before ++ w ∷ behind in
    let there : has_key (keys_of (due_at now waits)) w.key ≡ true =
    in-classes now waits w.key w.class
    (in-class now w.class before w behind
    (both (w.class == w.class) (nat_le w.due now) (eq-eqb w.class w.class refl) (le-leb w.due now due)))
    classes_in_order (classes-have w.class class) in
    subst (λ xs. has_key (keys_of xs) w.key ≡ true) (sym (take-all most_emitted (due_at now waits) few)) there
