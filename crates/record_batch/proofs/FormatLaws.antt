-- That each format is one: what is written is read again, and nothing else is read.
use Rattle.std.proofs.Common.{◌≡◌, ℕ, suc, ◌+◌, ◌^◌, ◌<◌, ◌≤◌, Bool, true, false, cond, ltb, eqb, rules, List, []}
use Rattle.std.proofs.Common.{◌∷◌, ◌++◌, length, get_or, take, drop, Option, Some, None, refl, sym, ap, subst, ◌∙◌}
use Rattle.std.proofs.Common.{append_assoc, arith, IfSome}
use Prim.Native.Nat.{zero}
use Rattle.std.specs.Int.{Width, w32, w64, byte_len, from_be_bytes, to_be_bytes}
use Rattle.std.specs.List.{flat_map, AllByRecursion}
use Rattle.std.proofs.lemmas.Bool.{le-ltb, ltb-false}
use Rattle.std.proofs.lemmas.List.{take_at, drop_at, length-append, take-append-drop, length-take-le, get_or-append-add}
use Rattle.std.proofs.lemmas.Nat.{from_be_bytes-to_be_bytes_4, from_be_bytes-to_be_bytes_8, be_bytes_4, be_bytes_8}
use Rattle.soap_writer.specs.Values.Outcome.{◌>>=◌}
use Rattle.record_batch.specs.Format.{Format, byte, first_byte, front_number, number32, number64, front_bytes, text}
use Rattle.record_batch.specs.Format.{◌&◌, written_as, optional, optional_text, read_marked, read_items, counted}
use Rattle.record_batch.specs.Format.{AreBytes, IsCounted, IsFront, IsFormat}

-- what is read first, where something is read of two
pub bound_is : {A B : Type 0} (r : Option A) (f : A → Option B) (y : B) → (r >>= f) ≡ Some y
    → (x : A) × (r ≡ Some x) × (f x ≡ Some y)
bound_is (Some x) f y e = (x, refl, e)
bound_is None f y e = absurd cc

-- the value of a test that was passed
pub passed : {A : Type 0} (b : Bool) (x y : A) → cond b None (Some x) ≡ Some y → (b ≡ false) × (x ≡ y)
passed true x y e = absurd cc
passed false x y e = (refl, cc)

-- what stands behind is bytes too
pub behind : (front rest : List ℕ) → AreBytes (front ++ rest) → AreBytes rest
behind front rest h = record { each = λ i. rw (sym (get_or-append-add front rest i 0)) (h.each (length front + i)) }

pub behind_is : (bytes front rest : List ℕ) → AreBytes bytes → bytes ≡ front ++ rest → AreBytes rest
behind_is bytes front rest h e = behind front rest (subst (λ (b : List ℕ). AreBytes b) e h)

-- a number's bytes, at one width
record IsWide (w : Width) (limit : ℕ) : Type 0 where
  pub len : (n : ℕ) → length (to_be_bytes w n) ≡ byte_len w
  pub again : (n : ℕ) → n < limit → from_be_bytes w (to_be_bytes w n) ≡ n
  pub back : (bs : List ℕ) → length bs ≡ byte_len w → ((i : ℕ) → get_or bs i 0 < 256)
      → to_be_bytes w (from_be_bytes w bs) ≡ bs
  pub small : (bs : List ℕ) → length bs ≡ byte_len w → ((i : ℕ) → get_or bs i 0 < 256) → from_be_bytes w bs < limit

wide32 : IsWide w32 (2 ^ 32)
wide32 = record {
  len = λ n. refl;
  again = λ n lt. from_be_bytes-to_be_bytes_4 n lt;
  back = λ bs e h. be_bytes_4 bs (from_be_bytes w32 bs) e h refl;
  small = λ bs e h. omega (arith, h 0, h 1, h 2, h 3);
}

wide64 : IsWide w64 (2 ^ 64)
wide64 = record {
  len = λ n. refl;
  again = λ n lt. from_be_bytes-to_be_bytes_8 n lt;
  back = λ bs e h. be_bytes_8 bs (from_be_bytes w64 bs) e h refl;
  small = λ bs e h. omega (arith, h 0, h 1, h 2, h 3, h 4, h 5, h 6, h 7);
}

number-again : (w : Width) (limit : ℕ) (wide : IsWide w limit) (n : ℕ) (rest : List ℕ) → n < limit
    → front_number w (to_be_bytes w n ++ rest) ≡ Some (n, rest)
number-again w limit wide n rest lt =
    let len = wide.len n in
    let long : ltb (length (to_be_bytes w n ++ rest)) (byte_len w) ≡ false = le-ltb _ _ (omega
    (arith, length-append (to_be_bytes w n) rest)) in
    rw (
      long,
      take_at (to_be_bytes w n) rest (byte_len w) len,
      drop_at (to_be_bytes w n) rest
          (byte_len w) len,
      wide.again n lt,
    ) refl

-- the first n bytes are bytes
low-take : (n : ℕ) (bytes : List ℕ) → ((i : ℕ) → get_or bytes i 0 < 256) → (i : ℕ) → get_or (take n bytes) i 0 < 256
low-take zero bytes h i = omega arith
low-take (suc n) [] h i = omega arith
low-take (suc n) (b ∷ bytes) h zero = h 0
low-take (suc n) (b ∷ bytes) h (suc i) = low-take n bytes (λ j. h (suc j)) i

number-only : (w : Width) (limit : ℕ) (wide : IsWide w limit) (bytes : List ℕ) (n : ℕ) (rest : List ℕ) → AreBytes bytes
    → front_number w bytes ≡ Some (n, rest) → (bytes ≡ to_be_bytes w n ++ rest) × (n < limit)
number-only w limit wide bytes n rest h e =
    let p = passed (ltb (length bytes) (byte_len w)) (
      from_be_bytes w (take (byte_len w) bytes),
      drop
          (byte_len w) bytes,
    ) (n, rest) e in
    let enough : byte_len w ≤ length bytes = ltb-false _ _ p.0 in
    let len : length (take (byte_len w) bytes) ≡ byte_len w = length-take-le (byte_len w) bytes enough in
    let small = low-take (byte_len w) bytes h.each in
    let number : from_be_bytes w (take (byte_len w) bytes) ≡ n = ap (λ (x : ℕ × List ℕ). x.0) p.1 in
    let after : drop (byte_len w) bytes ≡ rest = ap (λ (x : ℕ × List ℕ). x.1) p.1 in (
      rw (← number, ← after, wide.back (take (byte_len w) bytes) len small) (sym (take-append-drop (byte_len w) bytes)),
      subst (λ (m : ℕ). m < limit) number (wide.small (take (byte_len w) bytes) len small),
    )

-- a number of four bytes, and one of eight
pub number32-is : IsFormat number32 (λ n. n < 2 ^ 32)
unfolding number32
number32-is = record {
  again = λ n rest lt. number-again w32 (2 ^ 32) wide32 n rest lt;
  only = λ bytes n rest h e. let p = number-only w32 (2 ^ 32) wide32 bytes n rest h e in record { is = p.0; may = p.1 };
}

pub number64-is : IsFormat number64 (λ n. n < 2 ^ 64)
unfolding number64
number64-is = record {
  again = λ n rest lt. number-again w64 (2 ^ 64) wide64 n rest lt;
  only = λ bytes n rest h e. let p = number-only w64 (2 ^ 64) wide64 bytes n rest h e in record { is = p.0; may = p.1 };
}

byte-only : (bytes : List ℕ) (n : ℕ) (rest : List ℕ) → AreBytes bytes → first_byte bytes ≡ Some (n, rest)
    → IsFront byte (λ b. b < 256) bytes n rest
byte-only [] n rest h e = absurd cc
byte-only (b ∷ bytes) n rest h e =
    let here : (b, bytes) ≡ (n, rest) = cc in
    let number : b ≡ n = ap (λ (x : ℕ × List ℕ). x.0) here in
    let after : bytes ≡ rest = ap (λ (x : ℕ × List ℕ). x.1) here in
    record { is = rw (number, after) refl; may = subst (λ (m : ℕ). m < 256) number (h.each 0) }

pub byte-is : IsFormat byte (λ b. b < 256)
byte-is = record { again = λ b rest lt. refl; only = byte-only }

-- texts
front-again : (bytes rest : List ℕ) → front_bytes (length bytes) (bytes ++ rest) ≡ Some (bytes, rest)
front-again bytes rest =
    let long : ltb (length (bytes ++ rest)) (length bytes) ≡ false = le-ltb _ _ (omega
    (arith, length-append bytes rest)) in
    rw (long, take_at bytes rest (length bytes) refl, drop_at bytes rest (length bytes) refl) refl

front-only : (n : ℕ) (bytes front rest : List ℕ) → front_bytes n bytes ≡ Some (front, rest)
    → (bytes ≡ front ++ rest) × (length front ≡ n)
front-only n bytes front rest e =
    let p = passed (ltb (length bytes) n) (take n bytes, drop n bytes) (front, rest) e in
    let enough : n ≤ length bytes = ltb-false _ _ p.0 in
    let first : take n bytes ≡ front = ap (λ (x : List ℕ × List ℕ). x.0) p.1 in
    let after : drop n bytes ≡ rest = ap (λ (x : List ℕ × List ℕ). x.1) p.1 in
    (rw (← first, ← after) (sym (take-append-drop n bytes)), rw (← first) (length-take-le n bytes enough))

text-again : (x rest : List ℕ) → length x < 2 ^ 32 → text.read (text.written x ++ rest) ≡ Some (x, rest)
unfolding text
text-again x rest lt =
    rw (append_assoc (number32.written (length x)) x rest, number32-is.again (length x) (x ++ rest) lt)
    (front-again x rest)

text-only : (bytes x rest : List ℕ) → AreBytes bytes → text.read bytes ≡ Some (x, rest)
    → IsFront text (λ t. length t < 2 ^ 32) bytes x rest
unfolding text
text-only bytes x rest h e =
    let n = bound_is (number32.read bytes) (λ n. front_bytes n.0 n.1) (x, rest) e in
    let count = number32-is.only bytes n.0.0 n.0.1 h n.1 in
    let p = front-only n.0.0 n.0.1 x rest n.2 in
    record {
      is = count.is ∙ rw (p.0, ← p.1) (sym (append_assoc (number32.written (length x)) x rest));
      may = rw p.1 count.may;
    }

pub text-is : IsFormat text (λ t. length t < 2 ^ 32)
text-is = record { again = text-again; only = text-only }

-- one behind the other
joined : {A B : Type 0} (f : Format A) (g : Format B) (a : A) (b : B) (bytes middle last rest : List ℕ) (x : A × B)
    → bytes ≡ f.written a ++ middle → middle ≡ g.written b ++ last → ◌≡◌ {A = (A × B) × List ℕ} ((a, b), last) (x, rest)
    → bytes ≡ (f & g).written x ++ rest
joined {A} {B} f g a b bytes middle last rest x one two whole =
    one ∙ ap (λ (m : List ℕ). f.written a ++ m) two ∙ sym (append_assoc (f.written a) (g.written b) last)
    ∙ ap (λ (z : (A × B) × List ℕ). (f.written z.0.0 ++ g.written z.0.1) ++ z.1) whole

both-only : {A B : Type 0} (f : Format A) (g : Format B) (F : A → Type 0) (G : B → Type 0) → IsFormat f F → IsFormat g G
    → (bytes : List ℕ) (x : A × B) (rest : List ℕ) → AreBytes bytes → (f & g).read bytes ≡ Some (x, rest)
    → IsFront (f & g) (λ x. F x.0 × G x.1) bytes x rest
both-only {A} {B} f g F G is_f is_g bytes x rest h e =
    let a = bound_is (f.read bytes) (λ x. g.read x.1 >>= λ y. Some ((x.0, y.0), y.1)) (x, rest) e in
    let b = bound_is (g.read a.0.1) (λ y. Some ((a.0.0, y.0), y.1)) (x, rest) a.2 in
    let one = is_f.only bytes a.0.0 a.0.1 h a.1 in
    let two = is_g.only a.0.1 b.0.0 b.0.1 (behind_is bytes (f.written a.0.0) a.0.1 h one.is) b.1 in
    let whole : ((a.0.0, b.0.0), b.0.1) ≡ (x, rest) = cc (b.2) in
    record {
      is = joined f g a.0.0 b.0.0 bytes a.0.1 b.0.1 rest x one.is two.is whole;
      may = (
        subst F (ap (λ (y : (A × B) × List ℕ). y.0.0) whole) one.may,
        subst G (ap (λ (y : (A × B) × List ℕ). y.0.1) whole) two.may,
      );
    }

pub both-is : {A B : Type 0} (f : Format A) (g : Format B) (F : A → Type 0) (G : B → Type 0) → IsFormat f F
    → IsFormat g G
    → IsFormat (f & g) (λ x. F x.0 × G x.1)
both-is f g F G is_f is_g = record {
  again = λ x rest may.
      rw (
        append_assoc (f.written x.0) (g.written x.1) rest,
        is_f.again x.0
            (g.written x.1 ++ rest) may.0,
        is_g.again x.1 rest may.1,
      ) refl;
  only = both-only f g F G is_f is_g;
}

-- written as another
as-only : {A B : Type 0} (f : Format A) (F : A → Type 0) (G : B → Type 0) (to : B → A) (of : A → Option B)
    → IsFormat f F
    → ((x : A) (y : B) → of x ≡ Some y → F x → (to y ≡ x) × G y)
    → (bytes : List ℕ) (y : B) (rest : List ℕ) → AreBytes bytes → (written_as to of f).read bytes ≡ Some (y, rest)
    → IsFront (written_as to of f) G bytes y rest
as-only {A} {B} f F G to of is_f made bytes y rest h e =
    let a = bound_is (f.read bytes) (λ x. of x.0 >>= λ y. Some (y, x.1)) (y, rest) e in
    let b = bound_is (of a.0.0) (λ y. Some (y, a.0.1)) (y, rest) a.2 in
    let one = is_f.only bytes a.0.0 a.0.1 h a.1 in
    let whole : (b.0, a.0.1) ≡ (y, rest) = cc (b.2) in
    let p = made a.0.0 b.0 b.1 one.may in
    record {
      is = one.is ∙ ap (λ (z : A). f.written z ++ a.0.1) (sym p.0)
          ∙ ap (λ (z : B × List ℕ). f.written (to z.0) ++ z.1) whole;
      may = subst G (ap (λ (z : B × List ℕ). z.0) whole) p.1;
    }

pub as-is : {A B : Type 0} (f : Format A) (F : A → Type 0) (G : B → Type 0) (to : B → A) (of : A → Option B)
    → IsFormat f F
    → ((y : B) → G y → F (to y) × (of (to y) ≡ Some y))
    → ((x : A) (y : B) → of x ≡ Some y → F x → (to y ≡ x) × G y)
    → IsFormat (written_as to of f) G
as-is f F G to of is_f again made = record {
  again = λ y rest may. let p = again y may in rw (is_f.again (to y) rest p.0, p.1) refl;
  only = as-only f F G to of is_f made;
}

-- absent or there
optional-again : {A : Type 0} (f : Format A) (F : A → Type 0) → IsFormat f F → (x : Option A) (rest : List ℕ)
    → IfSome x F
    → (optional f).read ((optional f).written x ++ rest) ≡ Some (x, rest)
optional-again f F is_f None rest may = refl
optional-again f F is_f (Some x) rest may = rw (is_f.again x rest may) refl

-- the other cases of a mark
marked-only : {A : Type 0} (f : Format A) (F : A → Type 0) → IsFormat f F
    → (mark : ℕ) (bytes : List ℕ) (x : Option A) (rest : List ℕ)
    → AreBytes bytes → read_marked f mark bytes ≡ Some (x, rest)
    → (mark ∷ bytes ≡ optional_text f x ++ rest) × IfSome x F
marked-only {A} f F is_f zero bytes x rest h e =
    let front : Option A × List ℕ = (None, bytes) in
    let whole : front ≡ (x, rest) = cc in (
      ap (λ (z : Option A × List ℕ). optional_text f z.0 ++ z.1) whole,
      subst (λ
          (z : Option A × List ℕ). IfSome z.0 F) whole tt,
    )
marked-only {A} f F is_f (suc zero) bytes x rest h e =
    let a = bound_is (f.read bytes) (λ y. Some (Some y.0, y.1)) (x, rest) e in
    let one = is_f.only bytes a.0.0 a.0.1 h a.1 in
    let whole : (Some a.0.0, a.0.1) ≡ (x, rest) = cc (a.2) in (
      ap (λ (z : List ℕ). 1 ∷ z) one.is ∙ ap (λ (z : Option A × List ℕ). optional_text f z.0 ++ z.1) whole,
      subst (λ (z : Option A × List ℕ). IfSome z.0 F) whole one.may,
    )
marked-only f F is_f (suc (suc m)) bytes x rest h e =
    let not_none : eqb (suc (suc m)) 0 ≡ false = search rules in
    let not_one : eqb (suc (suc m)) 1 ≡ false = search rules in
    let never = rw (not_none, not_one) at e in
    absurd (cc never)

optional-only : {A : Type 0} (f : Format A) (F : A → Type 0) → IsFormat f F
    → (bytes : List ℕ) (x : Option A) (rest : List ℕ)
    → AreBytes bytes → (optional f).read bytes ≡ Some (x, rest) → IsFront (optional f) (λ x. IfSome x F) bytes x rest
optional-only f F is_f [] x rest h e = absurd cc
optional-only f F is_f (mark ∷ bytes) x rest h e =
    let p = marked-only f F is_f mark bytes x rest (behind (mark ∷ []) bytes h) e in
    record { is = p.0; may = p.1 }

pub optional-is : {A : Type 0} (f : Format A) (F : A → Type 0) → IsFormat f F → IsFormat (optional f) (λ x. IfSome x F)
optional-is f F is_f = record { again = optional-again f F is_f; only = optional-only f F is_f }

-- so many
pub items-again : {A : Type 0} (f : Format A) (F : A → Type 0) → IsFormat f F → (xs : List A) (rest : List ℕ)
    → AllByRecursion F xs
    → read_items f (length xs) (flat_map f.written xs ++ rest) ≡ Some (xs, rest)
unfolding read_items
items-again f F is_f [] rest may = refl
items-again f F is_f (x ∷ xs) rest may =
    rw (
      append_assoc (f.written x) (flat_map f.written xs) rest,
      is_f.again x
          (flat_map f.written xs ++ rest) may.0,
      items-again f F is_f xs rest may.1,
    ) refl

-- bytes begin with the texts of so many values
pub record AreItems {A : Type 0} (f : Format A) (F : A
    → Type 0) (n : ℕ) (bytes : List ℕ) (xs : List A) (rest : List ℕ) : Type 0 where
  pub is : bytes ≡ flat_map f.written xs ++ rest
  pub count : length xs ≡ n
  pub may : AllByRecursion F xs

pub items-only : {A : Type 0} (f : Format A) (F : A → Type 0) → IsFormat f F
    → (n : ℕ) (bytes : List ℕ) (xs : List A) (rest : List ℕ)
    → AreBytes bytes → read_items f n bytes ≡ Some (xs, rest) → AreItems f F n bytes xs rest
unfolding read_items
items-only {A} f F is_f zero bytes xs rest h e =
    let front : List A × List ℕ = ([], bytes) in
    let whole : front ≡ (xs, rest) = cc in
    subst (λ (z : List A × List ℕ). AreItems f F 0 bytes z.0 z.1) whole (record { is = refl; count = refl; may = tt })
items-only {A} f F is_f (suc n) bytes xs rest h e =
    let a = bound_is (f.read bytes) (λ x. read_items f n x.1 >>= λ xs. Some (x.0 ∷ xs.0, xs.1)) (xs, rest) e in
    let b = bound_is (read_items f n a.0.1) (λ xs. Some (a.0.0 ∷ xs.0, xs.1)) (xs, rest) a.2 in
    let one = is_f.only bytes a.0.0 a.0.1 h a.1 in
    let more = items-only f F is_f n a.0.1 b.0.0 b.0.1 (behind_is bytes (f.written a.0.0) a.0.1 h one.is) b.1 in
    let whole : (a.0.0 ∷ b.0.0, b.0.1) ≡ (xs, rest) = cc (b.2) in
    subst (λ (z : List A × List ℕ). AreItems f F (suc n) bytes z.0 z.1) whole (record {
      is = one.is ∙ ap (λ (m : List ℕ). f.written a.0.0 ++ m) more.is
          ∙ sym (append_assoc (f.written a.0.0) (flat_map f.written b.0.0) b.0.1);
      count = ap suc more.count;
      may = (one.may, more.may);
    })

counted-only : {A : Type 0} (f : Format A) (F : A → Type 0) → IsFormat f F
    → (bytes : List ℕ) (xs : List A) (rest : List ℕ)
    → AreBytes bytes → (counted f).read bytes ≡ Some (xs, rest) → IsFront (counted f) (IsCounted F) bytes xs rest
counted-only f F is_f bytes xs rest h e =
    let n = bound_is (number32.read bytes) (λ n. read_items f n.0 n.1) (xs, rest) e in
    let count = number32-is.only bytes n.0.0 n.0.1 h n.1 in
    let p = items-only f F is_f n.0.0 n.0.1 xs rest (behind_is bytes (number32.written n.0.0) n.0.1 h count.is) n.2 in
    record {
      is = count.is ∙ ap (λ (m : List ℕ). number32.written n.0.0 ++ m) p.is
          ∙ ap (λ (m : ℕ). number32.written m ++ (flat_map f.written xs ++ rest)) (sym p.count)
          ∙ sym (append_assoc (number32.written (length xs)) (flat_map f.written xs) rest);
      may = record { few = rw p.count count.may; each = p.may };
    }

pub counted-is : {A : Type 0} (f : Format A) (F : A → Type 0) → IsFormat f F → IsFormat (counted f) (IsCounted F)
counted-is f F is_f = record {
  again = λ xs rest may.
      rw (
        append_assoc (number32.written (length xs)) (flat_map f.written xs) rest,
        number32-is.again (length xs) (flat_map f.written xs ++ rest) may.few,
      ) (items-again f F is_f xs rest may.each);
  only = counted-only f F is_f;
}
