-- The words of a line: what is found is what stands there, and what stands there is found.
use Rattle.std.proofs.Common.{◌≡◌, ◌≢◌, ℕ, ◌^◌, ◌<◌, ◌≤◌, Bool, true, false, nat_le, ◌==◌, List, [], ◌∷◌}
use Rattle.std.proofs.Common.{◌++◌, refl, sym, ap, ◌∙◌, arith, subst, ◌⊎◌, inl, inr, codes, decimal, Option, None, Some}
use Rattle.std.proofs.Common.{option_map, if◌then◌else◌}
use Rattle.std.specs.Prelude.{option_and_then}
use Rattle.std.specs.Borrow.{Bor}
use Rattle.std.specs.Option.{MatchOption}
use Rattle.std.specs.Char.{is_ascii_digit}
use Rattle.std.specs.Str.{all_ascii_digits}
use Rattle.std.specs.Str.Parse.{digits_value}
use Rattle.std.proofs.lemmas.Bool.{and_parts, eqb-true, eq-eqb, ne_eqb}
use Rattle.std.proofs.lemmas.Bool.Decides.{nat_tests}
use Rattle.std.proofs.lemmas.Fmt.{decimal_is_IsNumeral, digits_decimal}
use Rattle.std.proofs.lemmas.List.{append-nil}
use Rattle.std.proofs.lemmas.Str.Parse.{numerals_by_value, tells_all_ascii_digits}
use Rattle.rm_base.specs.declared.message.Behaviour.{Behaviour}
use Rattle.rm_base.specs.declared.message.Behaviour.TheVariants.{NoDiscard, EntireSequence, FollowingFirstGap}
use Rattle.rm_script.specs.Script.{side_text, spaced, IsWord, IsBehaviour, IsNumber}
use Rattle.rm_script.specs.Reading.{behind, word_of, behind_word, is_same, number_in, behaviour_in, node_in, call_in}
use Rattle.rm_script.specs.Reading.{numbered_in, text_in, text_behind, is_blank, choose}
use Rattle.rm_script.specs.declared.event.Side.{Side}
use Rattle.rm_script.specs.declared.event.Side.TheVariants.{One, Two}

-- ---- steps that may find nothing

-- both steps found something
pub some_then : {A B : Type 0} (f : A → Option B) (o : Option A) (b : B) → option_and_then f o ≡ Some b
    → (a : A) × (o ≡ Some a) × (f a ≡ Some b)
some_then f None b h = absurd (cc)
some_then f (Some a) b h = (a, refl, h)

-- what was found was changed
pub some_mapped : {A B : Type 0} (f : A → B) (o : Option A) (b : B) → option_map f o ≡ Some b
    → (a : A) × (o ≡ Some a) × (f a ≡ b)
some_mapped f None b h = absurd (cc)
some_mapped f (Some a) b h = (a, refl, cc)

-- ---- a word at the front

pub behind-append : (word rest : List ℕ) → behind word (word ++ rest) ≡ Some rest
behind-append [] rest = refl
behind-append (c ∷ word) rest = rw (eq-eqb c c refl) (behind-append word rest)

pub behind-is : (word bytes rest : List ℕ) → behind word bytes ≡ Some rest → bytes ≡ word ++ rest
behind-is [] bytes rest h = cc
behind-is (c ∷ word) [] rest h = absurd (cc)
behind-is (c ∷ word) (b ∷ bytes) rest h =
    let tail = behind-is word bytes rest in
    let found : Bool → Type 0 = λ t. (if t then behind word bytes else None) ≡ Some rest in
    elim (b == c) as (λ t. (b == c) ≡ t → found t → b ∷ bytes ≡ c ∷ (word ++ rest)) [
      | true ↦ λ e h. let first : b ≡ c = eqb-true b c e in let more : bytes ≡ word ++ rest = tail h in cc
      | false ↦ λ e h. absurd (cc)
    ] refl h

-- the word stands at the front, or it does not
abbrev pub IsStripped : List ℕ → List ℕ → Option (Bor (List ℕ)) → Type 0
IsStripped word bytes r = MatchOption r ((rest : List ℕ) → bytes ≢ word ++ rest) (λ x. bytes ≡ word ++ x.now)

pub behind-stripped : (word bytes : List ℕ) (r : Option (Bor (List ℕ))) → IsStripped word bytes r
    → option_map (λ x. x.now) r ≡ behind word bytes
behind-stripped word bytes None h =
    elim (behind word bytes) as (λ o. behind word bytes ≡ o → None ≡ o) [
      | None ↦ λ e. refl
      | Some rest ↦ λ e. absurd (h rest (behind-is word bytes rest e))
    ] refl
behind-stripped word bytes (Some x) h = rw h (sym (behind-append word x.now))

-- ---- the first word

pub word_of-onto : (word rest : List ℕ) → IsWord word → word_of (word ++ rest) ≡ word ++ word_of rest
word_of-onto [] rest h = refl
word_of-onto (b ∷ word) rest h = rw (ne_eqb b 32 h.0) (ap (λ l. b ∷ l) (word_of-onto word rest h.1))

pub behind_word-onto : (word rest : List ℕ) → IsWord word → behind_word (word ++ rest) ≡ behind_word rest
behind_word-onto [] rest h = refl
behind_word-onto (b ∷ word) rest h = rw (ne_eqb b 32 h.0) (behind_word-onto word rest h.1)

pub word_of-behind : (bytes : List ℕ) → bytes ≡ word_of bytes ++ behind_word bytes
word_of-behind [] = refl
word_of-behind (b ∷ bytes) =
    let front : Bool → List ℕ = λ t. if t then [] else b ∷ word_of bytes in
    elim (b == 32) as (λ t. b ∷ bytes ≡ front t ++ (if t then b ∷ bytes else behind_word bytes)) [
      | true ↦ refl
      | false ↦ ap (λ l. b ∷ l) (word_of-behind bytes)
    ]

pub word_of-IsWord : (bytes : List ℕ) → IsWord (word_of bytes)
word_of-IsWord [] = tt
word_of-IsWord (b ∷ bytes) =
    elim (b == 32) as (λ t. (b == 32) ≡ t → IsWord (if t then [] else b ∷ word_of bytes)) [
      | true ↦ λ e. tt
      | false ↦ λ e. (grind (arith, nat_tests), word_of-IsWord bytes)
    ] refl

-- ---- numbers

pub is_same-self : (xs : List ℕ) → is_same xs xs ≡ true
is_same-self [] = refl
is_same-self (x ∷ xs) = rw (eq-eqb x x refl) (is_same-self xs)

pub is_same-is : (xs ys : List ℕ) → is_same xs ys ≡ true → xs ≡ ys
is_same-is [] [] h = refl
is_same-is [] (y ∷ ys) h = absurd (cc)
is_same-is (x ∷ xs) [] h = absurd (cc)
is_same-is (x ∷ xs) (y ∷ ys) h =
    let (here, more) = and_parts (x == y) (is_same xs ys) h in
    let first : x ≡ y = eqb-true x y here in
    let rest : xs ≡ ys = is_same-is xs ys more in cc

-- digits tell their number
pub decimal_value : (n : ℕ) → n < 2 ^ 64 → digits_value 10 (decimal n) ≡ n
decimal_value n h = (decimal_is_IsNumeral n h).1

pub number_in-decimal : (low high n : ℕ) → n < 2 ^ 64 → low ≤ n → n ≤ high → number_in low high (decimal n) ≡ Some n
number_in-decimal low high n small least most =
    let first : nat_le low n ≡ true = grind (arith, nat_tests) in
    let last : nat_le n high ≡ true = grind (arith, nat_tests) in
    rw (decimal_value n small, is_same-self (decimal n), first, last) refl

-- a number that is not within has no place
pub number_in-outside : (low high n : ℕ) → n < 2 ^ 64 → (n < low) ⊎ ((low ≤ n) × (high < n))
    → number_in low high (decimal n) ≡ None
number_in-outside low high n small (inl h) =
    let first : nat_le low n ≡ false = grind (arith, nat_tests) in
    rw (decimal_value n small, is_same-self (decimal n), first) refl
number_in-outside low high n small (inr h) =
    let first : nat_le low n ≡ true = grind (arith, nat_tests, h.0) in
    let last : nat_le n high ≡ false = grind (arith, nat_tests, h.1) in
    rw (decimal_value n small, is_same-self (decimal n), first, last) refl

pub number_in-is : (low high : ℕ) (digits : List ℕ) (n : ℕ) → number_in low high digits ≡ Some n
    → IsNumber low high digits n
number_in-is low high digits n h = by_tests (is_same digits (decimal v)) (nat_le low v) (nat_le v high) refl refl refl
  where
    v : ℕ
    v = digits_value 10 digits

    by_tests : (a b c : Bool) → is_same digits (decimal v) ≡ a → nat_le low v ≡ b → nat_le v high ≡ c
        → IsNumber low high digits n
    by_tests true true true d e f =
        let same : v ≡ n = (let o : Some v ≡ Some n = rw (d, e, f) at h in cc) in
        let text : digits ≡ decimal n = is_same-is digits (decimal v) d ∙ ap decimal same in
        (grind (arith, nat_tests), grind (arith, nat_tests), text)
    by_tests false b c d e f = let o : None ≡ Some n = rw d at h in absurd (cc)
    by_tests true false c d e f = let o : None ≡ Some n = rw (d, e) at h in absurd (cc)
    by_tests true true false d e f = let o : None ≡ Some n = rw (d, e, f) at h in absurd (cc)

-- digits that write no number
pub number_in-none : (low high : ℕ) (digits : List ℕ) → high < 2 ^ 64
    → ((n : ℕ) → n < 2 ^ 64 → digits ≡ decimal n → ⊥) → number_in low high digits ≡ None
number_in-none low high digits small h =
    elim (number_in low high digits) as (λ o. number_in low high digits ≡ o → o ≡ None) [
      | None ↦ λ e. refl
      | Some n ↦ λ e. let is = number_in-is low high digits n e in absurd (h n (omega (arith, is.1)) is.2)
    ] refl

digits_are_word : (digits : List ℕ) → all_ascii_digits digits ≡ true → IsWord digits
digits_are_word [] h = tt
digits_are_word (d ∷ digits) h =
    let (here, more) = and_parts (is_ascii_digit d) (all_ascii_digits digits) h in (
      λ e. let space : is_ascii_digit 32 ≡ true = subst (λ b. is_ascii_digit b ≡ true) e here in absurd (cc),
      digits_are_word digits more,
    )

-- a number is a word
pub decimal-IsWord : (n : ℕ) → n < 2 ^ 64 → IsWord (decimal n)
decimal-IsWord n h =
    digits_are_word (decimal n) (digits_decimal (numerals_by_value _ tells_all_ascii_digits) n h)

-- the word of a number ends at a space
pub word_of-number : (k text : List ℕ) (n : ℕ) → n < 2 ^ 64 → k ≡ decimal n → word_of (spaced k text) ≡ decimal n
word_of-number k text n small is =
    rw (is, word_of-onto (decimal n) (32 ∷ text) (decimal-IsWord n small)) (append-nil (decimal n))

-- ---- texts

-- a text that isn't empty stands there
pub text_in-some : (text : List ℕ) → text ≢ [] → text_in text ≡ Some text
text_in-some [] h = absurd (h refl)
text_in-some (b ∷ text) h = refl

pub text_in-is : (bytes text : List ℕ) → text_in bytes ≡ Some text → (text ≢ []) × (bytes ≡ text)
text_in-is [] text h = absurd (cc)
text_in-is (b ∷ bytes) text h = let same : b ∷ bytes ≡ text = cc in (λ e. absurd (cc), same)

pub text_behind-text : (k text : List ℕ) (n : ℕ) → n < 2 ^ 64 → k ≡ decimal n → text ≢ []
    → text_behind (spaced k text) ≡ Some text
text_behind-text k text n small is some =
    rw (is, behind_word-onto (decimal n) (32 ∷ text) (decimal-IsWord n small)) (text_in-some text some)

-- ---- behaviours

pub behaviour_in-word : (word : List ℕ) (behaviour : Behaviour) → IsBehaviour word behaviour
    → behaviour_in word ≡ Some behaviour
behaviour_in-word word NoDiscard h = rw h refl
behaviour_in-word word EntireSequence h = rw h refl
behaviour_in-word word FollowingFirstGap h = rw h refl

pub behaviour_in-is : (word : List ℕ) (behaviour : Behaviour) → behaviour_in word ≡ Some behaviour
    → IsBehaviour word behaviour
behaviour_in-is word behaviour h =
    by_tests (is_same word (codes "dfg")) (is_same word (codes "des")) (is_same word (codes "loose")) refl refl refl
  where
    by_tests : (a b l : Bool) → is_same word (codes "dfg") ≡ a → is_same word (codes "des") ≡ b
        → is_same word (codes "loose") ≡ l → IsBehaviour word behaviour
    by_tests true b l d e f =
        let same : FollowingFirstGap ≡ behaviour =
        (let o : Some FollowingFirstGap ≡ Some behaviour = rw d at h in cc) in
        subst (λ x. IsBehaviour word x) same (is_same-is word (codes "dfg") d)
    by_tests false true l d e f =
        let same : EntireSequence ≡ behaviour = (let o : Some EntireSequence ≡ Some behaviour = rw (d, e) at h in cc) in
        subst (λ x. IsBehaviour word x) same (is_same-is word (codes "des") e)
    by_tests false false true d e f =
        let same : NoDiscard ≡ behaviour = (let o : Some NoDiscard ≡ Some behaviour = rw (d, e, f) at h in cc) in
        subst (λ x. IsBehaviour word x) same (is_same-is word (codes "loose") f)
    by_tests false false false d e f = let o : None ≡ Some behaviour = rw (d, e, f) at h in absurd (cc)

-- ---- the number of a node

pub node_in-text : (side : Side) (rest : List ℕ) → node_in (side_text side ++ rest) ≡ Some (side, rest)
node_in-text One rest = refl
node_in-text Two rest = refl

pub node_in-is : (bytes : List ℕ) (n : Side × List ℕ) → node_in bytes ≡ Some n → bytes ≡ side_text n.0 ++ n.1
node_in-is [] n h = absurd (cc)
node_in-is (b ∷ bytes) n h = by_tests (b == 49) (b == 50) refl refl
  where
    by_tests : (p q : Bool) → (b == 49) ≡ p → (b == 50) ≡ q → b ∷ bytes ≡ side_text n.0 ++ n.1
    by_tests true q d e =
        let first : b ≡ 49 = eqb-true b 49 d in
        let same : (One, bytes) ≡ n = (let o : Some (One, bytes) ≡ Some n = rw d at h in cc) in
        subst (λ (m : Side × List ℕ). b ∷ bytes ≡ side_text m.0 ++ m.1) same (ap (λ x. x ∷ bytes) first)
    by_tests false true d e =
        let first : b ≡ 50 = eqb-true b 50 e in
        let same : (Two, bytes) ≡ n = (let o : Some (Two, bytes) ≡ Some n = rw (d, e) at h in cc) in
        subst (λ (m : Side × List ℕ). b ∷ bytes ≡ side_text m.0 ++ m.1) same (ap (λ x. x ∷ bytes) first)
    by_tests false false d e = let o : None ≡ Some n = rw (d, e) at h in absurd (cc)

pub call_in-text : (side : Side) (arguments : List ℕ)
    → call_in (spaced (side_text side) arguments) ≡ Some (side, arguments)
call_in-text One arguments = refl
call_in-text Two arguments = refl

pub call_in-is : (bytes : List ℕ) (n : Side × List ℕ) → call_in bytes ≡ Some n
    → bytes ≡ spaced (side_text n.0) n.1
call_in-is bytes n h =
    let node = some_then _ (node_in bytes) n h in
    let space = some_mapped _ (behind (codes " ") node.0.1) n node.2 in
    let rest : node.0.1 ≡ codes " " ++ space.0 = behind-is (codes " ") node.0.1 space.0 space.1 in
    subst (λ (m : Side × List ℕ). bytes ≡ spaced (side_text m.0) m.1) space.2
    (node_in-is bytes node.0 node.1 ∙ ap (λ l. side_text node.0.0 ++ l) rest)

-- ---- the number of a node, and a number

pub numbered_in-text : (low high n : ℕ) (side : Side) (word : List ℕ) → high < 2 ^ 64 → IsNumber low high word n
    → numbered_in low high (spaced (side_text side) word) ≡ Some (side, n)
numbered_in-text low high n side word small is =
    rw (call_in-text side word, is.2, number_in-decimal low high n (omega (arith, is.1)) is.0 is.1) refl

-- a node's number and a number stand there
pub record IsNumbered (low high : ℕ) (bytes : List ℕ) (n : Side × ℕ) : Type 0 where
  pub word : List ℕ
  pub number : IsNumber low high word n.1
  pub text : bytes ≡ spaced (side_text n.0) word

pub numbered_in-is : (low high : ℕ) (bytes : List ℕ) (n : Side × ℕ) → numbered_in low high bytes ≡ Some n
    → IsNumbered low high bytes n
numbered_in-is low high bytes n h =
    let call = some_then _ (call_in bytes) n h in
    let found = some_mapped _ (number_in low high call.0.1) n call.2 in
    subst (λ (m : Side × ℕ). IsNumbered low high bytes m) found.2 (record {
      word = call.0.1;
      number = number_in-is low high call.0.1 found.0 found.1;
      text = call_in-is bytes call.0 call.1;
    })

-- ---- a line

-- a blank line is empty, or begins with #
pub is_blank-is : (line : List ℕ) → is_blank line ≡ true
    → (line ≡ []) ⊎ ((rest : List ℕ) × (line ≡ codes "#" ++ rest))
is_blank-is [] h = inl refl
is_blank-is (b ∷ line) h = let first : b ≡ 35 = eqb-true b 35 h in inr (line, ap (λ x. x ∷ line) first)

-- a verb that stands there is read, or another one
pub said_by : {E : Type 0} (says : List ℕ → E → Type 0) (verb line : List ℕ) (read : List ℕ → Option E)
    (other : Option E) (event : E) → ((rest : List ℕ) → read rest ≡ Some event → says (verb ++ rest) event)
    → (other ≡ Some event → says line event) → choose (behind verb line) read other ≡ Some event → says line event
said_by says verb line read other event reads others h =
    elim (behind verb line) as (λ o. behind verb line ≡ o → choose o read other ≡ Some event → says line event) [
      | None ↦ λ e h. others h
      | Some rest ↦ λ e h. subst (λ l. says l event) (sym (behind-is verb line rest e)) (reads rest h)
    ] refl h
