-- A prefix that is free, and bindings that may be declared.
use Rattle.std.proofs.Common.{◌≡◌, ◌≢◌, ℕ, ◌<◌, ◌≤◌, ◌^◌, Bool, true, false, ◌||◌, if◌then◌else◌, List, [], ◌∷◌}
use Rattle.std.proofs.Common.{Some, None, codes, decimal, refl, sym, ap, ◌∙◌, nat_cmp, arith}
use Rattle.std.proofs.Common.{Ordering, Less, Equal, Greater, is_eq}
use Rattle.std.specs.Prelude.{IsTrue}
use Rattle.std.specs.Char.{digit_value}
use Rattle.std.specs.Cmp.Lexicographic.{slice_cmp}
use Rattle.std.specs.List.{AllByRecursion}
use Rattle.std.specs.Ordering.{is_lt}
use Rattle.std.specs.Str.{bytes_eq}
use Rattle.std.specs.Str.Parse.{AllDigits}
use Rattle.std.proofs.Math.Bool.{or-true}
use Rattle.std.proofs.Math.Utf8.{encode}
use Rattle.std.proofs.lemmas.Bool.{true≢false}
use Rattle.std.proofs.lemmas.Bool.Decides.{nat_tests}
use Rattle.std.proofs.lemmas.Fmt.{decimal_is_IsNumeral, IsAscii-from_digits}
use Rattle.std.proofs.lemmas.Map.Text.{is_eq-slice_cmp}
use Rattle.std.proofs.lemmas.Str.{encodes-IsAscii}
use Rattle.std.proofs.lemmas.Str.Parse.{digit_from_value}
use Rattle.rm_base.specs.declared.message.Binding.{Binding}
use Rattle.xml_chars.specs.Classes.{is_within, is_name_char, is_name_start, name_more_ranges}
use Rattle.soap_lex.specs.Characters.{IsName}
use Rattle.soap_lex.specs.Facts.{same, equal, differ}
use Rattle.soap_lex.specs.Tests.{is_nil}
use Rattle.soap_envelope.specs.Scope.{Rises}
use Rattle.soap_envelope.specs.Soap.{soap_space}
use Rattle.soap_document.specs.Profile.Namespaces.{bound, may_bind}
use Rattle.soap_envelope.specs.Frame.BodyTag.{AreApart}
use Rattle.soap_writer.specs.Stripped.Resolved.{IsBinding, AreInForce}
use Rattle.rm_wire.specs.Soap11.Lift.{numbered_prefix, IsFirstFree}

-- ---- numbered prefixes

digit_within : (c : ℕ) → 48 ≤ c → c ≤ 57 → is_within name_more_ranges c ≡ true
digit_within c low high = grind (arith, nat_tests)

digit_names : (c : ℕ) → digit_value c < 10 → is_name_char c ≡ true
digit_names c small =
    let (low, high) = digit_from_value c small in
    ap (λ b. is_name_start c || b) (digit_within c low high) ∙ or-true (is_name_start c)

digits_name : (ds : List ℕ) → AllDigits 10 ds → AllByRecursion (λ c. is_name_char c ≡ true) ds
digits_name [] h = tt
digits_name (c ∷ ds) h = (digit_names c h.0, digits_name ds h.1)

numbered_name : (k : ℕ) → k < 2 ^ 64 → IsName (numbered_prefix k)
unfolding encode
numbered_name k h =
    let digits : AllDigits 10 (decimal k) = (decimal_is_IsNumeral k h).0.1 in
    record {
      first = 119;
      others = decimal k;
      starts = refl;
      each = digits_name (decimal k) digits;
      coded = ap (λ l. 119 ∷ l) (sym (encodes-IsAscii (decimal k) (IsAscii-from_digits (decimal k) digits)));
    }

-- a prefix that Body may have
pub record IsFreePrefix (w : List ℕ) (scope : List Binding) : Type 0 where
  pub name : IsName w
  pub some : is_nil w ≡ false
  pub other : bytes_eq w (codes "xml") ≡ false
  pub may : may_bind w soap_space ≡ true
  pub free : bound w scope ≡ None

pub first_is_free : (k : ℕ) (scope : List Binding) → IsFirstFree k scope → IsFreePrefix (numbered_prefix k) scope
first_is_free k scope is =
    record { name = numbered_name k is.counted; some = refl; other = refl; may = refl; free = is.free }

-- ---- bindings in order

not_equal : (o : Ordering) → is_lt o ≡ true → is_eq o ≡ false
not_equal Less h = refl
not_equal Equal h = cc
not_equal Greater h = cc

turned : (a b : List ℕ) → bytes_eq a b ≡ false → bytes_eq b a ≡ false
turned a b h = differ b a (λ e. true≢false (sym (equal a b (sym e)) ∙ h))

-- a greater prefix is another
other_by : (a b : List ℕ) → IsTrue (is_lt (slice_cmp nat_cmp a b)) → bytes_eq b a ≡ false
other_by a b h = turned a b (sym (is_eq-slice_cmp a b) ∙ not_equal (slice_cmp nat_cmp a b) h)

pub others_by : (prefix : List ℕ) (bs : List Binding)
    → AllByRecursion (λ (c : Binding). IsTrue (is_lt (slice_cmp nat_cmp prefix c.prefix))) bs
    → AllByRecursion (λ (c : Binding). bytes_eq c.prefix prefix ≡ false) bs
others_by prefix [] all = tt
others_by prefix (c ∷ bs) all = (other_by prefix c.prefix all.0, others_by prefix bs all.1)

pub apart_by : (bs : List Binding) → Rises bs → AreApart bs
apart_by [] rises = tt
apart_by (b ∷ bs) rises = (others_by b.prefix bs rises.0, apart_by bs rises.1)

-- ---- what is in force may be declared

-- a prefix that none has is not bound
pub absent : (prefix : List ℕ) (bs : List Binding)
    → AllByRecursion (λ (c : Binding). bytes_eq c.prefix prefix ≡ false) bs → bound prefix bs ≡ None
absent prefix [] all = refl
absent prefix (b ∷ bs) all = let first = all.0 in rw first (absent prefix bs all.1)

-- what a later binding binds, the first doesn't
later_at : (b : Binding) (bs : List Binding) (prefix space : List ℕ) (t : Bool) → bytes_eq b.prefix prefix ≡ t
    → AllByRecursion (λ (c : Binding). bytes_eq c.prefix b.prefix ≡ false) bs → bound prefix bs ≡ Some space
    → (if t then Some b.space else bound prefix bs) ≡ Some space
later_at b bs prefix space false e apart h = h
later_at b bs prefix space true e apart h =
    let at : bound b.prefix bs ≡ Some space = ap (λ p. bound p bs) (same b.prefix prefix e) ∙ h in
    let none = absent b.prefix bs apart in
    absurd (cc)

each_at : (bs : List Binding) → AreApart bs → AreInForce bs → AllByRecursion IsBinding bs
each_at [] apart outer = tt
each_at (b ∷ bs) apart outer =
    let own = equal b.prefix b.prefix refl in (
      outer b.prefix b.space (rw own refl),
      each_at bs apart.1 (λ prefix space h.
          outer prefix space (later_at b bs prefix space (bytes_eq b.prefix prefix) refl apart.0 h)),
    )

pub each_binding : (bs : List Binding) → Rises bs → AreInForce bs → AllByRecursion IsBinding bs
each_binding bs rises outer = each_at bs (apart_by bs rises) outer
