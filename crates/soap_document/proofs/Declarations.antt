-- The test of an XML declaration, against its grammar.
use Rattle.std.proofs.Common.{◌≡◌, ℕ, ◌⊎◌, inl, inr, List, [], ◌∷◌, ◌++◌, Bool, true, false, not, ◌&&◌, ◌||◌, nat_eq}
use Rattle.std.proofs.Common.{cond, Option, Some, None, length, drop, codes, refl, ap, ◌∙◌, arith}
use Rattle.std.proofs.Common.{append_assoc}
use Rattle.std.specs.List.{AllByRecursion, list_all}
use Rattle.std.specs.Char.{to_ascii_lowercase}
use Rattle.std.specs.Str.{bytes_eq, str_to_ascii_lowercase}
use Rattle.std.proofs.Math.Seq.{drop-append_seam}
use Rattle.std.proofs.lemmas.Bool.{eqb-true, and_parts, or_cases, not-true}
use Rattle.std.proofs.lemmas.Bool.Decides.{nat_tests}
use Rattle.std.proofs.lemmas.List.Folds.{list_all-append}
use Rattle.xml_chars.specs.Classes.{is_space}
use Rattle.soap_document.specs.Declaration.{skip, after, quoted, valued, setting, ends, stands_alone, is_encoded}
use Rattle.soap_document.specs.Declaration.{is_versioned, names_xml, is_declaration}
use Rattle.soap_document.specs.Grammar.{IsWhite, IsQuoted, double, single, IsSetting, setting as is_setting}
use Rattle.soap_document.specs.Grammar.{IsEncoding, unsaid as no_encoding, utf8, IsStandalone}
use Rattle.soap_document.specs.Grammar.{unsaid as no_standalone, yes, no, IsDeclaration, without, declared}
use Rattle.soap_document.specs.Machine.{declaring}
use Rattle.soap_document.specs.Tokens.{cut}
use Rattle.soap_lex.specs.Tests.{begins}
use Rattle.soap_document.proofs.Moves.{NoStops}
use Rattle.soap_document.specs.Cuts.{cut-append, cut_from}
use Rattle.soap_lex.specs.Facts.{all_passes, all_from_passes, all_weaker, other, same, begins-append, front_from_begins}

-- ---- bytes that do not stand there

-- whether no byte is this one
abbrev lacks : ℕ → List ℕ → Bool
lacks k bytes = list_all (λ c. not (nat_eq c k)) bytes

none_such : (k : ℕ) (bytes : List ℕ) → lacks k bytes ≡ true → AllByRecursion (λ c. nat_eq c k ≡ false) bytes
none_such k bytes h =
    all_weaker (λ c. not (nat_eq c k) ≡ true) (λ c. nat_eq c k ≡ false) (λ c e. not-true (nat_eq c k) e) bytes
    (all_from_passes (λ c. not (nat_eq c k)) bytes h)

-- what holds of each byte in lower case holds of each byte
pub lower_passes : (p : ℕ → Bool) → ((c : ℕ) → p (to_ascii_lowercase c) ≡ true → p c ≡ true) → (value : List ℕ)
    → list_all p (str_to_ascii_lowercase value) ≡ true → list_all p value ≡ true
lower_passes p f [] h = refl
lower_passes p f (c ∷ value) h =
    let (here, later) = and_parts (p (to_ascii_lowercase c)) (list_all p (str_to_ascii_lowercase value)) h in
    rw (f c here, lower_passes p f value later)

lower_lacks : (k : ℕ) → to_ascii_lowercase k ≡ k → (value : List ℕ) → lacks k (str_to_ascii_lowercase value) ≡ true
    → lacks k value ≡ true
lower_lacks k fixed value h = lower_passes (λ c. not (nat_eq c k)) (λ c e. grind (arith, nat_tests, fixed)) value h

white_open : (space : List ℕ) → IsWhite space → lacks 62 space ≡ true
white_open space h =
    all_passes (λ c. not (nat_eq c 62)) space (all_weaker (λ c. is_space c ≡ true) (λ c. not (nat_eq c 62) ≡ true)
    (λ c e. rw (other is_space c 62 e refl)) space h)

-- ---- what the grammar has passes

skip-append : (space more : List ℕ) → IsWhite space → skip more ≡ more → skip (space ++ more) ≡ more
skip-append [] more w e = e
skip-append (c ∷ space) more w e = rw w.0 (skip-append space more w.1 e)

pub after-append : (word rest : List ℕ) → after word (word ++ rest) ≡ Some rest
after-append word rest = rw (begins-append word rest, drop-append_seam word rest)

quoted-append : {value bytes : List ℕ} → IsQuoted value bytes → (rest : List ℕ) → lacks 34 value ≡ true
    → lacks 39 value ≡ true → (quoted (bytes ++ rest) ≡ Some (value, rest)) × (skip (bytes ++ rest) ≡ bytes ++ rest)
quoted-append {value} double rest g h =
    (ap (cut 34) (append_assoc value (34 ∷ []) rest) ∙ cut-append 34 value rest (none_such 34 value g), refl)
quoted-append {value} single rest g h =
    (ap (cut 39) (append_assoc value (39 ∷ []) rest) ∙ cut-append 39 value rest (none_such 39 value h), refl)

setting_spread : (space name left right bytes rest : List ℕ) → (space ++ (name ++ (left ++ (codes "=" ++ (right ++
    bytes))))) ++ rest ≡ space ++ (name ++ (left ++ (61 ∷ (right ++ (bytes ++ rest)))))
setting_spread space name left right bytes rest = simp append_assoc

setting_takes : {name value bytes : List ℕ} → IsSetting name value bytes → (rest : List ℕ)
    → ((tail : List ℕ) → skip (name ++ tail) ≡ name ++ tail) → lacks 34 value ≡ true → lacks 39 value ≡ true
    → setting name (bytes ++ rest) ≡ Some (value, rest)
setting_takes (is_setting [] left right bytes s l r q) rest dark g h = absurd (s.some refl)
setting_takes {name} (is_setting (c ∷ space) left right bytes s l r q) rest dark g h =
    let (taken, shown) = quoted-append q rest g h in
    let equals = 61 ∷ (right ++ (bytes ++ rest)) in
    let named = skip-append space (name ++ (left ++ equals)) s.white.1 (dark (left ++ equals)) in
    rw (setting_spread space name left right bytes rest, s.white.0, named, after-append name (left ++ equals))
    (rw (valued, skip-append left equals l refl, skip-append right (bytes ++ rest) r shown, taken))

other_setting : (name space more : List ℕ) → IsWhite space → skip more ≡ more → setting name more ≡ None
    → begins name more ≡ false → setting name (space ++ more) ≡ None
other_setting name [] more w e f g = f
other_setting name (c ∷ space) more w e f g = rw (w.0, skip-append space more w.1 e, g)

no_setting : {value bytes : List ℕ} → IsSetting (codes "standalone") value bytes → (rest : List ℕ)
    → setting (codes "encoding") (bytes ++ rest) ≡ None
no_setting (is_setting space left right bytes s l r q) rest =
    rw (setting_spread space (codes "standalone") left right bytes rest)
    (other_setting (codes "encoding") space (codes "standalone" ++ (left ++ (61 ∷ (right ++ (bytes ++ rest)))))
    s.white refl refl refl)

standalone_passes : {bytes : List ℕ} → IsStandalone bytes → (space : List ℕ) → IsWhite space
    → (setting (codes "encoding") (bytes ++ (space ++ codes "?")) ≡ None)
    × (stands_alone (bytes ++ (space ++ codes "?")) ≡ true)
standalone_passes no_standalone space w =
    let none = other_setting (codes "standalone") space (codes "?") w refl refl refl in
    let ends_here = skip-append space (codes "?") w refl in
    (other_setting (codes "encoding") space (codes "?") w refl refl refl, rw (stands_alone, none, ends_here))
standalone_passes (yes bytes s) space w =
    let takes = setting_takes s (space ++ codes "?") (λ t. refl) refl refl in
    (no_setting s (space ++ codes "?"), rw (stands_alone, takes, skip-append space (codes "?") w refl))
standalone_passes (no bytes s) space w =
    let takes = setting_takes s (space ++ codes "?") (λ t. refl) refl refl in
    (no_setting s (space ++ codes "?"), rw (stands_alone, takes, skip-append space (codes "?") w refl))

encoding_passes : {bytes more : List ℕ} → IsEncoding bytes → IsStandalone more → (space : List ℕ) → IsWhite space
    → is_encoded (bytes ++ (more ++ (space ++ codes "?"))) ≡ true
encoding_passes no_encoding m space w = let (e, passes) = standalone_passes m space w in rw (is_encoded, e) passes
encoding_passes {more = more} (utf8 value bytes lower s) m space w =
    let g = lower_lacks 34 refl value (ap (lacks 34) lower) in
    let h = lower_lacks 39 refl value (ap (lacks 39) lower) in
    let takes = setting_takes s (more ++ (space ++ codes "?")) (λ t. refl) g h in
    rw (is_encoded, takes, lower) (standalone_passes m space w).1

-- ---- no byte of it ends the token

quoted_open : {value bytes : List ℕ} → IsQuoted value bytes → lacks 62 value ≡ true → lacks 62 bytes ≡ true
quoted_open double h = simp (list_all-append, h)
quoted_open single h = simp (list_all-append, h)

setting_open : {name value bytes : List ℕ} → IsSetting name value bytes → lacks 62 name ≡ true
    → lacks 62 value ≡ true → lacks 62 bytes ≡ true
setting_open (is_setting space left right bytes s l r q) g h =
    simp (list_all-append, white_open space s.white, g, white_open left l, white_open right r, quoted_open q h)

encoding_open : {bytes : List ℕ} → IsEncoding bytes → lacks 62 bytes ≡ true
encoding_open no_encoding = refl
encoding_open (utf8 value bytes lower s) = setting_open s refl (lower_lacks 62 refl value (ap (lacks 62) lower))

standalone_open : {bytes : List ℕ} → IsStandalone bytes → lacks 62 bytes ≡ true
standalone_open no_standalone = refl
standalone_open (yes bytes s) = setting_open s refl refl
standalone_open (no bytes s) = setting_open s refl refl

-- an XML declaration between <? and >
pub record Declares (bytes : List ℕ) : Type 0 where
  pub inner : List ℕ
  pub there : bytes ≡ 60 ∷ 63 ∷ (inner ++ 62 ∷ [])
  pub text : NoStops declaring inner
  pub passes : is_declaration inner ≡ true

-- what stands between <? and >
abbrev within : List ℕ → List ℕ → List ℕ → List ℕ → List ℕ
within version encoding standalone space =
    codes "xml" ++ (version ++ (encoding ++ (standalone ++ (space ++ codes "?"))))

declared_bytes : (version encoding standalone space : List ℕ)
    → codes "<?xml" ++ (version ++ (encoding ++ (standalone ++ (space ++ codes "?>"))))
    ≡ 60 ∷ 63 ∷ (within version encoding standalone space ++ 62 ∷ [])
declared_bytes version encoding standalone space = simp append_assoc

pub declaration_passes : {bytes : List ℕ} → IsDeclaration bytes → (bytes ≡ []) ⊎ Declares bytes
unfolding is_declaration
declaration_passes without = inl refl
declaration_passes (declared version encoding standalone space v e s w) = inr (record {
  inner = within version encoding standalone space;
  there = declared_bytes version encoding standalone space;
  text = none_such 62 (within version encoding standalone space)
      (simp (list_all-append, setting_open v refl refl, encoding_open e, standalone_open s, white_open space w));
  passes = rw (setting_takes v (encoding ++ (standalone ++ (space ++ codes "?"))) (λ t. refl) refl refl)
      (encoding_passes e s space w);
})

-- ---- what passes is a declaration

-- what was answered from what was there, where nothing is answered otherwise
given : {X Y : Type 0} {d y : Y} → (d ≡ y → ⊥) → (o : Option X) (f : X → Y)
    → elim o [ None ↦ d | Some x ↦ f x ] ≡ y → (x : X) × (o ≡ Some x) × (f x ≡ y)
given never None f h = absurd (never h)
given never (Some x) f h = (x, refl, h)

tested : {X : Type 0} (t : Bool) (o : Option X) (x : X) → cond t o None ≡ Some x → (t ≡ true) × (o ≡ Some x)
tested true o x h = (refl, h)
tested false o x h = cc

skip_parts : (bytes : List ℕ) → (space : List ℕ) × IsWhite space × (bytes ≡ space ++ skip bytes)
skip_parts [] = ([], tt, refl)
skip_parts (b ∷ bytes) =
    elim (is_space b) as (λ t. is_space b ≡ t → (space : List ℕ) × IsWhite space
    × (b ∷ bytes ≡ space ++ cond t (skip bytes) (b ∷ bytes))) [
      | true ↦ λ e. let r = skip_parts bytes in (b ∷ r.0, (e, r.1), ap (λ (x : List ℕ). b ∷ x) r.2)
      | false ↦ λ e. ([], tt, refl)
    ] refl

after_from : (word bytes rest : List ℕ) → after word bytes ≡ Some rest → bytes ≡ word ++ rest
after_from word bytes rest h =
    let (front, e) = tested (begins word bytes) (Some (drop (length word) bytes)) rest h in
    let is : drop (length word) bytes ≡ rest = cc e in
    front_from_begins word bytes front ∙ ap (λ (x : List ℕ). word ++ x) is

quoted_from : (bytes : List ℕ) (p : List ℕ × List ℕ) → quoted bytes ≡ Some p
    → (mine : List ℕ) × IsQuoted p.0 mine × (bytes ≡ mine ++ p.1)
quoted_from [] p h = cc
quoted_from (b ∷ bytes) p h =
    let (quoted, e) = tested (nat_eq b 34 || nat_eq b 39) (cut b bytes) p h in
    let is : IsQuoted p.0 (b ∷ (p.0 ++ b ∷ [])) =
    elim (or_cases (nat_eq b 34) (nat_eq b 39) quoted) [
      | inl k ↦ rw (eqb-true b 34 k) double
      | inr k ↦ rw (eqb-true b 39 k) single
    ] in
    (b ∷ (p.0 ++ b ∷ []), is, simp append_assoc (ap (λ (x : List ℕ). b ∷ x) (cut_from b bytes p e)))

setting_from : (name bytes : List ℕ) (p : List ℕ × List ℕ) → setting name bytes ≡ Some p
    → (mine : List ℕ) × IsSetting name p.0 mine × (bytes ≡ mine ++ p.1)
setting_from name [] p h = cc
setting_from name (b ∷ bytes) p h =
    let (white, h1) = tested (is_space b) (valued (after name (skip bytes))) p h in
    let (tail, named, h2) = given (λ e. cc) (after name (skip bytes)) (λ x. valued (Some x)) h1 in
    let (rest, equals, h3) = given (λ e. cc) (after (codes "=") (skip tail)) (λ x. quoted (skip x)) h2 in
    let (space, s, e1) = skip_parts bytes in
    let (left, l, e2) = skip_parts tail in
    let (right, r, e3) = skip_parts rest in
    let (quote, q, e4) = quoted_from (skip rest) p h3 in
    let named_there = after_from name (skip bytes) tail named in
    let equals_there = after_from (codes "=") (skip tail) rest equals in
    let mine : List ℕ = (b ∷ space) ++ (name ++ (left ++ (codes "=" ++ (right ++ quote)))) in
    let there : b ∷ bytes ≡ mine ++ p.1 = simp append_assoc (cc (e1, named_there, e2, equals_there, e3, e4)) in
    (mine, is_setting (b ∷ space) left right quote (record { white = (white, s); some = λ x. cc }) l r q, there)

-- a setting that may be left out, and what is tested behind it
optional : (Is : List ℕ → Type 0) (name : List ℕ) (ok later : List ℕ → Bool) → Is []
    → ((value mine : List ℕ) → ok value ≡ true → IsSetting name value mine → Is mine)
    → (bytes : List ℕ) (o : Option (List ℕ × List ℕ)) → setting name bytes ≡ o
    → elim o [ None ↦ later bytes | Some p ↦ ok p.0 && later p.1 ] ≡ true
    → (mine : List ℕ) × (tail : List ℕ) × Is mine × (bytes ≡ mine ++ tail) × (later tail ≡ true)
optional Is name ok later none some bytes None e h = ([], bytes, none, refl, h)
optional Is name ok later none some bytes (Some p) e h =
    let (word, last) = and_parts (ok p.0) (later p.1) h in
    let (mine, is, there) = setting_from name bytes p e in
    (mine, p.1, some p.0 mine word is, there, last)

pub declaration_from : (bytes : List ℕ) → is_declaration bytes ≡ true → IsDeclaration (60 ∷ 63 ∷ (bytes ++ 62 ∷ []))
unfolding is_declaration
declaration_from bytes h =
    let (first, there, h1) = given (λ e. cc) (after (codes "xml") bytes) (λ x. names_xml (Some x)) h in
    let (p, named, h2) = given (λ e. cc) (setting (codes "version") first) (λ x. is_versioned (Some x)) h1 in
    let (word, h3) = and_parts (bytes_eq p.0 (codes "1.0")) (is_encoded p.1) h2 in
    let (version, v, e1) = setting_from (codes "version") first p named in
    let (encoding, tail, e, e2, h4) =
    optional IsEncoding (codes "encoding") (λ x. bytes_eq (str_to_ascii_lowercase x) (codes "utf-8")) stands_alone
    no_encoding (λ x mine k s. utf8 x mine (same (str_to_ascii_lowercase x) (codes "utf-8") k) s) p.1
    (setting (codes "encoding") p.1) refl h3 in
    let (standalone, last, a, e3, h5) =
    optional IsStandalone (codes "standalone") (λ x. bytes_eq x (codes "yes") || bytes_eq x (codes "no")) ends
    no_standalone (λ x mine k s. elim (or_cases (bytes_eq x (codes "yes")) (bytes_eq x (codes "no")) k) [
      | inl g ↦ yes mine (rw (same x (codes "yes") g) at s)
      | inr g ↦ no mine (rw (same x (codes "no") g) at s)
    ]) tail (setting (codes "standalone") tail) refl h4 in
    let (space, w, e4) = skip_parts last in
    let is : IsSetting (codes "version") (codes "1.0") version = rw (same p.0 (codes "1.0") word) at v in
    let whole : bytes ≡ within version encoding standalone space =
    cc (after_from (codes "xml") bytes first there, e1, e2, e3, e4, same (skip last) (codes "?") h5) in
    rw (whole, ← declared_bytes version encoding standalone space) (declared version encoding standalone space is e a w)
