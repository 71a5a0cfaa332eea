-- What a parser's answer on first bytes says of all the bytes.
use Rattle.std.proofs.Common.{◌≡◌, ℕ, ◌≤◌, ◌<◌, List, [], ◌++◌, length, take, drop, Option, None, Some, sym, arith}
use Rattle.std.proofs.Common.{inr, append-nil, refl}
use Rattle.std.proofs.lemmas.Grind.{common_steps}
use Rattle.http_endpoint.specs.Ahead.{ahead}
use Rattle.http_endpoint.specs.declared.part.Parsed.{Parsed}
use Rattle.http_endpoint.specs.declared.part.Parsed.TheVariants.{Found, Unfinished, Refused}
use Rattle.http_endpoint.specs.Part.{Grammar, Grows, HasNone, Never, IsParse, ReadsUpTo, IsBad}

-- what was found in first bytes was found in all that is ahead
pub found : {A : Type 0} (reads : Grammar A) (begun : List ℕ → Type 0) (grows : Grows reads) (left : Option (List ℕ))
    (text more held new all : List ℕ) (parsed : Parsed A) (len limit : ℕ) (a : A) → held ≡ text ++ more
    → length text ≤ limit → parsed ≡ Found len a → IsParse reads begun text parsed → new ≡ drop len held
    → ahead left held ≡ Some all
    → (rest : List ℕ) × (ahead left new ≡ Some rest) × ReadsUpTo limit reads all a rest
found reads begun grows None text more held new all parsed len limit a is_held within is parse is_new is_all =
    grind (arith, is_all)
found reads begun grows (Some l) text more held new all parsed len limit a is_held within is parse is_new is_all =
    let found_at : (len ≤ length text) × reads text a (drop len text) = rw is at parse in
    let inside = found_at.0 in
    let all_is : all ≡ text ++ (more ++ l) = grind (arith, common_steps, is_held, is_all) in
    let new_is : new ++ l ≡ drop len text ++ (more ++ l) = grind (arith, common_steps, is_held, inside, is_new) in
    let reads_all : reads all a (new ++ l) =
    rw (all_is, new_is) (grows text a (drop len text) (more ++ l) found_at.1) in (
      new ++ l,
      refl,
      record {
        len = len;
        within = omega (arith, inside, within);
        inside = grind (arith, common_steps, all_is, inside);
        rest_is = grind (arith, common_steps, all_is, new_is, inside);
        is_text = reads_all;
      },
    )

-- what has no text in its first bytes and is longer has none
pub too_long : {A : Type 0} (reads : Grammar A) (left : Option (List ℕ)) (held all : List ℕ) (limit : ℕ)
    → limit < length held
    → HasNone reads (take limit held) → ahead left held ≡ Some all → IsBad limit reads all
too_long reads None held all limit longer none is_all = grind (arith, is_all)
too_long reads (Some l) held all limit longer none is_all =
    let same : take limit all ≡ take limit held = grind (arith, common_steps, longer, is_all) in
    inr (grind (arith, common_steps, longer, is_all), rw same none)

-- what never has a text has none as it is
pub never-none : {A : Type 0} (reads : Grammar A) (bytes : List ℕ) → Never reads bytes → HasNone reads bytes
never-none reads bytes never = rw (append-nil bytes) at (never [])

-- a text that is unfinished has none
pub unfinished-none : {A : Type 0} (reads : Grammar A) (begun : List ℕ → Type 0) (text front : List ℕ)
    (parsed : Parsed A)
    → parsed ≡ Unfinished → IsParse reads begun text parsed → text ≡ front → HasNone reads front
unfinished-none reads begun text front parsed is parse same =
    let none : HasNone reads text × begun text = rw is at parse in
    rw (sym same) none.0

-- a text that is refused has none
pub refused-none : {A : Type 0} (reads : Grammar A) (begun : List ℕ → Type 0) (text front : List ℕ) (parsed : Parsed A)
    → parsed ≡ Refused → IsParse reads begun text parsed → text ≡ front → HasNone reads front
refused-none reads begun text front parsed is parse same =
    let never : Never reads text = rw is at parse in
    rw (sym same) (never-none reads text never)
