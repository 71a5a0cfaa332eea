use Rattle.std.proofs.Common.{◌≡◌, ℕ, ◌+◌, ◌-◌, List, take, drop, ◌∙◌, subst, arith}
use Rattle.std.proofs.lemmas.List.{take_rest, drop-drop}
use Rattle.soap_lex.specs.Characters.{IsLongestName}
use Rattle.soap_lex.proofs.read.read_name.Goals as goal

pub returns-in-Some-clause-found : goal.returns-in-Some-clause-found
returns-in-Some-clause-found c =
    let bytes : List ℕ = c.args.bytes.now in
    let len : ℕ = c.in-Some.len in
    let count : len ≡ c.args.at + len - c.args.at = omega arith in
    let text = c.from_utf8_unchecked-text.ensures ∙ take_rest bytes c.args.at in
    let P : List ℕ → Type 0 = λ l. IsLongestName l (take len l) (drop len l) in
    let Q : ℕ → Type 0 = λ n. IsLongestName (drop c.args.at bytes) (take n (drop c.args.at bytes))
    (drop len (drop c.args.at bytes)) in
    let R : List ℕ → Type 0 =
    λ l. IsLongestName (drop c.args.at bytes) (take (c.args.at + len - c.args.at) (drop c.args.at bytes)) l in
    subst R (drop-drop len c.args.at bytes) (subst Q count (subst P text c.in-Some.ensures.found))
