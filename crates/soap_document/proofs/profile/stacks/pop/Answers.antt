use Rattle.std.proofs.Common.{◌≡◌, ◌-◌, ℕ, List, length, take, ap, sym, ◌∙◌, vec_len, arith, if◌then◌else◌}
use Rattle.std.specs.Str.{bytes_eq}
use Rattle.soap_document.specs.Profile.Scope.{stack_at}
use Rattle.soap_document.proofs.ProfileLemmas.Scopes.{stack_after, stack_found, is_found, without_last}
use Rattle.soap_document.proofs.profile.stacks.pop.Goals as goal

pub returns-in-Some : goal.returns-in-Some
returns-in-Some c = λ below top h other.
    let bs = c.args.prefix.now in
    let m = c.args.stacks.now in
    let old = c.in-Some.stack.now in
    let new = c.pop.new.self in
    let found : stack_at m bs ≡ old.items =
    stack_found bs m c.get_mut.result c.in-Some.stack c.get_mut.ensures.value c.in-Some.is in
    let len : vec_len old ≡ length old.items = omega (arith, old.ok.0) in
    let left : new.items ≡ below =
    c.pop.ensures.rest ∙ ap (λ (n : ℕ). take (n - 1) old.items) len
    ∙ ap (λ (xs : List (List ℕ)). take (length xs - 1) xs) (sym found ∙ h) ∙ without_last below top in
    stack_after bs m (c.get_mut.follows.lender new) new
    ((c.get_mut.follows.holds new).3 (is_found bs m c.get_mut.result c.in-Some.stack c.get_mut.ensures.value
    c.in-Some.is)) other
    ∙ ap (λ (xs : List (List ℕ)). if bytes_eq bs other then xs else stack_at m other) left
