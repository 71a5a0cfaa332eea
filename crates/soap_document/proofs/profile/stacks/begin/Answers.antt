use Rattle.std.proofs.Common.{[], ◌∷◌, ◌++◌, List, ℕ, ap, ◌∙◌, if◌then◌else◌}
use Rattle.std.specs.Str.{bytes_eq}
use Rattle.soap_document.specs.Profile.Scope.{stack_at}
use Rattle.soap_document.proofs.ProfileLemmas.Scopes.{stack_after}
use Rattle.soap_document.proofs.profile.stacks.begin.Goals as goal

pub returns : goal.returns
returns c = λ other.
    stack_after c.in_ok-from_slice.field-0.items c.args.stacks.now c.insert.new.self c.push.new.self
    c.in_ok-insert.ensures.updates other
    ∙ ap (λ (bs : List ℕ). if bytes_eq bs other then c.push.new.self.items else stack_at c.args.stacks.now other)
    c.in_ok-from_slice.ensures.items
    ∙ ap (λ (xs : List (List ℕ)). if bytes_eq c.args.prefix.now other then xs else stack_at c.args.stacks.now other)
    (c.in_ok-push.ensures.items ∙ ap (λ (xs : List (List ℕ)). xs ++ c.args.space ∷ []) c.new-stack.ensures.items)
