use Rattle.std.proofs.Common.{◌≡◌, ◌∷◌, ◌++◌, ℕ, List, ap, subst, ◌∙◌, if◌then◌else◌}
use Rattle.std.specs.Str.{bytes_eq}
use Rattle.soap_document.specs.Profile.Scope.{stack_at, stacked, IsStacked}
use Rattle.rm_base.specs.declared.message.Binding.{Binding}
use Rattle.soap_document.proofs.ProfileLemmas.Scopes.{IsStacked-pop, stacked_here, declared}
use Rattle.soap_document.proofs.profile.scope.unbind.Goals as goal

pub returns-in-Declaration : goal.returns-in-Declaration
returns-in-Declaration c = λ bindings h.
    let d = c.in-Declaration.declaration in
    let m = c.args.stacks.now in
    let n = c.pop.new.stacks in
    let before : IsStacked m (d ∷ bindings) =
    subst (λ (ds : List Binding). IsStacked m (ds ++ bindings)) (declared c.args.item.now d c.in-Declaration.is) h in
    let prefix : c.as_slice.result.now ≡ d.prefix =
    c.as_slice.ensures ∙ ap (λ (b : Binding). b.prefix) c.declaration.view_is in
    let popped : (cs : List ℕ)
    → stack_at n cs ≡ (if bytes_eq c.as_slice.result.now cs then stacked d.prefix bindings else stack_at m cs) =
    c.pop.ensures (stacked d.prefix bindings) d.space (ap (stack_at m) prefix ∙ stacked_here m d bindings before) in
    IsStacked-pop m n d bindings before (subst (λ (key : List ℕ). (cs : List ℕ)
    → stack_at n cs ≡ (if bytes_eq key cs then stacked d.prefix bindings else stack_at m cs)) prefix popped)
