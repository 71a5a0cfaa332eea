use Rattle.std.proofs.Common.{◌≡◌, [], ◌∷◌, ◌++◌, ◌-◌, ℕ, drop, sym, ap, subst, ◌∙◌, arith}
use Rattle.soap_document.specs.Profile.Scope.{IsStacked}
use Rattle.soap_document.specs.Profile.View.{decls_view}
use Rattle.soap_document.proofs.ProfileLemmas.Scopes.{decls_at}
use Rattle.soap_document.proofs.profile.scope.bind_all.Goals as goal

pub loop-left-preserved : goal.loop-left-preserved
loop-left-preserved c =
    let items = c.args.items.now in
    let left = c.loop-left.left in
    let item = c.index-items-left.result in record {
      within = omega arith;
      bound = λ bindings h.
          let next : decls_view (drop (left - 1) items) ++ bindings
          ≡ decls_view (item ∷ []) ++ (decls_view (drop left items) ++ bindings) =
          decls_at items (left - 1) item bindings (omega arith) c.index-items-left.is
          ∙ ap (λ (i : ℕ). decls_view (item ∷ []) ++ (decls_view (drop i items) ++ bindings)) (omega arith) in
          subst (IsStacked c.bind.new.stacks) (sym next) (c.in_ok-bind.ensures (decls_view (drop left items)
          ++ bindings) (c.loop-left.invariant.bound bindings h));
    }
