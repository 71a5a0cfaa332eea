use Rattle.std.proofs.Common.{◌++◌, ◌+◌, drop, subst}
use Rattle.soap_document.specs.Profile.Scope.{IsStacked}
use Rattle.soap_document.specs.Profile.View.{decls_view}
use Rattle.soap_document.proofs.ProfileLemmas.Scopes.{decls_at, decls_past}
use Rattle.soap_document.proofs.profile.scope.unbind_all.Goals as goal

pub loop-item-preserved : goal.loop-item-preserved
loop-item-preserved c = λ bindings h.
    let items = c.args.items.now in
    let i = c.loop-item.item-index in
    let item = c.item-item.result in
    c.unbind.ensures (decls_view (drop (i + 1) items) ++ bindings) (subst (IsStacked c.loop-item.stacks) (decls_at
    items i item bindings c.loop-item-test.true c.item-item.is) (c.loop-item.invariant bindings h))

pub returns : goal.returns
returns c = λ bindings h.
    subst (IsStacked c.loop-item.stacks) (decls_past c.args.items.now c.loop-item.item-index bindings
    c.loop-item-test.false) (c.loop-item.invariant bindings h)
