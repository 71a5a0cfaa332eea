use Rattle.std.proofs.Common.{ℕ, Some, nat_eq, sym, ap, ◌∙◌}
use Rattle.soap_lex.specs.Facts.{nil_from_len}
use Rattle.soap_document.proofs.ProfileLemmas.Resolvers.{not_child, child_more, child_only}
use Rattle.soap_document.proofs.profile.resolver.lone.Goals as goal

pub returns-in_default : goal.returns-in_default
returns-in_default c = λ d a.
    sym (not_child c.args.items.items c.pop.new.self.items c.pop.result c.in_ok-tree.field-0 c.pop.ensures.items
    c.in_ok-tree.was c.in_default.not-Child (record { decls = d; attrs = a }))

pub returns-then-not-is_empty : goal.returns-then-not-is_empty
returns-then-not-is_empty c = λ d a.
    sym (child_more c.args.items.items c.pop.new.self.items c.pop.result c.in-Child.tree c.pop.ensures.items
    (c.in_ok-tree.was ∙ ap (λ p. Some p) c.in-Child.is) (sym (ap (λ (n : ℕ). nat_eq n 0) c.pop.new.self.ok.0)
    ∙ sym c.is_empty.ensures ∙ c.if-not-is_empty.true) (record { decls = d; attrs = a }))

pub returns : goal.returns
returns c = λ d a.
    sym (child_only c.args.items.items c.pop.new.self.items c.pop.result c.in-Child.tree c.pop.ensures.items
    (c.in_ok-tree.was ∙ ap (λ p. Some p) c.in-Child.is) (nil_from_len c.pop.new.self.items c.pop.new.self.len
    c.pop.new.self.ok.0 (sym c.is_empty.ensures ∙ c.if-not-is_empty.false)))
