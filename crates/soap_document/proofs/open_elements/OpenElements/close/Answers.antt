use Rattle.std.proofs.Common.{refl, sym, ◌∙◌}
use Rattle.soap_document.specs.Tree.{element}
use Rattle.std.proofs.lemmas.Result.{on_ok_weaker}
use Rattle.soap_document.proofs.Nesting.{popped, begun_child}
use Rattle.soap_document.proofs.open_elements.OpenElements.close.Goals as goal

pub returns-clause-holds : goal.returns-clause-holds
returns-clause-holds g c = λ top outer below h.
    let stands = g.H.Handler.stands in
    let p = popped stands c.args.self.now (record c.args.self.now { names = c.pop.new.self; name = c.in-Some.outer })
    top
    outer below h c.in-Some.ensures.items refl h.stands_for in
    on_ok_weaker c.close.result (λ k. record {
      name = p.name;
      names = p.names;
      begun = p.begun ∙ sym (begun_child outer below (element top.name top.attributes top.start c.args.end top.parts));
      stands_for = k;
    }) (c.close.ensures.made top outer below p.stands_for)
