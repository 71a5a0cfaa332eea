use Rattle.std.proofs.Common.{◌∙◌}
use Rattle.soap_document.specs.Profile.View.{parts_view}
use Rattle.soap_envelope.proofs.Envelopes.{no_blocks, some_blocks}
use Rattle.soap_envelope.proofs.read.blocks.Goals as goal

pub returns-in_default : goal.returns-in_default
returns-in_default c =
    no_blocks c.args.outer.now c.args.header c.new.result c.new-in_default.result c.in_default.is
    c.new.ensures c.new-in_default.ensures

pub returns : goal.returns
returns c =
    some_blocks c.args.outer.now c.args.header c.in-Some.header c.in_ok-children.field-0
    (parts_view c.in_ok-decls.field-0.items.items) c.as_slice.result.now c.in_ok-scope.scope c.in-Some.is
    c.in_ok-children.ensures c.in_ok-decls.ensures.parts
    (c.as_slice.ensures.value ∙ c.in_ok-decls.ensures.decls) c.in_ok-scope.ensures
