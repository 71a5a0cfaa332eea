use Rattle.std.proofs.Common.{◌∙◌}
use Rattle.rm_policy.proofs.AlternativesLemmas.MaskLemmas.{add_more, add_found, add_full}
use Rattle.rm_policy.proofs.alternatives.masks.Masks.add.Goals as goal

pub returns : goal.returns
returns c =
    add_more c.args.self.now c.self.inside.items.items c.as_slice-masks.result.now c.put.new.masks.items c.args.mask
    c.in-Err.place c.self.view_is c.as_slice-masks.ensures.value c.in-Err.ensures.bound c.in-Err.ensures.position
    c.in_ok-put.ensures c.if-masks-ge-ALTERNATIVES.false

pub returns-in_default : goal.returns-in_default
returns-in_default c =
    add_found c.args.self.now c.as_slice-masks.result.now c.args.mask c.in_default.field-0
    (c.as_slice-masks.ensures.value ∙ c.self.view_is) c.in_default.ensures.bound c.in_default.ensures.position

pub returns-then-masks-ge-ALTERNATIVES : goal.returns-then-masks-ge-ALTERNATIVES
returns-then-masks-ge-ALTERNATIVES c =
    add_full c.args.self.now c.as_slice-masks.result.now c.args.mask c.in-Err.place
    (c.as_slice-masks.ensures.value ∙ c.self.view_is) c.in-Err.ensures.bound c.in-Err.ensures.position
    c.if-masks-ge-ALTERNATIVES.true
