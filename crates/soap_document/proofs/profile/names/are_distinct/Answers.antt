use Rattle.std.proofs.Common.{[], map, sym, ap, ◌∙◌}
use Rattle.soap_document.specs.declared.attribute.WrittenAttribute.{WrittenAttribute}
use Rattle.soap_document.specs.Profile.Keys.{differ}
use Rattle.soap_document.proofs.ProfileLemmas.Distinct.{same_answer, alone, are_distinct-keys, taken_all}
use Rattle.soap_document.proofs.profile.names.are_distinct.Goals as goal

pub returns : goal.returns
returns c =
    let all = c.args.attributes.now in
    same_answer c.all_differ.result _ _ c.all_differ.ensures
    (ap differ (c.loop-attribute.invariant ∙ ap (map (λ (a : WrittenAttribute). (a.name, []))) (taken_all
    c.loop-attribute.attribute-index all c.loop-attribute-test.false)) ∙ sym (are_distinct-keys all))

pub returns-then-attributes-lt2 : goal.returns-then-attributes-lt2
returns-then-attributes-lt2 c = alone c.args.attributes.now c.if-attributes-lt2.true
