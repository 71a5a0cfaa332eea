use Rattle.std.proofs.Common.{map, sym, ap, ◌∙◌}
use Rattle.soap_document.specs.Profile.Keys.{keys_of, differ}
use Rattle.soap_document.specs.Profile.View.{attrs_view}
use Rattle.soap_document.proofs.ProfileLemmas.Distinct.{same_answer, alone_name, name_key, keys_attribute, keys_other}
use Rattle.soap_document.proofs.ProfileLemmas.Distinct.{are_distinct_names-keys, taken_all}
use Rattle.soap_document.proofs.profile.names.are_distinct_names.Goals.{in-Attribute+in_ok-push, in_default}
use Rattle.soap_document.proofs.profile.names.are_distinct_names.Goals as goal

pub returns : goal.returns
returns c =
    let all = c.args.items.now in
    same_answer c.all_differ.result _ _ c.all_differ.ensures
    (ap differ (c.loop-item.invariant ∙ ap (λ xs. map name_key (attrs_view xs)) (taken_all c.loop-item.item-index all
    c.loop-item-test.false)) ∙ sym (are_distinct_names-keys (attrs_view all)))

pub returns-then-items-lt2 : goal.returns-then-items-lt2
returns-then-items-lt2 c = alone_name c.args.items.now c.if-items-lt2.true

pub loop-item-preserved : goal.loop-item-preserved
loop-item-preserved c = elim c.match-item.branch [
  | in-Attribute+in_ok-push w ↦
      ap (λ xs. keys_of xs.items) w.keys-is ∙ ap keys_of w.in_ok-push.ensures.items
      ∙ keys_attribute c.args.items.now c.loop-item.item-index c.item-item.result c.loop-item.keys.items
      (w.local.result, w.space.result) w.in-Attribute.attr c.loop-item-test.true
      (sym c.item-item.is ∙ w.in-Attribute.is) w.local.ensures w.space.ensures c.loop-item.invariant
  | in_default w ↦
      ap (λ xs. keys_of xs.items) w.keys-is
      ∙ keys_other c.args.items.now c.loop-item.item-index c.item-item.result c.loop-item.keys.items
      c.loop-item-test.true (sym c.item-item.is) w.in_default.not-Attribute c.loop-item.invariant
]
