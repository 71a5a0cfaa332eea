use Rattle.std.proofs.Common.{◌≡◌, [], map, take}
use Rattle.soap_document.specs.declared.attribute.WrittenAttribute.{WrittenAttribute}
use Rattle.soap_document.specs.Profile.Keys.{keys_of}
use Rattle.soap_document.proofs.profile.names.are_distinct.Given as goal

abbrev pub invariant-loop-attribute : goal.invariant-loop-attribute
invariant-loop-attribute l = keys_of l.keys.items ≡ map (λ (a : WrittenAttribute). (a.name, [])) (take l.attribute-index
    l.attributes)
