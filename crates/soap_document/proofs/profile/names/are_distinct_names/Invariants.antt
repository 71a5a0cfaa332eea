use Rattle.std.proofs.Common.{◌≡◌, map, take}
use Rattle.soap_document.specs.Profile.Keys.{keys_of}
use Rattle.soap_document.specs.Profile.View.{attrs_view}
use Rattle.soap_document.proofs.ProfileLemmas.Distinct.{name_key}
use Rattle.soap_document.proofs.profile.names.are_distinct_names.Given as goal

abbrev pub invariant-loop-item : goal.invariant-loop-item
invariant-loop-item l = keys_of l.keys.items ≡ map name_key (attrs_view (take l.item-index l.items))
