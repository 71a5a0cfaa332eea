use Rattle.std.proofs.Common.{[], ◌∷◌, rules, ◌∙◌}
use Rattle.std.proofs.lemmas.Iterator.{YieldsList-from_slice}
use Rattle.std.proofs.lemmas.Iterator.Search.{all_from_yields_List}
use Rattle.soap_document.specs.Profile.Namespaces.{is_new_name}
use Rattle.soap_document.specs.Profile.View.{attrs_view}
use Rattle.soap_document.specs.declared.profile.tree.Item.{Item}
use Rattle.soap_document.proofs.ProfileLemmas.Distinct.{is_new_name-among}
use Rattle.soap_document.proofs.profile.names.is_new_name.Goals as goal
use borrow.Author.Tests.{tests}

pub returns : goal.returns
returns c =
    let name = c.args.name.now in
    let items = c.args.items.now in
    all_from_yields_List (λ (item : Item). is_new_name name (attrs_view (item ∷ []))) _ _ c.all.result
    c.all.ensures.ran (YieldsList-from_slice items cc) (λ x b q k. search (rules, tests))
    ∙ is_new_name-among name items
