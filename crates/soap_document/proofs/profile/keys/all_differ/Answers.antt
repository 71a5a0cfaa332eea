use Rattle.std.proofs.Common.{ap, ◌∙◌}
use Rattle.soap_document.specs.Profile.Keys.{keys_of, neighbours_differ}
use Rattle.soap_document.proofs.ProfileLemmas.Distinct.{sorted_differ}
use Rattle.soap_document.proofs.profile.keys.all_differ.Goals as goal

pub returns : goal.returns
returns c =
    c.neighbours_differ.ensures ∙ ap (λ xs. neighbours_differ (keys_of xs)) c.as_slice.ensures.value
    ∙ sorted_differ _ _ c.in_ok-sort.ensures.permutation c.in_ok-sort.ensures.sorted
