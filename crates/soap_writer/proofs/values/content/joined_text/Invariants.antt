use Rattle.std.proofs.Common.{◌≡◌, ◌++◌, drop, option_map}
use Rattle.soap_document.specs.Profile.View.{parts_view}
use Rattle.soap_writer.specs.Values.Children.{text_among}
use Rattle.soap_writer.proofs.values.content.joined_text.Given as goal

-- the text so far, and that of what is left
abbrev pub invariant-loop-item : goal.invariant-loop-item
invariant-loop-item l =
    option_map (λ more. l.text.items ++ more) (text_among (parts_view (drop l.item-index l.items)))
    ≡ text_among (parts_view l.items)
