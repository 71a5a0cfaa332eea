use Rattle.std.proofs.Common.{◌≡◌, drop, map, nat_le}
use Rattle.std.specs.List.{list_all}
use Rattle.soap_document.specs.Profile.Payload.{height}
use Rattle.soap_document.specs.Profile.View.{element_view}
use Rattle.wsa_headers.proofs.room.are_within.Given as goal

-- those that are left decide
abbrev pub invariant-loop-param : goal.invariant-loop-param
invariant-loop-param l =
    list_all (λ p. nat_le (height p) l.levels) (map element_view (drop l.param-index l.params))
    ≡ list_all (λ p. nat_le (height p) l.levels) (map element_view l.params)
