use Rattle.std.proofs.Common.{◌≡◌, drop, false}
use Rattle.http_endpoint.specs.Ends.{meets_empty_line}
use Rattle.http_endpoint.proofs.parts.has_empty_line.Given as goal

-- what was seen and those that are left decide
abbrev pub invariant-loop-byte : goal.invariant-loop-byte
invariant-loop-byte l =
    meets_empty_line l.has_text l.is_empty (drop l.byte-index l.byte-items) ≡ meets_empty_line false false l.byte-items
