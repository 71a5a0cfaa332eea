-- A link over memory.
use Rattle.std.specs.Prelude.{ℕ, ◌==◌, List, length, map, Option, Some}
use Rattle.rm_base.specs.Outside.{Talking, talking_told}
use Rattle.http_endpoint.specs.Link.Lines.{Call, Net, line_of}

-- the connections to come, what it was asked for, as far as memory was there, which of its calls fail, how many were
-- made, and how many failed
pub record Linking : Type 0 where
  pub coming : List Talking
  pub past : Option (List Call)
  pub fail_at : List ℕ
  pub calls : ℕ
  pub faults : ℕ

-- what it tells
abbrev pub net_in_memory : Linking → Net
net_in_memory l = record {
  coming = Some (map (λ c. line_of (talking_told c)) l.coming);
  past = l.past;
  faults = l.faults;
  sound = length l.fail_at == 0;
}
