-- What the machine does behind the end of a root: XML 1.0, 2.8, production 27.
use Rattle.std.specs.Prelude.{◌≡◌, ℕ, List, [], Bool, true, false, Some, codes}
use Rattle.soap_document.specs.Machine.{Mode, beginning, declaring, outside, marking, commenting, chars, less}
use Rattle.soap_document.specs.Machine.{tagging, naming, named, valuing, value_inner, slashed, ending, refused}
use Rattle.soap_document.specs.Machine.{State, only_child, is_outside_mode}
use Rattle.soap_document.specs.Tokens.{is_white}
use Rattle.soap_document.specs.Tree.{Element}

-- the machine may stand here once a root has ended
abbrev pub is_behind : Mode → Bool
is_behind outside = true
is_behind less = true
is_behind marking = true
is_behind commenting = true
is_behind refused = true
is_behind beginning = false
is_behind declaring = false
is_behind chars = false
is_behind tagging = false
is_behind naming = false
is_behind named = false
is_behind valuing = false
is_behind value_inner = false
is_behind slashed = false
is_behind ending = false

-- this root has ended
pub record IsBehind (root : Element) (s : State) : Type 0 where
  pub mode : is_behind s.mode ≡ true
  pub fresh : s.fresh ≡ false
  pub below : s.below ≡ []
  pub ended : only_child s.top.parts ≡ Some root

-- a root has ended in both, and the same may follow: outside of markup white space doesn't matter
pub record IsAlike (s other : State) : Type 0 where
  pub root : Element
  pub other_root : Element
  pub behind : IsBehind root s
  pub other_behind : IsBehind other_root other
  pub mode : s.mode ≡ other.mode
  pub white : is_white s.token ≡ is_white other.token
  pub token : is_outside_mode s.mode ≡ false → s.token ≡ other.token

-- the least document
abbrev pub least : List ℕ
least = codes "<a/>"
