-- What a node announces for the sequences that it grants: the same for all, as long as nothing else is to be announced.
use Rattle.std.specs.Prelude.{◌≡◌, List}
use Rattle.std.specs.List.{AllByRecursion}
use Rattle.rm_base.specs.declared.message.Behaviour.{Behaviour}
use Rattle.record_batch.specs.Fact.{Fact, Granted}
use Rattle.rm_protocol.specs.Node.{Node, Writing}
use Rattle.rm_protocol.specs.Pair.{Act, Grants, acted}
use Rattle.rm_protocol.specs.Terms.{Terms}

-- the record grants no sequence, or this was announced for it
abbrev pub IsGrantedSo : Behaviour → Fact → Type 0
IsGrantedSo y (Granted drawn message_id acks_to behaviour deadline lapse offer) = behaviour ≡ y
IsGrantedSo y _ = Unit {0}

-- this was announced for each sequence that the node granted, or is writing, and is for those to come
pub record AnnouncesOnly (y : Behaviour) (x : Node) : Type 0 where
  pub granted_ : x.granted ≡ y
  pub records_ : AllByRecursion (IsGrantedSo y) x.whole
  pub writes : (d : List Fact) → x.state ≡ Writing d → AllByRecursion (IsGrantedSo y) d

-- nothing else is to be announced
abbrev pub IsNoGrant : Act → Type 0
IsNoGrant (Grants behaviour) = ⊥
IsNoGrant _ = Unit {0}

-- so it stays, whatever else befalls the node
abbrev pub AnnouncesStill : Type 0
AnnouncesStill =
    (terms : Terms) (y : Behaviour) (x : Node) (act : Act) → IsNoGrant act → AnnouncesOnly y x
    → AnnouncesOnly y (acted terms x act).node
