-- A node by its number and its address.
use Rattle.std.specs.Prelude.{◌≡◌, List}
use Rattle.record_batch.specs.Fact.{Fact}
use Rattle.record_batch.specs.Sequences.Makers.{number, address}
use Rattle.node_messages.specs.declared.home.Home.{Home}

-- records give a node this number and this address
pub record IsHome (home : Home) (r : List Fact) : Type 0 where
  pub number_ : number r ≡ home.number
  pub address_ : address r ≡ home.address.now
