-- What the calls of a command leave on its disk.
use Rattle.std.proofs.Common.{◌≡◌, ℕ, Bool, List}
use Rattle.std.specs.Prelude.{IsTrue, Result}
use Rattle.node_laws.specs.OwnTerms.{AreOwn}
use Rattle.rm_base.specs.declared.message.Behaviour.{Behaviour}
use Rattle.rm_disk.specs.Told.{Told}
use Rattle.http_endpoint.specs.Link.Lines.{Net}
use Rattle.rm_protocol.specs.Terms.{Terms}
use Rattle.rm_serve.specs.Steps.{MakesAll, Place, Step}
use Rattle.rm_host.specs.Finding.{Found}
use Rattle.rm_host.specs.HostSteps.{Commands, acted}
use Rattle.rm_host.specs.Records.{LeavesRecords}
use Rattle.rm_host.specs.declared.end.End.{End}

-- the law of a command's records
abbrev pub CallsLeave : Type 0
CallsLeave =
    (tells : Bool) (terms : Terms) (first : Told) (granted : Behaviour) (x z : Place) (steps : List Step)
    → IsTrue tells → AreOwn terms → Found tells first granted x → MakesAll tells x z steps
    → LeavesRecords tells terms first x z steps

-- a command made its calls, and leaves their records
pub acted-so : CallsLeave → {tells : Bool} {first now : Told} {old new : Net} {granted : Behaviour}
    {Acts : Place → Place → List Step → Result (List ℕ) End → Type 0} (x z : Place) (steps : List Step)
    (result : Result (List ℕ) End)
    → Found tells first granted x → z.told ≡ now → MakesAll tells x z steps → Acts x z steps result
    → Commands tells first now old new granted Acts result
acted-so law {tells} {first} {now} {old} {new} {granted} {Acts} x z steps result found told made acts =
    acted x z steps result found told made (λ t terms own. law tells terms first granted x z steps t own found made)
    acts
