-- Rows of calls of a node.
use Rattle.std.proofs.Common.{Bool, List, [], ◌∷◌, ◌++◌}
use Rattle.rm_protocol.specs.Terms.{Terms}
use Rattle.node_laws.specs.OwnTerms.{AreOwn}
use Rattle.rm_node.specs.Called.{Does, answer_of}
use Rattle.rm_node.specs.Keeping.{Keeping, Keeps}
use Rattle.rm_node.specs.Noded.{Runs}
use Rattle.rm_serve.specs.Steps.{Makes, MakesAll, Place, Stays, Step, done, is_received, makes, rests}

-- two rows of calls, one behind the other
then : (tells : Bool) (terms : Terms) (x y z : Place) (s t : List Step) → Makes tells terms x y s
    → Makes tells terms y z t → Makes tells terms x z (s ++ t)
then tells terms _ _ z _ t (done x) after = after
then tells terms _ _ z _ t (rests x y w steps stays first) after =
    rests x y z (steps ++ t) stays (then tells terms y w z steps t first after)
then tells terms _ _ z _ t (makes x y w step steps runs does first) after =
    makes x y z step (steps ++ t) runs does (then tells terms y w z steps t first after)

-- so it is whatever the terms
pub then-all : (tells : Bool) (x y z : Place) (s t : List Step) → MakesAll tells x y s → MakesAll tells y z t
    → MakesAll tells x z (s ++ t)
then-all tells x y z s t first after terms own = then tells terms x y z s t (first terms own) (after terms own)

-- no call
pub no-step : (tells : Bool) (x z : Place) → Stays tells x z → MakesAll tells x z []
no-step tells x z stays terms own = rests x z z [] stays (done z)

-- one call
pub one-step : (tells : Bool) (x z : Place) (step : Step) → Runs x.node
    → ((terms : Terms) → AreOwn terms → (kept : Keeping) → Keeps x.node.kept kept
    → Does tells (is_received step.asked) x.told z.told x.node z.node
    (answer_of terms x.node step.moment kept step.asked) step.ended)
    → MakesAll tells x z (step ∷ [])
one-step tells x z step runs does terms own = makes x z z step [] runs (does terms own) (done z)
