-- Calls of a node that is up.
use Rattle.std.proofs.Common.{◌≡◌, ◌≢◌, ◌∙◌, ℕ, Bool, true, [], ◌∷◌, ap, refl, subst, sym}
use Rattle.rm_base.specs.declared.message.Behaviour.{Behaviour}
use Rattle.rm_disk.specs.Told.{Told}
use Rattle.rm_protocol.specs.Terms.{Terms}
use Rattle.node_laws.specs.OwnTerms.{AreOwn}
use Rattle.rm_node.specs.Asked.{Asked, Asks, is_connected}
use Rattle.rm_node.specs.Called.{Does, Steps, answer_of}
use Rattle.rm_node.specs.Ends.{Ended, error_end}
use Rattle.rm_node.specs.Keeping.{Keeping, Keeps}
use Rattle.rm_node.specs.Noded.{Noded, Runs, granting}
use Rattle.rm_node.specs.declared.call.Call.{Call}
use Rattle.rm_node.specs.declared.error.NodeError.{NodeError}
use Rattle.rm_node.specs.declared.error.NodeError.TheVariants as node
use Rattle.rm_serve.specs.Steps.{IsUp, LeavesUp, MakesAll, Place, Stays, Step, done, is_received, makes}
use Rattle.rm_serve.specs.Steps.{place_of}
use Rattle.rm_serve.specs.Steps.{rests}
use Rattle.rm_host.specs.Compaction.{failed_end}
use Rattle.rm_host.specs.Ends.{is_of_call, is_refusal, node_end}
use Rattle.rm_host.specs.Finding.{Found}

-- no call
pub no-step : (tells : Bool) (x z : Place) → Stays tells x z → MakesAll tells x z []
no-step tells x z stays terms own = rests x z z [] stays (done z)

-- one call
one-step : (tells : Bool) (x z : Place) (step : Step) → Runs x.node
    → ((terms : Terms) → AreOwn terms → (kept : Keeping) → Keeps x.node.kept kept
    → Does tells (is_received step.asked) x.told z.told x.node z.node
    (answer_of terms x.node step.moment kept step.asked) step.ended)
    → MakesAll tells x z (step ∷ [])
one-step tells x z step runs does terms own = makes x z z step [] runs (does terms own) (done z)

-- a call that ended so was made
pub made : (tells : Bool) (x z : Place) (moment : ℕ) (call : Call) (asked : Asked) (one other : Ended)
    → Asks call asked → is_connected call ≡ is_received asked → one ≡ other
    → Steps tells x.told z.told x.node z.node moment call one
    → MakesAll tells x z (record { moment = moment; asked = asked; ended = other } ∷ [])
made tells x z moment call asked one other asks alike same steps =
    one-step tells x z (record { moment = moment; asked = asked; ended = other }) steps.runs
    (λ terms own kept keeps.
    subst (λ (e : Ended). Does tells (is_received asked) x.told z.told x.node z.node
    (answer_of terms x.node moment kept asked) e) same
    (subst (λ b. Does tells b x.told z.told x.node z.node (answer_of terms x.node moment kept asked) one) alike
    (steps.does terms own kept keeps asked asks)))

-- a call ends so
pub call-of : (e : NodeError) → is_of_call (node_end e) ≡ true
call-of node.Memory = refl
call-of e = refl

-- that of a node that is up
pub ends-so : (e : NodeError) → e ≢ node.Down → error_end e ≡ failed_end (node_end e)
ends-so node.Memory up = refl
ends-so node.Disk up = refl
ends-so node.Down up = absurd (up refl)
ends-so (node.Refused why) up = refl

-- a node that refuses a call is up as before
pub refused-up : (tells : Bool) (x z : Place) (moment : ℕ) (call : Call) (e : NodeError) → IsUp tells x
    → LeavesUp tells z (error_end e) → Steps tells x.told z.told x.node z.node moment call (error_end e)
    → is_refusal (node_end e) ≡ true → IsUp tells z
refused-up tells x z moment call node.Memory up leaves steps refused = absurd cc
refused-up tells x z moment call node.Disk up leaves steps refused = absurd cc
refused-up tells x z moment call node.Down up leaves steps refused = absurd cc
refused-up tells x z moment call (node.Refused why) up leaves steps refused = record {
  up = ap (λ (n : Noded). n.stored.journal.is_down) (steps.rests refl refl).node ∙ up.up;
  ready = leaves.ready;
}

-- a node that was found announces this
pub announces : (tells : Bool) (first : Told) (x : Place) (node : Noded) (before granted : Behaviour)
    → Found tells first before x → node ≡ granting x.node granted → Found tells first granted (place_of x.told node)
announces tells first x node before granted found is =
    subst (λ (n : Noded). Found tells first granted (place_of x.told n)) (sym is)
    (record {
      up = record { up = found.up.up; ready = found.up.ready };
      finds = found.finds;
      looks = found.looks;
      kept = record {
        granted = refl;
        waits = found.kept.waits;
        time = found.kept.time;
        polled = found.kept.polled;
      };
    })
