-- The calls of the node that commands make.
use Rattle.std.proofs.Common.{◌≡◌, ℕ, ◌<◌, ◌==◌, if◌then◌else◌, Bool, [], ◌∷◌, subst, sym, arith}
use Rattle.std.proofs.lemmas.Bool.{cond-false, cond-true, eq-eqb, ne_eqb}
use Rattle.std.specs.Prelude.{Result, Ok, Err}
use Rattle.rm_node.specs.Asked.{Asked, Asks, is_connected}
use Rattle.rm_node.specs.Called.{Does, Steps, answer_of}
use Rattle.rm_node.specs.Ends.{Ended}
use Rattle.rm_node.specs.declared.call.Call.{Call}
use Rattle.rm_serve.specs.Steps.{MakesAll, Place, is_received}
use Rattle.rm_serve.specs.declared.posting.Posted.{Posted}
use Rattle.rm_host.proofs.RowLemmas.{one-step}
use Rattle.rm_host.specs.declared.end.End.{End}
use Rattle.rm_host.specs.declared.end.End.TheVariants.{LinkFault}

-- a call that ended so was made
pub made : (tells : Bool) (x z : Place) (moment : ℕ) (call : Call) (asked : Asked) (one other : Ended)
    → Asks call asked → is_connected call ≡ is_received asked → one ≡ other
    → Steps tells x.told z.told x.node z.node moment call one
    → MakesAll tells x z (record { moment = moment; asked = asked; ended = other } ∷ [])
made tells x z moment call asked one other asks alike same steps =
    one-step tells x z (record { moment = moment; asked = asked; ended = other }) steps.runs
    (λ terms own kept keeps.
    subst (λ (e : Ended). Does tells (is_received asked) x.told z.told x.node z.node
    (answer_of terms x.node moment kept asked) e) same
    (subst (λ b. Does tells b x.told z.told x.node z.node (answer_of terms x.node moment kept asked) one) alike
    (steps.does terms own kept keeps asked asks)))

-- ---- packets that found no connection

-- how posting ends a command, by their number
abbrev chosen : ℕ → Posted → Result Posted End
chosen n posted = if n == 0 then Ok posted else Err LinkFault

-- there are some
pub some-undialled : (n : ℕ) (posted : Posted) → 0 < n → Err LinkFault ≡ chosen n posted
some-undialled n posted some =
    sym (cond-false (n == 0) (Ok posted) (Err LinkFault) (ne_eqb n 0 (λ (e : n ≡ 0). omega (arith, some, e))))

-- there is none
pub all-dialled : (n : ℕ) (posted : Posted) → n ≡ 0 → Ok posted ≡ chosen n posted
all-dialled n posted none = sym (cond-true (n == 0) (Ok posted) (Err LinkFault) (eq-eqb n 0 none))
