use Rattle.std.proofs.Common.{sym, subst, ◌≡◌, max, arith, ℕ, ap, ◌∙◌, option_map}
use Rattle.std.specs.Prelude.{slice_get}
use Rattle.timers.specs.Slots.Waits as plain
use Rattle.timers.specs.Keys.Keyed.{Keyed, StandsFor}
use Rattle.timers.proofs.KeysLemmas.KeptLemmas.{due-key}
use Rattle.timers.proofs.keys.timers.KeyTimers.due.Goals as goal

pub returns : goal.returns
returns c waits st =
    let s = c.self.inside in
    let early = c.self.invariant.early in
    let seen = subst (λ (k : Keyed). StandsFor k waits) (sym c.self.view_is) st in
    let now : max s.timers.time c.max.result ≡ max s.time c.args.now =
    let m = c.max.ensures in omega arith in
    let time : max s.timers.time c.max.result ≡ max c.args.self.now.time c.args.now =
    now ∙ ap (λ (k : Keyed). max k.time c.args.now) c.self.view_is in
    due-key (max c.args.self.now.time c.args.now) c.args.k waits seen.entries c.nth_due.result seen.are
    (subst (λ (t : ℕ). c.nth_due.result ≡ option_map (λ e. e.key) (slice_get (plain.due_at t seen.entries) c.args.k))
    time (c.nth_due.ensures seen.entries seen.stands))
