-- A round that is fair, after a message was lost.
use Rattle.std.proofs.Common.{◌≡◌, ℕ, zero, suc, ◌+◌, ◌<◌, ◌≤◌, true, [], ◌∷◌, length, refl, arith}
use Rattle.std.proofs.lemmas.Bool.{false≢true}
use Rattle.std.proofs.lemmas.Bool.Decides.{nat_tests}
use Rattle.rm_base.specs.NumberSet.{has_number}
use Rattle.uuid.specs.Text.{by_index}
use Rattle.record_batch.specs.Sequences.Idents.{issue, polled_prefix}
use Rattle.rm_protocol.specs.Addresses.{anonymous, no_address}
use Rattle.rm_protocol.specs.Examples.{example_terms}
use Rattle.rm_protocol.specs.World.{Deliver, One, Tick, Two, run}
use Rattle.rm_arrival.specs.Examples.{a_fair_round, a_quiet_round, with_one_lost}
use Rattle.rm_arrival.specs.Fair.{IsDelivered, IsFair}
use Rattle.rm_arrival.specs.Near.{AreRounds}
use Rattle.rm_arrival.specs.Rounds.{AreQuiet, NoNackWaits}
use Rattle.rm_arrival.proofs.MemberLemmas.{numbered-within}

lost-count : length with_one_lost.packets ≡ 3
unfolding issue by_index anonymous no_address polled_prefix
lost-count = refl

ticked-count : length (run example_terms (Tick One 64000 ∷ Tick Two 64000 ∷ []) with_one_lost).packets ≡ 4
unfolding issue by_index anonymous no_address polled_prefix
ticked-count = refl

answered-count :
    length (run example_terms (Tick One 64000 ∷ Tick Two 64000 ∷ Deliver 4 ∷ []) with_one_lost).packets ≡ 5
unfolding issue by_index anonymous no_address polled_prefix
answered-count = refl

end-count : length (run example_terms a_fair_round with_one_lost).packets ≡ 5
unfolding issue by_index anonymous no_address polled_prefix
end-count = refl

delivered-here : (k : ℕ) → 3 < k → k ≤ 5 → IsDelivered example_terms with_one_lost a_fair_round k
delivered-here zero above le = absurd (omega (arith, above))
delivered-here (suc zero) above le = absurd (omega (arith, above))
delivered-here (suc (suc zero)) above le = absurd (omega (arith, above))
delivered-here (suc (suc (suc zero))) above le = absurd (omega (arith, above))
delivered-here (suc (suc (suc (suc zero)))) above le = record {
  before = Tick One 64000 ∷ Tick Two 64000 ∷ [];
  behind = Deliver 5 ∷ [];
  are = refl;
  there = omega (arith, ticked-count);
}
delivered-here (suc (suc (suc (suc (suc zero))))) above le = record {
  before = Tick One 64000 ∷ Tick Two 64000 ∷ Deliver 4 ∷ [];
  behind = [];
  are = refl;
  there = omega (arith, answered-count);
}
delivered-here (suc (suc (suc (suc (suc (suc k)))))) above le = absurd (omega (arith, le))

pub fair-round : IsFair example_terms with_one_lost a_fair_round
unfolding issue by_index anonymous no_address polled_prefix
fair-round = record {
  one = 64000;
  two = 64000;
  numbers = 4 ∷ 5 ∷ [];
  are = refl;
  delivered = λ k above le. delivered-here k (omega (arith, above, lost-count)) (omega (arith, le, end-count));
  read = λ k p above is. refl;
  kept = (refl, (refl, (refl, (refl, tt))));
  room = (tt, (tt, (tt, (tt, tt))));
}

-- ---- a second one, and both as rounds that bring all

last-count : length (run example_terms a_quiet_round (run example_terms a_fair_round with_one_lost)).packets ≡ 5
unfolding issue by_index anonymous no_address polled_prefix
last-count = refl

none-said : (k : ℕ) → 5 < k → k ≤ 5
    → IsDelivered example_terms (run example_terms a_fair_round with_one_lost) a_quiet_round k
none-said k above le = absurd (omega (arith, above, le))

quiet-round : IsFair example_terms (run example_terms a_fair_round with_one_lost) a_quiet_round
unfolding issue by_index anonymous no_address polled_prefix
quiet-round = record {
  one = 128000;
  two = 128000;
  numbers = [];
  are = refl;
  delivered = λ k above le. none-said k (omega (arith, above, end-count)) (omega (arith, le, last-count));
  read = λ k p above is. refl;
  kept = (refl, (refl, tt));
  room = (tt, (tt, tt));
}

first-time : with_one_lost.one.time ≡ 0
unfolding issue by_index anonymous no_address polled_prefix
first-time = refl

second-time : (run example_terms a_fair_round with_one_lost).one.time ≡ 64000
unfolding issue by_index anonymous no_address polled_prefix
second-time = refl

new-ones : (k : ℕ) → has_number (4 ∷ 5 ∷ []) k ≡ true → 3 < k
new-ones k h = grind (arith, nat_tests, h)

all-new : AreQuiet with_one_lost.packets (4 ∷ 5 ∷ [])
all-new k p has is =
    absurd (let above = new-ones k has in
    let within = numbered-within with_one_lost.packets k p is in omega (arith, above, within, lost-count))

first-late : with_one_lost.one.time + 64000 ≤ 64000
first-late = omega (arith, first-time)

second-late : (run example_terms a_fair_round with_one_lost).one.time + 64000 ≤ 128000
second-late = omega (arith, second-time)

no-others : AreQuiet with_one_lost.packets []
no-others k p has is = absurd (false≢true has)

pub two-rounds : AreRounds example_terms with_one_lost.packets with_one_lost One (a_fair_round ∷ a_quiet_round ∷ [])
unfolding fair-round quiet-round
two-rounds = (
  record { fair = fair-round; quiet = all-new; late = first-late },
  (record { fair = quiet-round; quiet = no-others; late = second-late }, tt),
)

pub none-waits : NoNackWaits with_one_lost
unfolding issue by_index anonymous no_address polled_prefix
none-waits One = tt
none-waits Two = tt
