-- What a script says is within its limits.
use Rattle.std.proofs.Common.{◌≡◌, ℕ, ◌≤◌, Bool, true, false, ◌==◌, ◌&&◌, nat_le, List, refl, sym, arith}
use Rattle.std.proofs.Common.{Option, None, Some, if◌then◌else◌, subst, inl, inr}
use Rattle.std.proofs.lemmas.Bool.{and_parts}
use Rattle.std.proofs.lemmas.Bool.Decides.{nat_tests}
use Rattle.rm_message.specs.Elements.Duration.{duration_in, span_in, lapse_from, at_least_one}
use Rattle.rm_message.specs.Elements.Writable.{IsLapseWritable}
use Rattle.rm_message.specs.declared.elements.duration.Span.{Span}
use Rattle.rm_base.specs.declared.lapse.Lapse.{Lapse}
use Rattle.rm_script.specs.Script.{IsExpiry, Says}
use Rattle.rm_script.specs.Within.{IsWithin}
use Rattle.rm_script.specs.declared.event.Event.{Event}
use Rattle.rm_script.specs.declared.event.Event.TheVariants.{Nothing, Create, Grant, Send, Tick, Deliver, Close, End}
use Rattle.rm_script.specs.declared.event.Event.TheVariants.{Ask, Nack, Poll, Compact, Consume}
use Rattle.rm_script.specs.declared.event.Event.TheVariants.{Arm, Crash, Noise}

-- a duration is at least a millisecond, or none
at_least_one-le : (s : Span) → s.ms ≤ 1000000000000000 → at_least_one s ≤ 1000000000000000
at_least_one-le s h =
    elim ((s.months == 0 && s.ms == 0) && s.is_part) as (λ t. (if t then 1 else s.ms) ≤ 1000000000000000) [
      | true ↦ omega arith
      | false ↦ h
    ]

lapse_from-within : (o : Option Span) (lapse : Lapse) → lapse_from o ≡ Some lapse → IsLapseWritable lapse
lapse_from-within None lapse h = absurd (cc)
lapse_from-within (Some s) lapse h =
    let made : Lapse = record { months = s.months; ms = at_least_one s } in
    let few : Bool = nat_le s.months 100000 in
    let short : Bool = nat_le s.ms 1000000000000000 in
    let found : Bool → Type 0 = λ t. (if t then Some made else None) ≡ Some lapse in
    elim (few && short) as (λ t. (few && short) ≡ t → found t → IsLapseWritable lapse) [
      | true ↦ λ e h.
          let parts = and_parts few short e in
          let months : s.months ≤ 100000 = grind (arith, nat_tests, parts.0) in
          let ms : s.ms ≤ 1000000000000000 = grind (arith, nat_tests, parts.1) in
          let same : made ≡ lapse = cc in
          subst (λ l. IsLapseWritable l) same (record { months = months; ms = at_least_one-le s ms })
      | false ↦ λ e h. absurd (cc)
    ] refl h

duration_in-within : (d : List ℕ) (lapse : Lapse) → duration_in d ≡ Some lapse → IsLapseWritable lapse
unfolding duration_in
duration_in-within d lapse h = lapse_from-within (span_in d) lapse h

expiry-within : (words : List ℕ) (expires : Lapse) → IsExpiry words expires → IsLapseWritable expires
expiry-within words expires (inl h) =
    subst (λ l. IsLapseWritable l) (sym h.1) (record { months = omega arith; ms = omega arith })
expiry-within words expires (inr h) = duration_in-within h.0 expires h.2

-- what a line says is within the limits
pub Says-IsWithin : (line : List ℕ) (event : Event) → Says line event → IsWithin event
Says-IsWithin line Nothing h = tt
Says-IsWithin line (Create side expires polled offer) h =
    let w = h.1 in expiry-within w.expiry expires w.expires_
Says-IsWithin line (Grant side behaviour) h = tt
Says-IsWithin line (Send side seq text) h = ((h.1.0, h.1.1), h.2)
Says-IsWithin line (Tick side now) h = h.1.1
Says-IsWithin line (Deliver packet) h = (h.1.0, h.1.1)
Says-IsWithin line (Close side seq) h = (h.1.0, h.1.1)
Says-IsWithin line (End side seq) h = (h.1.0, h.1.1)
Says-IsWithin line (Ask side seq) h = (h.1.0, h.1.1)
Says-IsWithin line (Nack side seq) h = (h.1.0, h.1.1)
Says-IsWithin line (Poll side) h = tt
Says-IsWithin line (Compact side) h = tt
Says-IsWithin line (Consume side seq upto) h = ((h.2.0, h.2.1), (h.3.0, h.3.1))
Says-IsWithin line (Arm side calls) h = (h.1.0, h.1.1)
Says-IsWithin line (Crash side choice) h = h.1.1
Says-IsWithin line (Noise side bytes) h = h.1
