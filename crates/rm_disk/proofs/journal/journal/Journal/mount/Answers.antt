use Rattle.std.proofs.Common.{◌≡◌, ◌∙◌, ℕ, List, ◌∷◌, length, take, refl, sym, ap, subst, arith, inl, inr, Err}
use Rattle.std.proofs.lemmas.List.{take_all}
use Rattle.rm_disk.specs.Call.{Call, Synced, SyncFailed, seen_of}
use Rattle.rm_disk.specs.Journal.Entries.{StandsAt}
use Rattle.rm_disk.specs.Journal.EntryLemmas.{front_of_one, start_is_before}
use Rattle.rm_disk.proofs.JournalLemmas.Crash.{synced_moments, mounted, cut_out}
use Rattle.rm_disk.proofs.JournalLemmas.Places.{gate_within}
use Rattle.rm_disk.specs.declared.journal.error.JournalError.TheVariants.{NotAJournal}
use Rattle.rm_disk.proofs.journal.journal.Journal.mount.Goals as goal

pub returns-in_err-reserve-clause-moments : goal.returns-in_err-reserve-clause-moments
returns-in_err-reserve-clause-moments g c tells =
    synced_moments (g.D.Disk.told c.args.disk.now).past (g.D.Disk.told c.reserve.new.self).past
    (inl (c.in_err-reserve.ensures.past tells))

pub returns-in_err-sync-clause-moments : goal.returns-in_err-sync-clause-moments
returns-in_err-sync-clause-moments g c tells =
    let failed = c.in_err-sync.ensures.past tells
    ∙ ap (λ (l : List Call). SyncFailed ∷ l) (c.in_ok-reserve.ensures.past tells) in
    synced_moments (g.D.Disk.told c.args.disk.now).past (g.D.Disk.told c.sync.new.self).past (inr (inl failed))

pub returns-in_err-len-clause-moments : goal.returns-in_err-len-clause-moments
returns-in_err-len-clause-moments g c tells =
    let synced = c.in_ok-sync.ensures.past tells
    ∙ ap (λ (l : List Call). Synced ∷ l) (c.in_ok-reserve.ensures.past tells) in
    synced_moments (g.D.Disk.told c.args.disk.now).past (g.D.Disk.told c.len.new.self).past
    (inr (inr (c.in_err-len.ensures.past tells ∙ synced)))

pub returns-in_err-bytes-clause-moments : goal.returns-in_err-bytes-clause-moments
returns-in_err-bytes-clause-moments g c tells =
    let synced = c.in_ok-sync.ensures.past tells
    ∙ ap (λ (l : List Call). Synced ∷ l) (c.in_ok-reserve.ensures.past tells) in
    let same = c.read_bytes.ensures.past tells ∙ c.in_ok-len.ensures.past tells ∙ synced in
    synced_moments (g.D.Disk.told c.args.disk.now).past (g.D.Disk.told c.read_bytes.new.disk).past (inr (inr same))

pub returns-in-Ok-clause-moments : goal.returns-in-Ok-clause-moments
returns-in-Ok-clause-moments g c tells =
    let synced = c.in_ok-sync.ensures.past tells
    ∙ ap (λ (l : List Call). Synced ∷ l) (c.in_ok-reserve.ensures.past tells) in
    let same = c.read_bytes.ensures.past tells ∙ c.in_ok-len.ensures.past tells ∙ synced in
    synced_moments (g.D.Disk.told c.args.disk.now).past (g.D.Disk.told c.read_bytes.new.disk).past (inr (inr same))

pub returns-clause-moments : goal.returns-clause-moments
returns-clause-moments g c tells =
    let synced = c.in_ok-sync.ensures.past tells
    ∙ ap (λ (l : List Call). Synced ∷ l) (c.in_ok-reserve.ensures.past tells) in
    let same = c.read_bytes.ensures.past tells ∙ c.in_ok-len.ensures.past tells ∙ synced in
    synced_moments (g.D.Disk.told c.args.disk.now).past (g.D.Disk.told c.read_bytes.new.disk).past (inr (inr same))

pub returns-in_default-clause-moments : goal.returns-in_default-clause-moments
returns-in_default-clause-moments g c tells =
    let synced = c.in_ok-sync.ensures.past tells
    ∙ ap (λ (l : List Call). Synced ∷ l) (c.in_ok-reserve.ensures.past tells) in
    let same = c.read_bytes.ensures.past tells ∙ c.in_ok-len.ensures.past tells ∙ synced in
    synced_moments (g.D.Disk.told c.args.disk.now).past (g.D.Disk.told c.read_bytes.new.disk).past (inr (inr same))

pub returns-in_default-clause-none : goal.returns-in_default-clause-none
returns-in_default-clause-none g c tells none entries stands =
    let old = (g.D.Disk.told c.args.disk.now).past in
    let synced = c.in_ok-sync.ensures.past tells
    ∙ ap (λ (l : List Call). Synced ∷ l) (c.in_ok-reserve.ensures.past tells) in
    let seen : seen_of (g.D.Disk.told c.len.new.self).past ≡ seen_of old = ap seen_of (c.in_ok-len.ensures.past tells
    ∙ synced) in
    let long : c.in_ok-len.len ≡ length (seen_of old) = c.in_ok-len.ensures.gives tells
    ∙ ap (λ (l : List Call). length (seen_of l)) synced in
    let bytes : c.deref.result.now ≡ seen_of old =
    c.deref.ensures.value
    ∙ c.in_ok-bytes.ensures.gives tells
    ∙ ap (λ (l : List ℕ). take c.in_ok-len.len l) seen
    ∙ take_all c.in_ok-len.len (seen_of old) (omega (arith, long)) in
    let has = subst (StandsAt stands.bank entries) (sym bytes) stands.stands in
    let within = gate_within stands.bank entries _ has in
    (rw c.in_default.is at c.bank_of.ensures.none) refl stands.bank has.front (omega (arith, within))

pub returns-clause-none : goal.returns-clause-none
returns-clause-none g c tells none entries stands =
    let old = (g.D.Disk.told c.args.disk.now).past in
    let synced = c.in_ok-sync.ensures.past tells
    ∙ ap (λ (l : List Call). Synced ∷ l) (c.in_ok-reserve.ensures.past tells) in
    let seen : seen_of (g.D.Disk.told c.len.new.self).past ≡ seen_of old = ap seen_of (c.in_ok-len.ensures.past tells
    ∙ synced) in
    let long : c.in_ok-len.len ≡ length (seen_of old) = c.in_ok-len.ensures.gives tells
    ∙ ap (λ (l : List Call). length (seen_of l)) synced in
    let bytes : c.deref.result.now ≡ seen_of old =
    c.deref.ensures.value
    ∙ c.in_ok-bytes.ensures.gives tells
    ∙ ap (λ (l : List ℕ). take c.in_ok-len.len l) seen
    ∙ take_all c.in_ok-len.len (seen_of old) (omega (arith, long)) in
    let has = subst (StandsAt stands.bank entries) (sym bytes) stands.stands in
    let is = c.in-Some.ensures.some in
    let one = front_of_one _ _ _ is has.front in
    let same : c.in-Err.error ≡ NotAJournal = cc in
    c.gates_of.ensures.none (c.in-Err.is ∙ ap (λ e. Err e) same) entries
    (cut_out stands.bank _ entries _ _ one (c.deref-2.ensures.value ∙ sym c.deref.ensures.value) has.ends)

pub returns-in-Ok-clause-fits : goal.returns-in-Ok-clause-fits
returns-in-Ok-clause-fits g c tells =
    let old = (g.D.Disk.told c.args.disk.now).past in
    let synced = c.in_ok-sync.ensures.past tells
    ∙ ap (λ (l : List Call). Synced ∷ l) (c.in_ok-reserve.ensures.past tells) in
    let seen : seen_of (g.D.Disk.told c.len.new.self).past ≡ seen_of old = ap seen_of (c.in_ok-len.ensures.past tells
    ∙ synced) in
    let long : c.in_ok-len.len ≡ length (seen_of old) = c.in_ok-len.ensures.gives tells
    ∙ ap (λ (l : List Call). length (seen_of l)) synced in
    let bytes : c.deref.result.now ≡ seen_of old =
    c.deref.ensures.value
    ∙ c.in_ok-bytes.ensures.gives tells
    ∙ ap (λ (l : List ℕ). take c.in_ok-len.len l) seen
    ∙ take_all c.in_ok-len.len (seen_of old) (omega (arith, long)) in
    let found = c.in-Ok.ensures.stands in
    let now : (g.D.Disk.told c.read_bytes.new.disk).past ≡ Synced ∷ old = c.read_bytes.ensures.past tells
    ∙ c.in_ok-len.ensures.past tells ∙ synced in
    let has = mounted old _ _ found.0 _ _ bytes now c.in-Some.ensures.some
    (c.deref-2.ensures.value ∙ sym c.deref.ensures.value) found.1 in
    (found.0, has.0, record { gates = found.2; images = has.1 })

pub returns-in-Ok-clause-behind : goal.returns-in-Ok-clause-behind
returns-in-Ok-clause-behind g c = let found = c.in-Ok.ensures.stands in start_is_before _ _ found.0 found.2
