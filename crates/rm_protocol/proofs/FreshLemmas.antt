-- A list that is written anew: its records tell what those before it told, and it has room.
use Rattle.std.proofs.Common.{◌≡◌, ℕ, ◌+◌, ◌≤◌, ◌||◌, nat_le, cond, Bool, true, false, List, [], ◌∷◌, ◌++◌, length}
use Rattle.std.proofs.Common.{sym, ap, ◌∙◌, arith, subst, inl, inr}
use Rattle.std.proofs.lemmas.Bool.{and_parts, cases_Bool, leb-true}
use Rattle.rm_base.specs.Limits.{journal_bytes}
use Rattle.record_batch.specs.Fact.{Fact, Acked}
use Rattle.record_batch.specs.Snapshot.FrameLemmas.{same_frame}
use Rattle.record_batch.specs.Snapshot.Same.{HasProper, HaveProper, SnapshotFits, SnapshotIsProper, SnapshotKeepsAll}
use Rattle.record_batch.specs.Snapshot.Snapshot.{snapshot}
use Rattle.record_batch.specs.Sequences.Makers.{counter}
use Rattle.rm_protocol.specs.AloneLemmas.{drawn-alone, records-alone}
use Rattle.rm_protocol.specs.Compact.{fit_as_entries, fits_before, fresh_start, list_size, may_compact}
use Rattle.rm_protocol.specs.Node.{Node, records_in, fresh_entries, end_of, node_end}
use Rattle.rm_protocol.specs.Sound.{Allows, Fresh, HasPlace, Keeps, StandFor}
use Rattle.rm_protocol.specs.Terms.{Terms, AreTerms}

-- a list takes the same bytes wherever it begins
end_of-from : (terms : Terms) (start : ℕ) (entries : List (List Fact))
    → end_of terms start entries ≡ start + end_of terms 0 entries
end_of-from terms start [] = omega arith
end_of-from terms start (batch ∷ entries) = omega (arith, end_of-from terms start entries)

-- each range of a record that may be added has a number
fresh-proper : (r : List Fact) (f : Fact) → Fresh r f → HasProper f
fresh-proper r (Acked seq ranges) h = h
fresh-proper r _ h = tt

pub allows-proper : (a b delta : List Fact) → Allows a b delta → HaveProper delta
allows-proper a b [] h = tt
allows-proper a b (f ∷ delta) h = (fresh-proper a f h.0, allows-proper (a ++ f ∷ []) b delta h.2)

-- what is known of snapshots
pub record SnapshotLaws : Type 0 where
  pub keeps : SnapshotKeepsAll
  pub fits : SnapshotFits
  pub proper : SnapshotIsProper

-- a snapshot stands for what its records stand for
pub snapshot-stands : SnapshotLaws → (r whole : List Fact) → StandFor r whole → StandFor (snapshot r) whole
snapshot-stands laws r whole h = record {
  kept = record { same = laws.keeps r whole h.fit h.proper h.kept.same; live = h.kept.live };
  proper = laws.proper r h.fit h.proper;
  fit = laws.fits r h.fit h.proper;
}

-- so do the entries that are written anew
pub fresh-stands : SnapshotLaws → (entries : List (List Fact)) (whole : List Fact) → StandFor (records_in entries) whole
    → StandFor (records_in (fresh_entries entries)) whole
fresh-stands laws entries whole h = subst (λ r. StandFor r whole) (sym (records-alone (snapshot (records_in entries))))
    (snapshot-stands laws (records_in entries) whole h)

-- there they have room
or_second : (x y : Bool) → (x || y) ≡ true → x ≡ false → y ≡ true
or_second true y h e = absurd (cc)
or_second false y h e = h

pub fresh-HasPlace : (terms : Terms) (x : Node) → may_compact terms x ≡ true → node_end terms x ≤ journal_bytes
    → HasPlace terms x (fresh_start terms x)
fresh-HasPlace terms x may below = elim (cases_Bool (fits_before terms x)) [
  | inl before ↦ subst Ends (sym (ap (λ b. cond b 25 (node_end terms x + 1)) before))
      (omega (
        arith,
        end_of-from terms 25 fresh,
        end_of-from terms x.start x.entries,
        leb-true (25 + list_size terms x) x.start before,
        below,
      ))
  | inr behind ↦ subst Ends (sym (ap (λ b. cond b 25 (node_end terms x + 1)) behind))
      (omega (
        arith,
        end_of-from terms (node_end terms x + 1) fresh,
        leb-true (node_end terms x + 1 + list_size terms x) journal_bytes (or_second _ _ room behind),
      ))
]
  where
    fresh : List (List Fact)
    fresh = fresh_entries x.entries

    Ends : ℕ → Type 0
    Ends start = end_of terms start fresh ≤ journal_bytes

    room : (fits_before terms x || nat_le (node_end terms x + 1 + list_size terms x) journal_bytes) ≡ true
    room = (and_parts (fit_as_entries terms fresh)
        (fits_before terms x || nat_le (node_end terms x + 1 + list_size terms x) journal_bytes) may).1

-- and hold each number that was drawn
pub fresh-below : (terms : Terms) (start : ℕ) (entries : List (List Fact)) (whole : List Fact) → AreTerms terms
    → Keeps (records_in entries) whole → counter whole ≤ end_of terms start (fresh_entries entries)
fresh-below terms start entries whole t k =
    let r = records_in entries in
    let same : counter (snapshot r) ≡ counter whole = ap length ((same_frame r).draws ∙ k.same.frame.draws) in
    subst (λ n. n ≤ end_of terms start (fresh_entries entries)) same (drawn-alone terms t.size start (snapshot r))
