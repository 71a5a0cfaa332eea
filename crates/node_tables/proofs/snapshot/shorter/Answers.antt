use Rattle.std.proofs.Common.{◌≡◌, ◌∙◌, ℕ, suc, ◌-◌, ◌<◌, Bool, List, ◌++◌, length, map, take, drop, get_or}
use Rattle.std.proofs.Common.{sym, ap, subst, arith}
use Rattle.std.proofs.lemmas.List.{append-nil, drop_all, length-map, take_all}
use Rattle.record_batch.specs.Fact.{Fact, fact_of}
use Rattle.record_batch.specs.Sequences.Told.{Told}
use Rattle.node_tables.specs.Row.Row.{Seen}
use Rattle.node_tables.specs.declared.note.Note.{Note}
use Rattle.node_tables.specs.Kept.{IsShort, tolds}
use Rattle.node_tables.specs.Shorter.{HasRow, IsProperNote, IsPut, IsRecorded, marked}
use Rattle.node_tables.proofs.ShorterLemmas.{IsShortened, has_row, shortened_all, shortened_more}
use Rattle.node_tables.proofs.snapshot.shorter.Goals as goal

-- all of a list is written back
whole : (len : ℕ) (new old : List Bool) → len ≡ length old → length new ≡ length old
    → take len (new ++ drop (length new) old) ≡ new
whole len new old size same =
    ap (λ l. take len (new ++ l)) (drop_all (length new) old (omega (arith, same)))
    ∙ ap (λ l. take len l) (append-nil new)
    ∙ take_all len new (omega (arith, size, same))

step : (kept : List Fact) (rows : List Told) (notes : List Note) → IsRecorded kept rows notes → (k len : ℕ)
    (seen now new : List Bool) (short short2 : List Note) (n : Note) → 0 < k → IsShortened kept rows notes k seen short
    → n ≡ get_or notes (k - 1) n → now ≡ seen → len ≡ length seen → length new ≡ length now → new ≡ marked now n
    → IsPut rows now n short short2 → IsProperNote n
    → IsShortened kept rows notes (k - 1) (take len (new ++ drop (length new) seen)) short2
step kept rows notes all k len seen now new short short2 n some so_far is same size long marks put proper =
    let back : k ≡ suc (k - 1) = omega (arith, some) in
    subst (λ b. IsShortened kept rows notes (k - 1) b short2)
    (sym (whole len new seen size (long ∙ ap length same)))
    (shortened_more kept rows notes all (k - 1) seen new short short2 n (omega (arith, some, so_far.within))
    (subst (λ m. IsShortened kept rows notes m seen short) back so_far) is (marks ∙ ap (λ l. marked l n) same)
    (subst (λ l. IsPut rows l n short short2) same put) proper)

pub put_instead-requires : goal.put_instead-requires
put_instead-requires c =
    let loop = c.loop-k in
    let rows = tolds c.args.rows.now in
    record {
      few = c.requires.few;
      there = subst (λ n. HasRow n c.index-notes-k.result) (length-map c.args.rows.now (λ (r : Seen). r.told))
          (has_row _ rows c.args.notes.now (loop.k - 1) c.index-notes-k.result
          (omega (arith, loop.invariant.within, c.loop-k-test.true)) c.index-notes-k.is c.requires.recorded);
      len = ap length c.deref_mut.ensures.value ∙ loop.invariant.len
          ∙ length-map c.args.rows.now (λ (r : Seen). r.told);
    }

pub loop-k-preserved : goal.loop-k-preserved
loop-k-preserved c =
    let loop = c.loop-k in
    step _ _ _ c.requires.recorded loop.k _ loop.seen.items c.deref_mut.result.now c.put_instead.new.seen
    loop.short.items c.put_instead.new.short.items c.index-notes-k.result c.loop-k-test.true loop.invariant
    c.index-notes-k.is c.deref_mut.ensures.value (sym c.deref_mut.ensures.len ∙ ap length c.deref_mut.ensures.value)
    c.put_instead.ensures.len c.in_ok-put_instead.ensures.marks c.in_ok-put_instead.ensures.put
    c.in_ok-put_instead.ensures.proper

pub returns : goal.returns
returns c =
    let loop = c.loop-k in
    let none : loop.k ≡ 0 = omega (arith, c.loop-k-test.false) in
    let kept = map fact_of c.args._kept.now in
    let rows = tolds c.args.rows.now in
    let notes = c.args.notes.now in
    subst (IsShort kept rows notes) (sym c.reverse.ensures.items)
    (shortened_all c.union_has_both.ensures c.ends_are_right.ensures kept rows notes loop.seen.items loop.short.items
    c.requires.recorded
    (subst (λ k. IsShortened kept rows notes k loop.seen.items loop.short.items) none loop.invariant))
