use Rattle.std.proofs.Common.{◌≡◌, ◌++◌, List, [], ◌∷◌, map, true, refl, sym, subst, ap, ◌∙◌, Some, None}
use Rattle.std.specs.List.{flat_map}
use Rattle.std.specs.Prelude.{slice_get}
use Rattle.record_batch.specs.declared.record.Record.{Record}
use Rattle.record_batch.specs.Fact.{fact_of}
use Rattle.record_batch.specs.Sequences.Find.{accept_of, accepted_by}
use Rattle.record_batch.specs.Sequences.Fits.{all_fit}
use Rattle.record_batch.specs.Sequences.Words.{at_seq, first_or}
use Rattle.tables_ahead.specs.Known.{all_records, KnownRecords}
use Rattle.tables_ahead.proofs.SideLemmas.{accept-both}
use Rattle.tables_ahead.proofs.known.Known.accepted_by.Goals as goal

some_first : {A : Type 0} (x a : A) (xs : List A) → Some a ≡ slice_get xs 0 → a ≡ first_or x xs
some_first x a [] e = absurd (cc)
some_first x a (y ∷ ys) e = cc

none_first : {A : Type 0} (x : A) (xs : List A) → None ≡ slice_get xs 0 → x ≡ first_or x xs
none_first x [] e = refl
none_first x (y ∷ ys) e = absurd (cc)

pub returns-in-Some : goal.returns-in-Some
returns-in-Some c =
    let r = c.self.inside.tables.now.records in
    let d = map fact_of c.self.inside.batch.items in
    let s = c.args.seq in
    let fit : all_fit r d ≡ true =
    subst (λ (k : KnownRecords). all_fit k.records k.delta ≡ true) (sym c.self.view_is) c.requires in
    some_first (accepted_by r s) _ (at_seq s (flat_map accept_of d))
    (c.in-Some.ensures
    ∙ ap (λ (xs : List Record). slice_get (at_seq s (flat_map accept_of (map fact_of xs))) 0) c.as_slice.ensures.value)
    ∙ sym (accept-both r d s fit) ∙ ap (λ (k : KnownRecords). accepted_by (all_records k) s) c.self.view_is

pub returns-in-None : goal.returns-in-None
returns-in-None c =
    let r = c.self.inside.tables.now.records in
    let d = map fact_of c.self.inside.batch.items in
    let s = c.args.seq in
    let fit : all_fit r d ≡ true =
    subst (λ (k : KnownRecords). all_fit k.records k.delta ≡ true) (sym c.self.view_is) c.requires in
    c.accepted_by.ensures
    ∙ none_first (accepted_by r s) (at_seq s (flat_map accept_of d))
    (c.in-None.ensures
    ∙ ap (λ (xs : List Record). slice_get (at_seq s (flat_map accept_of (map fact_of xs))) 0) c.as_slice.ensures.value)
    ∙ sym (accept-both r d s fit) ∙ ap (λ (k : KnownRecords). accepted_by (all_records k) s) c.self.view_is
