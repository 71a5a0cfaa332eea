-- Records that are applied one after the other.
use Rattle.std.proofs.Common.{◌≡◌, true, false, List, [], ◌∷◌, ◌++◌, refl, sym, ap, subst, ◌∙◌, append_assoc}
use Rattle.std.specs.Prelude.{◌↔◌, Result, Err}
use Rattle.std.proofs.lemmas.Bool.{and_from, and_parts, false≢true}
use Rattle.std.proofs.lemmas.List.{append-nil}
use Rattle.record_batch.specs.Fact.{Fact}
use Rattle.record_batch.specs.Sequences.Fits.{all_fit, fits}
use Rattle.node_tables.specs.declared.error.TableError.{TableError}
use Rattle.node_tables.specs.declared.error.TableError.TheVariants.{Memory as WantsMemory, Misfit}

-- some first records of the batch are applied, and these are left
pub record Applied (old new batch rest : List Fact) : Type 0 where
  pub applied : List Fact
  pub parts : batch ≡ applied ++ rest
  pub fit : all_fit old applied ≡ true
  pub now : new ≡ old ++ applied

all_fit-more : (r xs : List Fact) (f : Fact) → all_fit r xs ≡ true → fits (r ++ xs) f ≡ true
    → all_fit r (xs ++ f ∷ []) ≡ true
all_fit-more r [] f h e = and_from (fits r f) true (subst (λ rs. fits rs f ≡ true) (append-nil r) e) refl
all_fit-more r (g ∷ xs) f h e =
    let parts = and_parts (fits r g) (all_fit (r ++ g ∷ []) xs) h in
    and_from (fits r g) (all_fit (r ++ g ∷ []) (xs ++ f ∷ [])) parts.0
    (all_fit-more (r ++ g ∷ []) xs f parts.1
    (subst (λ rs. fits rs f ≡ true) (sym (append_assoc r (g ∷ []) xs)) e))

pub applied-more : (old new new2 batch rest : List Fact) (f : Fact) → Applied old new batch (f ∷ rest)
    → fits new f ≡ true → new2 ≡ new ++ f ∷ [] → Applied old new2 batch rest
applied-more old new new2 batch rest f h fit e = record {
  applied = h.applied ++ f ∷ [];
  parts = h.parts ∙ sym (append_assoc h.applied (f ∷ []) rest);
  fit = all_fit-more old h.applied f h.fit (subst (λ rs. fits rs f ≡ true) h.now fit);
  now = e ∙ ap (λ rs. rs ++ f ∷ []) h.now ∙ append_assoc old h.applied (f ∷ []);
}

pub fits-next : (r xs more : List Fact) (f : Fact) → all_fit r (xs ++ f ∷ more) ≡ true → fits (r ++ xs) f ≡ true
fits-next r [] more f h =
    subst (λ rs. fits rs f ≡ true) (sym (append-nil r)) (and_parts (fits r f) (all_fit (r ++ f ∷ []) more) h).0
fits-next r (g ∷ xs) more f h =
    subst (λ rs. fits rs f ≡ true) (append_assoc r (g ∷ []) xs)
    (fits-next (r ++ g ∷ []) xs more f (and_parts (fits r g) (all_fit (r ++ g ∷ []) (xs ++ f ∷ more)) h).1)

-- where all of them fit, the first that is left does
pub applied-next : (old new batch rest : List Fact) (f : Fact) → Applied old new batch (f ∷ rest)
    → all_fit old batch ≡ true → fits new f ≡ true
applied-next old new batch rest f h fit =
    subst (λ rs. fits rs f ≡ true) (sym h.now)
    (fits-next old h.applied rest f (ap (λ xs. all_fit old xs) (sym h.parts) ∙ fit))

-- so there is no error
pub no-error : (new : List Fact) (f : Fact) (result : Result (Unit {0}) TableError) (error : TableError)
    → result ≡ Err error → ¬ (result ≡ Err WantsMemory) → (result ≡ Err Misfit) ↔ (fits new f ≡ false)
    → fits new f ≡ true → ⊥
no-error new f result WantsMemory e ready misfit fit = ready e
no-error new f result Misfit e ready misfit fit = false≢true (sym (misfit.0 e) ∙ fit)
