-- What the records say of each sequence, after one more record.
use Rattle.std.proofs.Common.{◌≡◌, ℕ, ◌+◌, ◌<◌, ◌≤◌, true, List, []}
use Rattle.std.proofs.Common.{◌∷◌, ◌++◌, length, map, refl, ap, ◌∙◌, arith, Option, Some, None}
use Rattle.std.specs.Option.{option_or}
use Rattle.std.proofs.lemmas.Bool.{eq-eqb}
use Rattle.rm_base.specs.declared.message.Behaviour.{Behaviour}
use Rattle.record_batch.specs.Fact.{Fact, Creating, Granted}
use Rattle.record_batch.specs.Sequences.Makers.{Maker, makers, makers_of, created_of, ident_in}
use Rattle.record_batch.specs.Sequences.Sources.{out_ident, first_phase, tickets}
use Rattle.record_batch.specs.Sequences.Fits.{fits, all_fit}
use Rattle.record_batch.specs.Sequences.Told.{Sends, Receives, Told, last_onto, names, sending, receiving, told_by}
use Rattle.record_batch.specs.Sequences.Told.{after}
use Rattle.record_batch.specs.Sequences.Told.{begun, told_from, told_all, each_after}
use Rattle.record_batch.specs.Sequences.GatherLemmas.{flat_map-more}
use Rattle.record_batch.specs.Sequences.PhaseLemmas.{out_ident-more}
use Rattle.record_batch.specs.Sequences.NameLemmas.{NamesUpTo, names-fit, names-more, unnamed_ident}
use Rattle.record_batch.specs.Sequences.ToldLemmas.{sending_with, receiving_with, same_told, told-more}
use Rattle.record_batch.specs.Sequences.ToldLemmas.{sending-unnamed, receiving-unnamed, tickets-unnamed}

told_from-more : (r : List Fact) (f : Fact) (k : ℕ) (ms : List Maker) → k + length ms ≤ length (makers r)
    → fits r f ≡ true → told_from (r ++ f ∷ []) k ms ≡ each_after k (told_from r k ms) f
told_from-more r f k [] le fit = refl
told_from-more r f k (m ∷ ms) le fit =
    let one : told_by (r ++ f ∷ []) (k + 1) m ≡ after (k + 1) (told_by r (k + 1) m) f =
    told-more r f (k + 1) m (omega (arith, le)) fit in
    let rest : told_from (r ++ f ∷ []) (k + 1) ms ≡ each_after (k + 1) (told_from r (k + 1) ms) f =
    told_from-more r f (k + 1) ms (omega (arith, le)) fit in
    ap (λ t. t ∷ told_from (r ++ f ∷ []) (k + 1) ms) one
    ∙ ap (λ ts. after (k + 1) (told_by r (k + 1) m) f ∷ ts) rest

told_from-append : (r : List Fact) (k : ℕ) (ms ns : List Maker)
    → told_from r k (ms ++ ns) ≡ told_from r k ms ++ told_from r (k + length ms) ns
told_from-append r k [] ns = ap (λ n. told_from r n ns) (let e : k ≡ k + 0 = omega arith in e)
told_from-append r k (m ∷ ms) ns =
    let rest = told_from-append r (k + 1) ms ns in
    let at : k + 1 + length ms ≡ k + length (m ∷ ms) = omega arith in
    ap (λ ts. told_by r (k + 1) m ∷ ts) rest
    ∙ ap (λ n. told_by r (k + 1) m ∷ (told_from r (k + 1) ms ++ told_from r n ns)) at

-- the sequences that a record makes were named by no record so far
new_sending : (r : List Fact) (f : Fact) (s : ℕ) → all_fit [] r ≡ true → names f ≡ 0 → length (makers r) < s
    → sending (r ++ f ∷ []) s ≡ sending_with (first_phase (ident_in (created_of (length (makers r)) f) s)) 0 [] []
new_sending r f s fit none lt =
    let up : NamesUpTo (length (makers r)) r = names-fit r fit in
    let up2 : NamesUpTo (length (makers r)) (r ++ f ∷ []) =
    names-more (length (makers r)) r f up (omega (arith, none)) in
    let ident : out_ident r s ≡ None = unnamed_ident (length (makers r)) s 0 r up lt (omega (arith, lt)) in
    sending-unnamed (length (makers r)) s (r ++ f ∷ []) up2 lt
    ∙ ap (λ o. sending_with (first_phase o) 0 [] [])
    (out_ident-more r f s ∙ ap (λ o. option_or o (ident_in (created_of (length (makers r)) f) s)) ident)

new_receiving : (r : List Fact) (f : Fact) (s : ℕ) (b : Behaviour) (d : Option ℕ) → all_fit [] r ≡ true
    → names f ≡ 0 → length (makers r) < s → receiving (r ++ f ∷ []) s b d ≡ receiving_with b d [] [] 0 [] []
new_receiving r f s b d fit none lt =
    receiving-unnamed (length (makers r)) s (r ++ f ∷ []) b d
    (names-more (length (makers r)) r f (names-fit r fit) (omega (arith, none))) lt

new_tickets : (r : List Fact) (f : Fact) (s : ℕ) (t : Option ℕ) → all_fit [] r ≡ true → names f ≡ 0
    → length (makers r) < s → last_onto t (tickets (r ++ f ∷ []) s) ≡ t
new_tickets r f s t fit none lt =
    ap (λ ts. last_onto t ts)
    (tickets-unnamed (length (makers r)) s (r ++ f ∷ [])
    (names-more (length (makers r)) r f (names-fit r fit) (omega (arith, none))) lt)

two : (t t2 u u2 : Told) → t ≡ t2 → u ≡ u2 → t ∷ u ∷ [] ≡ t2 ∷ u2 ∷ []
two t t2 u u2 et eu = ap (λ x. x ∷ u ∷ []) et ∙ ap (λ x. t2 ∷ x ∷ []) eu

new : (r : List Fact) (f : Fact) → all_fit [] r ≡ true
    → told_from (r ++ f ∷ []) (length (makers r)) (makers_of f) ≡ map begun (makers_of f)
new r (Creating ticket to via lapse None) fit =
    let k = length (makers r) in
    let f : Fact = Creating ticket to via lapse None in
    let lt : k < k + 1 = omega arith in
    ap (λ t. t ∷ [])
    (same_told _ _ _ _ (new_tickets r f (k + 1) (Some ticket) fit refl lt)
    (ap (λ x. Sends x) (new_sending r f (k + 1) fit refl lt)))
new r (Creating ticket to via lapse (Some offer)) fit =
    let k = length (makers r) in
    let f : Fact = Creating ticket to via lapse (Some offer) in
    let lt : k < k + 1 = omega arith in
    let lt2 : k < k + 1 + 1 = omega arith in
    let first = same_told _ _ _ _ (new_tickets r f (k + 1) (Some ticket) fit refl lt)
    (ap (λ x. Sends x) (new_sending r f (k + 1) fit refl lt)) in
    let second = same_told _ _ _ _ (new_tickets r f (k + 1 + 1) None fit refl lt2)
    (ap (λ x. Receives x) (new_receiving r f (k + 1 + 1) offer.behaviour None fit refl lt2)) in
    two _ _ _ _ first second
new r (Granted counter message_id acks_to behaviour deadline lapse None) fit =
    let k = length (makers r) in
    let f : Fact = Granted counter message_id acks_to behaviour deadline lapse None in
    let lt : k < k + 1 = omega arith in
    ap (λ t. t ∷ [])
    (same_told _ _ _ _ (new_tickets r f (k + 1) None fit refl lt)
    (ap (λ x. Receives x) (new_receiving r f (k + 1) behaviour deadline fit refl lt)))
new r (Granted counter message_id acks_to behaviour deadline lapse (Some offer)) fit =
    let k = length (makers r) in
    let f : Fact = Granted counter message_id acks_to behaviour deadline lapse (Some offer) in
    let lt : k < k + 1 = omega arith in
    let lt2 : k < k + 1 + 1 = omega arith in
    let at : k + 2 ≡ k + 1 + 1 = omega arith in
    let given : ident_in (created_of k f) (k + 1 + 1) ≡ Some offer.ident =
    rw (eq-eqb (k + 2) (k + 1 + 1) at) refl in
    let first = same_told _ _ _ _ (new_tickets r f (k + 1) None fit refl lt)
    (ap (λ x. Receives x) (new_receiving r f (k + 1) behaviour deadline fit refl lt)) in
    let second = same_told _ _ _ _ (new_tickets r f (k + 1 + 1) None fit refl lt2)
    (ap (λ x. Sends x) (new_sending r f (k + 1 + 1) fit refl lt2
    ∙ ap (λ o. sending_with (first_phase o) 0 [] []) given)) in
    two _ _ _ _ first second
new r _ fit = refl

pub told_all-more : (r : List Fact) (f : Fact) → all_fit [] r ≡ true → fits r f ≡ true
    → told_all (r ++ f ∷ []) ≡ each_after 0 (told_all r) f ++ map begun (makers_of f)
told_all-more r f all fit =
    let count : 0 + length (makers r) ≡ length (makers r) = omega arith in
    ap (λ ms. told_from (r ++ f ∷ []) 0 ms) (flat_map-more makers_of r f)
    ∙ told_from-append (r ++ f ∷ []) 0 (makers r) (makers_of f)
    ∙ ap (λ ts. ts ++ told_from (r ++ f ∷ []) (0 + length (makers r)) (makers_of f))
    (told_from-more r f 0 (makers r) (omega arith) fit)
    ∙ ap (λ n. each_after 0 (told_all r) f ++ told_from (r ++ f ∷ []) n (makers_of f)) count
    ∙ ap (λ ts. each_after 0 (told_all r) f ++ ts) (new r f all)
