-- The stacks of spaces after a change at one prefix, and the bindings that they then have.
use Rattle.std.proofs.Common.{◌≡◌, ◌≢◌, ℕ, ◌+◌, ◌-◌, ◌<◌, ◌≤◌, suc, List, [], ◌∷◌, ◌++◌, Bool, true, false, cond}
use Rattle.std.proofs.Common.{IsTrue, Option, Some, IsSome, length, take, drop, get_or, refl, sym, ap, subst, ◌∙◌}
use Rattle.std.proofs.Common.{arith, length-append, drop-cons, if◌then◌else◌, slice_get, Bor, MutBor}
use Rattle.std.proofs.Math.Numerals.{add-one}
use Rattle.std.proofs.Math.Seq.{take-append_seam, get_or-append_seam}
use Rattle.std.proofs.lemmas.List.{append_assoc, drop_all}
use Rattle.std.proofs.lemmas.Option.{slice_get-get_or}
use Rattle.std.proofs.lemmas.Map.Text.{is_eq-slice_cmp}
use Rattle.std.proofs.lemmas.Slice.Eq.{bytes_eq-Decides}
use Rattle.std.specs.BTreeMap.{BTreeMap, get_by, UpdatesBy}
use Rattle.std.specs.Cmp.{eq_by_cmp_equiv}
use Rattle.std.specs.Cmp.Lexicographic.{slice_cmp, nat_list_cmp_total}
use Rattle.std.specs.Map.{lookup, IsKeyTest, AreApart, KeepsOthers}
use Rattle.std.specs.Option.{option_map_or, option_copied, option_copied_mut}
use Rattle.std.specs.Ordering.{is_eq, nat_cmp}
use Rattle.std.specs.declared.cmp.Ordering.{Ordering}
use Rattle.std.specs.Str.{bytes_eq}
use Rattle.std.specs.declared.vec.Vec.{Vec}
use Rattle.std.specs.declared.alloc.Global.{Global}
use Rattle.soap_document.specs.Profile.Items.{Item, decls_among}
use Rattle.soap_document.specs.Profile.Namespaces.{bound}
use Rattle.soap_document.specs.Profile.Scope.{Stacks, stack_at, last_of, stacked, IsStacked}
use Rattle.rm_base.specs.declared.message.Binding.{Binding}
use Rattle.soap_document.specs.Profile.View.{item_view, items_view, decls_view}
use Rattle.soap_document.specs.declared.profile.tree.Item.{Item as CodeItem}
use Rattle.soap_document.specs.declared.profile.tree.Item.TheVariants.{Declaration}
use Rattle.soap_document.proofs.ProfileLemmas.Items.{item_declaration, decls-append}

-- ---- bytes that are equal, or not

same_bytes : (bs cs : List ℕ) → bytes_eq bs cs ≡ true → bs ≡ cs
same_bytes bs cs e = (bytes_eq-Decides bs cs).0 e

pub itself : (bs : List ℕ) → bytes_eq bs bs ≡ true
itself bs = (bytes_eq-Decides bs bs).1 refl

other_key : (bs cs ks : List ℕ) (s : Bool) → bytes_eq cs ks ≡ s → bytes_eq bs cs ≡ false → bytes_eq bs ks ≡ true
    → s ≡ false
other_key bs cs ks false e n y = refl
other_key bs cs ks true e n y =
    let same : bs ≡ cs = same_bytes bs ks y ∙ sym (same_bytes cs ks e) in
    let t : true ≡ false = sym ((bytes_eq-Decides bs cs).1 same) ∙ n in cc

-- ---- a map whose keys are bytes, after a change at one key

abbrev Key : Type 0
Key = Vec ℕ Global

abbrev key_cmp : Key → Key → Ordering
key_cmp x y = slice_cmp nat_cmp x.items y.items

abbrev at_cmp : List ℕ → Key → Ordering
at_cmp bs key = slice_cmp nat_cmp bs key.items

abbrev at : List ℕ → Key → Bool
at bs key = is_eq (slice_cmp nat_cmp bs key.items)

kept : {X : Type 0} (eq : Key → Key → Bool) (test : Key → Bool) (old new : List (Key × X))
    → KeepsOthers eq test old new
    → (other : Key → Bool) → IsKeyTest eq other → AreApart test other → lookup other new ≡ lookup other old
unfolding KeepsOthers
kept eq test old new h = h

apart : (bs cs : List ℕ) → bytes_eq bs cs ≡ false → AreApart (at bs) (at cs)
apart bs cs n key y =
    is_eq-slice_cmp cs key.items ∙ other_key bs cs key.items (bytes_eq cs key.items) refl n (sym (is_eq-slice_cmp
    bs key.items) ∙ y)

changed : {X : Type 0} (bs cs : List ℕ) (m n : BTreeMap (Key) X) (w : Option X)
    → UpdatesBy key_cmp (at_cmp bs) m n w
    → (s : Bool) → bytes_eq bs cs ≡ s
    → lookup (at cs) n.entries ≡ cond s w (lookup (at cs) m.entries)
changed bs cs m n w h true e =
    ap (λ (q : List ℕ). lookup (at q) n.entries) (sym (same_bytes bs cs e)) ∙ h.1
changed bs cs m n w h false e =
    kept _ _ _ _ h.3 (at cs) (λ x y. (eq_by_cmp_equiv nat_list_cmp_total).congr cs x.items y.items) (apart bs cs e)

-- ---- a stack after a change

abbrev Spaces : Type 0
Spaces = Vec (List ℕ) Global

items_or : (s : Bool) (v : Spaces) (o : Option (Spaces))
    → option_map_or (λ (x : Spaces). x.items) (cond s (Some v) o) []
    ≡ (if s then v.items else option_map_or (λ (x : Spaces). x.items) o [])
items_or true v o = refl
items_or false v o = refl

pub stack_after : (bs : List ℕ) (m n : Stacks) (v : Spaces)
    → UpdatesBy key_cmp (at_cmp bs) m n
    (Some v)
    → (cs : List ℕ) → stack_at n cs ≡ (if bytes_eq bs cs then v.items else stack_at m cs)
stack_after bs m n v h cs =
    ap (λ (o : Option (Spaces)). option_map_or (λ (x : Spaces). x.items) o []) (changed bs cs m n
    (Some v) h (bytes_eq bs cs) refl)
    ∙ items_or (bytes_eq bs cs) v (lookup (at cs) m.entries)

grown : (m : Stacks) (bs cs : List ℕ) (s : Bool) (space : List ℕ) (items : List (List ℕ)) → bytes_eq bs cs ≡ s
    → items ≡ stack_at m bs ++ space ∷ []
    → (if s then items else stack_at m cs) ≡ (if s then stack_at m cs ++ space ∷ [] else stack_at m cs)
grown m bs cs true space items e h = h ∙ ap (λ (q : List ℕ). stack_at m q ++ space ∷ []) (same_bytes bs cs e)
grown m bs cs false space items e h = refl

-- what `get_mut` lends
pub stack_found : (bs : List ℕ) (m : Stacks) (r : Option (MutBor Spaces)) (x : MutBor Spaces)
    → option_copied_mut r ≡ get_by (at_cmp bs) m → r ≡ Some x → stack_at m bs ≡ x.now.items
stack_found bs m r x h e =
    ap (λ (o : Option Spaces). option_map_or (λ (v : Spaces). v.items) o []) (sym h ∙ ap option_copied_mut e)

pub is_found : (bs : List ℕ) (m : Stacks) (r : Option (MutBor Spaces)) (x : MutBor Spaces)
    → option_copied_mut r ≡ get_by (at_cmp bs) m → r ≡ Some x → IsSome (get_by (at_cmp bs) m)
is_found bs m r x h e = subst IsSome (sym (ap option_copied_mut e) ∙ h) refl

-- what `get` lends
pub stack_seen : (bs : List ℕ) (m : Stacks) (r : Option (Bor Spaces)) (x : Bor Spaces)
    → option_copied r ≡ get_by (at_cmp bs) m → r ≡ Some x → stack_at m bs ≡ x.now.items
stack_seen bs m r x h e =
    ap (λ (o : Option Spaces). option_map_or (λ (v : Spaces). v.items) o []) (sym h ∙ ap option_copied e)

-- one space more
pub stack_pushed : (bs : List ℕ) (m n : Stacks) (old new : Spaces) (space : List ℕ) → stack_at m bs ≡ old.items
    → UpdatesBy key_cmp (at_cmp bs) m n (Some new)
    → new.items ≡ old.items ++ space ∷ []
    → (cs : List ℕ) → stack_at n cs ≡ (if bytes_eq bs cs then stack_at m cs ++ space ∷ [] else stack_at m cs)
stack_pushed bs m n old new space f h e cs =
    stack_after bs m n new h cs ∙ grown m bs cs (bytes_eq bs cs) space new.items refl (e ∙ ap (λ (xs : List
    (List ℕ)). xs ++ space ∷ []) (sym f))

-- ---- the ends of stacks

pub without_last : (below : List (List ℕ)) (top : List ℕ) → take (length (below ++ top ∷ []) - 1) (below ++ top ∷ [])
    ≡ below
without_last below top =
    ap (λ (n : ℕ). take n (below ++ top ∷ [])) (omega (arith, length-append below (top ∷ [])))
    ∙ take-append_seam below (top ∷ [])

pub last-push : (below : List (List ℕ)) (top : List ℕ) → last_of (below ++ top ∷ []) ≡ Some top
last-push below top =
    ap (slice_get (below ++ top ∷ [])) (omega (arith, length-append below (top ∷ [])))
    ∙ slice_get-get_or (below ++ top ∷ []) (length below) [] (omega (arith, length-append below (top ∷ [])))
    ∙ ap (λ (x : List ℕ). Some x) (get_or-append_seam below top [] [])

-- ---- what a prefix is bound to

last_with : (prefix : List ℕ) (b : Binding) (bindings : List Binding) (s : Bool) → bytes_eq b.prefix prefix ≡ s
    → last_of (stacked prefix bindings) ≡ bound prefix bindings
    → last_of (stacked prefix (b ∷ bindings)) ≡ bound prefix (b ∷ bindings)
last_with prefix b bindings true e h = rw e (last-push (stacked prefix bindings) b.space)
last_with prefix b bindings false e h = rw e h

pub last-stacked : (prefix : List ℕ) (bindings : List Binding) → last_of (stacked prefix bindings)
    ≡ bound prefix bindings
last-stacked prefix [] = refl
last-stacked prefix (b ∷ bindings) = last_with prefix b bindings (bytes_eq b.prefix prefix) refl (last-stacked prefix
    bindings)

-- ---- the declarations among items

drop_at : {A : Type 0} (xs : List A) (i : ℕ) (x : A) → i < length xs → x ≡ get_or xs i x
    → drop i xs ≡ x ∷ drop (i + 1) xs
drop_at xs i x h e = rw add-one (drop-cons xs i x h ∙ ap (λ y. y ∷ drop (suc i) xs) (sym e))

pub declared : (item : CodeItem) (d : Binding) → item ≡ Declaration d → decls_view (item ∷ []) ≡ d ∷ []
declared item d e =
    ap (λ (x : CodeItem). decls_view (x ∷ [])) e
    ∙ ap (λ (x : Item). decls_among (x ∷ [])) (item_declaration d)

pub decls-cons : (item : CodeItem) (items : List CodeItem) (bindings : List Binding)
    → decls_view (item ∷ items) ++ bindings ≡ decls_view (item ∷ []) ++ (decls_view items ++ bindings)
decls-cons item items bindings =
    ap (λ (ds : List Binding). ds ++ bindings) (decls-append (item_view item ∷ []) (items_view items))
    ∙ append_assoc (decls_view (item ∷ [])) (decls_view items) bindings

pub decls_at : (items : List CodeItem) (i : ℕ) (item : CodeItem) (bindings : List Binding)
    → i < length items → item ≡ get_or items i item
    → decls_view (drop i items) ++ bindings
    ≡ decls_view (item ∷ []) ++ (decls_view (drop (i + 1) items) ++ bindings)
decls_at items i item bindings h e =
    ap (λ (xs : List CodeItem). decls_view xs ++ bindings) (drop_at items i item h e)
    ∙ decls-cons item (drop (i + 1) items) bindings

pub decls_past : (items : List CodeItem) (i : ℕ) (bindings : List Binding) → length items ≤ i
    → decls_view (drop i items) ++ bindings ≡ bindings
decls_past items i bindings h = ap (λ (xs : List CodeItem). decls_view xs ++ bindings) (drop_all i items h)

pub none_declared : (ds : List Binding) (declares : Bool) → (ds ≢ [] → IsTrue declares) → declares ≡ false → ds ≡ []
none_declared [] declares h e = refl
none_declared (d ∷ ds) declares h e = let t : declares ≡ true = h (λ some. cc) in cc

-- ---- bindings one less

-- the stack of the prefix, and what is left of it
pub stacked_here : (m : Stacks) (b : Binding) (bindings : List Binding)
    → IsStacked m (b ∷ bindings) → stack_at m b.prefix ≡ stacked b.prefix bindings ++ b.space ∷ []
stacked_here m b bindings h =
    h.each b.prefix ∙ ap (λ (s : Bool). if s then stacked b.prefix bindings ++ b.space ∷ [] else stacked b.prefix
    bindings) (itself b.prefix)

left_at : (m : Stacks) (b : Binding) (bindings : List Binding) (cs : List ℕ) (s : Bool)
    → bytes_eq b.prefix cs ≡ s → IsStacked m (b ∷ bindings)
    → (if s then stacked b.prefix bindings else stack_at m cs) ≡ stacked cs bindings
left_at m b bindings cs true e h = ap (λ (q : List ℕ). stacked q bindings) (same_bytes b.prefix cs e)
left_at m b bindings cs false e h =
    h.each cs ∙ ap (λ (s : Bool). if s then stacked cs bindings ++ b.space ∷ [] else stacked cs bindings) e

pub IsStacked-pop : (m n : Stacks) (b : Binding) (bindings : List Binding)
    → IsStacked m (b ∷ bindings)
    → ((cs : List ℕ) → stack_at n cs ≡ (if bytes_eq b.prefix cs then stacked b.prefix bindings else stack_at m cs))
    → IsStacked n bindings
IsStacked-pop m n b bindings h popped = record {
  each = λ cs. popped cs ∙ left_at m b bindings cs (bytes_eq b.prefix cs) refl h;
}
