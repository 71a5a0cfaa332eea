-- Paths over nodes that name one another, and what taking a slot out or putting one last does to them.
use Rattle.std.proofs.Common.{◌≢◌, ℕ, List, [], ◌∷◌, ◌++◌, refl, sym, ap, subst, ◌∙◌}
use Rattle.timers.specs.declared.links.nodes.Node.{Node}
use Rattle.timers.specs.Links.Nodes.{next_of, prev_of, Tied, Path, Each, Off, Distinct}

pub Each-map : (P Q : ℕ → Type 0) → ((x : ℕ) → P x → Q x) → (xs : List ℕ) → Each P xs → Each Q xs
Each-map P Q f [] h = tt
Each-map P Q f (x ∷ xs) h = (f x h.0, Each-map P Q f xs h.1)

pub Each-append : (P : ℕ → Type 0) (xs ys : List ℕ) → Each P xs → Each P ys → Each P (xs ++ ys)
Each-append P [] ys h k = k
Each-append P (x ∷ xs) ys h k = (h.0, Each-append P xs ys h.1 k)

pub Each-left : (P : ℕ → Type 0) (xs ys : List ℕ) → Each P (xs ++ ys) → Each P xs
Each-left P [] ys h = tt
Each-left P (x ∷ xs) ys h = (h.0, Each-left P xs ys h.1)

pub Each-right : (P : ℕ → Type 0) (xs ys : List ℕ) → Each P (xs ++ ys) → Each P ys
Each-right P [] ys h = h
Each-right P (x ∷ xs) ys h = Each-right P xs ys h.1

pub Each-drop : (P : ℕ → Type 0) (ys : List ℕ) (x : ℕ) (zs : List ℕ) → Each P (ys ++ x ∷ zs) → P x × Each P (ys ++ zs)
Each-drop P [] x zs h = h
Each-drop P (y ∷ ys) x zs h = let k = Each-drop P ys x zs h.1 in (k.0, (h.0, k.1))

pub Distinct-drop : (ys : List ℕ) (x : ℕ) (zs : List ℕ) → Distinct (ys ++ x ∷ zs) → Distinct (ys ++ zs) × Off x ys
    × Off x zs
Distinct-drop [] x zs d = (d.1, tt, d.0)
Distinct-drop (y ∷ ys) x zs d =
    let rest = Distinct-drop ys x zs d.1 in
    let off = Each-drop (λ z. z ≢ y) ys x zs d.0 in
    ((off.1, rest.0), (λ e. off.0 (sym e), rest.1), rest.2)

pub Distinct-push : (xs : List ℕ) (x : ℕ) → Off x xs → Distinct xs → Distinct (xs ++ x ∷ [])
Distinct-push [] x off d = (tt, tt)
Distinct-push (y ∷ ys) x off d =
    (Each-append (λ z. z ≢ y) ys (x ∷ []) d.0 (λ e. off.0 (sym e), tt), Distinct-push ys x off.1 d.1)

-- ties that meet neither x nor, at their end, e are kept
abbrev pub Keeps : List Node → List Node → ℕ → ℕ → Type 0
Keeps n m x e = (s t : ℕ) → s ≢ x → t ≢ x → t ≢ e → Tied n s t → Tied m s t

pub Path-keep : (n m : List Node) (x e a b : ℕ) (xs : List ℕ) → Keeps n m x e → a ≢ x → Off x xs → Off e xs →
    b ≢ x → b ≢ e → Path n a xs b → Path m a xs b
Path-keep n m x e a b [] keep ax ox oe bx be p = keep a b ax bx be p
Path-keep n m x e a b (y ∷ ys) keep ax ox oe bx be p =
    (keep a y ax ox.0 oe.0 p.0, Path-keep n m x e y b ys keep ox.0 ox.1 oe.1 bx be p.1)

-- x goes in before e
pub Path-push : (n m : List Node) (x e a : ℕ) (xs : List ℕ) → Keeps n m x e →
    ((s : ℕ) → Tied n s e → Tied m s x × Tied m x e) → a ≢ x → Off x xs → Off e xs →
    Path n a xs e → Path m a (xs ++ x ∷ []) e
Path-push n m x e a [] keep push ax ox oe p = push a p
Path-push n m x e a (y ∷ ys) keep push ax ox oe p =
    (keep a y ax ox.0 oe.0 p.0, Path-push n m x e y ys keep push ox.0 ox.1 oe.1 p.1)

-- x goes out
pub Path-drop : (n m : List Node) (x a b : ℕ) (ys zs : List ℕ) → Keeps n m x x →
    ((s t : ℕ) → Tied n s x → Tied n x t → Tied m s t) → a ≢ x → Off x ys → Off x zs → b ≢ x →
    Path n a (ys ++ x ∷ zs) b → Path m a (ys ++ zs) b
Path-drop n m x a b [] [] keep skip ax oy oz bx p = skip a b p.0 p.1
Path-drop n m x a b [] (z ∷ zs) keep skip ax oy oz bx p =
    (skip a z p.0 p.1.0, Path-keep n m x x z b zs keep oz.0 oz.1 oz.1 bx bx p.1.1)
Path-drop n m x a b (y ∷ ys) zs keep skip ax oy oz bx p =
    (keep a y ax oy.0 oy.0 p.0, Path-drop n m x y b ys zs keep skip oy.0 oy.1 oz bx p.1)

-- what stands before the end of a path
pub Path-last : (P : ℕ → Type 0) (n : List Node) (a b : ℕ) (xs : List ℕ) → P a → Each P xs → Path n a xs b →
    P (prev_of n b) × Tied n (prev_of n b) b
Path-last P n a b [] pa each p = (subst P (sym p.1) pa, (ap (next_of n) p.1 ∙ p.0, refl))
Path-last P n a b (y ∷ ys) pa each p = Path-last P n y b ys each.0 each.1 p.1

-- what stands after its beginning
pub Path-first : (P : ℕ → Type 0) (n : List Node) (a b : ℕ) (xs : List ℕ) → P b → Each P xs → Path n a xs b →
    P (next_of n a) × Tied n a (next_of n a)
Path-first P n a b [] pb each p = (subst P (sym p.0) pb, (refl, ap (prev_of n) p.0 ∙ p.1))
Path-first P n a b (y ∷ ys) pb each p = (subst P (sym p.0.0) each.0, (refl, ap (prev_of n) p.0.0 ∙ p.0.1))

pub Path-right : (n : List Node) (a b x : ℕ) (ys zs : List ℕ) → Path n a (ys ++ x ∷ zs) b → Path n a ys x
    × Path n x zs b
Path-right n a b x [] zs p = p
Path-right n a b x (y ∷ ys) zs p = let q = Path-right n y b x ys zs p.1 in ((p.0, q.0), q.1)
