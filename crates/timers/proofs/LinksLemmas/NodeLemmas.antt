-- What the nodes read after each write.
use Rattle.std.proofs.Common.{◌≡◌, ◌≢◌, ℕ, ◌<◌, inl, inr, List, length, set, sym, ap, ◌∙◌, arith, length-set}
use Rattle.std.proofs.lemmas.Bool.{cases_eq}
use Rattle.std.proofs.lemmas.List.{get_or-set_same, get_or-set_other}
use Rattle.timers.specs.declared.links.links.Item.{Item}
use Rattle.timers.specs.declared.links.nodes.Node.{Node}
use Rattle.timers.specs.Links.Nodes.{blank_node, node_at, next_of, prev_of, item_at, with_next, with_prev, tied}
use Rattle.timers.specs.Links.Nodes.{unlinked, linked, Tied}
use Rattle.timers.proofs.LinksLemmas.PathLemmas.{Keeps}

pub at-set_same : (n : List Node) (i : ℕ) (v : Node) → i < length n → node_at (set n i v) i ≡ v
at-set_same n i v h = get_or-set_same n i v blank_node h

pub at-set_other : (n : List Node) (i j : ℕ) (v : Node) → j ≢ i → node_at (set n i v) j ≡ node_at n j
at-set_other n i j v h = get_or-set_other n i j v blank_node h

-- a write of one part leaves the other parts
prev-with_next : (n : List Node) (p q i : ℕ) → p < length n → prev_of (with_next n p q) i ≡ prev_of n i
prev-with_next n p q i h = elim (cases_eq i p) [
  | inl e ↦ rw e (ap (λ v. v.prev) (at-set_same n p (record (node_at n p) { next = q }) h))
  | inr ne ↦ ap (λ v. v.prev) (at-set_other n p i (record (node_at n p) { next = q }) ne)
]

next-with_prev : (n : List Node) (p q i : ℕ) → p < length n → next_of (with_prev n p q) i ≡ next_of n i
next-with_prev n p q i h = elim (cases_eq i p) [
  | inl e ↦ rw e (ap (λ v. v.next) (at-set_same n p (record (node_at n p) { prev = q }) h))
  | inr ne ↦ ap (λ v. v.next) (at-set_other n p i (record (node_at n p) { prev = q }) ne)
]

item-with_next : (n : List Node) (p q i : ℕ) → p < length n → item_at (with_next n p q) i ≡ item_at n i
item-with_next n p q i h = elim (cases_eq i p) [
  | inl e ↦ rw e (ap (λ v. v.item) (at-set_same n p (record (node_at n p) { next = q }) h))
  | inr ne ↦ ap (λ v. v.item) (at-set_other n p i (record (node_at n p) { next = q }) ne)
]

item-with_prev : (n : List Node) (p q i : ℕ) → p < length n → item_at (with_prev n p q) i ≡ item_at n i
item-with_prev n p q i h = elim (cases_eq i p) [
  | inl e ↦ rw e (ap (λ v. v.item) (at-set_same n p (record (node_at n p) { prev = q }) h))
  | inr ne ↦ ap (λ v. v.item) (at-set_other n p i (record (node_at n p) { prev = q }) ne)
]

next-with_next_same : (n : List Node) (p q : ℕ) → p < length n → next_of (with_next n p q) p ≡ q
next-with_next_same n p q h = ap (λ v. v.next) (at-set_same n p (record (node_at n p) { next = q }) h)

next-with_next_other : (n : List Node) (p q i : ℕ) → i ≢ p → next_of (with_next n p q) i ≡ next_of n i
next-with_next_other n p q i ne = ap (λ v. v.next) (at-set_other n p i (record (node_at n p) { next = q }) ne)

prev-with_prev_same : (n : List Node) (p q : ℕ) → p < length n → prev_of (with_prev n p q) p ≡ q
prev-with_prev_same n p q h = ap (λ v. v.prev) (at-set_same n p (record (node_at n p) { prev = q }) h)

prev-with_prev_other : (n : List Node) (p q i : ℕ) → i ≢ p → prev_of (with_prev n p q) i ≡ prev_of n i
prev-with_prev_other n p q i ne = ap (λ v. v.prev) (at-set_other n p i (record (node_at n p) { prev = q }) ne)

length-with_next : (n : List Node) (p q : ℕ) → length (with_next n p q) ≡ length n
length-with_next n p q = length-set n p (record (node_at n p) { next = q })

length-with_prev : (n : List Node) (p q : ℕ) → length (with_prev n p q) ≡ length n
length-with_prev n p q = length-set n p (record (node_at n p) { prev = q })

pub length-unlinked : (n : List Node) (x : ℕ) → length (unlinked n x) ≡ length n
length-unlinked n x =
    length-with_prev (with_next n (prev_of n x) (next_of n x)) (next_of n x) (prev_of n x)
    ∙ length-with_next n (prev_of n x) (next_of n x)

pub length-linked : (n : List Node) (e x : ℕ) (item : Item) → length (linked n e x item) ≡ length n
length-linked n e x item =
    length-set (with_prev (with_next n (prev_of n e) x) e x) x (record { prev = prev_of n e; next = e; item = item })
    ∙ length-with_prev (with_next n (prev_of n e) x) e x
    ∙ length-with_next n (prev_of n e) x

-- the slot has its neighbours, and they are nodes
pub record Between (n : List Node) (x : ℕ) : Type 0 where
  pub prev : prev_of n x < length n
  pub next : next_of n x < length n
  pub from : Tied n (prev_of n x) x
  pub to : Tied n x (next_of n x)

pub item-unlinked : (n : List Node) (x i : ℕ) → Between n x → item_at (unlinked n x) i ≡ item_at n i
item-unlinked n x i b =
    let p = prev_of n x in
    let q = next_of n x in
    let lt : q < length (with_next n p q) = omega (arith, length-with_next n p q, b.next) in
    item-with_prev (with_next n p q) q p i lt ∙ item-with_next n p q i b.prev

pub unlinked-keeps : (n : List Node) (x : ℕ) → Between n x → Keeps n (unlinked n x) x x
unlinked-keeps n x b s t sx tx _ tied =
    let p = prev_of n x in
    let q = next_of n x in
    let lt : q < length (with_next n p q) = omega (arith, length-with_next n p q, b.next) in
    let sp : s ≢ p = λ e. tx (sym tied.0 ∙ ap (next_of n) e ∙ b.from.0) in
    let tq : t ≢ q = λ e. sx (sym tied.1 ∙ ap (prev_of n) e ∙ b.to.1) in (
      next-with_prev (with_next n p q) q p s lt ∙ next-with_next_other n p q s sp ∙ tied.0,
      prev-with_prev_other (with_next n p q) q p t tq ∙ prev-with_next n p q t b.prev ∙ tied.1,
    )

pub unlinked-skips : (n : List Node) (x : ℕ) → Between n x → (s t : ℕ) → Tied n s x → Tied n x t → Tied
    (unlinked n x) s t
unlinked-skips n x b s t from to =
    let p = prev_of n x in
    let q = next_of n x in
    let lt : q < length (with_next n p q) = omega (arith, length-with_next n p q, b.next) in
    let sp : s ≡ p = sym from.1 in
    let tq : t ≡ q = sym to.0 in
    rw (sp, tq) (
      next-with_prev (with_next n p q) q p p lt ∙ next-with_next_same n p q b.prev,
      prev-with_prev_same (with_next n p q) q p lt,
    )

-- the end e has a last one, and x is neither
pub record Behind (n : List Node) (e x : ℕ) : Type 0 where
  pub end : e < length n
  pub at : x < length n
  pub last : prev_of n e < length n
  pub tie : Tied n (prev_of n e) e
  pub not_end : e ≢ x
  pub not_last : prev_of n e ≢ x

pub item-linked_same : (n : List Node) (e x : ℕ) (item : Item) → Behind n e x → item_at (linked n e x item) x ≡ item
item-linked_same n e x item b =
    let l = prev_of n e in
    let lt : x < length (with_prev (with_next n l x) e x) =
    omega (arith, length-with_next n l x, length-with_prev (with_next n l x) e x, b.at) in
    ap (λ v. v.item) (at-set_same (with_prev (with_next n l x) e x) x (record { prev = l; next = e; item = item }) lt)

pub item-linked_other : (n : List Node) (e x : ℕ) (item : Item) (i : ℕ) → Behind n e x → i ≢ x →
    item_at (linked n e x item) i ≡ item_at n i
item-linked_other n e x item i b ne =
    let l = prev_of n e in
    let lt : e < length (with_next n l x) = omega (arith, length-with_next n l x, b.end) in
    ap (λ v. v.item) (at-set_other (with_prev (with_next n l x) e x) x i
    (record { prev = l; next = e; item = item }) ne)
    ∙ item-with_prev (with_next n l x) e x i lt ∙ item-with_next n l x i b.last

pub linked-keeps : (n : List Node) (e x : ℕ) (item : Item) → Behind n e x → Keeps n (linked n e x item) x e
linked-keeps n e x item b s t sx tx te tied =
    let l = prev_of n e in
    let lt : e < length (with_next n l x) = omega (arith, length-with_next n l x, b.end) in
    let sl : s ≢ l = λ same. te (sym tied.0 ∙ ap (next_of n) same ∙ b.tie.0) in
    let v : Node = record { prev = l; next = e; item = item } in (
      ap (λ w. w.next) (at-set_other (with_prev (with_next n l x) e x) x s v sx)
          ∙ next-with_prev (with_next n l x) e x s lt ∙ next-with_next_other n l x s sl ∙ tied.0,
      ap (λ w. w.prev) (at-set_other (with_prev (with_next n l x) e x) x t v tx)
          ∙ prev-with_prev_other (with_next n l x) e x t te ∙ prev-with_next n l x t b.last ∙ tied.1,
    )

pub linked-puts : (n : List Node) (e x : ℕ) (item : Item) → Behind n e x → (s : ℕ) → Tied n s e →
    Tied (linked n e x item) s x × Tied (linked n e x item) x e
linked-puts n e x item b s tie =
    let l = prev_of n e in
    let lt : e < length (with_next n l x) = omega (arith, length-with_next n l x, b.end) in
    let lt2 : x < length (with_prev (with_next n l x) e x) =
    omega (arith, length-with_next n l x, length-with_prev (with_next n l x) e x, b.at) in
    let v : Node = record { prev = l; next = e; item = item } in
    let sl : s ≡ l = sym tie.1 in
    let here = at-set_same (with_prev (with_next n l x) e x) x v lt2 in
    rw sl (
      (
        ap (λ w. w.next) (at-set_other (with_prev (with_next n l x) e x) x l v b.not_last)
            ∙ next-with_prev (with_next n l x) e x l lt ∙ next-with_next_same n l x b.last,
        ap (λ w. w.prev) here,
      ),
      (
        ap (λ w. w.next) here,
        ap (λ w. w.prev) (at-set_other (with_prev (with_next n l x) e x) x e v b.not_end)
            ∙ prev-with_prev_same (with_next n l x) e x lt,
      ),
    )
