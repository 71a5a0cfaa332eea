-- Lists of one word and of two.
use Rattle.std.proofs.Common.{◌≡◌, ℕ, ◌^◌, ◌≤◌, ◌<◌, List, [], ◌∷◌, length, get_or, sym, ap, arith, codes, decimal}
use Rattle.std.specs.Prelude.{Option, None, Some}
use Rattle.rm_command.specs.Run.{Asks, AsksNothing, IsNamed}
use Rattle.rm_command.specs.declared.command.Command.{Command}
use Rattle.rm_command.specs.declared.command.Command.TheVariants.{Replay, Soak, Check, Policy, Normal, Intersect}

-- the one item of a list of one
pub single : {A : Type 0} (items : List A) (item : A) → 1 ≤ length items → length items < 2
    → item ≡ get_or items 0 item → items ≡ item ∷ []
single [] item some few e = absurd (omega arith)
single (x ∷ []) item some few e = ap (λ y. y ∷ []) (sym e)
single (x ∷ y ∷ items) item some few e = absurd (omega arith)

-- one word asks for the command that it names
pub Asks-one : (words : List (List ℕ)) (word : List ℕ) (command : Option Command) → words ≡ word ∷ []
    → IsNamed word command → Asks words command
Asks-one words word None one named = (
  λ e. let same : word ≡ _ = cc (one, e) in named.0 same,
  λ e. let same : word ≡ _ = cc (one, e) in named.1 same,
  λ e. let same : word ≡ _ = cc (one, e) in named.2 same,
  λ e. let same : word ≡ _ = cc (one, e) in named.3 same,
  λ e. let same : word ≡ _ = cc (one, e) in named.4 same,
  λ asked. cc (one, asked.1.1),
)
Asks-one words word (Some Replay) one named = cc (one, named)
Asks-one words word (Some (Soak n)) one named = absurd named
Asks-one words word (Some Check) one named = cc (one, named)
Asks-one words word (Some Policy) one named = cc (one, named)
Asks-one words word (Some Normal) one named = cc (one, named)
Asks-one words word (Some Intersect) one named = cc (one, named)

-- the items of a list of two
pub two : {A : Type 0} (items : List A) (a b : A) → 2 ≤ length items → length items < 3 → a ≡ get_or items 0 a
    → b ≡ get_or items 1 b → items ≡ a ∷ b ∷ []
two [] a b some few e f = absurd (omega arith)
two (x ∷ []) a b some few e f = absurd (omega arith)
two (x ∷ y ∷ []) a b some few e f = cc
two (x ∷ y ∷ z ∷ items) a b some few e f = absurd (omega arith)

-- two words that are not those of a soak ask for nothing
pub Asks-not_soak : (name number : List ℕ)
    → ((n : ℕ) → n < 2 ^ 60 → name ≡ codes "soak" → number ≡ decimal n → ⊥) → AsksNothing (name ∷ number ∷ [])
Asks-not_soak name number other = (
  λ e. cc (e),
  λ e. cc (e),
  λ e. cc (e),
  λ e. cc (e),
  λ e. cc (e),
  λ asked. other asked.0 asked.1.0 (cc (asked.1.1)) (cc (asked.1.1)),
)
