-- Bytes that sinks and sources hold, where they are known.
use Rattle.std.proofs.Common.{ℕ, ◌+◌, List, ◌++◌, take, drop, Option, None, Some, ap, sym, ◌∙◌, append_assoc}
use Rattle.std.proofs.Math.Seq.{take-add}
use Rattle.std.specs.Io.KnownBytes.{Appends, Consumes}

-- what grew by xs and then by ys grew by both
pub Appends-more : (old mid new : Option (List ℕ)) (xs ys : List ℕ) → Appends old mid xs → Appends mid new ys
    → Appends old new (xs ++ ys)
Appends-more None mid new xs ys h k = tt
Appends-more (Some a) None new xs ys h k = absurd h
Appends-more (Some a) (Some b) None xs ys h k = absurd k
Appends-more (Some a) (Some b) (Some c) xs ys h k = k ∙ (ap (λ l. l ++ ys) h ∙ append_assoc a xs ys)

-- what grew by the first n bytes and then by the first m of the rest grew by the first n + m
pub Appends-take : (old mid new : Option (List ℕ)) (bytes : List ℕ) (n m : ℕ) → Appends old mid (take n bytes)
    → Appends mid new (take m (drop n bytes)) → Appends old new (take (n + m) bytes)
Appends-take old mid new bytes n m h k =
    rw take-add (Appends-more old mid new (take n bytes) (take m (drop n bytes)) h k)

-- what lost xs and then ys lost both
pub Consumes-more : (old mid new : Option (List ℕ)) (xs ys : List ℕ) → Consumes old mid xs → Consumes mid new ys
    → Consumes old new (xs ++ ys)
Consumes-more None mid new xs ys h k = tt
Consumes-more (Some a) None new xs ys h k = absurd h
Consumes-more (Some a) (Some b) None xs ys h k = absurd k
Consumes-more (Some a) (Some b) (Some c) xs ys h k = h ∙ (ap (λ l. xs ++ l) k ∙ sym (append_assoc xs ys c))
