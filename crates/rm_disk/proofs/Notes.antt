-- One more note is one more call.
use Rattle.std.proofs.Common.{◌≡◌, ℕ, ◌≤◌, List, [], ◌∷◌, ◌++◌, length, drop, sum_by, refl, ◌∙◌, ap, arith}
use Rattle.std.proofs.Common.{length-append, length-drop}
use Rattle.std.proofs.lemmas.List.{take-append-le, drop-append-le}
use Rattle.std.proofs.lemmas.List.Sums.{sum_by-cons, sum_by-append}
use Rattle.rm_disk.specs.Call.{Call, Wrote}
use Rattle.rm_disk.specs.Mem.{call_of, used_by, calls_onto, calls_of}
use Rattle.rm_disk.specs.declared.note.Note.{Note}
use Rattle.rm_disk.specs.declared.note.Note.TheVariants.{Write}

-- a call's bytes come first, whatever follows
call_of-append : (note : Note) (bytes more : List ℕ) → used_by note ≤ length bytes
    → call_of note (bytes ++ more) ≡ call_of note bytes
call_of-append (Write at count) bytes more fits = ap (λ (b : List ℕ). Wrote at b) (take-append-le count bytes more fits)
call_of-append _ bytes more fits = refl

calls_onto-push : (past : List Call) (notes : List Note) (bytes : List ℕ) (note : Note) (more : List ℕ)
    → sum_by used_by notes ≡ length bytes → calls_onto past (notes ++ note ∷ []) (bytes ++ more)
    ≡ call_of note more ∷ calls_onto past notes bytes
calls_onto-push past [] [] note more used = refl
calls_onto-push past [] (b ∷ bytes) note more used = absurd (omega (arith, used))
calls_onto-push past (n ∷ notes) bytes note more used =
    let total = sum_by-cons used_by n notes in
    let fits : used_by n ≤ length bytes = omega (arith, total, used) in
    let rest : sum_by used_by notes ≡ length (drop (used_by n) bytes) =
    omega (arith, total, used, length-drop (used_by n) bytes) in
    ap (λ (call : Call). calls_onto (call ∷ past) (notes ++ note ∷ []) (drop (used_by n) (bytes ++ more)))
    (call_of-append n bytes more fits)
    ∙ ap (λ (left : List ℕ). calls_onto (call_of n bytes ∷ past) (notes ++ note ∷ []) left)
    (drop-append-le (used_by n) bytes more fits)
    ∙ calls_onto-push (call_of n bytes ∷ past) notes (drop (used_by n) bytes) note more rest

pub calls_of-push : (notes : List Note) (bytes : List ℕ) (note : Note) (more : List ℕ)
    → sum_by used_by notes ≡ length bytes → calls_of (notes ++ note ∷ []) (bytes ++ more)
    ≡ call_of note more ∷ calls_of notes bytes
calls_of-push = calls_onto-push []

-- and as many bytes more
pub used-push : (notes : List Note) (bytes : List ℕ) (note : Note) (more : List ℕ)
    → sum_by used_by notes ≡ length bytes → used_by note ≡ length more
    → sum_by used_by (notes ++ note ∷ []) ≡ length (bytes ++ more)
used-push notes bytes note more used fits =
    omega (
      arith,
      sum_by-append used_by notes (note ∷ []),
      sum_by-cons used_by note [],
      used,
      fits,
      length-append bytes more,
    )
