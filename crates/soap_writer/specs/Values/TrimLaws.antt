-- Laws: what trimming does to bytes with white space at their ends, and to bytes without.
use Rattle.std.proofs.Common.{◌≡◌, ℕ, ◌+◌, ◌-◌, ◌≤◌, ◌<◌, true, false, List, [], ◌∷◌, ◌++◌, length, get_or, take}
use Rattle.std.proofs.Common.{drop, suc, refl, ap, sym, ◌∙◌, arith}
use Rattle.std.proofs.lemmas.List.{take_more, take-append-drop}
use Rattle.std.proofs.Math.ListN.{drop_of_length-le}
use Rattle.std.proofs.Math.Seq.{drop-cons}
use Rattle.xml_chars.specs.Classes.{is_space}
use Rattle.soap_lex.specs.Tests.{is_nil}
use Rattle.soap_writer.specs.Values.Values.{trimmed_start, trimmed_end, trimmed}

last_taken : (bs : List ℕ) (n : ℕ) → 0 < n → n ≤ length bs → take n bs ≡ take (n - 1) bs ++ get_or bs (n - 1) 0 ∷ []
last_taken bs n some within =
    let m = n - 1 in
    let is : n ≡ m + 1 = omega (arith, some) in
    ap (λ k. take k bs) is ∙ take_more bs m 0 (omega (arith, some, within))

nil-behind : (bs : List ℕ) (b : ℕ) → is_nil (bs ++ b ∷ []) ≡ false
nil-behind [] b = refl
nil-behind (c ∷ bs) b = refl

pub trimmed_end-space : (bs : List ℕ) (b : ℕ) → is_space b ≡ true → trimmed_end (bs ++ b ∷ []) ≡ trimmed_end bs
trimmed_end-space [] b e = rw e refl
trimmed_end-space (c ∷ bs) b e = rw (trimmed_end-space bs b e) refl

pub trimmed_end-other : (bs : List ℕ) (b : ℕ) → is_space b ≡ false → trimmed_end (bs ++ b ∷ []) ≡ bs ++ b ∷ []
trimmed_end-other [] b e = rw e refl
trimmed_end-other (c ∷ bs) b e = rw (trimmed_end-other bs b e, nil-behind bs b) refl

pub end_goes_on : (bs : List ℕ) (n : ℕ) → 0 < n → n ≤ length bs → is_space (get_or bs (n - 1) 0) ≡ true
    → trimmed_end (take (n - 1) bs) ≡ trimmed_end (take n bs)
end_goes_on bs n some within space =
    let cut : take n bs ≡ take (n - 1) bs ++ get_or bs (n - 1) 0 ∷ [] = last_taken bs n some within in
    sym (ap trimmed_end cut ∙ trimmed_end-space (take (n - 1) bs) (get_or bs (n - 1) 0) space)

pub end_done : (bs : List ℕ) (n : ℕ) → 0 < n → n ≤ length bs → is_space (get_or bs (n - 1) 0) ≡ false
    → take n bs ≡ trimmed_end (take n bs)
end_done bs n some within other =
    let cut : take n bs ≡ take (n - 1) bs ++ get_or bs (n - 1) 0 ∷ [] = last_taken bs n some within in
    cut ∙ sym (ap trimmed_end cut ∙ trimmed_end-other (take (n - 1) bs) (get_or bs (n - 1) 0) other)

pub end_empty : (bs : List ℕ) (n : ℕ) → n ≡ 0 → take n bs ≡ trimmed_end (take n bs)
end_empty bs n e = rw e refl

-- ---- bytes that have none

drop_past : (bs : List ℕ) (n : ℕ) → length bs ≤ n → drop n bs ≡ []
drop_past bs n h = drop_of_length-le bs h

-- the bytes are those before the last, and it
split_last : (bs : List ℕ) → 0 < length bs → bs ≡ take (length bs - 1) bs ++ get_or bs (length bs - 1) 0 ∷ []
split_last bs some =
    let n = length bs - 1 in
    let rest : drop n bs ≡ get_or bs n 0 ∷ drop (suc n) bs = drop-cons bs n 0 (omega (arith, some)) in
    let none_left : drop (suc n) bs ≡ [] = drop_past bs (suc n) (omega (arith, some)) in
    sym (take-append-drop n bs) ∙ ap (λ l. take n bs ++ l) (rest ∙ ap (λ l. get_or bs n 0 ∷ l) none_left)

end_same : (bs : List ℕ) → 0 < length bs → is_space (get_or bs (length bs - 1) 0) ≡ false → trimmed_end bs ≡ bs
end_same bs some e =
    let last = get_or bs (length bs - 1) 0 in
    let front = take (length bs - 1) bs in
    ap trimmed_end (split_last bs some) ∙ trimmed_end-other front last e ∙ sym (split_last bs some)

start_same : (bs : List ℕ) → is_space (get_or bs 0 0) ≡ false → trimmed_start bs ≡ bs
start_same [] e = refl
start_same (b ∷ bs) e = rw e refl

pub trimmed_same : (bs : List ℕ) → 0 < length bs → is_space (get_or bs 0 0) ≡ false
    → is_space (get_or bs (length bs - 1) 0) ≡ false → trimmed bs ≡ bs
trimmed_same bs some starts ends = ap trimmed_end (start_same bs starts) ∙ end_same bs some ends
