use Rattle.std.proofs.Common.{◌≡◌, ◌∷◌, [], sym, subst}
use Rattle.rm_command.specs.Run.{Asks}
use Rattle.rm_command.proofs.WordLemmas.{single, two, Asks-one}
use Rattle.rm_command.proofs.command.command_of.Goals as goal

pub returns-in-len1 : goal.returns-in-len1
returns-in-len1 c =
    let one : c.args.words.now ≡ c.word-item.result ∷ [] =
    single c.args.words.now c.word-item.result c.in-len1.len_at_least c.in-len1.len_below c.word-item.is in
    Asks-one c.args.words.now c.word-item.result c.command_named.result one
    (rw c.as_slice.ensures at c.command_named.ensures)

pub returns-in-len2 : goal.returns-in-len2
returns-in-len2 c =
    let both : c.args.words.now ≡ c.word-item-then-words-lt3.result ∷ c.number-item.result ∷ [] =
    two c.args.words.now c.word-item-then-words-lt3.result c.number-item.result
    c.in-len2.len_at_least c.in-len2.len_below c.word-item-then-words-lt3.is c.number-item.is in
    subst (λ words. Asks words c.soak_of.result) (sym both)
    (rw (c.as_slice-in-len2.ensures, c.as_slice-in-len2-2.ensures) at c.soak_of.ensures)
