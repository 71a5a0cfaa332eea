-- The terms of a network, and that they meet what the protocol asks of its terms.
use Rattle.std.proofs.Common.{◌≡◌, ◌∙◌, ℕ, ◌+◌, ◌&&◌, nat_le, cond, Bool, true, false, List, ◌∷◌, length, map, refl, []}
use Rattle.std.proofs.Common.{sym, ap, subst, inl, inr}
use Rattle.std.specs.Prelude.{◌⊎◌, Result, Ok, Err}
use Rattle.message_reader.specs.Refusals.{blind}
use Rattle.record_batch.specs.Batch.{made}
use Rattle.record_batch.specs.Fact.{Made}
use Rattle.record_batch.specs.Format.{number32, number64, text}
use Rattle.rm_message.specs.declared.message.Message.{Message}
use Rattle.rm_message.specs.declared.refusal.FaultKind.TheVariants.{TooLong}
use Rattle.rm_message.specs.declared.refusal.Refusal.{Refusal}
use Rattle.rm_protocol.specs.Terms.{AreTerms, Terms}
use Rattle.rm_protocol.specs.World.{AreMade}
use Rattle.node_laws.specs.OwnTerms.{OwnAreTerms, ThereAreOwnTerms}
use Rattle.rm_base.specs.Wire.Wire.{has_room, texts_in}
use Rattle.rm_replay.specs.Net.{AreOfNet, read_as, text_of}
use Rattle.rm_replay.specs.Shows.{address_one, address_two}

-- whether there is room goes by the bytes of the packets
abbrev pub RoomByBytes : Type 0
RoomByBytes =
    (one two : List (ℕ × List ℕ)) (more : ℕ) → texts_in one ≡ texts_in two → has_room one more ≡ has_room two more

-- a message as a packet that goes nowhere
abbrev aimless : Message → ℕ × List ℕ
aimless m = (0, text_of m)

texts_aimless : (before : List Message) → texts_in (map aimless before) ≡ map text_of before
texts_aimless [] = refl
texts_aimless (m ∷ before) = ap (λ (texts : List (List ℕ)). text_of m ∷ texts) (texts_aimless before)

-- there are terms of nodes with a network
pub nets : RoomByBytes → ThereAreOwnTerms → (terms : Terms) × AreOfNet terms
nets room there =
    let own = there (λ before m. has_room (map aimless before) (length (text_of m))) read_as in (
      own.0,
      record {
        own = own.3;
        takes = λ packets before m same. ap (λ takes. takes before m) own.1
            ∙ room (map aimless before) packets (length (text_of m)) (texts_aimless before ∙ sym same);
        read = λ m. ap (λ read. read m) own.2;
      },
    )

read_by : (m : Message) (b : Bool) (result : Result Message Refusal) → result ≡ cond b (Ok m) (Err (blind TooLong))
    → (result ≡ Ok m) ⊎ ((refusal : Refusal) × (result ≡ Err refusal))
read_by m true result e = inl e
read_by m false result e = inr (blind TooLong, e)

-- what is asked of terms
pub are_terms : OwnAreTerms → (terms : Terms) → AreOfNet terms → AreTerms terms
are_terms own terms net =
    own terms net.own (λ m. read_by m (nat_le (length (text_of m)) 2097152) (terms.read m) (net.read m))

-- the records with which two nodes begin fit their journals
pub are_made : (terms : Terms) → AreOfNet terms → AreMade terms address_one address_two
unfolding made number32 number64 text
are_made terms net = record {
  one_ = subst (λ (n : ℕ). (nat_le n 4194304 && nat_le (25 + 6 + n) 268435456) ≡ true)
      (sym (net.own.size (Made 1 address_one ∷ []))) refl;
  two_ = subst (λ (n : ℕ). (nat_le n 4194304 && nat_le (25 + 6 + n) 268435456) ≡ true)
      (sym (net.own.size (Made 2 address_two ∷ []))) refl;
}
