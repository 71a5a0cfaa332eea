-- What a pair of nodes tells of the sequences between the two.
use Rattle.std.proofs.Common.{◌≡◌, ℕ, ◌+◌, ◌*◌, ◌/◌, ◌%◌, ◌<◌, ◌≤◌, ◌^◌, List, [], ◌∷◌, refl, sym, ap, ◌∙◌, arith}
use Rattle.std.proofs.Common.{subst, zero, suc, inl, All, Option, Some, unwrap_or}
use Rattle.std.specs.Int.{w128, to_be_bytes, from_be_bytes, byte_at, bytes_high_first}
use Rattle.uuid.specs.Text.{lower, parsed}
use Rattle.uuid.proofs.OrderLemmas.{from_be_bytes-to_be_bytes_16}
use Rattle.uuid.proofs.RoundTrips.{parses_urn}
use Rattle.rm_message.specs.declared.message.Message.{Message}
use Rattle.rm_base.specs.Limits.{journal_bytes}
use Rattle.record_batch.specs.Fact.{Fact, Made}
use Rattle.record_batch.specs.Sequences.Words.{Text}
use Rattle.record_batch.specs.Sequences.Idents.{issue, lower_half, upper_half}
use Rattle.record_batch.specs.Sequences.Makers.{counter}
use Rattle.record_batch.specs.Sequences.Sources.{accepted}
use Rattle.record_batch.specs.Sequences.Destinations.{behaviour, received, told}
use Rattle.rm_protocol.specs.Next.{HasNumbers}
use Rattle.rm_protocol.specs.Node.{node_end}
use Rattle.rm_protocol.specs.Pair.{APairTells, IsBetweenThem, IsMade, IsPairNode, IssuedByOne, MadeAreAPair}
use Rattle.rm_protocol.specs.Pair.{PairsTurn, TellsOf}
use Rattle.rm_protocol.specs.Sound.{Agree, IsWith, Says}
use Rattle.rm_protocol.specs.Terms.{Terms}
use Rattle.rm_protocol.proofs.Adds.{Agree-swap}
use Rattle.rm_protocol.proofs.Kept.{Keeps-made}
use Rattle.rm_protocol.proofs.HeadlineLemmas.{IsBetween, IsSmall, created-one, drawn-small, inbox_of-prefix, items}
use Rattle.rm_protocol.proofs.CallLemmas.{asked-issued}
use Rattle.rm_protocol.proofs.PairLemmas.{said-numbers}
use Rattle.rm_protocol.specs.World.{made}
use Rattle.rm_protocol.proofs.RunLemmas.{owns-made, room-bound, small-counter}

between : (a b : List Fact) (s : ℕ) → IsBetweenThem a b s → IsBetween a b s
between a b s h = record {
  is = λ m e. let same : h.maker_ ≡ m = cc (h.there, e) in subst (IsWith b) same h.with_;
}

tells-of : (n m : ℕ) (a b : List Fact) → Agree n m a b → IsSmall n a → IsSmall m b
    → ((k : Message) → Says a k → HasNumbers k) → TellsOf a b
tells-of n m a b h own small numbered = record {
  prefix = λ s t k w ordered. inbox_of-prefix (behaviour b t) (told b t) (received b t) (accepted a s) ordered
      (items n m a b s t k.ident k.message_id h (between b a t w) k.outgoing k.incoming);
  granted = λ s q o w.
      let made = created-one a b a 0 s q (between a b s w)
      (λ i m x. let z : 0 + i ≡ i = omega arith in rw z x) h.justified o.is in
      let k = made.1.incoming in
      record { drawn = k.counter; bits = drawn-small m b made.1.seq q made.0 k h.others small; is = k.is };
  numbers = numbered;
  asked = λ s t k. asked-issued n a s t (record { owns = h.owns; few = own.counter }) k;
  received_ = λ s q t k. record { drawn = k.counter; bits = drawn-small n a s q t k h.owns own; is = k.is };
}

pub a-pair-turns : PairsTurn
a-pair-turns terms n m x y xs ys h = record {
  numbers = (h.numbers.1, h.numbers.0, λ e. h.numbers.2 (sym e));
  agree = Agree-swap n m x.whole y.whole h.agree;
  one = h.two;
  two = h.one;
}

pub a-pair-tells : APairTells
a-pair-tells terms n m x y xs ys h = (
  tells-of n m x.whole y.whole h.agree one two (λ k s. said-numbers terms x y.whole xs k h.one s),
  tells-of m n y.whole x.whole (Agree-swap n m x.whole y.whole h.agree) two one
      (λ k s. said-numbers terms y x.whole ys k h.two s),
)
  where
    one : IsSmall n x.whole
    one = record {
      node = h.numbers.0;
      counter = small-counter (counter x.whole) (node_end terms x) h.one.bounded.below h.one.bounded.store;
    }

    two : IsSmall m y.whole
    two = record {
      node = h.numbers.1;
      counter = small-counter (counter y.whole) (node_end terms y) h.two.bounded.below h.two.bounded.store;
    }

-- ---- an identifier tells its node

mod-small : (x : ℕ) → x % 256 < 256
mod-small x = omega arith

byte-small : (i n : ℕ) → byte_at i n < 256
byte-small zero n = mod-small n
byte-small (suc i) n = mod-small (n / 256 ^ suc i)

bytes-small : (k n : ℕ) → All (λ b. b < 256) (bytes_high_first k n)
bytes-small zero n i d h = absurd (omega arith)
bytes-small (suc k) n zero d h = byte-small k n
bytes-small (suc k) n (suc i) d h = bytes-small k n i d (omega arith)

-- an identifier is read back
parsed-issue : (node c : ℕ)
    → Some (to_be_bytes w128 (upper_half node * 2 ^ 64 + lower_half c)) ≡ parsed (issue node c)
unfolding issue
parsed-issue node c =
    parses_urn lower (to_be_bytes w128 (upper_half node * 2 ^ 64 + lower_half c)) (inl refl) refl (bytes-small 16 _)

-- the number that stands in an identifier
whole-number : (node c : ℕ) (q : Text) → node < 2 ^ 60 → c < 2 ^ 62 → q ≡ issue node c
    → from_be_bytes w128 (unwrap_or (parsed q) []) ≡ upper_half node * 2 ^ 64 + lower_half c
whole-number node c q hn hc e =
    ap (λ (o : Option (List ℕ)). from_be_bytes w128 (unwrap_or o [])) (ap parsed e ∙ sym (parsed-issue node c))
    ∙ from_be_bytes-to_be_bytes_16 (upper_half node * 2 ^ 64 + lower_half c) (omega arith)

same-upper : (u v c d : ℕ) → c < 2 ^ 62 → d < 2 ^ 62 → u * 2 ^ 64 + lower_half c ≡ v * 2 ^ 64 + lower_half d → u ≡ v
same-upper u v c d hc hd e = omega arith

same-node : (n m : ℕ) → upper_half n ≡ upper_half m → n ≡ m
same-node n m e = omega arith

pub issued-by-one : IssuedByOne
issued-by-one n m t hn hm h k =
    same-node n m (same-upper (upper_half n) (upper_half m) h.drawn k.drawn h.bits k.bits
    (sym (whole-number n h.drawn t hn h.bits h.is) ∙ whole-number m k.drawn t hm k.bits k.is))

-- ---- two nodes that were just made

made-node : (terms : Terms) (n : ℕ) (at : Text) (b : List Fact) → IsMade terms n at
    → IsPairNode terms (made n at) b []
made-node terms n at b h =
    let fits : 25 + 6 + terms.size (Made n at ∷ []) ≤ journal_bytes = room-bound terms 25 (Made n at) [] h.room in
    record {
      goes_on = tt;
      stands = record { kept = Keeps-made n at; proper = (tt, tt); fit = h.fit };
      bounded = record { below = omega arith; store = omega arith };
      numbered = (tt, tt);
      waits = tt;
      parked = tt;
      says = tt;
    }

pub made-pair : MadeAreAPair
made-pair terms n m one two apart h k = record {
  numbers = (h.number_, k.number_, apart);
  agree = record {
    owns = owns-made n one;
    others = owns-made m two;
    justified = (tt, tt);
    others_justified = (tt, tt);
  };
  one = made-node terms n one (Made m two ∷ []) h;
  two = made-node terms m two (Made n one ∷ []) k;
}
