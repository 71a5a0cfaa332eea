-- A script while it is played: one line more.
use Rattle.std.proofs.Common.{◌≡◌, ◌∙◌, ◌+◌, ℕ, List, ◌∷◌, ◌++◌, length, take, slice_get, append_assoc, append-nil, []}
use Rattle.std.proofs.Common.{Bool, true, false, Option, Some, None, refl, sym, ap, subst, inl, inr}
use Rattle.std.specs.Prelude.{OnOk, Result, Ok, Err}
use Rattle.std.proofs.lemmas.List.{length-map}
use Rattle.std.proofs.Math.Seq.{take-append_seam, take-length}
use Rattle.rm_protocol.specs.Compact.{compacted}
use Rattle.rm_protocol.specs.Node.{Node, armed, fetched_after, mounted, node_end}
use Rattle.rm_protocol.specs.Node.{records}
use Rattle.rm_protocol.specs.Node.{said_after}
use Rattle.rm_protocol.specs.Polls.{poll}
use Rattle.rm_protocol.specs.Said.{sent_of}
use Rattle.rm_protocol.specs.Terms.{Terms}
use Rattle.rm_protocol.specs.World.{Packet, Side, One, Two, World, Event, Create, Grant, Send, Tick, Deliver, Close}
use Rattle.rm_protocol.specs.World.{End, Ask, Nack, Poll, Arm, Crash, Compact, Consume}
use Rattle.rm_protocol.specs.World.{Noise, arrives, calls, happens, node, other, place, received_by, sent, wish_of}
use Rattle.rm_protocol.specs.World.{with_clock}
use Rattle.rm_protocol.specs.World.{with_node}
use Rattle.rm_protocol.specs.Calls.{Answer, consume, create, send, close, end, tick, ask_ack, nack_missing}
use Rattle.rm_protocol.specs.Word.{IsPrefixOf}
use Rattle.rm_base.specs.Numbered.{numbered}
use Rattle.rm_base.specs.declared.failures.Memory.{Memory}
use Rattle.rm_script.specs.Report.Report.{line_text, lines_text}
use Rattle.rm_script.specs.declared.report.line.Line.{Line}
use Rattle.rm_script.specs.declared.report.line.Outcome.{Outcome}
use Rattle.rm_script.specs.declared.event.Event.{Event as Said}
use Rattle.rm_replay.specs.EntryLemmas.{entries_is}
use Rattle.rm_replay.specs.Meaning.{Means, comes_out, report_of, stepped}
use Rattle.rm_replay.specs.Played.{Played, RanShort, beginning, more, none}
use Rattle.rm_replay.specs.Played.{told_on}
use Rattle.rm_replay.specs.Happening.{Happened}
use Rattle.rm_replay.specs.Net.{wire_packet}
use Rattle.rm_replay.specs.Playing.{AllPlayed, LinePlayed, PlaysLine}
use Rattle.rm_replay.specs.Shows.{IsCut, IsLeftOfLine, Scene, Shows}
use Rattle.rm_replay.specs.Tales.{Tells, tale_of}
use Rattle.rm_replay.specs.declared.stage.Nodes.{Nodes}
use Rattle.rm_replay.proofs.EventLemmas.{EachIsLeft, holds_of}
use Rattle.rm_replay.proofs.PutLemmas.{puts_behind}
use Rattle.rm_replay.specs.TaleLemmas.{grew_line, tells_none, tells_then}

-- ---- the report

lines_append : (xs ys : List Line) → lines_text (xs ++ ys) ≡ lines_text xs ++ lines_text ys
lines_append [] ys = refl
lines_append (line ∷ xs) ys =
    ap (λ (rest : List ℕ). line_text line ++ rest) (lines_append xs ys)
    ∙ sym (append_assoc (line_text line) (lines_text xs) (lines_text ys))

-- ---- the first line and one line more

pub played_none : (terms : Terms) (scene : Scene) (nodes : Nodes) (text : List ℕ) → Shows beginning.world scene nodes
    → text ≡ [] → AllPlayed terms [] scene scene nodes text
played_none terms scene nodes text shows empty = record {
  story = beginning;
  played = none;
  shows = shows;
  tell = record { one = tells_none scene.drives.one; two = tells_none scene.drives.two };
  printed = empty;
}

pub played_more : (terms : Terms) (lines : List Said) (line : Said) (number : ℕ) (first old new : Scene)
    (before nodes : Nodes) (text after : List ℕ) (all : AllPlayed terms lines first old before text)
    → number ≡ length lines + 1
    → LinePlayed terms all.story.world number line old new nodes text after
    → AllPlayed terms (lines ++ line ∷ []) first new nodes after
played_more terms lines line number first old new before nodes text after all counted played =
    let s = all.story in
    let w = s.world in
    let added = report_of number (comes_out terms w line played.event) (stepped terms w played.event) in
    record {
      story = told_on terms (length lines + 1) s line played.event;
      played = more lines s line played.event all.played played.means;
      shows = played.shows;
      tell = record {
        one = tells_then s.one (tale_of terms w One line played.event) first.drives.one old.drives.one new.drives.one
            all.tell.one played.one;
        two = tells_then s.two (tale_of terms w Two line played.event) first.drives.two old.drives.two new.drives.two
            all.tell.two played.two;
      };
      printed = played.printed ∙ ap (λ (front : List ℕ). front ++ lines_text added) all.printed
          ∙ sym (lines_append s.report added)
          ∙ ap (λ (n : ℕ). lines_text (s.report
          ++ report_of n (comes_out terms w line played.event) (stepped terms w played.event))) counted;
    }

-- ---- where memory was wanting

get_seam : (lines rest : List Said) (line : Said) → slice_get (lines ++ line ∷ rest) (length lines) ≡ Some line
get_seam [] rest line = refl
get_seam (l ∷ lines) rest line = get_seam lines rest line

-- in a line
pub short_line : (terms : Terms) (script lines rest : List Said) (line : Said) (first old new : Scene)
    (before : Nodes) (text : List ℕ) (all : AllPlayed terms lines first old before text)
    → script ≡ lines ++ line ∷ rest → IsCut terms all.story.world line old new → RanShort terms script first new
short_line terms script lines rest line first old new before text all is cut =
    let front : take (length lines) script ≡ lines =
    ap (take (length lines)) is ∙ take-append_seam lines (line ∷ rest) in
    record {
      count = length lines;
      story = all.story;
      played = subst (λ (front : List Said). Played terms front all.story) (sym front) all.played;
      before = old;
      tell = all.tell;
      left = inr (line, ap (λ (these : List Said). slice_get these (length lines)) is ∙ get_seam lines rest line, cut);
    }

-- behind the last line
pub short_end : EachIsLeft → (terms : Terms) (script : List Said) (first now : Scene) (nodes : Nodes) (text : List ℕ)
    → AllPlayed terms script first now nodes text → RanShort terms script first now
short_end each terms script first now nodes text all = record {
  count = length script;
  story = all.story;
  played = subst (λ (front : List Said). Played terms front all.story) (sym (take-length script)) all.played;
  before = now;
  tell = all.tell;
  left = inl (holds_of each all.story.world now nodes all.shows, refl);
}

calls_grow : (terms : Terms) (w : World) (side : Side) (connected : Bool) (answer : Answer)
    → IsPrefixOf w.packets (calls terms w side connected answer).packets
calls_grow terms w One connected answer =
    puts_behind terms (sent One (fetched_after w.one answer ++ sent_of connected (said_after w.one answer))) w.packets
calls_grow terms w Two connected answer =
    puts_behind terms (sent Two (fetched_after w.two answer ++ sent_of connected (said_after w.two answer))) w.packets

node_grows : (terms : Terms) (w : World) (side : Side) (x : Node) (connected : Bool) (answer : Answer)
    → IsPrefixOf w.packets (calls terms (with_node w side x) side connected answer).packets
node_grows terms w One x connected answer =
    puts_behind terms (sent One (fetched_after x answer ++ sent_of connected (said_after x answer))) w.packets
node_grows terms w Two x connected answer =
    puts_behind terms (sent Two (fetched_after x answer ++ sent_of connected (said_after x answer))) w.packets

still : (w : World) (side : Side) (x : Node) → IsPrefixOf w.packets (with_node w side x).packets
still w One x = ([], sym (append-nil w.packets))
still w Two x = ([], sym (append-nil w.packets))

arrives_grow : (terms : Terms) (w : World) (packet : Option Packet)
    → IsPrefixOf w.packets (arrives terms w packet).packets
arrives_grow terms w None = ([], sym (append-nil w.packets))
arrives_grow terms w (Some p) =
    calls_grow terms w (other p.from) true
    (received_by terms (node w (other p.from)) (terms.read p.message))

-- no packet is taken from the network
packets_grow : (terms : Terms) (w : World) (event : Event) → IsPrefixOf w.packets (happens terms w event).packets
packets_grow terms w (Create side via expires offer) =
    calls_grow terms w side false
    (create terms (records (node w side)) (node_end terms (node w side)) (wish_of w side via expires offer))
packets_grow terms w (Grant side behaviour) = still w side (record (node w side) { granted = behaviour })
packets_grow terms w (Send side seq text) =
    calls_grow terms w side false
    (send terms (records (node w side)) (node_end terms (node w side)) seq text)
packets_grow terms w (Tick side now) =
    node_grows terms w side (with_clock (node w side) now) false
    (tick terms (records (node w side)) (node_end terms (node w side)) now (node w side).time
    (node w side).waits)
packets_grow terms w (Deliver k) = arrives_grow terms w (numbered w.packets k)
packets_grow terms w (Close side seq) =
    calls_grow terms w side false
    (close terms (records (node w side)) (node_end terms (node w side)) seq (node w side).clock)
packets_grow terms w (End side seq) =
    calls_grow terms w side false
    (end terms (records (node w side)) (node_end terms (node w side)) seq)
packets_grow terms w (Ask side seq) = calls_grow terms w side false (ask_ack (records (node w side)) seq)
packets_grow terms w (Nack side seq) =
    calls_grow terms w side false (nack_missing (records (node w side)) seq (node w side).clock)
packets_grow terms w (Poll side) =
    calls_grow terms w side false (poll (records (node w side)) (place w (other side)))
packets_grow terms w (Arm side c) = still w side (record (node w side) { fuse = armed c (node w side).fuse })
packets_grow terms w (Crash side kept) = still w side (mounted (node w side) kept)
packets_grow terms w (Noise side refusal) =
    calls_grow terms w side true (received_by terms (node w side) (Err refusal))
packets_grow terms w (Compact side) = still w side (compacted terms (node w side))
packets_grow terms w (Consume side seq upto) =
    calls_grow terms w side false
    (consume terms (records (node w side)) (node_end terms (node w side)) seq upto)

-- a line was played, and there was no memory for its report
left_played : EachIsLeft → (terms : Terms) (w : World) (line : Said) (event : Option Event) (scene : Scene)
    (nodes : Nodes) → Means line event → Shows (stepped terms w event) scene nodes → IsLeftOfLine terms w line scene
left_played each terms w line None scene nodes means shows = inl (holds_of each w scene nodes shows)
left_played each terms w line (Some event) scene nodes means shows =
    inr (
      event,
      means,
      happens terms w event,
      record {
        one = refl;
        two = refl;
        before = packets_grow terms w event;
        some = ([], sym (append-nil (happens terms w event).packets));
      },
      holds_of each (happens terms w event) scene nodes shows,
    )

pub cut_played : EachIsLeft → (terms : Terms) (w : World) (line : Said) (event : Option Event) (old new : Scene)
    (nodes : Nodes) → Means line event → Shows (stepped terms w event) new nodes
    → Tells (tale_of terms w One line event) old.drives.one new.drives.one
    → Tells (tale_of terms w Two line event) old.drives.two new.drives.two → IsCut terms w line old new
cut_played each terms w line event old new nodes means shows one two = record {
  left = left_played each terms w line event new nodes means shows;
  one = grew_line One line (node (stepped terms w event) One).entries (tale_of terms w One line event) old.drives.one
      new.drives.one refl one;
  two = grew_line Two line (node (stepped terms w event) Two).entries (tale_of terms w Two line event) old.drives.two
      new.drives.two refl two;
}

-- ---- a line and its report

-- a line of the report
abbrev told_line : ℕ → Outcome → ℕ → ℕ → ℕ → List Line
told_line number outcome one two packets = record {
  number = number;
  outcome = outcome;
  entries_one = one;
  entries_two = two;
  packets = packets;
} ∷ []

pub plays_line : EachIsLeft → (terms : Terms) (w : World) (number : ℕ) (line : Said) (old new : Scene) (nodes : Nodes)
    (came : Option Outcome) (outcome : Outcome) (one two packets : ℕ) (before after : List ℕ)
    (result : Result Unit Memory) → Happened terms w line old new nodes came → came ≡ Some outcome
    → one ≡ length nodes.one.node.stored.journal.gates → two ≡ length nodes.two.node.stored.journal.gates
    → packets ≡ length new.packets
    → OnOk result (after ≡ before ++ lines_text (told_line number outcome one two packets))
    → PlaysLine terms w number line old new nodes before after result
plays_line each terms w number line old new nodes came outcome one two packets before after (Ok done) h is e f n put =
    let v = stepped terms w h.event in
    record {
      event = h.event;
      means = h.means;
      shows = h.shows;
      one = h.one;
      two = h.two;
      printed = put ∙ ap (λ (ls : List Line). before ++ lines_text ls)
          (ap (λ (k : ℕ). told_line number outcome k two packets)
          (e ∙ entries_is v.one new.drives.one.disk nodes.one h.shows.stand.one)
          ∙ ap (λ (k : ℕ). told_line number outcome (length v.one.entries) k packets)
          (f ∙ entries_is v.two new.drives.two.disk nodes.two h.shows.stand.two)
          ∙ ap (λ (k : ℕ). told_line number outcome (length v.one.entries) (length v.two.entries) k)
          (n ∙ ap (λ (ps : List (ℕ × List ℕ)). length ps) h.shows.wire ∙ length-map v.packets wire_packet)
          ∙ ap (λ (o : Option Outcome). report_of number o v) (sym is ∙ h.comes));
    }
plays_line each terms w number line old new nodes came outcome one two packets before after (Err memory) h is e f n
    put =
    cut_played each terms w line h.event old new nodes h.means h.shows h.one h.two

-- ---- what both nodes know in the end
