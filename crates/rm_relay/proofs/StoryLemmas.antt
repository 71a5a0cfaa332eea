-- A relay's script while it is played: one line more.
use Rattle.std.proofs.Common.{◌≡◌, ◌∙◌, ◌+◌, ℕ, List, ◌∷◌, ◌++◌, length, take, slice_get, append_assoc, append-nil, []}
use Rattle.std.proofs.Common.{Option, Some, None, refl, sym, ap, subst, inl, inr}
use Rattle.std.specs.Prelude.{OnOk, Result, Ok, Err}
use Rattle.std.proofs.lemmas.List.{length-map}
use Rattle.std.proofs.Math.Seq.{take-append_seam, take-length}
use Rattle.rm_base.specs.Numbered.{numbered}
use Rattle.rm_base.specs.declared.failures.Memory.{Memory}
use Rattle.rm_script.specs.PlaceLemmas.{slice_get-at}
use Rattle.rm_protocol.specs.Pair.{Act, Arms, Closes, Compacts, Consumes, Crashes, Creates, Ends, Receives, Sends}
use Rattle.rm_protocol.specs.Pair.{Ticks}
use Rattle.rm_protocol.specs.Pair.{acted}
use Rattle.rm_protocol.specs.Node.{records}
use Rattle.rm_protocol.specs.Terms.{Terms}
use Rattle.rm_protocol.specs.Word.{IsPrefixOf}
use Rattle.rm_replay.specs.EntryLemmas.{entries_is}
use Rattle.rm_replay.specs.TaleLemmas.{tells_none, tells_then}
use Rattle.rm_relay.specs.Word.Ends.{first_incoming, first_outgoing}
use Rattle.rm_relay.specs.Word.World.{Event, Packet, World, arrives, asker, forwards, happens, moves, moves_two, node}
use Rattle.rm_relay.specs.Word.World.{Create, Send, Forward, Trim, Tick, Deliver, Close, End, Compact, Arm, Crash}
use Rattle.rm_relay.specs.Word.World.{packets_of, trims, wish_of}
use Rattle.rm_relay.specs.declared.word.station.Station.{Station}
use Rattle.rm_relay.specs.declared.word.station.Station.TheVariants.{One, Two, Three}
use Rattle.rm_relay.specs.Happening.{Happened}
use Rattle.rm_relay.specs.Meaning.{Means, comes_out, report_of, stepped}
use Rattle.rm_relay.specs.Played.{IsCut, Played, RanShort, beginning, more, none, tale_of, told_on}
use Rattle.rm_relay.specs.Playing.{AllPlayed, LinePlayed, PlaysLine}
use Rattle.rm_relay.specs.Report.{line_text, lines_text}
use Rattle.rm_relay.specs.Shows.{IsLeftOfLine, Scene, Shows, wire_packet}
use Rattle.rm_relay.specs.declared.event.Event.{Event as Said}
use Rattle.rm_relay.specs.declared.report.Ending.{Ending}
use Rattle.rm_relay.specs.declared.report.Line3.{Line3}
use Rattle.rm_relay.specs.declared.stage.Nodes3.{Nodes3}
use Rattle.rm_relay.proofs.EventLemmas.{EachIsLeft, holds_of}
use Rattle.rm_relay.proofs.MoveLemmas.{puts_behind}
use Rattle.rm_relay.proofs.TaleLemmas.{grew_line}

-- ---- the report

lines_append : (xs ys : List Line3) → lines_text (xs ++ ys) ≡ lines_text xs ++ lines_text ys
lines_append [] ys = refl
lines_append (line ∷ xs) ys =
    ap (λ (rest : List ℕ). line_text line ++ rest) (lines_append xs ys)
    ∙ sym (append_assoc (line_text line) (lines_text xs) (lines_text ys))

-- ---- the first line and one line more

pub played_none : (terms : Terms) (scene : Scene) (nodes : Nodes3) (senders : List Station) (text : List ℕ)
    → Shows beginning.world scene nodes senders → text ≡ [] → AllPlayed terms [] scene scene nodes senders text
played_none terms scene nodes senders text shows empty = record {
  story = beginning;
  played = none;
  shows = shows;
  tell = record {
    one = tells_none scene.drives.one;
    two = tells_none scene.drives.two;
    three = tells_none scene.drives.three;
  };
  printed = empty;
}

pub played_more : (terms : Terms) (lines : List Said) (line : Said) (number : ℕ) (first old new : Scene)
    (before nodes : Nodes3) (senders after : List Station) (text longer : List ℕ)
    (all : AllPlayed terms lines first old before senders text) → number ≡ length lines + 1
    → LinePlayed terms all.story.world number line old new nodes after text longer
    → AllPlayed terms (lines ++ line ∷ []) first new nodes after longer
played_more terms lines line number first old new before nodes senders after text longer all counted played =
    let s = all.story in
    let w = s.world in
    let added = report_of number (comes_out terms w played.event) (stepped terms w played.event) in
    record {
      story = told_on terms (length lines + 1) s line played.event;
      played = more lines s line played.event all.played played.means;
      shows = played.shows;
      tell = record {
        one = tells_then s.one (tale_of terms w One line played.event) first.drives.one old.drives.one new.drives.one
            all.tell.one played.one;
        two = tells_then s.two (tale_of terms w Two line played.event) first.drives.two old.drives.two new.drives.two
            all.tell.two played.two;
        three = tells_then s.three (tale_of terms w Three line played.event) first.drives.three old.drives.three
            new.drives.three all.tell.three played.three;
      };
      printed = played.printed ∙ ap (λ (front : List ℕ). front ++ lines_text added) all.printed
          ∙ sym (lines_append s.report added)
          ∙ ap (λ (n : ℕ). lines_text (s.report
          ++ report_of n (comes_out terms w played.event) (stepped terms w played.event))) counted;
    }

-- ---- where memory was wanting

-- in a line
pub short_line : (terms : Terms) (script lines rest : List Said) (line : Said) (first old new : Scene)
    (before : Nodes3) (senders : List Station) (text : List ℕ)
    (all : AllPlayed terms lines first old before senders text) → script ≡ lines ++ line ∷ rest
    → IsCut terms all.story.world line old new → RanShort terms script first new
short_line terms script lines rest line first old new before senders text all is cut =
    let front : take (length lines) script ≡ lines =
    ap (take (length lines)) is ∙ take-append_seam lines (line ∷ rest) in
    record {
      count = length lines;
      story = all.story;
      played = subst (λ (front : List Said). Played terms front all.story) (sym front) all.played;
      before = old;
      tell = all.tell;
      left = inr (
        line,
        ap (λ (these : List Said). slice_get these (length lines)) is ∙ slice_get-at lines line rest,
        cut,
      );
    }

-- behind the last line
pub short_end : EachIsLeft → (terms : Terms) (script : List Said) (first now : Scene) (nodes : Nodes3)
    (senders : List Station) (text : List ℕ) → AllPlayed terms script first now nodes senders text
    → RanShort terms script first now
short_end each terms script first now nodes senders text all = record {
  count = length script;
  story = all.story;
  played = subst (λ (front : List Said). Played terms front all.story) (sym (take-length script)) all.played;
  before = now;
  tell = all.tell;
  left = inl (holds_of each all.story.world now nodes senders all.shows, refl);
}

-- ---- no packet is taken from the network

moves_grow : (terms : Terms) (w : World) (at : Station) (back : Option Station) (act : Act)
    → IsPrefixOf w.packets (moves terms w at back act).packets
moves_grow terms w at back act = puts_behind terms (packets_of at back (acted terms (node w at) act)) w.packets

two_grow : (terms : Terms) (w : World) (act : Option Act) → IsPrefixOf w.packets (moves_two terms w act).packets
two_grow terms w None = ([], sym (append-nil w.packets))
two_grow terms w (Some act) = moves_grow terms w Two None act

arrives_grow : (terms : Terms) (w : World) (packet : Option Packet)
    → IsPrefixOf w.packets (arrives terms w packet).packets
arrives_grow terms w None = ([], sym (append-nil w.packets))
arrives_grow terms w (Some p) = moves_grow terms w p.to (Some p.from) (Receives (terms.read p.message))

packets_grow : (terms : Terms) (w : World) (event : Event) → IsPrefixOf w.packets (happens terms w event).packets
packets_grow terms w (Create at) = moves_grow terms w (asker at) None (Creates (wish_of at))
packets_grow terms w (Send seq text) = moves_grow terms w One None (Sends seq text)
packets_grow terms w Forward =
    let r = records w.two in two_grow terms w (forwards r (first_incoming r) (first_outgoing r))
packets_grow terms w Trim =
    let r = records w.two in two_grow terms w (trims r (first_incoming r) (first_outgoing r))
packets_grow terms w (Tick at now) = moves_grow terms w at None (Ticks now)
packets_grow terms w (Deliver k) = arrives_grow terms w (numbered w.packets k)
packets_grow terms w (Close at seq) = moves_grow terms w at None (Closes seq)
packets_grow terms w (End at seq) = moves_grow terms w at None (Ends seq)
packets_grow terms w (Compact at) = moves_grow terms w at None Compacts
packets_grow terms w (Arm at calls) = moves_grow terms w at None (Arms calls)
packets_grow terms w (Crash at kept) = moves_grow terms w at None (Crashes kept)

-- a line was played, and there was no memory for its report
left_played : EachIsLeft → (terms : Terms) (w : World) (line : Said) (event : Option Event) (scene : Scene)
    (nodes : Nodes3) (senders : List Station) → Means line event → Shows (stepped terms w event) scene nodes senders
    → IsLeftOfLine terms w line scene
left_played each terms w line None scene nodes senders means shows = inl (holds_of each w scene nodes senders shows)
left_played each terms w line (Some event) scene nodes senders means shows =
    inr (
      event,
      means,
      happens terms w event,
      record {
        one = refl;
        two = refl;
        three = refl;
        before = packets_grow terms w event;
        some = ([], sym (append-nil (happens terms w event).packets));
      },
      holds_of each (happens terms w event) scene nodes senders shows,
    )

cut_played : EachIsLeft → (terms : Terms) (w : World) (line : Said) (old new : Scene) (nodes : Nodes3)
    (senders : List Station) (came : Option Ending) → Happened terms w line old new nodes senders came
    → IsCut terms w line old new
cut_played each terms w line old new nodes senders came h =
    let v = stepped terms w h.event in
    record {
      left = left_played each terms w line h.event new nodes senders h.means h.shows;
      one = grew_line One line (node v One).entries (tale_of terms w One line h.event) old.drives.one new.drives.one
          refl
          h.one;
      two = grew_line Two line (node v Two).entries (tale_of terms w Two line h.event) old.drives.two new.drives.two
          refl
          h.two;
      three = grew_line Three line (node v Three).entries (tale_of terms w Three line h.event) old.drives.three
          new.drives.three refl h.three;
    }

-- ---- a line and its report

-- a line of the report
abbrev pub told_line : ℕ → Ending → ℕ → ℕ → ℕ → ℕ → Line3
told_line number ending one two three packets = record {
  number = number;
  ending = ending;
  entries_one = one;
  entries_two = two;
  entries_three = three;
  packets = packets;
}

pub plays_line : EachIsLeft → (terms : Terms) (w : World) (number : ℕ) (line : Said) (old new : Scene) (nodes : Nodes3)
    (senders : List Station) (came : Option Ending) (ending : Ending) (one two three packets : ℕ)
    (before after : List ℕ) (result : Result Unit Memory) → Happened terms w line old new nodes senders came
    → came ≡ Some ending → one ≡ length nodes.one.node.stored.journal.gates
    → two ≡ length nodes.two.node.stored.journal.gates → three ≡ length nodes.three.node.stored.journal.gates
    → packets ≡ length new.packets
    → OnOk result (after ≡ before ++ line_text (told_line number ending one two three packets))
    → PlaysLine terms w number line old new nodes senders before after result
plays_line each terms w number line old new nodes senders came ending one two three packets before after (Ok done) h is
    a b c n put =
    let v = stepped terms w h.event in
    record {
      event = h.event;
      means = h.means;
      shows = h.shows;
      one = h.one;
      two = h.two;
      three = h.three;
      printed = put
          ∙ ap (λ (t : List ℕ). before ++ t)
          (sym (append-nil (line_text (told_line number ending one two three packets))))
          ∙ ap (λ (ls : List Line3). before ++ lines_text ls)
          (ap (λ (k : ℕ). told_line number ending k two three packets ∷ [])
          (a ∙ entries_is v.one new.drives.one.disk nodes.one h.shows.stand.one)
          ∙ ap (λ (k : ℕ). told_line number ending (length v.one.entries) k three packets ∷ [])
          (b ∙ entries_is v.two new.drives.two.disk nodes.two h.shows.stand.two)
          ∙ ap (λ (k : ℕ). told_line number ending (length v.one.entries) (length v.two.entries) k packets ∷ [])
          (c ∙ entries_is v.three new.drives.three.disk nodes.three h.shows.stand.three)
          ∙ ap (λ (k : ℕ). told_line number ending (length v.one.entries) (length v.two.entries)
          (length v.three.entries) k ∷ [])
          (n ∙ ap (λ (ps : List (ℕ × List ℕ)). length ps) h.shows.wire ∙ length-map v.packets wire_packet)
          ∙ ap (λ (e : Option Ending). report_of number e v) (sym is ∙ h.comes));
    }
plays_line each terms w number line old new nodes senders came ending one two three packets before after (Err memory) h
    is a b c n put =
    cut_played each terms w line old new nodes senders came h
