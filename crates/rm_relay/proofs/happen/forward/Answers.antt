use Rattle.std.proofs.Common.{◌≡◌, ◌∙◌, List, None, Some, ap, refl, subst, sym}
use Rattle.std.specs.Option.{option_copied}
use Rattle.std.proofs.lemmas.Result.{err_from_is_err_and}
use Rattle.record_batch.specs.Fact.{Fact}
use Rattle.rm_script.specs.declared.report.line.Outcome.TheVariants as told
use Rattle.rm_protocol.specs.Node.{State, Up, records}
use Rattle.rm_node.specs.Asked as asks
use Rattle.rm_node.specs.declared.call.Call.TheVariants as call
use Rattle.rm_relay.specs.Word.Ends.{AreEnds, next_item}
use Rattle.rm_relay.specs.Word.World.{Forward}
use Rattle.rm_relay.specs.declared.word.station.Station.TheVariants.{Two}
use Rattle.rm_relay.specs.Happening.{step_of}
use Rattle.rm_relay.specs.Shows.{scene_of}
use Rattle.rm_relay.specs.declared.event.Event.TheVariants as said
use Rattle.rm_relay.specs.declared.report.Ending.TheVariants.{Idle, Came as came_out}
use Rattle.rm_relay.proofs.EventLemmas.{cut_none, happens_call, happens_still}
use Rattle.rm_relay.proofs.OnwardLemmas.{forward_call, forward_idle, forward_is_down, forward_without, is_not_up, is_up}
use Rattle.rm_relay.proofs.OnwardLemmas.{records_are}
use Rattle.rm_relay.proofs.happen.forward.Goals as goal

pub returns-then-is_down : goal.returns-then-is_down
returns-then-is_down g c terms net w shows =
    let old = scene_of g.M.Disk.told g.W.Wire.packets c.args.stage.now in
    happens_still terms w said.Forward Forward (came_out told.Down) old c.args.nodes.now c.args.senders.now.items
    (forward_is_down terms w (is_not_up w.two old.drives.two.disk c.args.nodes.now.two shows.stand.two
    (sym c.is_down.ensures ∙ c.if-is_down.true))) shows

pub returns-in_default : goal.returns-in_default
returns-in_default g c terms net w shows =
    let old = scene_of g.M.Disk.told g.W.Wire.packets c.args.stage.now in
    let up = sym c.is_down.ensures ∙ c.if-is_down.false in
    let two = c.args.nodes.now.two in
    let same : c.tables.result.now.records ≡ records w.two =
    c.tables.ensures ∙ records_are w.two old.drives.two.disk two shows.stand.two up in
    happens_still terms w said.Forward Forward (came_out told.NoSequence) old c.args.nodes.now
    c.args.senders.now.items
    (forward_without terms w (is_up w.two old.drives.two.disk two shows.stand.two up) (λ into out ends.
    c.in_default.ensures.none into out (subst (λ (r : List Fact). AreEnds r into out) (sym same) ends))) shows

pub returns-in_default-find_next : goal.returns-in_default-find_next
returns-in_default-find_next g c terms net w shows =
    let old = scene_of g.M.Disk.told g.W.Wire.packets c.args.stage.now in
    let up = sym c.is_down.ensures ∙ c.if-is_down.false in
    let two = c.args.nodes.now.two in
    let into = c.in-Some.ends.into in
    let out = c.in-Some.ends.out in
    let same : c.tables.result.now.records ≡ records w.two =
    c.tables.ensures ∙ records_are w.two old.drives.two.disk two shows.stand.two up in
    let again : c.tables-2.result.now.records ≡ records w.two =
    c.tables-2.ensures ∙ records_are w.two old.drives.two.disk two shows.stand.two up in
    happens_still terms w said.Forward Forward Idle old c.args.nodes.now c.args.senders.now.items
    (forward_idle terms w into out (is_up w.two old.drives.two.disk two shows.stand.two up)
    (subst (λ (r : List Fact). AreEnds r into out) same c.in-Some.ensures.found)
    (ap (λ (r : List Fact). next_item r into out) (sym again) ∙ sym c.find_next.ensures
    ∙ ap option_copied c.in_default-find_next.is)) shows

pub returns-in_err-bytes : goal.returns-in_err-bytes
returns-in_err-bytes g c terms net w shows =
    let p = err_from_is_err_and c.from_residual.result c.from_residual.ensures.1 in
    rw p.1 (cut_none c.each_image_is_left.ensures terms w said.Forward
    (scene_of g.M.Disk.told g.W.Wire.packets c.args.stage.now) c.args.nodes.now c.args.senders.now.items shows)

pub returns : goal.returns
returns g c terms net w shows =
    let old = scene_of g.M.Disk.told g.W.Wire.packets c.args.stage.now in
    let new = scene_of g.M.Disk.told g.W.Wire.packets c.call.new.stage in
    let up = sym c.is_down.ensures ∙ c.if-is_down.false in
    let two = c.args.nodes.now.two in
    let into = c.in-Some.ends.into in
    let out = c.in-Some.ends.out in
    let bytes = c.in_ok-bytes.bytes in
    let this = asks.Send out bytes in
    let same : c.tables.result.now.records ≡ records w.two =
    c.tables.ensures ∙ records_are w.two old.drives.two.disk two shows.stand.two up in
    let again : c.tables-2.result.now.records ≡ records w.two =
    c.tables-2.ensures ∙ records_are w.two old.drives.two.disk two shows.stand.two up in
    happens_call c.each_image_is_left.ensures terms w said.Forward Forward Two None
    (step_of terms w.two this (call.Send out bytes)) old new c.call.new.nodes c.call.new.senders.items c.call.result
    (forward_call terms w into out c.in-Some-find_next.payload.now bytes
    (is_up w.two old.drives.two.disk two shows.stand.two up)
    (subst (λ (r : List Fact). AreEnds r into out) same c.in-Some.ensures.found)
    (ap (λ (r : List Fact). next_item r into out) (sym again) ∙ sym c.find_next.ensures
    ∙ ap option_copied c.in-Some-find_next.is) c.in_ok-bytes.ensures)
    (c.call.ensures.moves terms net this refl w shows) c.call.ensures.asked
