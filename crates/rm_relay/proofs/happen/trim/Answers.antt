use Rattle.std.proofs.Common.{◌≡◌, ◌∙◌, List, None, ap, refl, subst, sym}
use Rattle.record_batch.specs.Fact.{Fact}
use Rattle.rm_script.specs.declared.report.line.Outcome.TheVariants as told
use Rattle.rm_protocol.specs.Node.{records}
use Rattle.rm_node.specs.Asked as asks
use Rattle.rm_node.specs.declared.call.Call.TheVariants as call
use Rattle.rm_relay.specs.Word.Ends.{AreEnds, acknowledged}
use Rattle.rm_relay.specs.Word.World.{Trim}
use Rattle.rm_relay.specs.declared.word.station.Station.TheVariants.{Two}
use Rattle.rm_relay.specs.Happening.{step_of}
use Rattle.rm_relay.specs.Shows.{scene_of}
use Rattle.rm_relay.specs.declared.event.Event.TheVariants as said
use Rattle.rm_relay.specs.declared.report.Ending.TheVariants.{Came as came_out}
use Rattle.rm_relay.proofs.EventLemmas.{happens_call, happens_still}
use Rattle.rm_relay.proofs.OnwardLemmas.{is_not_up, is_up, records_are, trim_call, trim_is_down, trim_without}
use Rattle.rm_relay.proofs.happen.trim.Goals as goal

pub returns-then-is_down : goal.returns-then-is_down
returns-then-is_down g c terms net w shows =
    let old = scene_of g.M.Disk.told g.W.Wire.packets c.args.stage.now in
    happens_still terms w said.Trim Trim (came_out told.Down) old c.args.nodes.now c.args.senders.now.items
    (trim_is_down terms w (is_not_up w.two old.drives.two.disk c.args.nodes.now.two shows.stand.two
    (sym c.is_down.ensures ∙ c.if-is_down.true))) shows

pub returns-in_default : goal.returns-in_default
returns-in_default g c terms net w shows =
    let old = scene_of g.M.Disk.told g.W.Wire.packets c.args.stage.now in
    let up = sym c.is_down.ensures ∙ c.if-is_down.false in
    let two = c.args.nodes.now.two in
    let same : c.tables.result.now.records ≡ records w.two =
    c.tables.ensures ∙ records_are w.two old.drives.two.disk two shows.stand.two up in
    happens_still terms w said.Trim Trim (came_out told.NoSequence) old c.args.nodes.now c.args.senders.now.items
    (trim_without terms w (is_up w.two old.drives.two.disk two shows.stand.two up) (λ into out ends.
    c.in_default.ensures.none into out (subst (λ (r : List Fact). AreEnds r into out) (sym same) ends))) shows

pub returns : goal.returns
returns g c terms net w shows =
    let old = scene_of g.M.Disk.told g.W.Wire.packets c.args.stage.now in
    let new = scene_of g.M.Disk.told g.W.Wire.packets c.call.new.stage in
    let up = sym c.is_down.ensures ∙ c.if-is_down.false in
    let two = c.args.nodes.now.two in
    let into = c.in-Some.ends.into in
    let out = c.in-Some.ends.out in
    let upto = c.find_acknowledged.result in
    let this = asks.Consume into upto in
    let same : c.tables.result.now.records ≡ records w.two =
    c.tables.ensures ∙ records_are w.two old.drives.two.disk two shows.stand.two up in
    let again : c.tables-2.result.now.records ≡ records w.two =
    c.tables-2.ensures ∙ records_are w.two old.drives.two.disk two shows.stand.two up in
    happens_call c.each_image_is_left.ensures terms w said.Trim Trim Two None
    (step_of terms w.two this (call.Consume into upto)) old new c.call.new.nodes c.call.new.senders.items c.call.result
    (trim_call terms w into out upto (is_up w.two old.drives.two.disk two shows.stand.two up)
    (subst (λ (r : List Fact). AreEnds r into out) same c.in-Some.ensures.found)
    (c.find_acknowledged.ensures ∙ ap (λ (r : List Fact). acknowledged r out) again))
    (c.call.ensures.moves terms net this refl w shows) c.call.ensures.asked
