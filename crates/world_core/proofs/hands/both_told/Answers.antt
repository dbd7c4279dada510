use denote.Param.Send.{mut_send, shr_send, shr_slice_send}
use Rattle.ejson_value.specs.declared.memory.Mem.{Mem}
use Rattle.std.proofs.Common.{sym, subst, rules}
use Rattle.std.specs.Prelude.{Bool, Result}
use Rattle.map_model.specs.Maps.{union}
use Rattle.value_model.specs.Order.{text_cmp}
use Rattle.lanes.specs.Lanes.{AreTold}
use Rattle.lanes.specs.TellingLaws.{lanes_told, told_lanes}
use Rattle.world_core.specs.Visits.{Tells, Leads}
use Rattle.world_core.proofs.Told.{tells_lead}
use Rattle.world_core.proofs.Sends.{captures_4, global_whole, lane_whole, machine_whole, text_whole}
use Rattle.world_core.proofs.hands.both_told.Goals as goal

pub returns-clause-told : goal.returns-clause-told
returns-clause-told g c =
    let values = g.B.Lanes.values in
    let m = c.args.machine.now in
    let names = c.args.names.now in
    let one = c.args.one.now in
    let other = values c.args.other.now in
    let one' = c.one-1.given.0 in
    let other' = values c.other-1.given.0 in
    let first : AreTold (Tells m) (Leads m) names one one' c.join_mut-first.result.0 = search rules in
    let second : AreTold (Tells m) (Leads m) names other other' c.join_mut-first.result.1 = search rules in
    subst (λ (r : Result Bool Mem). AreTold (Tells m) (Leads m) names (union text_cmp one other) (union text_cmp one' other') r) (sym c.either.ensures)
    (lanes_told (Tells m) (Leads m) (tells_lead m) names one other one' other' c.join_mut-first.result.0 c.join_mut-first.result.1 first second c.requires.lanes)

pub returns-clause-lanes : goal.returns-clause-lanes
returns-clause-lanes g c =
    let values = g.B.Lanes.values in
    let m = c.args.machine.now in
    let names = c.args.names.now in
    let one = c.args.one.now in
    let other = values c.args.other.now in
    let one' = c.one-1.given.0 in
    let other' = values c.other-1.given.0 in
    let first : AreTold (Tells m) (Leads m) names one one' c.join_mut-first.result.0 = search rules in
    let second : AreTold (Tells m) (Leads m) names other other' c.join_mut-first.result.1 = search rules in
    told_lanes (Tells m) (Leads m) (tells_lead m) names one other one' other' c.join_mut-first.result.0 c.join_mut-first.result.1 first second c.requires.lanes

pub join_mut-first-requires-send-F : goal.join_mut-first-requires-send-F
join_mut-first-requires-send-F g c κs within =
    captures_4 _ _ _ _ _ _ _ (shr_send _ _ _ global_whole) (shr_send _ _ _ machine_whole) (shr_slice_send _ _ _ text_whole) (mut_send _ _ _ lane_whole)
