use Rattle.std.proofs.Common.{sym, subst, ◌∙◌}
use Rattle.map_model.specs.Maps.{IsSorted}
use Rattle.map_model.specs.MapLaws.{sorted-set}
use Rattle.ejson_value.specs.Key.{key_cmp, key_order}
use Rattle.ejson_value.proofs.PutAll.{one_done, room_left}
use Rattle.ejson_value.proofs.contents.Contents.take_over.Goals as goal

pub loop-key-preserved : goal.loop-key-preserved
loop-key-preserved c =
    let rows = c.loop-key.self in
    let key = c.in-Some.key in
    let plan = c.loop-key.plan.entries in
    let plan' = c.pop_first.new.self.entries in
    let now = c.loop-key.invariant in record {
      sorted = subst (IsSorted key_cmp) (sym c.settle.ensures) (sorted-set key_order rows key c.in-Some.planned now.sorted);
      planned = c.in-Some.ensures.ordered;
      room = room_left plan plan' key c.in-Some.planned rows c.settle.new.self c.in-Some.ensures.removal now.planned now.sorted c.settle.ensures now.room;
      left = λ k. one_done plan plan' key c.in-Some.planned rows c.settle.new.self c.in-Some.ensures.removal now.planned now.sorted c.settle.ensures k ∙ now.left k;
    }
