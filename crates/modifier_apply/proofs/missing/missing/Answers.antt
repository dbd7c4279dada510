use Rattle.std.proofs.Common.{◌++◌, refl, sym, ◌∙◌}
use Rattle.std.specs.BTreeSet.{contains}
use Rattle.value_model.specs.Order.{compare}
use Rattle.ejson_value.specs.View.{view}
use Rattle.modifier_apply.proofs.Additions.{seen_more, left_more}
use Rattle.modifier_apply.proofs.Neighbours.{is_new}
use Rattle.modifier_apply.proofs.missing.missing.Goals as goal

pub loop-value-preserved : goal.loop-value-preserved
loop-value-preserved c =
    let vs = c.args.items.now in
    let lacked = c.loop-value.missing.items in
    let more = c.push.new.self.items in
    let w = view c.value-item.result in
    let seen = c.loop-value.seen in
    record {
      seen = λ q. seen_more vs lacked more w c.in_ok-push.ensures.items q (contains compare seen q) (contains compare c.insert.new.self q) (c.in_ok-insert.ensures.updates.0 q) (c.loop-value.invariant.seen q);
      left =
          left_more vs lacked more w c.in_ok-push.ensures.items c.as_slice-value-items.result.now c.loop-value.value-index c.value-item.result c.loop-value-test.true c.value-item.is refl
          (sym (c.loop-value.invariant.seen w) ∙ is_new c.in_ok-insert.field-0 (contains compare seen w) c.in_ok-insert.ensures.added c.if-not-branch.false)
          ∙ c.loop-value.invariant.left;
    }
