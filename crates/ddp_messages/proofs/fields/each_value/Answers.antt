use Rattle.std.proofs.Common.{List, sym, ap, ◌∙◌, arith}
use Rattle.std.proofs.lemmas.Result.{err_from_is_err_and}
use Rattle.serde_json.specs.View.{view as json_view}
use Rattle.serde_json.specs.View.{items_view}
use Rattle.serde_json.specs.declared.value.Value.{Value as Json}
use Rattle.ddp_messages.specs.Forms.{value_of}
use Rattle.ejson_value.specs.View.{view}
use Rattle.value_model.specs.Val.{Val}
use Rattle.ddp_messages.specs.Forms.{each_of}
use Rattle.ddp_messages.proofs.Each.{none_yet, one_more, one_fails, fault_passed}
use Rattle.ddp_messages.proofs.fields.each_value.Goals as goal

pub loop-tree-init : goal.loop-tree-init
loop-tree-init c = none_yet value_of _ _ c.new-values.ensures

pub loop-tree-preserved : goal.loop-tree-preserved
loop-tree-preserved c =
    one_more value_of c.deref-tree-items.result.now c.loop-tree.tree-index c.tree-item.result (view c.in_ok-value.field-0) c.loop-tree.values c.push.new.self (each_of value_of (items_view c.deref-tree-items.result.now))
    c.tree-item.is (omega arith) c.in_ok-value.ensures c.in_ok-push.ensures.ok c.loop-tree.invariant

pub returns-in_err-value : goal.returns-in_err-value
returns-in_err-value c =
    let p = err_from_is_err_and c.from_residual.result c.from_residual.ensures.1 in
    let same = ap (λ (ts : List Json). each_of value_of (items_view ts)) (sym c.deref-tree-items.ensures.value) in
    rw (p.1, p.2) (fault_passed view (λ (xs : List (Val)). xs) c.in_err-value.field-0.0 (value_of (json_view c.tree-item.result)) (each_of value_of (items_view c.args.trees.now.items)) c.in_err-value.ensures
    (λ missed. one_fails value_of c.deref-tree-items.result.now c.loop-tree.tree-index c.tree-item.result c.loop-tree.values (each_of value_of (items_view c.args.trees.now.items)) c.tree-item.is (omega arith) missed (same ∙ c.loop-tree.invariant)))
