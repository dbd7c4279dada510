use Rattle.std.proofs.Common.{ℕ, List, sym, ap, ◌∙◌, arith}
use Rattle.std.proofs.lemmas.Result.{err_from_is_err_and}
use Rattle.serde_json.specs.View.{view as json_view}
use Rattle.serde_json.specs.View.{items_view}
use Rattle.serde_json.specs.declared.value.Value.{Value as Json}
use Rattle.ddp_messages.specs.Forms.{id_of}
use Rattle.ddp_messages.specs.Forms.{each_of}
use Rattle.ddp_messages.proofs.Each.{none_yet, one_more, one_fails, fault_passed}
use Rattle.ddp_messages.proofs.fields.each_id.Goals as goal

pub loop-tree-init : goal.loop-tree-init
loop-tree-init c = none_yet id_of _ _ c.new-ids.ensures

pub loop-tree-preserved : goal.loop-tree-preserved
loop-tree-preserved c =
    one_more id_of c.deref-tree-items.result.now c.loop-tree.tree-index c.tree-item.result c.in_ok-id.field-0 c.loop-tree.ids c.push.new.self (each_of id_of (items_view c.deref-tree-items.result.now))
    c.tree-item.is (omega arith) c.in_ok-id.ensures c.in_ok-push.ensures.ok c.loop-tree.invariant

pub returns-in_err-id : goal.returns-in_err-id
returns-in_err-id c =
    let p = err_from_is_err_and c.from_residual.result c.from_residual.ensures.1 in
    let same = ap (λ (ts : List Json). each_of id_of (items_view ts)) (sym c.deref-tree-items.ensures.value) in
    rw (p.1, p.2) (fault_passed (λ (t : List ℕ). t) (λ (xs : List (List ℕ)). xs) c.in_err-id.field-0.0 (id_of (json_view c.tree-item.result)) (each_of id_of (items_view c.args.trees.now.items)) c.in_err-id.ensures
    (λ missed. one_fails id_of c.deref-tree-items.result.now c.loop-tree.tree-index c.tree-item.result c.loop-tree.ids (each_of id_of (items_view c.args.trees.now.items)) c.tree-item.is (omega arith) missed (same ∙ c.loop-tree.invariant)))
