use Rattle.std.proofs.Common.{ℕ, List, sym, ap, ◌∙◌, arith}
use Rattle.std.proofs.lemmas.Result.{err_from_is_err_and}
use Rattle.serde_json.specs.View.{view as json_view}
use Rattle.serde_json.specs.View.{items_view}
use Rattle.serde_json.specs.declared.value.Value.{Value as Json}
use Rattle.serde_json.specs.Find.{as_str}
use Rattle.ddp_messages.specs.Forms.{each_of}
use Rattle.ddp_messages.proofs.Each.{none_yet, one_more, one_fails, fault_passed}
use Rattle.ddp_messages.proofs.fields.each_text.Goals as goal

pub loop-tree-init : goal.loop-tree-init
loop-tree-init c = none_yet as_str _ _ c.new-texts.ensures

pub loop-tree-preserved : goal.loop-tree-preserved
loop-tree-preserved c =
    one_more as_str c.deref-tree-items.result.now c.loop-tree.tree-index c.tree-item.result c.in_ok-text.field-0 c.loop-tree.texts c.push.new.self (each_of as_str (items_view c.deref-tree-items.result.now))
    c.tree-item.is (omega arith) c.in_ok-text.ensures c.in_ok-push.ensures.ok c.loop-tree.invariant

pub returns-in_err-text : goal.returns-in_err-text
returns-in_err-text c =
    let p = err_from_is_err_and c.from_residual.result c.from_residual.ensures.1 in
    let same = ap (λ (ts : List Json). each_of as_str (items_view ts)) (sym c.deref-tree-items.ensures.value) in
    rw (p.1, p.2) (fault_passed (λ (t : List ℕ). t) (λ (xs : List (List ℕ)). xs) c.in_err-text.field-0.0 (as_str (json_view c.tree-item.result)) (each_of as_str (items_view c.args.trees.now.items)) c.in_err-text.ensures
    (λ missed. one_fails as_str c.deref-tree-items.result.now c.loop-tree.tree-index c.tree-item.result c.loop-tree.texts (each_of as_str (items_view c.args.trees.now.items)) c.tree-item.is (omega arith) missed (same ∙ c.loop-tree.invariant)))
