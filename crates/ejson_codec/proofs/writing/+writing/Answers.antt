use Rattle.std.proofs.Common.{◌∷◌, [], ◌++◌, ap, sym, subst, ◌∙◌, arith}
use Rattle.std.proofs.lemmas.List.{append_assoc}
use Rattle.std.specs.Map.{keys_of}
use Rattle.std.specs.List.Sorted.{IsStrictlySortedBy}
use Rattle.serde_json.specs.View.{view as json_view}
use Rattle.serde_json.specs.View.{members_view}
use Rattle.value_model.specs.Order.{text_cmp}
use Rattle.std.proofs.lemmas.Result.{IfOk-weaker}
use Rattle.value_model.specs.Val.{fields_of}
use Rattle.ejson_value.specs.declared.value.Value.{Value}
use Rattle.ejson_value.specs.View.{view, entries}
use Rattle.ejson_codec.specs.Written.{written}
use Rattle.ejson_value.proofs.Walks.{item_depth, field_depth}
use Rattle.ejson_codec.proofs.WritingTurns.{tree_more, member_more, object_written}
use Rattle.ejson_codec.proofs.writing.+writing.Goals as goal

pub members-tree-requires : goal.members-tree-requires
members-tree-requires t c =
    let done = c.loop-name.invariant.0 in
    let all = c.loop-name.invariant.1 ∙ ap (λ rest. done ++ rest) c.in-Some.ensures.steps in
    let less = field_depth c.into_iter-name-iterator.result done c.in-Some.name.now c.in-Some.value.now c.next.new.self c.args.doc.now all (ap entries c.into_iter-name-iterator.ensures.into_iter_gives ∙ c.iter-name-items.ensures.all) in
    (omega (arith, less, c.decreases), tt)

pub members-loop-name-preserved : goal.members-loop-name-preserved
members-loop-name-preserved t c =
    let done = c.loop-name.invariant.0 in
    let name = c.in-Some.name.now in
    let value = c.in-Some.value.now in
    let all = c.loop-name.invariant.1 ∙ ap (λ rest. done ++ rest) c.in-Some.ensures.steps in
    let sorted = subst (λ es. IsStrictlySortedBy text_cmp (keys_of es)) (sym c.into_iter-name-iterator.ensures.into_iter_gives) c.iter-name-items.ensures.ordered in (
      done ++ (name, value) ∷ [],
      all ∙ sym (append_assoc done ((name, value) ∷ []) c.next.new.self),
      member_more c.into_iter-name-iterator.result done name _ value c.next.new.self (json_view c.in_ok-tree.field-0) (members_view c.loop-name.members.entries) (members_view c.put_member.new.members.entries)
          all sorted c.as_str.ensures c.in_ok-tree.ensures c.in_ok-put_member.ensures.ok c.loop-name.invariant.2,
    )

pub trees-tree-requires : goal.trees-tree-requires
trees-tree-requires t c =
    let less = item_depth c.as_slice-item-items.result.now c.loop-item.item-index c.item-item.result c.args.items.now c.item-item.is c.loop-item-test.true c.as_slice-item-items.ensures in
    (omega (arith, less, c.decreases), tt)

pub trees-loop-item-preserved : goal.trees-loop-item-preserved
trees-loop-item-preserved t c =
    tree_more c.loop-item.trees.items c.push.new.self.items c.in_ok-tree.field-0 c.as_slice-item-items.result.now c.loop-item.item-index c.item-item.result
    c.in_ok-push.ensures.items c.item-item.is c.loop-item-test.true c.in_ok-tree.ensures c.loop-item.invariant

pub tree-returns-in_ok-members-in-Object : goal.tree-returns-in_ok-members-in-Object
tree-returns-in_ok-members-in-Object t c =
    let same = object_written (fields_of c.in-Object.doc) (members_view c.in_ok-members-in-Object.field-0.entries) c.in_ok-members-in-Object.ensures ∙ ap (λ (v : Value). written (view v)) (sym c.in-Object.is) in
    IfOk-weaker c.escaped.result _ _ (λ x is. is ∙ same) c.escaped.ensures
