use Rattle.std.proofs.Common.{◌∷◌, [], ◌++◌, refl, ap, sym, subst, ◌∙◌}
use Rattle.std.proofs.lemmas.List.{append_assoc}
use Rattle.std.specs.Map.{keys_of}
use Rattle.std.specs.List.Sorted.{IsStrictlySortedBy}
use Rattle.value_model.specs.Order.{text_cmp}
use Rattle.ejson_value.specs.View.{view}
use Rattle.ejson_value.proofs.Walks.{one_more_field}
use Rattle.ejson_value.proofs.table.Table.copied.Goals as goal

pub loop-name-preserved : goal.loop-name-preserved
loop-name-preserved c =
    let done = c.loop-name.invariant.2.0 in
    let name = c.in-Some.name.now in
    let value = c.in-Some.value.now in
    let copies = c.loop-name.copies in
    let all = c.loop-name.invariant.2.1 ∙ ap (λ rest. done ++ rest) c.in-Some.ensures.steps in
    let sorted = subst (λ es. IsStrictlySortedBy text_cmp (keys_of es)) (sym c.into_iter-name-iterator.ensures.into_iter_gives) c.iter-name-items.ensures.ordered in (
      tt,
      tt,
      (
        done ++ (name, value) ∷ [],
        all ∙ sym (append_assoc done ((name, value) ∷ []) c.next.new.self),
        c.in_ok-put_copy.ensures ∙ one_more_field c.into_iter-name-iterator.result done name value c.next.new.self copies (view value) all sorted c.loop-name.invariant.2.2 refl,
      ),
    )
