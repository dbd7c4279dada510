use Rattle.std.proofs.Common.{◌∷◌, [], ◌++◌, ap, sym, ◌∙◌, arith}
use Rattle.std.proofs.lemmas.List.{append_assoc}
use Rattle.ejson_value.specs.View.{entries}
use Rattle.ejson_value.proofs.Walks.{item_depth, field_depth}
use Rattle.ejson_codec.proofs.WriterTurns.{rest_of_fields, field_put}
use Rattle.ejson_codec.proofs.token_writing.+tokens.Goals as goal

pub put_fields-put_value-requires : goal.put_fields-put_value-requires
put_fields-put_value-requires t c =
    let done = c.loop-name.invariant.0 in
    let all = c.loop-name.invariant.1 ∙ ap (λ rest. done ++ rest) c.in-Some.ensures.steps in
    let fields = ap entries c.into_iter-name-iterator.ensures.into_iter_gives ∙ c.iter-name-items.ensures.all in
    let less = field_depth c.into_iter-name-iterator.result done c.in-Some.name.now c.in-Some.value.now c.next.new.self c.args.doc.now all fields in
    (omega (arith, less, c.decreases), tt)

pub put_fields-loop-name-preserved : goal.put_fields-loop-name-preserved
put_fields-loop-name-preserved t c =
    let done = c.loop-name.invariant.0 in
    let name = c.in-Some.name.now in
    let value = c.in-Some.value.now in
    let all = c.loop-name.invariant.1 ∙ ap (λ rest. done ++ rest) c.in-Some.ensures.steps in
    let whole = c.begin_object.new.self ++ rest_of_fields c.into_iter-name-iterator.result in (
      done ++ (name, value) ∷ [],
      all ∙ sym (append_assoc done ((name, value) ∷ []) c.next.new.self),
      field_put whole c.loop-name.out c.key.new.self c.put_value.new.out name c.as_str.result.now value c.next.new.self c.as_str.ensures c.in_ok-key.ensures.ok c.in_ok-put_value.ensures
          (ap (λ rest. c.loop-name.out ++ rest_of_fields rest) (sym c.in-Some.ensures.steps) ∙ c.loop-name.invariant.2),
    )

pub put_items-put_value-requires : goal.put_items-put_value-requires
put_items-put_value-requires t c =
    let less = item_depth c.as_slice-item-items.result.now c.loop-item.item-index c.item-item.result c.args.items.now c.item-item.is c.loop-item-test.true c.as_slice-item-items.ensures in
    (omega (arith, less, c.decreases), tt)
