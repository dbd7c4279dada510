use Rattle.std.proofs.Common.{◌∷◌, [], ◌++◌, ap, sym, subst, ◌∙◌}
use Rattle.std.specs.Map.{keys_of}
use Rattle.std.specs.List.Sorted.{IsStrictlySortedBy}
use Rattle.std.proofs.lemmas.List.{append_assoc}
use Rattle.value_model.specs.Order.{text_cmp}
use Rattle.ejson_value.proofs.Puts.{put_step}
use Rattle.ejson_value.proofs.editing.put_copies.Goals as goal

pub loop-name-preserved : goal.loop-name-preserved
loop-name-preserved c =
    let done = c.loop-name.invariant.2.0 in
    let name = c.in-Some.name.now in
    let value = c.in-Some.value.now in
    let rest = c.next.new.self in
    let all = c.loop-name.invariant.2.1 ∙ ap (λ more. done ++ more) c.in-Some.ensures.steps in
    let sorted = subst (λ es. IsStrictlySortedBy text_cmp (keys_of es)) (sym c.into_iter-name-iterator.ensures.into_iter_gives) c.iter-name-items.ensures.ordered in (
      tt,
      tt,
      (
        done ++ (name, value) ∷ [],
        all ∙ sym (append_assoc done ((name, value) ∷ []) rest),
        put_step c.args.doc.now c.into_iter-name-iterator.result done name value rest c.loop-name.doc c.put_copy.new.doc c.known.ensures.names all sorted c.loop-name.invariant.2.2
            c.in_ok-put_copy.ensures.ok,
      ),
    )
