use Rattle.std.specs.BTreeMap.{insert_entry}
use Rattle.std.proofs.Common.{◌∷◌, [], ◌++◌, ap, sym, subst, ◌∙◌}
use Rattle.std.proofs.lemmas.List.{append_assoc}
use Rattle.map_model.specs.Maps.{IsSorted}
use Rattle.value_model.specs.Order.{text_cmp}
use Rattle.app_model.proofs.Forms.{put_behind_all}
use Rattle.app_model.proofs.maps.copy_map.Goals as goal

pub loop-name-preserved : goal.loop-name-preserved
loop-name-preserved g c =
    let copies = c.loop-name.copies.entries in
    let name = c.in-Some.name.now in
    let value = c.in-Some.value.now in
    let more = c.next.new.self in
    let all = c.loop-name.invariant.2 ∙ ap (λ rest. copies ++ rest) c.in-Some.ensures.steps in
    let sorted = subst (λ es. IsSorted text_cmp es) (sym (c.into_iter-name-iterator.ensures.into_iter_gives ∙ c.iter-name-items.ensures.rest)) c.iter-name-items.ensures.ordered in
    let put = c.in_ok-put.ensures
    ∙ (ap (λ p. insert_entry text_cmp copies name p) c.in_ok-copied.ensures
    ∙ put_behind_all c.into_iter-name-iterator.result copies name value more all sorted) in
    (tt, tt, all ∙ (sym (append_assoc copies ((name, value) ∷ []) more) ∙ ap (λ es. es ++ more) (sym put)))
