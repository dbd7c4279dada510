use Rattle.std.proofs.Common.{◌∷◌, [], ◌++◌, Ok, ap, sym, ◌∙◌}
use Rattle.std.proofs.lemmas.List.{map-append, append-nil}
use Rattle.value_model.specs.Val.{fields_of}
use Rattle.ejson_value.specs.Results.{made}
use Rattle.ejson_value.specs.View.{view, entries}
use Rattle.modifier_apply.specs.View.{change_view, changes_view}
use Rattle.modifier_apply.specs.Reading.{change_reading, paths_reading}
use Rattle.modifier_apply.proofs.Front.{one_more}
use Rattle.modifier_apply.proofs.reading.read_paths.Goals as goal

pub loop-written-preserved : goal.loop-written-preserved
loop-written-preserved c =
    let so_far = changes_view c.loop-written.updates.items in
    let more = paths_reading c.args.name (fields_of (entries c.next.new.self)) in (
      tt,
      tt,
      c.loop-written.invariant.2
          ∙ (ap (λ it. made (λ cs. so_far ++ cs) (paths_reading c.args.name (fields_of (entries it)))) c.in-Some.ensures.steps
          ∙ (one_more so_far (change_view c.in_ok-update.update) (change_reading c.args.name c.in-Some.written.now (view c.in-Some.operand.now)) more c.in_ok-update.ensures
          ∙ ap (λ xs. made (λ cs. xs ++ cs) more) (sym (ap (λ us. changes_view us) c.in_ok-push.ensures.items ∙ map-append change_view c.loop-written.updates.items (c.in_ok-update.update ∷ []))))),
    )

pub returns : goal.returns
returns c =
    let so_far = changes_view c.loop-written.updates.items in
    sym (ap (λ es. paths_reading c.args.name (fields_of es)) (ap entries c.into_iter-written-iterator.ensures.into_iter_gives ∙ c.iter-written-items.ensures.all))
    ∙ (c.loop-written.invariant.2
    ∙ (ap (λ it. made (λ cs. so_far ++ cs) (paths_reading c.args.name (fields_of (entries it)))) c.in-None.ensures.steps.0
    ∙ ap (λ cs. Ok cs) (append-nil so_far)))
