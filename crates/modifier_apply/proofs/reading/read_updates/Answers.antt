use Rattle.std.proofs.Common.{◌++◌, Ok, ap, sym, ◌∙◌}
use Rattle.std.proofs.lemmas.List.{map-append, append-nil}
use Rattle.value_model.specs.Val.{fields_of}
use Rattle.ejson_value.specs.Results.{made}
use Rattle.ejson_value.specs.View.{view, entries}
use Rattle.modifier_apply.specs.View.{change_view, changes_view}
use Rattle.modifier_apply.specs.Reading.{operator_named, operator_reading, changes_reading}
use Rattle.modifier_apply.proofs.Front.{some_more}
use Rattle.modifier_apply.proofs.reading.read_updates.Goals as goal

pub loop-name-preserved : goal.loop-name-preserved
loop-name-preserved c =
    let so_far = changes_view c.loop-name.updates.items in
    let more = changes_reading (fields_of (entries c.next.new.self)) in (
      tt,
      tt,
      c.loop-name.invariant.2
          ∙ (ap (λ it. made (λ cs. so_far ++ cs) (changes_reading (fields_of (entries it)))) c.in-Some.ensures.steps
          ∙ (some_more so_far (changes_view c.in_ok-more.more.items) (operator_reading (operator_named c.in-Some.name.now) (view c.in-Some.operand.now)) more c.in_ok-more.ensures
          ∙ ap (λ xs. made (λ cs. xs ++ cs) more) (sym (ap (λ us. changes_view us) c.in_ok-append.ensures.items ∙ map-append change_view c.loop-name.updates.items c.in_ok-more.more.items)))),
    )

pub returns : goal.returns
returns c =
    let so_far = changes_view c.loop-name.updates.items in
    sym (ap (λ es. changes_reading (fields_of es)) (ap entries c.into_iter-name-iterator.ensures.into_iter_gives ∙ c.iter-name-items.ensures.all))
    ∙ (c.loop-name.invariant.2
    ∙ (ap (λ it. made (λ cs. so_far ++ cs) (changes_reading (fields_of (entries it)))) c.in-None.ensures.steps.0
    ∙ ap (λ cs. Ok cs) (append-nil so_far)))
