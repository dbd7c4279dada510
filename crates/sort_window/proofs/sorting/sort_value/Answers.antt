use Rattle.std.proofs.Common.{drop, None, Some, ap, ◌∙◌, sym}
use Rattle.ejson_value.specs.View.{view}
use Rattle.value_model.specs.Doc.{get}
use Rattle.sort_window.specs.Sorting.{reached, sort_value}
use Rattle.sort_window.proofs.Reaching.{reached_none, first_part, rest_is}
use Rattle.sort_window.proofs.sorting.sort_value.Goals as goal

pub returns-in-None : goal.returns-in-None
returns-in-None c =
    let doc = c.args.doc.now in
    let parts = c.parts.result.now in
    sym (reached_none (drop 1 parts))
    ∙ first_part parts doc c.first-item.result None c.in-len1-up.len_at_least c.first-item.is (c.in-None.ensures ∙ ap (get doc) c.name.ensures)
    ∙ ap (λ path. sort_value path doc) c.parts.ensures.value

pub returns-in-Some : goal.returns-in-Some
returns-in-Some c =
    let doc = c.args.doc.now in
    let parts = c.parts.result.now in
    c.value_at.ensures
    ∙ ap (λ path. reached path (Some (view c.in-Some.value.now))) (rest_is parts)
    ∙ first_part parts doc c.first-item.result (Some (view c.in-Some.value.now)) c.in-len1-up.len_at_least c.first-item.is (c.in-Some.ensures ∙ ap (get doc) c.name.ensures)
    ∙ ap (λ path. sort_value path doc) c.parts.ensures.value
