use Rattle.std.proofs.Common.{Some, option_map, length, false, refl, ap, sym, ◌∙◌}
use Rattle.value_model.specs.Val.{object, fields_of}
use Rattle.value_model.specs.Doc.{get}
use Rattle.value_model.specs.Branches.{branches}
use Rattle.ejson_value.specs.View.{view, views}
use Rattle.ejson_value.proofs.Branching.{from_object, not_empty}
use Rattle.selector_match.specs.Operands.{met_at, met}
use Rattle.selector_match.proofs.Marks.{marked_as}
use Rattle.selector_match.proofs.marking.mark_in_document.Goals as goal

pub unreachable-requires : goal.unreachable-requires
unreachable-requires c = not_empty c.args.path.now c.parts.ensures.path (ap length (sym c.parts.ensures.value) ∙ c.in-None.ensures.cases)

pub returns : goal.returns
returns c =
    let doc = c.args.doc.now in
    let found = option_map (λ v. view v.now) c.get.result in
    marked_as (views c.args.rising.now) (λ v. met v (branches c.in-Some.more.now found false)) (λ v. met v (branches c.args.path.now (Some (object (fields_of doc))) false)) c.args.marks.now c.mark_from.new.marks
    (λ v. from_object (met_at v) c.in-Some.part.now c.in-Some.more.now (Some (object (fields_of doc))) false doc found refl (c.get.ensures ∙ ap (λ n. get doc n) c.name.ensures)
    ∙ ap (λ parts. met v (branches parts (Some (object (fields_of doc))) false)) (sym (c.in-Some.ensures.cases.0) ∙ c.parts.ensures.value))
    c.mark_from.ensures
