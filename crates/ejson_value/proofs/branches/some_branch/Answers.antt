use Rattle.std.proofs.Common.{Some, option_map, length, false, refl, ap, sym, ◌∙◌}
use Rattle.std.specs.List.{list_any}
use Rattle.value_model.specs.Val.{object, fields_of}
use Rattle.value_model.specs.Doc.{get}
use Rattle.value_model.specs.Branches.{Branch, branches}
use Rattle.ejson_value.specs.View.{view}
use Rattle.ejson_value.proofs.Branching.{from_object, not_empty}
use Rattle.ejson_value.proofs.branches.some_branch.Goals as goal

pub unreachable-requires : goal.unreachable-requires
unreachable-requires g c = not_empty c.args.path.now c.parts.ensures.path (ap length (sym c.parts.ensures.value) ∙ c.in-None.ensures.cases)

pub returns : goal.returns
returns g c = λ p a.
    c.some_from.ensures p a
    ∙ (from_object p c.in-Some.part.now c.in-Some.more.now (Some (object (fields_of c.args.doc.now))) false c.args.doc.now (option_map (λ v. view v.now) c.get.result) refl (c.get.ensures ∙ ap (λ n. get c.args.doc.now n) c.name.ensures)
    ∙ ap (λ parts. list_any (λ (b : Branch). p b.0 b.1) (branches parts (Some (object (fields_of c.args.doc.now))) false)) (sym (c.in-Some.ensures.cases.0) ∙ c.parts.ensures.value))
