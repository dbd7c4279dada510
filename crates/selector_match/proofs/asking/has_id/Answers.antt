use Rattle.std.proofs.Common.{◌≡◌, ap, sym, ◌∙◌, rules}
use Rattle.std.specs.Ordering.{is_eq}
use Rattle.value_model.specs.Order.{text_cmp}
use Rattle.selector_match.specs.Named.{has_id}
use Rattle.selector_match.specs.Holds.{clause_holds}
use Rattle.selector_match.specs.Reached.{reached_view}
use Rattle.selector_match.specs.Asked.{fields_seen}
use Rattle.selector_match.proofs.Ids.{has_id-given, has_id-field}
use Rattle.selector_match.proofs.asking.has_id.Goals as goal

pub returns-in-Some : goal.returns-in-Some
returns-in-Some c =
    let same : c.is_eq.result ≡ is_eq (text_cmp c.in-Some.id.now c.args.wanted.now) = search rules in
    same
    ∙ has_id-given c.args.wanted.now c.in-Some.id.now c.args.doc.now
    ∙ ap (λ id. clause_holds (has_id c.args.wanted.now) (fields_seen id c.args.doc.now)) (sym c.in-Some.is)

pub returns-in-None : goal.returns-in-None
returns-in-None c =
    c.some_candidate_meets.ensures
    ∙ (has_id-field c.args.wanted.now c.args.doc.now (reached_view c.reached_by.result) (c.reached_by.ensures ∙ c.id_field.ensures)
    ∙ ap (λ id. clause_holds (has_id c.args.wanted.now) (fields_seen id c.args.doc.now)) (sym c.in-None.is))
