use Rattle.std.proofs.Common.{Some, false, codes, ap, sym, ◌∙◌}
use Rattle.std.specs.Ordering.{is_eq}
use Rattle.value_model.specs.Val.{text, object, fields_of}
use Rattle.value_model.specs.Order.{text_cmp}
use Rattle.value_model.specs.Branches.{branches}
use Rattle.selector_match.specs.Holds.{with_id}
use Rattle.selector_match.specs.Asked.{fields_seen}
use Rattle.selector_match.proofs.Ids.{past_id, at_id, through_text, no_parts}
use Rattle.selector_match.proofs.asking.subject_at.Goals as goal

pub returns-then-not-is_id : goal.returns-then-not-is_id
returns-then-not-is_id c =
    let doc = c.args.doc.now in
    let parts = sym c.parts.ensures.value ∙ c.in-Some-split_first.ensures.cases.0 in
    let apart = ap (λ n. is_eq (text_cmp n (codes "_id"))) (sym c.name.ensures) ∙ (sym c.is_id.ensures ∙ c.if-not-is_id.true) in
    ap (λ p. branches p (Some (object (fields_of doc))) false) parts
    ∙ (past_id c.in-Some-split_first.first.now c.in-Some-split_first.rest.now c.in-Some.id.now doc apart
    ∙ (ap (λ p. branches p (Some (object (with_id c.in-Some.id.now doc))) false) (sym parts)
    ∙ ap (λ i. branches c.args.path.now (Some (object (fields_seen i doc))) false) (sym c.in-Some.is)))

pub returns-then-is_empty : goal.returns-then-is_empty
returns-then-is_empty c =
    let doc = c.args.doc.now in
    let rest = c.in-Some-split_first.rest.now in
    let parts = sym c.parts.ensures.value ∙ c.in-Some-split_first.ensures.cases.0 in
    let same = ap (λ n. is_eq (text_cmp n (codes "_id"))) (sym c.name.ensures) ∙ (sym c.is_id.ensures ∙ c.if-not-is_id.false) in
    ap (λ r. branches r (Some (text c.in-Some.id.now)) false) (sym (no_parts rest (sym c.is_empty.ensures ∙ c.if-is_empty.true)))
    ∙ (at_id c.in-Some-split_first.first.now rest c.in-Some.id.now doc same
    ∙ (ap (λ p. branches p (Some (object (with_id c.in-Some.id.now doc))) false) (sym parts)
    ∙ ap (λ i. branches c.args.path.now (Some (object (fields_seen i doc))) false) (sym c.in-Some.is)))

pub returns-else-is_empty : goal.returns-else-is_empty
returns-else-is_empty c =
    let doc = c.args.doc.now in
    let rest = c.in-Some-split_first.rest.now in
    let parts = sym c.parts.ensures.value ∙ c.in-Some-split_first.ensures.cases.0 in
    let same = ap (λ n. is_eq (text_cmp n (codes "_id"))) (sym c.name.ensures) ∙ (sym c.is_id.ensures ∙ c.if-not-is_id.false) in
    through_text rest c.in-Some.id.now (sym c.is_empty.ensures ∙ c.if-is_empty.false)
    ∙ (at_id c.in-Some-split_first.first.now rest c.in-Some.id.now doc same
    ∙ (ap (λ p. branches p (Some (object (with_id c.in-Some.id.now doc))) false) (sym parts)
    ∙ ap (λ i. branches c.args.path.now (Some (object (fields_seen i doc))) false) (sym c.in-Some.is)))
