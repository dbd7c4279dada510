use Rattle.std.proofs.Common.{Some, true, false, ap, sym, ◌∙◌}
use Rattle.line_parts.proofs.Forms.{few_items, params_listed, shallow_all}
use Rattle.line_parts.proofs.parts.params_in.Goals as goal

pub returns-in_ok-copy-clause-found : goal.returns-in_ok-copy-clause-found
returns-in_ok-copy-clause-found c =
    let items = c.in-List.items in
    let few = few_items c.as_slice.result.now items c.have_few_levels.result true c.as_slice.ensures c.have_few_levels.ensures c.if-have_few_levels.true in
    ap Some c.in_ok-copy.ensures
    ∙ params_listed c.args.values.now c.in-Some.first.now c.in-Some.rest.now items true true c.in-Some.ensures.cases.0 c.in-List.is (sym c.is_nil.ensures ∙ c.if-not-is_nil.false) few

pub returns-in_ok-copy-clause-shallow : goal.returns-in_ok-copy-clause-shallow
returns-in_ok-copy-clause-shallow c =
    let items = c.in-List.items in
    let few = few_items c.as_slice.result.now items c.have_few_levels.result true c.as_slice.ensures c.have_few_levels.ensures c.if-have_few_levels.true in
    shallow_all c.in_ok-copy.field-0 items c.in_ok-copy.ensures few

pub returns-else-have_few_levels-clause-found : goal.returns-else-have_few_levels-clause-found
returns-else-have_few_levels-clause-found c =
    let items = c.in-List.items in
    let few = few_items c.as_slice.result.now items c.have_few_levels.result false c.as_slice.ensures c.have_few_levels.ensures c.if-have_few_levels.false in
    params_listed c.args.values.now c.in-Some.first.now c.in-Some.rest.now items true false c.in-Some.ensures.cases.0 c.in-List.is (sym c.is_nil.ensures ∙ c.if-not-is_nil.false) few
