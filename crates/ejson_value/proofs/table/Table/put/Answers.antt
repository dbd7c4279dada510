use Rattle.std.proofs.Common.{option_map, subst, sym, ap, ◌∙◌}
use Rattle.std.specs.BTreeMap.{is_at}
use Rattle.value_model.specs.Order.{text_cmp}
use Rattle.value_model.specs.Valid.{IsDocument}
use Rattle.ejson_value.specs.View.{view, entries}
use Rattle.ejson_value.specs.Entries.{entries-insert, lookup-entries}
use Rattle.ejson_value.proofs.Places.{IsDocument-put}
use Rattle.ejson_value.proofs.table.Table.put.Goals as goal

pub invariant_of-self-2 : goal.invariant_of-self-2
invariant_of-self-2 c =
    let same = ap entries c.in_ok-insert.ensures.entries ∙ entries-insert c.self.inside.fields.entries c.args.name c.args.value in
    subst IsDocument (sym same) (IsDocument-put _ c.args.name (view c.args.value) c.self.invariant c.known.ensures)

pub returns-clause-ok : goal.returns-clause-ok
returns-clause-ok c = rw (← c.self.view_is) (ap entries c.in_ok-insert.ensures.entries ∙ entries-insert c.self.inside.fields.entries c.args.name c.args.value)

pub returns-clause-value : goal.returns-clause-value
returns-clause-value c =
    rw (← c.self.view_is) (ap (λ o. option_map view o) c.in_ok-insert.ensures.old ∙ sym (lookup-entries (is_at (text_cmp c.args.name)) c.self.inside.fields.entries))
