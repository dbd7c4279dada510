use Rattle.std.proofs.Common.{subst, sym, ap, ◌∙◌, option_map}
use Rattle.std.specs.BTreeMap.{is_at}
use Rattle.value_model.specs.Valid.{IsDocument}
use Rattle.value_model.specs.Order.{text_cmp}
use Rattle.ejson_value.specs.View.{view, entries}
use Rattle.ejson_value.specs.Entries.{lookup-entries, entries-remove}
use Rattle.ejson_value.proofs.Places.{IsDocument-remove}
use Rattle.ejson_value.proofs.table.Table.remove.Goals as goal

pub invariant_of-self : goal.invariant_of-self
invariant_of-self c =
    let same = ap entries c.remove.ensures.entries ∙ entries-remove (is_at (text_cmp c.args.name.now)) c.self.inside.fields.entries in
    subst IsDocument (sym same) (IsDocument-remove _ c.args.name.now c.self.invariant)

pub returns-clause-value : goal.returns-clause-value
returns-clause-value c = rw (← c.self.view_is) (ap (λ o. option_map view o) c.remove.ensures.value ∙ sym (lookup-entries (is_at (text_cmp c.args.name.now)) c.self.inside.fields.entries))

pub returns-clause-removed : goal.returns-clause-removed
returns-clause-removed c = rw (← c.self.view_is) (ap entries c.remove.ensures.entries ∙ entries-remove (is_at (text_cmp c.args.name.now)) c.self.inside.fields.entries)
