use Rattle.std.proofs.Common.{sym, ◌∙◌}
use Rattle.std.specs.BTreeMap.{is_at}
use Rattle.value_model.specs.Order.{text_cmp}
use Rattle.ejson_value.specs.Entries.{lookup-entries, viewed}
use Rattle.ejson_value.proofs.table.Table.get.Goals as goal

pub returns : goal.returns
returns c = rw (← c.self.view_is) (viewed c.get.result _ c.get.ensures.value ∙ sym (lookup-entries (is_at (text_cmp c.args.name.now)) c.self.inside.fields.entries))
