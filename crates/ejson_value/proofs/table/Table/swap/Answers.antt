use Rattle.std.proofs.Common.{Some, option_map, is_some, subst, sym, ap, ◌∙◌}
use Rattle.std.specs.BTreeMap.{is_at}
use Rattle.std.specs.List.Sorted.{IsStrictlySortedBy}
use Rattle.value_model.specs.Order.{text_cmp}
use Rattle.value_model.specs.Doc.{put}
use Rattle.value_model.specs.Valid.{IsDocument}
use Rattle.ejson_value.specs.Key.{name_order}
use Rattle.ejson_value.specs.View.{view, entries}
use Rattle.ejson_value.specs.Entries.{keys_of-entries, entries-insert, lookup-entries}
use Rattle.ejson_value.proofs.Places.{IsDocument-put}
use Rattle.ejson_value.proofs.PutAll.{written_by}
use Rattle.ejson_value.proofs.table.Table.swap.Goals as goal

pub invariant_of-self-2 : goal.invariant_of-self-2
invariant_of-self-2 c =
    let es = c.self.inside.fields.entries in
    let name = c.args.name.now in
    let v = c.replace.new.dest in
    let holds = c.get_mut.follows.holds v in
    let sorted = subst (IsStrictlySortedBy text_cmp) (keys_of-entries es) c.self.invariant.names in
    let is_put = written_by name_order es (c.get_mut.follows.lender v).entries name v sorted holds.4 (holds.3 (ap is_some (sym c.in-Some.ensures.value))).0 in
    let same = ap entries is_put ∙ (entries-insert es name v ∙ ap (λ v. put (entries es) name (view v)) c.replace.ensures.after) in
    subst IsDocument (sym same) (IsDocument-put _ name (view c.args.value) c.self.invariant c.known.ensures)

pub returns-clause-value : goal.returns-clause-value
returns-clause-value c =
    let es = c.self.inside.fields.entries in
    let name = c.args.name.now in
    rw (← c.self.view_is)
    (ap (λ v. Some (view v)) c.replace.ensures.value ∙ (ap (λ o. option_map view o) c.in-Some.ensures.value ∙ sym (lookup-entries (is_at (text_cmp name)) es)))

pub returns-clause-put : goal.returns-clause-put
returns-clause-put c =
    let es = c.self.inside.fields.entries in
    let name = c.args.name.now in
    let v = c.replace.new.dest in
    let holds = c.get_mut.follows.holds v in
    let sorted = subst (IsStrictlySortedBy text_cmp) (keys_of-entries es) c.self.invariant.names in
    let is_put = written_by name_order es (c.get_mut.follows.lender v).entries name v sorted holds.4 (holds.3 (ap is_some (sym c.in-Some.ensures.value))).0 in
    rw (← c.self.view_is) (ap entries is_put ∙ (entries-insert es name v ∙ ap (λ v. put (entries es) name (view v)) c.replace.ensures.after))
