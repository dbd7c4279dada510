use Rattle.std.proofs.Common.{Some, subst, sym, ap, refl, ◌∙◌, slice_set}
use Rattle.value_model.specs.Valid.{IsDocument}
use Rattle.ejson_value.specs.View.{view, pairs, entries}
use Rattle.ejson_value.specs.declared.row.Member.{Member}
use Rattle.ejson_value.proofs.Places.{got, set_is_put, IsDocument-put}
use Rattle.ejson_value.proofs.row.Row.write_at.Goals as goal

pub invariant_of-self : goal.invariant_of-self
invariant_of-self c =
    let ms = c.self.inside.members.items in
    let is = rw (← c.self.view_is) at c.requires in
    let same = ap (λ (m : Member). entries (pairs (slice_set ms c.args.place m))) c.replace-name.ensures.after ∙ set_is_put c.args.member.name ms c.args.place c.args.member c.self.invariant.names is refl in
    subst IsDocument (sym same) (IsDocument-put _ c.args.member.name (view c.args.member.value) c.self.invariant c.known.ensures)

pub returns-clause-value : goal.returns-clause-value
returns-clause-value c =
    let ms = c.self.inside.members.items in
    let is = rw (← c.self.view_is) at c.requires in
    rw (← c.self.view_is)
    (ap (λ (m : Member). Some (view m.value)) c.replace-name.ensures.value
    ∙ sym (got c.args.member.name ms c.args.place c.index_mut.result.now c.self.invariant.names is c.index_mut.ensures.value))

pub returns-clause-put : goal.returns-clause-put
returns-clause-put c =
    let ms = c.self.inside.members.items in
    let is = rw (← c.self.view_is) at c.requires in
    rw (← c.self.view_is) (ap (λ (m : Member). entries (pairs (slice_set ms c.args.place m))) c.replace-name.ensures.after ∙ set_is_put c.args.member.name ms c.args.place c.args.member c.self.invariant.names is refl)
