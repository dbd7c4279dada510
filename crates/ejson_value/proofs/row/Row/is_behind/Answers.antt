use Rattle.std.proofs.Common.{sym, ap, ◌∙◌, ◌-◌, List, length, slice_get}
use Rattle.ejson_value.specs.declared.row.Member.{Member}
use Rattle.ejson_value.proofs.Places.{behind_last, lt_of}
use Rattle.ejson_value.proofs.row.Row.is_behind.Goals as goal

pub returns-in-Some : goal.returns-in-Some
returns-in-Some c less =
    rw (← c.self.view_is)
    (behind_last c.args.name.now c.self.inside.members.items c.in-Some.last.now c.self.invariant.names
    (c.in-Some.ensures.value ∙ ap (λ (ms : List Member). slice_get ms (length ms - 1)) c.deref.ensures.value)
    (lt_of _ (sym c.lt.ensures ∙ less)))
