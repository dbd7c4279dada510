use Rattle.std.proofs.Common.{IsSome, ap, is_some, sym, subst, ◌∙◌}
use Rattle.ejson_value.proofs.PutAll.{room_made, all_put}
use Rattle.ejson_value.proofs.contents.Contents.put_by_key.Goals as goal

pub take_over-requires : goal.take_over-requires
take_over-requires c = λ k doc is.
    subst IsSome (sym (c.in_ok-make_all_places.ensures.ok k)) (room_made c.args.self.now c.args.changes.now k c.requires (ap is_some (sym (c.in_ok-plan.ensures k) ∙ is)))

pub returns-clause-ok : goal.returns-clause-ok
returns-clause-ok c =
    all_put c.args.changes.now c.in_ok-plan.plan.entries c.args.self.now c.make_all_places.new.self c.take_over.new.self
    c.known.ensures.by_key c.known-2.ensures.by_key c.in_ok-plan.ensures c.in_ok-make_all_places.ensures.ok c.take_over.ensures
