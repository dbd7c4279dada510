use Rattle.std.proofs.Common.{List, IsSome, ap, sym, subst, ◌∙◌}
use Rattle.map_model.specs.Changes.{changed, last_at}
use Rattle.ejson_value.specs.declared.change.Change.{Change}
use Rattle.ejson_value.specs.Key.{key_cmp}
use Rattle.ejson_value.specs.Changes.{changes_of}
use Rattle.ejson_value.proofs.PutAll.{room_made, all_made}
use Rattle.ejson_value.proofs.contents.Contents.put_apart.Goals as goal

pub settle_each-requires-clause-places : goal.settle_each-requires-clause-places
settle_each-requires-clause-places c = λ k some.
    subst IsSome (sym (c.in_ok-make_all_places.ensures.ok k))
    (room_made c.args.self.now c.args.changes.now k c.requires.fit (subst (λ (cs : List Change). IsSome (last_at key_cmp k (changes_of cs))) c.as_slice.ensures some))

pub returns-clause-ok : goal.returns-clause-ok
returns-clause-ok c =
    c.settle_each.ensures
    ∙ (ap (λ (cs : List Change). changed key_cmp c.make_all_places.new.self (changes_of cs)) c.as_slice.ensures
    ∙ all_made c.args.changes.now c.args.self.now c.make_all_places.new.self c.known.ensures.by_key c.known-2.ensures.by_key c.in_ok-make_all_places.ensures.ok)
