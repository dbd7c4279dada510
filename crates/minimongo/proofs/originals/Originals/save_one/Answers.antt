use Rattle.std.proofs.Common.{◌∙◌}
use Rattle.map_model.specs.MapLaws.{same_maps}
use Rattle.ejson_value.specs.Key.{key_order}
use Rattle.minimongo.proofs.Holding.{either_result, on_err, whole_same, whole_joined}
use Rattle.minimongo.proofs.originals.Originals.save_one.Goals as goal

pub invariant_of-self-2 : goal.invariant_of-self-2
invariant_of-self-2 c =
    let old = c.self.inside.saved.entries in
    let new = c.hold-held.new.saved.entries in
    let lists = c.self.inside.index.entries in
    let lists' = c.list.new.index.entries in
    either_result c.hold-held.result c.hold-held.ensures.ok c.hold-held.ensures.err
    (λ made. whole_joined old new lists lists' c.args.method c.args.save.now.key c.args.save.now.doc c.self.invariant c.len-len.ensures.ordered made c.in_ok-list.ensures.kept c.in_ok-list.ensures.listed)
    (λ same. whole_same old new lists lists' c.self.invariant c.len-len.ensures.ordered same c.in_ok-list.ensures.kept)

pub returns-clause-err : goal.returns-clause-err
returns-clause-err c =
    on_err c.hold-held.result (λ same. same_maps key_order c.hold-held.new.saved.entries c.self.inside.saved.entries c.len-len.ensures.ordered c.self.invariant.by_key same ∙ c.self.view_is) c.hold-held.ensures.err
