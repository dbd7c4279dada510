use Rattle.std.proofs.Common.{ap₂, sym, subst, ◌∙◌}
use Rattle.std.specs.Ordering.{is_gt}
use Rattle.std.specs.declared.ops.Bound.TheVariants.{Included, Excluded}
use Rattle.std.specs.BTreeMap.Range.{entries_between}
use Rattle.map_model.specs.Maps.{IsSorted}
use Rattle.ejson_value.specs.Key.{key_cmp}
use Rattle.ejson_value.proofs.Ranges.{forward, between_is, sorted-rows_of}
use Rattle.ejson_value.proofs.contents.Contents.of_collection.Goals as goal

pub range-requires : goal.range-requires
range-requires c = ap₂ (λ a b. is_gt (key_cmp a b)) c.in_ok-first.ensures c.in_ok-behind.ensures ∙ forward c.args.collection.now

pub returns-clause-all : goal.returns-clause-all
returns-clause-all c =
    rw (← c.self.view_is)
    (c.range.ensures.between tt
    ∙ (ap₂ (λ a b. entries_between key_cmp (Included a) (Excluded b) c.self.inside.docs.entries) c.in_ok-first.ensures c.in_ok-behind.ensures
    ∙ between_is c.args.collection.now c.self.inside.docs.entries))

pub returns-clause-ordered : goal.returns-clause-ordered
returns-clause-ordered c =
    subst (IsSorted key_cmp)
    (sym (c.range.ensures.between tt
    ∙ (ap₂ (λ a b. entries_between key_cmp (Included a) (Excluded b) c.self.inside.docs.entries) c.in_ok-first.ensures c.in_ok-behind.ensures
    ∙ between_is c.args.collection.now c.self.inside.docs.entries)))
    (sorted-rows_of c.args.collection.now c.self.inside.docs.entries c.self.invariant.by_key)
