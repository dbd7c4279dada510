use Rattle.std.proofs.Common.{◌∷◌, [], refl, ap, ◌∙◌}
use Rattle.map_model.specs.Maps.{at}
use Rattle.map_model.specs.MapLaws.{same_maps}
use Rattle.ejson_value.specs.Key.{key_cmp, key_order}
use Rattle.minimongo.specs.Originals.{left_by, saves_of}
use Rattle.minimongo.specs.OriginalLaws.{left_absent, left_saved}
use Rattle.minimongo.proofs.Holding.{save_step}
use Rattle.minimongo.proofs.originals.Originals.save.Goals as goal

pub loop-save-init : goal.loop-save-init
loop-save-init c = record {
  left = λ k. refl;
  undone = λ k. left_absent c.args.method (at key_cmp c.args.self.now k) (c.known.ensures.held k) (c.requires k);
}

pub loop-save-preserved : goal.loop-save-preserved
loop-save-preserved c = record {
  left = λ k.
      save_step c.args.method c.as_slice-save-items.result.now c.loop-save.save-index c.save-item.result c.loop-save.self c.save_one.new.self c.save-item.is c.loop-save-test.true (c.in_default.ensures {u = tt}).ok k
      ∙ c.loop-save.invariant.left k;
  undone = λ k.
      ap (left_by (c.args.method ∷ [])) ((c.in_default.ensures {u = tt}).ok k)
      ∙ left_saved c.args.method (at key_cmp (saves_of (c.save-item.result ∷ [])) k) (at key_cmp c.loop-save.self k)
      ∙ c.loop-save.invariant.undone k;
}

pub returns-in-Err-clause-err : goal.returns-in-Err-clause-err
returns-in-Err-clause-err c =
    same_maps key_order c.forget_one.new.self c.args.self.now c.known-in-Err.ensures.by_key c.known.ensures.by_key (λ k.
    c.forget_one.ensures k ∙ ap (λ os. left_by (c.args.method ∷ []) (at key_cmp os k)) c.in-Err.ensures.err ∙ c.loop-save.invariant.undone k)
