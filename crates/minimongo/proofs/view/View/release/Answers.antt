use Rattle.std.specs.Prelude.{map}
use Rattle.ejson_value.specs.Rows.{Rows}
use Rattle.minimongo.specs.Restored.{restored}
use Rattle.std.proofs.Common.{List, ap, sym, subst, ◌∙◌}
use Rattle.map_model.specs.Changes.{changed}
use Rattle.view_model.specs.Views.{released}
use Rattle.ejson_value.specs.declared.change.Change.{Change}
use Rattle.ejson_value.specs.Key.{key_cmp}
use Rattle.ejson_value.specs.Changes.{changes_of}
use Rattle.ejson_value.specs.ChangeLaws.{AllFit, HaveDistinctKeys}
use Rattle.minimongo.proofs.States.{is_released, restores_fit, restores_apart}
use Rattle.minimongo.proofs.view.View.release.Goals as goal

pub put_all-requires : goal.put_all-requires
put_all-requires c = record {
  fit = subst (AllFit c.self.inside.contents) (sym (c.in_ok-changes.ensures ∙ ap (λ (rows : Rows). map (restored rows) c.in_ok-saves.saves) c.contents.ensures)) (restores_fit c.self.inside.contents c.in_ok-saves.saves);
  apart = subst HaveDistinctKeys (sym (c.in_ok-changes.ensures ∙ ap (λ (rows : Rows). map (restored rows) c.in_ok-saves.saves) c.contents.ensures)) (restores_apart c.args.methods.now c.self.inside.contents c.self.inside.originals c.in_ok-saves.saves c.known.ensures c.in_ok-saves.ensures);
}

pub returns-clause-ok : goal.returns-clause-ok
returns-clause-ok c =
    is_released c.args.methods.now c.self.inside.contents c.put_all.new.self c.self.inside.originals c.forget.new.self c.in_ok-saves.saves c.known-2.ensures c.known.ensures c.known-3.ensures.by_key c.in_ok-saves.ensures
    (c.in_ok-put_all.ensures.ok ∙ ap (λ (cs : List Change). changed key_cmp c.self.inside.contents (changes_of cs)) (c.in_ok-changes.ensures ∙ ap (λ (rows : Rows). map (restored rows) c.in_ok-saves.saves) c.contents.ensures)) c.forget.ensures
    ∙ ap (released key_cmp c.args.methods.now) c.self.view_is
