use Rattle.ejson_value.specs.Rows.{Rows}
use Rattle.minimongo.specs.Restored.{saves_at}
use Rattle.std.proofs.Common.{◌≡◌, false, sym, ap, ap₂, subst, ◌∙◌}
use Rattle.map_model.specs.Changes.{changed}
use Rattle.view_model.specs.Pending.{is_among, holders}
use Rattle.view_model.specs.Views.{simulated}
use Rattle.ejson_value.specs.declared.key.Key.{Key}
use Rattle.ejson_value.specs.Key.{key_cmp}
use Rattle.ejson_value.specs.Changes.{changes_of}
use Rattle.ejson_value.specs.ChangeLaws.{AllFit}
use Rattle.minimongo.specs.Originals.{saves_of}
use Rattle.minimongo.specs.State.{Documents, documents_of}
use Rattle.minimongo.proofs.States.{is_free, is_simulated, is_undone}
use Rattle.minimongo.proofs.view.View.simulate.Goals as goal

pub save-requires : goal.save-requires
save-requires c =
    is_free c.self.inside.originals c.args.method (subst (λ (d : Documents). (k : Key) → is_among (holders key_cmp d.pending k) c.args.method ≡ false) (sym c.self.view_is) c.requires.free)

pub returns-clause-err : goal.returns-clause-err
returns-clause-err c =
    ap₂ documents_of c.in-Err.ensures.err
    (is_undone c.args.method (saves_of c.in_ok-saves.saves) c.self.inside.originals c.save.new.self c.forget.new.self c.known.ensures c.known-in-Err.ensures.by_key c.in_ok-save.ensures.ok c.forget.ensures
    (subst (λ (d : Documents). (k : Key) → is_among (holders key_cmp d.pending k) c.args.method ≡ false) (sym c.self.view_is) c.requires.free))
    ∙ c.self.view_is

pub returns-in-Ok-clause-ok : goal.returns-in-Ok-clause-ok
returns-in-Ok-clause-ok c =
    is_simulated c.args.method c.self.inside.contents c.self.inside.originals c.save.new.self c.args.touched.now c.in_ok-saves.saves c.known-2.ensures c.known.ensures c.known-3.ensures.by_key (c.in_ok-saves.ensures ∙ ap (λ (rows : Rows). saves_at rows c.args.touched.now) c.contents.ensures) c.in_ok-save.ensures.ok
    c.args.changes.now c.requires.among c.put_all.new.self c.in-Ok.ensures.ok
    ∙ ap (λ (d : Documents). simulated key_cmp c.args.method (changed key_cmp d.view (changes_of c.args.changes.now)) c.args.touched.now d) c.self.view_is

pub put_all-requires : goal.put_all-requires
put_all-requires c = record {
  fit = subst (λ (d : Documents). AllFit d.view c.args.changes.now) (sym c.self.view_is) c.requires.fit;
  apart = c.requires.apart;
}
