use Rattle.std.proofs.Common.{◌≡◌, ◌↔◌, IsTrue, false, subst}
use Rattle.view_model.specs.Pending.{is_among, holders}
use Rattle.ejson_value.specs.declared.key.Key.{Key}
use Rattle.ejson_value.specs.Key.{key_cmp}
use Rattle.minimongo.specs.State.{Documents}
use Rattle.minimongo.proofs.States.{same_free}
use Rattle.minimongo.proofs.view.View.is_free.Goals as goal

pub returns : goal.returns
returns c =
    subst (λ (d : Documents). IsTrue c.is_free.result ↔ ((k : Key) → is_among (holders key_cmp d.pending k) c.args.method ≡ false)) c.self.view_is
    (same_free c.self.inside.originals c.args.method c.is_free.result c.is_free.ensures)
