use Rattle.std.proofs.Common.{ap, sym, subst}
use Rattle.ejson_value.specs.ChangeLaws.{AllFit}
use Rattle.collection_store.specs.State.{StoreState}
use Rattle.collection_store.proofs.store.Store.make.Goals as goal

pub put_all-requires : goal.put_all-requires
put_all-requires c = subst (λ rows. AllFit rows c.args.changes.now) (sym (ap (λ (s : StoreState). s.rows) c.self.view_is)) c.requires.fit.fit
