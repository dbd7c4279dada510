use Rattle.std.proofs.Common.{◌≡◌, true, Ok, ap, sym, subst, ◌∙◌, refl, rules}
use Rattle.std.specs.Prelude.{if◌then◌else◌, Err}
use Rattle.map_model.specs.Maps.{at, IsSorted}
use Rattle.ejson_value.specs.declared.key.Key.{Key}
use Rattle.ejson_value.specs.Key.{key_cmp, key_of}
use Rattle.collection_store.specs.declared.fault.OpFault.TheVariants as fault
use Rattle.collection_store.specs.State.{StoreState}
use Rattle.collection_store.specs.Outcome.{Outcome}
use Rattle.collection_store.specs.Applied.{Applied, is_listed}
use Rattle.collection_store.specs.Inserting.{inserted}
use Rattle.collection_store.proofs.Inserted.{none_there, put_where_none, done_as, inserted_done}
use Rattle.collection_store.proofs.store.Store.insert.Goals as goal

pub returns-then-branch-clause-gives : goal.returns-then-branch-clause-gives
returns-then-branch-clause-gives c =
    let rows = c.args.self.now.rows in
    let key = c.in_ok-key.key in
    let doc = c.args.doc.now in
    let new = c.put_new.new.self.rows in
    let outcome = inserted rows (key_of c.args.collection.now c.args.id.now) doc c.args.room in
    let sorted = subst (IsSorted key_cmp) (ap (λ (s : StoreState). s.rows) c.self.view_is) c.known.ensures.by_key in
    let none = none_there (at key_cmp rows key) (sym c.in_ok-put_new.ensures.told ∙ c.if-branch.true) in
    let put = put_where_none rows new key doc doc c.in_ok-put_new.ensures.put none refl in
    let listed : is_listed c.args.self.now.names c.args.collection.now ≡ true = search rules in
    ap (λ b. if b then outcome else Err fault.NoCollection) listed
    ∙ (ap (λ (k : Key). inserted rows k doc c.args.room) (sym c.in_ok-key.ensures)
    ∙ (inserted_done rows key doc c.args.room sorted c.in_default.ensures.fits none
    ∙ ap (λ (a : Applied). let o : Outcome Applied = Ok a in o) (done_as rows new key doc c.in_ok-reply.reply put c.in_ok-reply.ensures)))
