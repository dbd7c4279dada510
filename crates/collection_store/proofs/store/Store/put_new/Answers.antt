use Rattle.std.proofs.Common.{ap, sym, ◌∙◌, arith}
use Rattle.map_model.specs.Maps.{at}
use Rattle.ejson_value.specs.Key.{key_cmp}
use Rattle.collection_store.specs.State.{StoreState}
use Rattle.collection_store.specs.Limits.{bytes_of}
use Rattle.collection_store.proofs.Inserted.{none_there, put_where_none, bytes-inserted}
use Rattle.collection_store.proofs.store.Store.put_new.Goals as goal

pub invariant_of-self-then-new : goal.invariant_of-self-then-new
invariant_of-self-then-new c =
    let rows = c.self.inside.contents in
    let doc = c.args.doc.now in
    let none = none_there (at key_cmp rows c.args.key) (sym c.in_ok-new.ensures.told ∙ c.if-new.true) in
    let put = put_where_none rows c.put_new.new.self c.args.key doc c.in_ok-copy.field-0 c.in_ok-new.ensures.put none c.in_ok-copy.ensures in
    let made = ap bytes_of put ∙ bytes-inserted rows c.args.key doc c.known.ensures.by_key none in
    omega (arith, made, c.self.invariant, c.document_size.ensures, c.requires, ap (λ (s : StoreState). bytes_of s.rows) c.self.view_is)
