use Rattle.std.specs.Prelude.{OnOk}
use Rattle.std.proofs.Common.{◌≡◌, ◌∙◌, ap, sym, subst}
use Rattle.ejson_value.specs.Key.{key_of}
use Rattle.publication.specs.Ordered.{documents_in, IsChoice}
use Rattle.publication.specs.Published.{published_of}
use Rattle.publication.specs.Putting.{put_document, put_rows, published_among, published_at}
use Rattle.publication.proofs.Choosing.{same_published, only_held}
use Rattle.publication.proofs.QueryLaws.{own_rows, named_rows}
use Rattle.publication.proofs.queries.put_rows.Goals as goal

pub returns-in-None : goal.returns-in-None
returns-in-None c =
    let cursor = c.args.cursor.now in
    let rows = c.args.contents.now in
    let found = c.args.found.now.entries in
    let docs = documents_in c.deref-in-None.result.now in
    let choice : IsChoice cursor rows docs = subst (λ ms. IsChoice cursor rows (documents_in ms)) (sym c.deref-in-None.ensures.value) c.in_ok-docs.ensures in
    subst (λ rs. OnOk c.put_collection.result (c.put_collection.new.found.entries ≡ rs))
    (own_rows (published_among cursor docs) cursor found rows ∙ ap (λ f. put_rows f found cursor rows) (same_published cursor rows docs choice.same)) c.put_collection.ensures

pub returns : goal.returns
returns c =
    let cursor = c.args.cursor.now in
    let rows = c.args.contents.now in
    let found = c.args.found.now.entries in
    let docs = documents_in c.deref-in-Some-2.result.now in
    let choice : IsChoice cursor rows docs = subst (λ ms. IsChoice cursor rows (documents_in ms)) (sym c.deref-in-Some-2.ensures.value) c.in_ok-docs.ensures in
    let id = c.in-Some.id.now in
    let key = key_of cursor.name id in
    let only = only_held cursor rows id c.in-Some.ensures.only in
    subst (λ rs. OnOk c.put_named.result (c.put_named.new.found.entries ≡ rs))
    (ap (λ f. put_document found key (published_at f cursor rows id)) (same_published cursor rows docs choice.same) ∙ sym (named_rows (published_of cursor rows) cursor id only found rows c.known.ensures.by_key))
    c.put_named.ensures
