use Rattle.std.specs.Prelude.{IfOk}
use Rattle.std.proofs.Common.{◌≡◌, sym, subst}
use Rattle.ejson_value.specs.Changes.{news_of}
use Rattle.minimongo.specs.Finding.{published}
use Rattle.collection_store.proofs.Named.{named_matching}
use Rattle.minimongo.proofs.finding.find.Goals as goal

pub returns-in-Some : goal.returns-in-Some
returns-in-Some c =
    subst (λ rows. IfOk c.find_named.result (λ found. news_of found ≡ published rows))
    (sym (named_matching c.args.collection.now c.in-Some.id.now c.args.selector.now c.in-Some.ensures.only c.args.contents.now c.known.ensures.by_key))
    c.find_named.ensures
