use Rattle.std.specs.Prelude.{IfOk}
use Rattle.std.proofs.Common.{◌≡◌, ◌∙◌, ap, sym, subst}
use Rattle.map_model.specs.Maps.{at}
use Rattle.ejson_value.specs.Key.{key_cmp, key_of}
use Rattle.collection_store.specs.Applied.{chosen}
use Rattle.collection_store.specs.Finding.{rows_in}
use Rattle.collection_store.proofs.Named.{named_matching, chosen_held}
use Rattle.collection_store.proofs.finding.matching.Goals as goal

pub returns-in-Some : goal.returns-in-Some
returns-in-Some c =
    let collection = c.args.collection.now in
    let selector = c.args.selector.now in
    let id = c.in-Some.id.now in
    let rows = c.args.contents.now in
    let all = c.args.all in
    let there = at key_cmp rows (key_of collection id) in
    subst (λ rs. IfOk c.matching_named.result (λ found. rows_in found.items ≡ rs))
    (sym (ap (λ rs. chosen all rs) (named_matching collection id selector c.in-Some.ensures.only rows c.known.ensures.by_key) ∙ chosen_held all selector (key_of collection id) there))
    c.matching_named.ensures
