use Rattle.std.specs.Prelude.{nat_lt, vec_len, ◌==◌}
use Rattle.std.proofs.Common.{◌≡◌, not, length, ap, ◌∙◌, arith}
use Rattle.collection_store.specs.Applied.{matching}
use Rattle.collection_store.specs.State.{StoreState}
use Rattle.collection_store.proofs.FirstFound.{first_found}
use Rattle.collection_store.proofs.store.Store.has_match.Goals as goal

pub returns : goal.returns
returns c =
    let collection = c.args.collection.now in
    let selector = c.args.selector.now in
    let found = c.in_ok-found.found in
    let counted : vec_len found ≡ length found.items = omega (arith, found.ok.0) in
    ap not c.is_empty.ensures
    ∙ (ap (λ n. not (n == 0)) counted
    ∙ (first_found found.items (matching collection selector c.self.inside.contents) c.in_ok-found.ensures
    ∙ ap (λ (s : StoreState). nat_lt 0 (length (matching collection selector s.rows))) c.self.view_is))
