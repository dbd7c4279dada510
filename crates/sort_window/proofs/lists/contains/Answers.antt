use Rattle.std.proofs.Common.{◌≡◌, slice_get, ap, sym, ◌∙◌}
use Rattle.std.specs.Prelude.{count_by}
use Rattle.std.specs.Ordering.{is_eq}
use Rattle.std.proofs.lemmas.Option.{none-some, same_Some}
use Rattle.value_model.specs.Order.{text_cmp}
use Rattle.sort_window.specs.Inside.{stands_before, has_id}
use Rattle.sort_window.proofs.Placed.{not_there, counted_at, id_itself, never_both}
use Rattle.sort_window.proofs.lists.contains.Goals as goal

pub returns-in-None-clause-missing : goal.returns-in-None-clause-missing
returns-in-None-clause-missing c =
    let sort = c.args.sort.now in
    let rows = c.args.rows.now in
    let held = c.args.held.now in
    let place = c.place.ensures.value
    ∙ ap (λ k. count_by (stands_before sort k c.whole.result.now) rows) c.id.ensures
    ∙ ap (λ k. count_by (stands_before sort held.0 k) rows) c.whole.ensures in
    λ _. not_there sort rows held c.requires.sorted (λ some. none-some held (c.in-None.ensures ∙ ap (slice_get rows) place ∙ some))

pub returns-in-Some-clause-there : goal.returns-in-Some-clause-there
returns-in-Some-clause-there c =
    let rows = c.args.rows.now in
    let held = c.args.held.now in
    let other = c.in-Some.other.now in
    let told : has_id held.0 other ≡ c.is_eq.result =
    ap (λ k. is_eq (text_cmp k held.0)) (sym c.id-in-Some.ensures)
    ∙ ap (λ k. is_eq (text_cmp c.id-in-Some.result.now k)) (sym c.id-in-Some-2.ensures)
    ∙ ap is_eq (sym c.cmp.ensures)
    ∙ sym c.is_eq.ensures in
    λ told_same. counted_at (has_id held.0) rows c.place.result other (sym c.in-Some.ensures) (told ∙ told_same)

pub returns-in-Some-clause-missing : goal.returns-in-Some-clause-missing
returns-in-Some-clause-missing c =
    let sort = c.args.sort.now in
    let rows = c.args.rows.now in
    let held = c.args.held.now in
    let other = c.in-Some.other.now in
    let told : has_id held.0 other ≡ c.is_eq.result =
    ap (λ k. is_eq (text_cmp k held.0)) (sym c.id-in-Some.ensures)
    ∙ ap (λ k. is_eq (text_cmp c.id-in-Some.result.now k)) (sym c.id-in-Some-2.ensures)
    ∙ ap is_eq (sym c.cmp.ensures)
    ∙ sym c.is_eq.ensures in
    let place = c.place.ensures.value
    ∙ ap (λ k. count_by (stands_before sort k c.whole.result.now) rows) c.id.ensures
    ∙ ap (λ k. count_by (stands_before sort held.0 k) rows) c.whole.ensures in
    λ differs. not_there sort rows held c.requires.sorted (λ some.
    let same : other ≡ held = same_Some other held (c.in-Some.ensures ∙ ap (slice_get rows) place ∙ some) in
    never_both (has_id held.0 other) (ap (has_id held.0) same ∙ id_itself held) (told ∙ differs))
