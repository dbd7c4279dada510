use Rattle.std.proofs.Common.{◌≡◌, option_map, Some, Bor, ap, sym, ◌∙◌}
use Rattle.std.proofs.lemmas.Option.{same_Some}
use Rattle.ejson_value.specs.declared.value.Doc.{Doc}
use Rattle.sort_window.proofs.Placed.{never_both}
use Rattle.sort_window.proofs.told.same_shown.Goals as goal

pub returns-in-Some-Some-clause-same : goal.returns-in-Some-Some-clause-same
returns-in-Some-Some-clause-same c =
    let now = option_map {T = Bor Doc} {U = Doc} (λ doc. doc.now) in
    λ equal. ap now c.in-Some-Some.is-0 ∙ ap (λ (doc : Doc). Some doc) (c.same_documents.ensures.equal.0 equal) ∙ sym (ap now c.in-Some-Some.is-1)

pub returns-in-Some-Some-clause-apart : goal.returns-in-Some-Some-clause-apart
returns-in-Some-Some-clause-apart c =
    let a = c.in-Some-Some.before.now in
    let b = c.in-Some-Some.after.now in
    let now = option_map {T = Bor Doc} {U = Doc} (λ doc. doc.now) in
    λ differs same.
    let equal : a ≡ b = same_Some a b (sym (ap now c.in-Some-Some.is-0) ∙ same ∙ ap now c.in-Some-Some.is-1) in
    never_both c.same_documents.result (c.same_documents.ensures.equal.1 equal) differs
