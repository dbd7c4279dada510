-- The turns of the loop that updates documents.
use Rattle.std.proofs.Common.{◌≡◌, ℕ, ◌+◌, ◌<◌, List, [], ◌∷◌, ◌++◌, length, get_or, drop, Option, Some, None, Ok, Err, refl, sym, ap, ◌∙◌, add-one, drop-cons}
use Rattle.std.proofs.lemmas.List.{append_assoc}
use Rattle.ejson_value.specs.Results.{made, with_both}
use Rattle.ejson_value.specs.declared.change.Change.{Change}
use Rattle.modifier_apply.specs.Change.{Modification}
use Rattle.collection_store.specs.declared.finding.Match.{Match}
use Rattle.collection_store.specs.Outcome.{Outcome}
use Rattle.collection_store.specs.Finding.{row_of, rows_in}
use Rattle.collection_store.specs.Applied.{updated, all_updated, with_change}

-- the change stands behind those before, where there is one
abbrev pub IsPut : List Change → Option Change → List Change → Type 0
IsPut before change after = (more : List Change) → after ++ more ≡ before ++ with_change change more

pub put_some : (before after : List Change) (change : Change) → after ≡ before ++ change ∷ [] → IsPut before (Some change) after
put_some before after change is = λ more. ap (λ (cs : List Change). cs ++ more) is ∙ append_assoc before (change ∷ []) more

pub put_none : (before after : List Change) → after ≡ before → IsPut before None after
put_none before after is = λ more. ap (λ (cs : List Change). cs ++ more) is

turn : (before after : List Change) (change : Option Change) (rest : Outcome (List Change)) → IsPut before change after
    → made (λ cs. before ++ cs) (with_both with_change (Ok change) rest) ≡ made (λ cs. after ++ cs) rest
turn before after change (Ok cs) put = ap Ok (sym (put cs))
turn before after change (Err e) put = refl

pub one_more_updated : (m : Modification) (found : List Match) (i : ℕ) (one : Match) (before after : List Change) (change : Option Change)
    → one ≡ get_or found i one → i < length found → updated m (row_of one) ≡ Ok change → IsPut before change after
    → made (λ cs. before ++ cs) (all_updated m (rows_in (drop i found))) ≡ all_updated m (rows_in found)
    → made (λ cs. after ++ cs) (all_updated m (rows_in (drop (i + 1) found))) ≡ all_updated m (rows_in found)
one_more_updated m found i one before after change is within makes put all =
    let more : drop i found ≡ get_or found i one ∷ drop (i + 1) found = rw (add-one, drop-cons found i one) refl in
    let rest = all_updated m (rows_in (drop (i + 1) found)) in
    let first : all_updated m (rows_in (drop i found)) ≡ with_both with_change (Ok change) rest =
    ap (λ (ms : List Match). all_updated m (rows_in ms)) (more ∙ ap (λ (t : Match). t ∷ drop (i + 1) found) (sym is))
    ∙ ap (λ (u : Outcome (Option Change)). with_both with_change u rest) makes in
    sym (turn before after change rest put) ∙ (ap (made (λ cs. before ++ cs)) (sym first) ∙ all)
