-- What a session sees of a store whose history is of values can be said in messages.
use Rattle.std.specs.Prelude.{◌≡◌, ◌⊎◌, ℕ, suc, ◌≤◌, ◌<◌, List, [], ◌∷◌, length, take, cond, nat_lt, nat_le, Option, None, Some, IfSome, option_map, refl}
use Rattle.std.specs.Ordering.{is_eq}
use Rattle.std.proofs.Common.{sym, subst, arith, inl, inr}
use Rattle.std.proofs.lemmas.Bool.{ltb-true, ltb-false, or_parts, and_parts, cases_order}
use Rattle.std.specs.declared.cmp.Ordering.{Ordering}
use Rattle.std.specs.declared.cmp.Ordering.TheVariants.{Less, Equal, Greater}
use Rattle.map_model.specs.Maps.{at}
use Rattle.value_model.specs.Val.{Entries}
use Rattle.value_model.specs.Depth.{depth}
use Rattle.value_model.specs.Size.{size}
use Rattle.value_model.specs.Valid.{IsDocument}
use Rattle.ejson_value.specs.declared.key.Key.{Key}
use Rattle.ejson_value.specs.Key.{key_cmp, key_exact}
use Rattle.ejson_value.specs.Rows.{Rows}
use Rattle.collection_store.specs.Limits.{document, max_document_size, max_document_depth}
use Rattle.program_steps.specs.declared.outcome.Status.{Status}
use Rattle.program_steps.specs.Runs.{Outcome, End}
use Rattle.app_model.specs.App.{App}
use Rattle.world_model.specs.history_model.declared.entry.Entry.{Entry}
use Rattle.world_model.specs.history_model.History.{run_cmp, Begun, status_of, held_at}
use Rattle.world_model.specs.history_model.Bounds.{AreStored}
use Rattle.world_model.specs.history_model.Bounds as bounds
use Rattle.world_model.specs.history_model.RunsLaws as runs
use Rattle.world_model.specs.history_model_for_proofs.StoredLaws.{stored_held}
use Rattle.world_model.specs.session_model.Moments.{Moment, moment_at}
use Rattle.world_model.specs.session_model.Kept.{HasResult, IsKept, AreKept}
use Rattle.world_model.specs.session_model.Kept as kept
use Rattle.world_model.specs.Store.{programs, moments}
use Rattle.world_model.specs.StoreLaws.{moments_at, moments_past}
use Rattle.world_values_laws.specs.Values.{HasValues, AreEntries, AreDocuments, IsBegun}
use Rattle.world_values_laws.specs.HistoryValuesLaws.{held_is, entries_take}

-- ---- documents

stored_is : (key : Key) (doc : Entries) → bounds.IsStored key doc → IsDocument doc → kept.IsStored key doc
stored_is key doc s d =
    let some = and_parts (nat_lt 0 (length key.id)) (nat_le (length key.id) 256) s.id in
    let small = or_parts (nat_lt max_document_size (size (document doc))) (nat_lt max_document_depth (depth (document doc))) s.small in
    let few = ltb-false max_document_depth (depth (document doc)) small.1 in
    (ltb-true 0 (length key.id) some.0, d, omega (arith, few))

stored_at : (rows : Rows) (key : Key) → AreStored rows → AreDocuments rows → IfSome (at key_cmp rows key) (kept.IsStored key)
stored_at [] key s d = tt
stored_at (row ∷ rows) key s d =
    let rest = stored_at rows key s.1 d.1 in
    elim (key_cmp key row.0) as (λ (o : Ordering). key_cmp key row.0 ≡ o → IfSome (cond (is_eq o) (Some row.1) (at key_cmp rows key)) (kept.IsStored key)) [
      | Less ↦ λ e. rest
      | Equal ↦ λ e. subst (λ (k : Key). kept.IsStored k row.1) (sym (key_exact key row.0 e)) (stored_is row.0 row.1 s.0 d.0)
      | Greater ↦ λ e. rest
    ] refl

-- ---- results

ended_is : (b : Begun) → IsBegun b → IfSome (status_of b).ended (λ (end : End). HasResult end.outcome)
ended_is b is = by b.run.outcome is.outcome
  where
    by : (o : Option Outcome) → IfSome o HasResult →
        IfSome (option_map (λ o. let e : End = record { outcome = o; at = b.at } in e) o) (λ (end : End). HasResult end.outcome)
    by None p = tt
    by (Some o) p = p

status_is : (o : Option Begun) → IfSome o IsBegun →
    IfSome (option_map status_of o) (λ (status : Status). IfSome status.ended (λ (end : End). HasResult end.outcome))
status_is None is = tt
status_is (Some b) is = ended_is b is

-- ---- moments

pub moments_are_kept : (app : App) (n : ℕ) (history : List Entry) → HasValues (programs app) → AreEntries history → AreKept (moments app n history)
moments_are_kept app n history good all place = by (cases_order place (suc (length history)))
  where
    within : place ≤ length history → IfSome (moment_at (moments app n history) place) IsKept
    within le =
        let es = take place history in
        let is = held_is (programs app) es good (entries_take place history all) in
        let h = held_at (programs app) history place in
        subst (λ (o : Option Moment). IfSome o IsKept) (sym (moments_at app n history place le)) (record {
          order = (runs.held_is (programs app) es).rows;
          stored = λ key. stored_at h.rows key (stored_held (programs app) es) is.rows.documents;
          results = λ k. status_is (at run_cmp h.runs (n, k)) (is.runs (n, k));
        })

    past : length history < place → IfSome (moment_at (moments app n history) place) IsKept
    past less = subst (λ (o : Option Moment). IfSome o IsKept) (sym (moments_past app n history place less)) tt

    by : (place ≡ suc (length history)) ⊎ ((place < suc (length history)) ⊎ (suc (length history) < place)) →
        IfSome (moment_at (moments app n history) place) IsKept
    by (inl e) = past (omega (arith, e))
    by (inr (inl l)) = within (omega (arith, l))
    by (inr (inr l)) = past (omega (arith, l))
