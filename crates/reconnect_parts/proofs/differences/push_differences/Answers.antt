use Rattle.std.specs.Prelude.{OnOk}
use Rattle.std.specs.Map.{values_of}
use Rattle.std.proofs.Common.{◌≡◌, ◌++◌, List, ℕ, ap, subst, ◌∙◌}
use Rattle.ejson_value.specs.declared.key.Key.{Key}
use Rattle.ejson_value.specs.Key.{key_cmp}
use Rattle.reconnect_parts.specs.Differences.{put_all, change_at, new_at}
use Rattle.reconnect_parts.proofs.Found.{differences_walked}
use Rattle.reconnect_parts.proofs.differences.push_differences.Goals as goal

pub returns : goal.returns
returns c =
    let given = c.args.given.now in
    let copy = c.args.copy.now in
    let changes = c.in_ok-put_changes.ensures ∙ ap (λ (m : List (Key × List ℕ)). put_all key_cmp (change_at copy) m given) c.new-found.ensures.empty in
    let all = c.in_ok-put_all_new.ensures ∙ ap (λ (m : List (Key × List ℕ)). put_all key_cmp (new_at given) m copy) changes in
    subst (λ (texts : List (List ℕ)). OnOk c.push_found.result (c.push_found.new.texts ≡ c.args.texts.now ++ texts)) (ap values_of all ∙ differences_walked given copy c.known.ensures c.known-2.ensures) c.push_found.ensures
