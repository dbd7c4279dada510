-- A line that tells of an operation of an administrator is its event.
use Rattle.std.specs.Prelude.{nat_le, IsUtf8, option_map, option_and_then}
use Rattle.std.specs.List.{list_all}
use Rattle.std.proofs.Common.{◌≡◌, ℕ, ◌≤◌, List, [], ◌∷◌, codes, true, cond, None, Some, refl, ap, sym, subst, ◌∙◌, arith, le-leb}
use Rattle.std.proofs.Math.Nat.{le-max_left, le-max_right}
use Rattle.std.proofs.lemmas.Bool.{and_from}
use Rattle.std.specs.Result.{result_ok}
use Rattle.value_model.specs.Val.{Val, list, vals_of}
use Rattle.value_model.specs.ValLaws.{list_of-vals_of}
use Rattle.value_model.specs.Depth.{depth, vals_depth}
use Rattle.ejson_codec.specs.Reading.{max_levels}
use Rattle.ddp_messages.specs.Limits.{AreShallow}
use Rattle.collection_store.specs.declared.operation.Op.{Op}
use Rattle.world_core.specs.history_model.Operations.{operation_in}
use Rattle.world_core.specs.history_log.Entries.{told_operation}
use Rattle.world_core.specs.history_log_for_proofs.ToldLaws.{told_operation-worded}
use Rattle.operation_reading.specs.Tells.{told_value, Tells}
use Rattle.world_core.specs.world_model.declared.events.Event.TheVariants as event
use Rattle.world_core.specs.world_model.Events.{IsEvent}
use Rattle.world_events.specs.Events.{event_in}
use Rattle.checking.specs.InputLaws.{value_of_text}
use Rattle.replay_core.specs.Stepping.{IsOperation}
use Rattle.replay_core.specs.ValuesReadLaws.{parsed_is}

-- ---- levels

-- the levels of a list inside a list
inside_depth : (vs : List Val) → depth (told_value vs) ≤ max_levels → vals_depth (vals_of vs) ≤ max_levels
inside_depth vs h =
    let inner = le-max_left (depth (list (vals_of vs))) 0 in omega (arith, h, inner)

shallow : (vs : List Val) → vals_depth (vals_of vs) ≤ max_levels → AreShallow vs
shallow [] h = tt
shallow (v ∷ vs) h =
    let here = le-max_left (depth v) (vals_depth (vals_of vs)) in
    let rest = le-max_right (depth v) (vals_depth (vals_of vs)) in
    (omega (arith, h, here), shallow vs (omega (arith, h, rest)))

few : (vs : List Val) → vals_depth (vals_of vs) ≤ max_levels → list_all (λ v. nat_le (depth v) max_levels) vs ≡ true
few [] h = refl
few (v ∷ vs) h =
    let here = le-max_left (depth v) (vals_depth (vals_of vs)) in
    let rest = le-max_right (depth v) (vals_depth (vals_of vs)) in
    and_from (nat_le (depth v) max_levels) (list_all (λ w. nat_le (depth w) max_levels) vs) (le-leb (depth v) max_levels (omega (arith, h, here))) (few vs (omega (arith, h, rest)))

-- ---- the event

told_event : (vs : List Val) → list_all (λ v. nat_le (depth v) max_levels) vs ≡ true → event_in (told_value vs) ≡ Some (event.Admin vs)
told_event vs low =
    ap (λ ws. option_map (λ op. event.Admin op) (cond (list_all (λ v. nat_le (depth v) max_levels) ws) (Some ws) None)) (list_of-vals_of vs)
    ∙ ap (λ b. option_map (λ op. event.Admin op) (cond b (Some vs) None)) low

pub is_operation : (line : List ℕ) (op : Op) → IsUtf8 line → Tells line op → IsOperation line op
is_operation line op utf8 t =
    let vs = t.0 in
    let low = inside_depth vs (parsed_is line (told_value vs) t.1).shallow in
    let told : told_operation line ≡ vs = told_operation-worded line (codes "admin") vs t.1 in
    let value = value_of_text line (Some (told_value vs)) utf8 (ap result_ok t.1) in
    record {
      is_event = ap (option_and_then event_in) value ∙ told_event vs (few vs low) ∙ ap (λ (ws : List Val). Some (event.Admin ws)) (sym told);
      fits = subst (λ (ws : List Val). IsEvent (event.Admin ws)) (sym told) (t.2, shallow vs low);
      operation = ap operation_in told ∙ t.3;
    }
