-- Lines that are read back.
use Rattle.std.specs.Prelude.{pos}
use Rattle.std.specs.List.{list_all}
use Rattle.std.proofs.Common.{◌≡◌, ◌≤◌, ℕ, true, List, [], ◌∷◌, refl, ap, ◌∙◌, arith}
use Rattle.std.proofs.Math.Nat.{max-le}
use Rattle.std.proofs.lemmas.Bool.{leb-true}
use Rattle.std.proofs.lemmas.Int.{ints}
use Rattle.value_model.specs.TruthLaws.{both_true}
use Rattle.serde_json.specs.Read as json_text
use Rattle.value_model.specs.Val.{Val, vals_of}
use Rattle.value_model.specs.Valid.{IsWhole, IsValue, AreValues}
use Rattle.value_model.specs.Depth.{depth, vals_depth}
use Rattle.ejson_value.specs.declared.value.Value.{Value}
use Rattle.ejson_value.specs.View.{view}
use Rattle.ejson_codec.specs.CompactLaws.{read-compact_text}
use Rattle.ejson_codec.specs.ExactLaws.{exact-written}
use Rattle.ejson_codec.specs.TreeLaws.{rising_written}
use Rattle.ejson_codec.specs.Written.{written}
use Rattle.ejson_codec.proofs.TextLaws.{parsed_back}
use Rattle.history_model.specs.declared.entry.Entry.TheVariants as entry
use Rattle.history_log.specs.Entries.{is_shallow, IsReadBack, Says}
use Rattle.history_model.specs.Lines.{entry_value, line_of}

pub says : (v : Val) (line : List ℕ) → IsReadBack v → line ≡ line_of v → Says line v
says v line back printed =
    let d = written v in
    let read = read-compact_text d (exact-written v back.value) (rising_written v back.value) in
    record { printed = printed; read = parsed_back v d line refl back.value (λ shallow. ap json_text.read printed ∙ read shallow) back.shallow }

pub all_low : (vs : List Val) → list_all (λ v. is_shallow v) vs ≡ true → vals_depth (vals_of vs) ≤ 30
all_low [] h = omega arith
all_low (v ∷ vs) h =
    let parts = both_true (is_shallow v) (list_all (λ v. is_shallow v) vs) h in max-le (leb-true (depth v) 30 parts.0) (all_low vs parts.1)

pub operation_back : (op : List Val) → AreValues (vals_of op) → list_all (λ v. is_shallow v) op ≡ true → IsReadBack (entry_value (entry.Admin op))
operation_back op values low = record { value = (tt, (values, tt)); shallow = omega (arith, all_low op low) }

is_whole : (k : ℕ) → k ≤ 9007199254740991 → IsWhole (pos k)
is_whole k h = record { low = grind (arith, ints); high = grind (arith, ints) }

pub call_back : (session k : ℕ) (method : List ℕ) (params : List Val) (seed : Value) → k ≤ 9007199254740991 → AreValues (vals_of params) → list_all (λ v. is_shallow v) params ≡ true →
    IsValue (view seed) → is_shallow (view seed) ≡ true → IsReadBack (entry_value (entry.Begin session k method params seed))
call_back session k method params seed small values low value shallow = record {
  value = (tt, (tt, (is_whole k small, (tt, (values, (value, tt))))));
  shallow = omega (arith, all_low params low, leb-true (depth (view seed)) 30 shallow);
}
