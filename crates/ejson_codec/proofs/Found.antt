-- The relation of trees and values, from the exact answer.
use Rattle.std.proofs.Common.{◌≤◌, sym, ◌∙◌, Result, Ok, Err, IfOk}
use Rattle.serde_json.specs.Data.{Data}
use Rattle.value_model.specs.Val.{Val}
use Rattle.value_model.specs.Depth.{depth}
use Rattle.ejson_value.specs.View.{view}
use Rattle.ejson_value.specs.declared.value.Value.{Value}
use Rattle.ejson_codec.specs.Reads.{Reads}
use Rattle.ejson_codec.specs.Reading.{max_levels, reading, Gives}
use Rattle.ejson_codec.specs.ReadingLaws.{reads_ok, reads_only}
use Rattle.ejson_codec.specs.declared.fault.ReadFault.{ReadFault}
use Rattle.ejson_codec.specs.declared.fault.ReadFault.TheVariants.{Ejson, Memory}

pub found_from : (r : Result Value ReadFault) (d : Data) → Gives view r (reading max_levels d) → IfOk r (λ v. Reads d (view v) × (depth (view v) ≤ max_levels))
found_from (Ok v) d is = reads_ok max_levels d (view v) is
found_from (Err e) d is = tt

pub only_from : (r : Result Value ReadFault) (d : Data) → Gives view r (reading max_levels d) → (v : Val) → Reads d v → depth v ≤ max_levels → Gives view r (Ok v)
only_from (Ok x) d is v reads fits = sym (reads_only max_levels d v reads fits) ∙ is
only_from (Err (Ejson e)) d is v reads fits = sym (reads_only max_levels d v reads fits) ∙ is
only_from (Err Memory) d is v reads fits = tt
