-- A value's text reads back as the value.
use Rattle.std.proofs.Common.{◌≡◌, ◌≤◌, ℕ, List, Ok, Some, ap, ◌∙◌, arith}
use Rattle.serde_json.specs.Data.{Data}
use Rattle.serde_json.specs.Data as json
use Rattle.serde_json.specs.Read as json_text
use Rattle.value_model.specs.Val.{Val}
use Rattle.value_model.specs.Valid.{IsValue}
use Rattle.value_model.specs.Depth.{depth}
use Rattle.ejson_codec.specs.Reading.{max_levels, parsed, tree_parsed, as_parsed}
use Rattle.ejson_codec.specs.ReadingLaws.{reads_only}
use Rattle.ejson_codec.specs.Written.{written}
use Rattle.ejson_codec.specs.WrittenLaws.{reads_written}
use Rattle.ejson_codec.specs.TreeLaws.{depth-written}

pub parsed_back : (v : Val) (d : Data) (input : List ℕ) → d ≡ written v → IsValue v → (json.depth d ≤ json_text.max_depth → json_text.read input ≡ Some d) → depth v ≤ max_levels → parsed input ≡ Ok v
parsed_back v d input is value reads fits =
    let shallow : json.depth d ≤ json_text.max_depth = rw is (omega (arith, depth-written v)) in
    ap tree_parsed (reads shallow ∙ ap Some is) ∙ ap as_parsed (reads_only max_levels (written v) v (reads_written v value) fits)
