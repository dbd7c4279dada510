-- What a text tells of.
use Rattle.std.specs.Prelude.{◌≡◌, ℕ, List, [], ◌∷◌, Ok}
use Rattle.std.proofs.Common.{ap, ◌∙◌}
use Rattle.value_model.specs.Val.{Val, text, list, vals_of}
use Rattle.value_model.specs.ValLaws.{list_of-vals_of}
use Rattle.ejson_codec.specs.Reading.{parsed}
use Rattle.history_log.specs.Entries.{words_in, operation_among, told_operation}

-- a text of a list of a word and an operation tells of the operation
pub told_operation-worded : (line word : List ℕ) (op : List Val) → parsed line ≡ Ok (list (vals_of (text word ∷ list (vals_of op) ∷ []))) →
    told_operation line ≡ op
told_operation-worded line word op read = ap (λ r. operation_among (words_in r)) read ∙ list_of-vals_of op
