-- What the texts of messages about documents say.
use Rattle.std.proofs.Common.{◌≡◌, [], ◌∷◌, map, refl, ap}
use Rattle.map_model.specs.Differences.{diff}
use Rattle.map_model.specs.DifferenceLaws.{one_diff, diff_is}
use Rattle.map_model.specs.MapLaws.{sorted-filter_map_entries}
use Rattle.merge_model.specs.Kept.{merged, merged_doc}
use Rattle.value_model.specs.Order.{text_cmp}
use Rattle.ejson_value.specs.declared.message.DataMsg.{DataMsg}
use Rattle.ejson_value.specs.declared.message.DataMsg.TheVariants as message
use Rattle.ejson_value.specs.Key.{key_cmp, key_order}
use Rattle.ejson_value.specs.Messages.{said}
use Rattle.kept_document.specs.Held.{same_value}
use Rattle.merge_box.specs.State.{KeptDocs, Told, Tells, IsBox}
use Rattle.ddp_messages.specs.Texts.{server_text}
use Rattle.session_model.specs.Shown.{difference}
use Rattle.session_model.specs.Out.{about}
use Rattle.session_texts.specs.Said.{data_text}
use Rattle.session_core.specs.Known.{text_about}

pub text_is : (m : DataMsg) → data_text m ≡ server_text (about (said m))
text_is (message.Added key fields) = refl
text_is (message.Changed key fields cleared) = refl
text_is (message.Removed key) = refl

pub texts_are : (told : Told) → map text_about told ≡ map server_text (map about told)
texts_are [] = refl
texts_are (t ∷ told) = ap (λ ts. text_about t ∷ ts) (texts_are told)

-- what is told is the difference of what a client sees of the two boxes
pub told_is : (old new : KeptDocs) (messages : Told) → IsBox new → Tells old new messages → messages ≡ difference (merged old) (merged new)
told_is old new messages whole told =
    one_diff key_order text_cmp same_value (merged old) (merged new) messages (diff text_cmp same_value key_cmp (merged old) (merged new)) told
    (diff_is key_order text_cmp same_value (merged old) (merged new) (sorted-filter_map_entries key_cmp (λ k e. merged_doc e) new whole.by_key))
