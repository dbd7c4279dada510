-- Boxes are stored as lists and pairs.
use Rattle.std.specs.Prelude.{List, Option, refl}
use Rattle.std.specs.Coded.{Coded, code_by, coded×, coded_list, coded_option}
use Rattle.ejson_value.specs.declared.key.Key.{Key}
use Rattle.ejson_value.specs.Key.{key_code}
use Rattle.kept_document.specs.Held.{kept_code}
use Rattle.merge_box.specs.State.{KeptDocs, BoxState}
use Rattle.merge_box.specs.Slots.{SlotState}

abbrev pub kept_docs_code : Coded KeptDocs
kept_docs_code = coded_list (coded× key_code kept_code)

abbrev pub box_code : Coded BoxState
box_code = code_by (KeptDocs × KeptDocs) (coded× kept_docs_code kept_docs_code) (λ b. (b.kept, b.planned)) (λ p. record { kept = p.0; planned = p.1 })
    (λ _. refl)

abbrev pub slots_code : Coded SlotState
slots_code = code_by (KeptDocs × List (Option Key)) (coded× kept_docs_code (coded_list (coded_option key_code))) (λ s. (s.docs, s.keys))
    (λ p. record { docs = p.0; keys = p.1 }) (λ _. refl)
