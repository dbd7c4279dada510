-- What cursors tell is stored as pairs and lists.
use Rattle.std.specs.Prelude.{ℕ, List, Option, refl}
use Rattle.std.specs.Coded.{Coded, code_by, coded×, coded_list, coded_option}
use Rattle.value_model.specs.Val.{Entries}
use Rattle.sort_window.specs.Windows.{MovesState}
use Rattle.sort_window.specs.Coding.{id_code, told_code, moves_code}
use Rattle.live_observer.specs.Observing.{APlan}
use Rattle.live_observer.specs.Answering.{ToldOf}

abbrev pub told_of_code : Coded ToldOf
told_of_code =
    code_by (List ℕ × (List (List ℕ × Option Entries) × Option MovesState)) (coded× id_code (coded× told_code (coded_option moves_code)))
    (λ t. (t.name, (t.told, t.moves))) (λ p. record { name = p.0; told = p.1.0; moves = p.1.1 }) (λ _. refl)

abbrev pub plan_code : Coded APlan
plan_code = coded_list (coded_option moves_code)
