-- What is printed of a drive.
use Rattle.std.specs.Prelude.{ℕ, List, [], ◌∷◌, ◌++◌, length, map, flat_map, sum_by, count_by, Bool, Some, is_some, codes, if◌then◌else◌}
use Rattle.std.specs.Map.{keys_of}
use Rattle.value_model.specs.Val.{Val, text}
use Rattle.history_model.specs.Lines.{worded, number, doc_value}
use Rattle.client_model.specs.Client.{Call}
use Rattle.client_model.specs.Asking.{outcome_in}
use Rattle.world_model.specs.declared.events.Event.TheVariants as event
use Rattle.world_model.specs.Store.{held_in}
use Rattle.world_model.specs.Conn.{Conn}
use Rattle.world_model.specs.World.{World, Conns}
use Rattle.world_model.specs.Lines.{lines_of, texts_of}
use Rattle.drive_model.specs.Good.{some_limit}

-- `["end"]`, or `["end","limit"]` where a session met a limit
abbrev pub end_value : Bool → Val
end_value limited = worded (codes "end") (if limited then text (codes "limit") ∷ [] else [])

-- what `show` and `journal` print of each client, by name; what `store` and `history` print; and the end
abbrev pub report_lines : World → List (List ℕ)
report_lines w =
    flat_map (λ name. lines_of w (event.Show name) ++ lines_of w (event.Journal name)) (keys_of w.conns)
    ++ lines_of w event.Store
    ++ lines_of w event.History
    ++ texts_of (end_value (some_limit w.conns) ∷ [])

-- how many calls the clients made, and how many of them came to something
abbrev pub calls_made : Conns → ℕ
calls_made conns = sum_by (λ (e : List ℕ × Conn). length e.1.client.calls) conns

abbrev pub calls_done : Conns → ℕ
calls_done conns = sum_by (λ (e : List ℕ × Conn). count_by (λ (call : Call). is_some (outcome_in (Some call))) e.1.client.calls) conns

-- `["calls",made,"done",done]`, and the documents of the store
abbrev pub summary_lines : World → List (List ℕ)
summary_lines w =
    texts_of
    (worded (codes "calls") (number (calls_made w.conns) ∷ text (codes "done") ∷ number (calls_done w.conns) ∷ [])
    ∷ map doc_value (held_in w.app w.history).rows)
