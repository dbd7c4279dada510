-- What a session learns of a call leaves less to learn, and no more to begin.
use Rattle.std.specs.Prelude.{ℕ, List, ◌||◌, Option, Some, None, is_some, if◌then◌else◌}
use Rattle.app_model.specs.App.{App}
use Rattle.world_model.specs.history_model.declared.entry.Entry.{Entry}
use Rattle.world_model.specs.session_model.Methods.{Blocking}
use Rattle.world_model.specs.session_model.Counting.{one_if}
use Rattle.world_model.specs.Conn.{Refusal, Conn}
use Rattle.world_model.specs.Acts.{is_kept}
use Rattle.headline.specs.Runs.{has_run}

-- ---- less to learn

abbrev pub kept_after : ℕ → Conn → Conn
kept_after k c = record c { kept = if is_kept k c.kept then None else c.kept }

-- ---- no more to begin

-- the call that is to be begun, by what it depends on
abbrev pub wanted : App → List Entry → ℕ → Option Refusal → Option Blocking → Option Blocking
wanted app history n kept None = None
wanted app history n kept (Some b) = if has_run app history n b.k || is_kept b.k kept then None else Some b

abbrev pub number_of : Option Blocking → ℕ
number_of o = one_if (is_some o)
