-- What is so of each client with its session in every world that events lead to, and of the history.
use Rattle.std.specs.Prelude.{List, Bool, not, ◌&&◌, if◌then◌else◌}
use Rattle.app_model.specs.App.{App}
use Rattle.world_model.specs.history_model.declared.entry.Entry.{Entry}
use Rattle.world_model.specs.history_model.History.{IsLegal}
use Rattle.world_model.specs.declared.events.Act.{Act}
use Rattle.world_model.specs.declared.events.Answer.TheVariants as answer
use Rattle.world_model.specs.Store.{programs}
use Rattle.world_model.specs.Conn.{Conn, is_full}
use Rattle.world_model.specs.Acts.{is_of_session, is_queue_full, enabled, is_done}
use Rattle.world_invariant_laws.specs.Session.{IsServed}
use Rattle.world_invariant_laws.specs.Heard.{HasHeard}

pub record IsLinked (app : App) (h : List Entry) (c : Conn) : Type 0 where
  pub served : IsServed app h c
  pub heard : HasHeard c

-- ---- an act that is made is enabled

abbrev pub done_if : Conn → Act → Bool → Bool
done_if c a b = is_done
    (if not b then answer.Idle else
    (if is_of_session a && is_full c then answer.JournalFull else (if is_queue_full c a then answer.QueueFull else answer.Done)))

-- ---- every world

abbrev pub IsLegalOf : App → List Entry → Type 0
IsLegalOf app h = IsLegal (programs app) h
