-- A client that lives through several links, seen over one of them.
use Rattle.std.specs.Prelude.{◌≡◌, ℕ, [], ◌∷◌, ◌&&◌, Option, Some, None, is_none, if◌then◌else◌}
use Rattle.client_model.specs.Asking.{is_connected, is_settled}
use Rattle.client_model.specs.Lines.{line_texts}
use Rattle.client_core.specs.State.{show_lines}
use Rattle.client_script.specs.Speaking.{Look, Deed}
use Rattle.client_script.specs.Speaking as deed
use Rattle.console_run.specs.Speaking.{can, asked}
use Rattle.reconnect_model.specs.Saying.{says}
use Rattle.revived_client.specs.declared.client.Stop.{Stop}
use Rattle.revived_client.specs.declared.client.Stop.TheVariants.{Refused}
use Rattle.revived_client.specs.State.{RevivedState, spoken}
use Rattle.revived_client.specs.Hearing.{heard}

-- the number of the rule by which a text was refused
abbrev pub rule_of : Option Stop → Option ℕ
rule_of (Some (Refused n)) = Some n
rule_of _ = None

abbrev pub look_of : RevivedState → Look
look_of v = record {
  is_connected = is_none v.stop && is_connected v.own.client;
  is_settled = is_settled v.own.client;
  is_failed = v.own.client.is_failed;
  broken = rule_of v.stop;
  can = λ ask. is_none v.stop && can v.own ask;
  waiting = if is_none v.stop then v.revival.waiting else [];
  lines = line_texts (show_lines v.own);
}

-- what a deed makes of it
abbrev pub Does : RevivedState → Deed → RevivedState → Type 0
Does v (deed.heard text) v' = v' ≡ heard text v
Does v (deed.asked ask) v' = v' ≡ spoken (asked ask v.own) v
Does v (deed.said text) v' = (v.revival.waiting ≡ text ∷ v'.revival.waiting) × (v' ≡ record v { revival = says v.revival })
