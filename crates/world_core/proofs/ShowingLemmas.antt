-- What is shown of a world, and how long its history can be.
use Rattle.ejson_value.specs.declared.memory.Mem.{Mem}
use Rattle.std.specs.Prelude.{◌≡◌, ℕ, ◌<◌, ◌≤◌, List, map, length, false, Option, None, Some, Result, Ok, Err, IfSome, refl}
use Rattle.std.proofs.Common.{sym, ◌∙◌, arith}
use Rattle.map_model.specs.Maps.{at}
use Rattle.value_model.specs.Order.{text_cmp}
use Rattle.world_core.specs.history_model.LimitLaws.{legal_within}
use Rattle.world_core.specs.history_model.HistoryLaws.{held_entries}
use Rattle.client_model.specs.Lines.{line_texts}
use Rattle.world_core.specs.client_core.State.{show_lines}
use Rattle.world_core.specs.world_model.declared.events.Act.{Act}
use Rattle.world_core.specs.world_model.declared.events.Event.{Event}
use Rattle.world_core.specs.world_model.declared.events.Event.TheVariants as event
use Rattle.world_core.specs.world_model.Store.{programs}
use Rattle.world_core.specs.world_model.Events.{act_in, act_by}
use Rattle.world_core.specs.world_model.Lines.{idle_unless, texts_of, line_text, lines_of}
use Rattle.world_core.specs.connection_laws.Connection.{AConnection, as_conn, IsConnection}
use Rattle.world_core.specs.connection_laws.Printing.{kept_journal}
use Rattle.world_laws.specs.World.{AWorld, as_world, connection_of, IsWorld}
use Rattle.world_laws.specs.Changing.{client_is}
use Rattle.world_laws.specs.Printing.{shown, nobody_shown, journal_shown, nobody_journal, act_is, nobody_acts_by}
use Rattle.world_laws.specs.Promises.{worlds_true, clients_linked}
use Rattle.world_core.specs.Clients.{IsReady}
use Rattle.world_core.specs.Happening.{Happens}

-- ---- clients

module _ (x : AWorld) (p : IsWorld x) (name : List ℕ) where
  pub shows : (c : AConnection) → Some c ≡ connection_of x name → (lines : List (List ℕ)) → lines ≡ line_texts (show_lines c.own) → lines ≡ lines_of (as_world x) (event.Show name)
  shows c is lines says = says ∙ sym (shown x p name c (sym is))

  pub nobody_shows : None ≡ connection_of x name → (lines : List (List ℕ)) → lines ≡ texts_of (idle_unless false) → lines ≡ lines_of (as_world x) (event.Show name)
  nobody_shows is lines says = says ∙ sym (nobody_shown x name (sym is))

  pub journals : (c : AConnection) → Some c ≡ connection_of x name → (lines : List (List ℕ)) → lines ≡ map line_text (kept_journal c) → lines ≡ lines_of (as_world x) (event.Journal name)
  journals c is lines says = says ∙ sym (journal_shown x p name c (sym is))

  pub nobody_journals : None ≡ connection_of x name → (lines : List (List ℕ)) → lines ≡ texts_of (idle_unless false) → lines ≡ lines_of (as_world x) (event.Journal name)
  nobody_journals is lines says = says ∙ sym (nobody_journal x name (sym is))

  -- the act that an event names
  pub names_act : (c : AConnection) → Some c ≡ connection_of x name → (e : Event) (result : Option Act) → result ≡ act_in x.history (as_conn c) e → result ≡ act_by (as_world x) name e
  names_act c is e result says = says ∙ sym (act_is x name c e (sym is))

  pub names_none : None ≡ connection_of x name → (e : Event) → None ≡ act_by (as_world x) name e
  names_none is e = sym (nobody_acts_by x name e (sym is))

  pub connected : (c : AConnection) → Some c ≡ connection_of x name → IsConnection x.app name x.history c
  connected c is = (client_is x p name c (sym is)).connection

  -- it can act
  pub ready_client : (c : AConnection) → Some c ≡ connection_of x name → IsReady (record { app = x.app; history = x.history }) name c
  ready_client c is = record { connection = (client_is x p name c (sym is)).connection; served = (clients_linked x p name c (sym is)).served }

-- ---- the history

pub few : (x : AWorld) → IsWorld x → length x.history ≤ 1048576
few x p = let within = legal_within (programs x.app) x.history (worlds_true x p).legal in omega (arith, within.entries, held_entries (programs x.app) x.history)

pub few_enough : (x : AWorld) → IsWorld x → length x.history < 18446744073709551615
few_enough x p = let many = few x p in omega (arith, many)

-- ---- events that change nothing

abbrev pub Prints : AWorld → Event → Result (List (List ℕ)) Mem → Type 0
Prints x e (Ok lines) = lines ≡ lines_of (as_world x) e
Prints x e (Err m) = Unit {0}

pub show_happens : (x : AWorld) → IsWorld x → (name : List ℕ) (r : Result (List (List ℕ)) Mem) → Prints x (event.Show name) r → Happens x (event.Show name) x r
show_happens x p name (Ok lines) says = (record { stays = p; does = refl }, says)
show_happens x p name (Err m) says = (p, refl)

pub journal_happens : (x : AWorld) → IsWorld x → (name : List ℕ) (r : Result (List (List ℕ)) Mem) → Prints x (event.Journal name) r → Happens x (event.Journal name) x r
journal_happens x p name (Ok lines) says = (record { stays = p; does = refl }, says)
journal_happens x p name (Err m) says = (p, refl)

pub store_happens : (x : AWorld) → IsWorld x → (r : Result (List (List ℕ)) Mem) → Prints x event.Store r → Happens x event.Store x r
store_happens x p (Ok lines) says = (record { stays = p; does = refl }, says)
store_happens x p (Err m) says = (p, refl)

pub history_happens : (x : AWorld) → IsWorld x → (r : Result (List (List ℕ)) Mem) → Prints x event.History r → Happens x event.History x r
history_happens x p (Ok lines) says = (record { stays = p; does = refl }, says)
history_happens x p (Err m) says = (p, refl)
