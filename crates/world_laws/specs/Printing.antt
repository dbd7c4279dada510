-- What an event prints of what is kept of a world.
use Rattle.std.specs.Prelude.{◌≡◌, ℕ, List, [], ◌∷◌, map, false, Option, Some, None, option_map, option_and_then, refl}
use Rattle.std.proofs.Common.{ap, sym, ◌∙◌}
use Rattle.client_model.specs.Lines.{line_texts}
use Rattle.connection_laws.specs.client_core.State.{show_lines}
use Rattle.headline.specs.world_model.declared.events.Act.{Act}
use Rattle.headline.specs.world_model.declared.events.Act.TheVariants as act
use Rattle.headline.specs.world_model.declared.events.Answer.{Answer}
use Rattle.headline.specs.world_model.declared.events.Answer.TheVariants as answer
use Rattle.headline.specs.world_model.declared.events.Event.{Event}
use Rattle.headline.specs.world_model.declared.events.Event.TheVariants as event
use Rattle.headline.specs.world_model.Acts.{outcome}
use Rattle.headline.specs.world_model.Asks.{Ask, can_ask}
use Rattle.headline.specs.world_model.Conn.{Conn}
use Rattle.headline.specs.world_model.Lines.{line_text, idle, idle_unless, answer_values, broken_values, broken_in, told_values, act_values}
use Rattle.headline.specs.world_model.Lines.{ask_values, shown_values, journal_of, texts_of, lines_of}
use Rattle.headline.specs.world_model.World.{World, conn_of, outcome_by, can_ask_by}
use Rattle.headline.specs.world_model.Events.{act_in, act_by}
use Rattle.connection_laws.specs.Connection.{AConnection, as_conn}
use Rattle.connection_laws.specs.Printing.{kept_journal}
use Rattle.connection_laws.specs.PrintingLaws.{journal_is, show_is}
use Rattle.world_laws.specs.World.{AWorld, as_world, connection_of, IsWorld}
use Rattle.world_laws.specs.Doing.{IsActed, is_take}
use Rattle.world_laws.specs.Changing.{conn_is, conn_there, client_is}

-- ---- acts

-- the act that an event names
pub act_is : (x : AWorld) (name : List ℕ) (old : AConnection) (e : Event) → connection_of x name ≡ Some old →
    act_by (as_world x) name e ≡ act_in x.history (as_conn old) e
act_is x name old e is = ap (λ (o : Option Conn). option_and_then (λ (c : Conn). act_in x.history c e) o) (conn_there x name old is)

pub nobody_acts_by : (x : AWorld) (name : List ℕ) (e : Event) → connection_of x name ≡ None → act_by (as_world x) name e ≡ None
nobody_acts_by x name e is = ap (λ (o : Option Conn). option_and_then (λ (c : Conn). act_in x.history c e) o) (conn_is x name ∙ ap (option_map as_conn) is)

plain : (w : World) (name : List ℕ) (a : Act) (o : Answer) → is_take a ≡ false → told_values w name a o ≡ answer_values o
plain w name act.Up o e = refl
plain w name act.Recv o e = refl
plain w name act.Handle o e = refl
plain w name act.Begin o e = refl
plain w name (act.Step k) o e = refl
plain w name (act.Learn k place) o e = refl
plain w name (act.Load sub place) o e = refl
plain w name (act.Advance sub count) o e = refl
plain w name act.Send o e = refl
plain w name act.Take o e = cc e

not_taken : (w : World) (name : List ℕ) (o : Answer) → (o ≡ answer.Done → ⊥) → told_values w name act.Take o ≡ answer_values o
not_taken w name answer.Done no_way = absurd (no_way refl)
not_taken w name answer.Idle no_way = refl
not_taken w name answer.JournalFull no_way = refl
not_taken w name answer.QueueFull no_way = refl

module _ (x : AWorld) (name : List ℕ) (old : AConnection) (is : connection_of x name ≡ Some old) (a : Act) where
  told : (o : Answer) → outcome x.app x.history (as_conn old) a ≡ o → act_values (as_world x) name (Some a) ≡ told_values (as_world x) name a o
  told o e = ap (told_values (as_world x) name a) (ap (outcome_by (as_world x) a) (conn_there x name old is) ∙ e)

  -- an act prints its answer
  pub answer_printed : (o : Answer) → outcome x.app x.history (as_conn old) a ≡ o → is_take a ≡ false → act_values (as_world x) name (Some a) ≡ answer_values o
  answer_printed o e other = told o e ∙ plain (as_world x) name a o other

module _ (x : AWorld) (name : List ℕ) (old : AConnection) (is : connection_of x name ≡ Some old) where
  pub refusal_printed : (o : Answer) → outcome x.app x.history (as_conn old) act.Take ≡ o → (o ≡ answer.Done → ⊥) →
      act_values (as_world x) name (Some act.Take) ≡ answer_values o
  refusal_printed o e no_way = told x name old is act.Take o e ∙ not_taken (as_world x) name o no_way

  -- and a text that is taken, whether the client is broken then
  pub take_printed : (y : AWorld) (new : AConnection) → outcome x.app x.history (as_conn old) act.Take ≡ answer.Done → IsActed x name act.Take y →
      connection_of y name ≡ Some new → act_values (as_world x) name (Some act.Take) ≡ broken_values new.own.client.broken
  take_printed y new e acted there =
      told x name old is act.Take answer.Done e
      ∙ ap (λ (o : Option Conn). broken_values (broken_in o)) (ap (λ (w : World). conn_of w name) (sym acted.does) ∙ conn_there y name new there)

-- ---- what is asked, and what is shown

pub ask_printed : (x : AWorld) (name : List ℕ) (old : AConnection) (a : Ask) → connection_of x name ≡ Some old →
    ask_values (as_world x) name a ≡ idle_unless (can_ask (as_conn old) a)
ask_printed x name old a is = ap (λ (o : Option Conn). idle_unless (can_ask_by a o)) (conn_there x name old is)

pub nobody_printed : (x : AWorld) (name : List ℕ) (a : Ask) → connection_of x name ≡ None → ask_values (as_world x) name a ≡ idle ∷ []
nobody_printed x name a is = ap (λ (o : Option Conn). idle_unless (can_ask_by a o)) (conn_is x name ∙ ap (option_map as_conn) is)

pub shown : (x : AWorld) → IsWorld x → (name : List ℕ) (c : AConnection) → connection_of x name ≡ Some c →
    lines_of (as_world x) (event.Show name) ≡ line_texts (show_lines c.own)
shown x p name c is = ap (λ (o : Option Conn). texts_of (shown_values name o)) (conn_there x name c is)
    ∙ sym (show_is x.app name x.history c (client_is x p name c is).connection)

pub nobody_shown : (x : AWorld) (name : List ℕ) → connection_of x name ≡ None → lines_of (as_world x) (event.Show name) ≡ texts_of (idle ∷ [])
nobody_shown x name is = ap (λ (o : Option Conn). texts_of (shown_values name o)) (conn_is x name ∙ ap (option_map as_conn) is)

pub journal_shown : (x : AWorld) → IsWorld x → (name : List ℕ) (c : AConnection) → connection_of x name ≡ Some c →
    lines_of (as_world x) (event.Journal name) ≡ map line_text (kept_journal c)
journal_shown x p name c is = ap (λ (o : Option Conn). map line_text (journal_of (as_world x) o)) (conn_there x name c is)
    ∙ sym (ap (map line_text) (journal_is x.app name x.history c (client_is x p name c is).connection))

pub nobody_journal : (x : AWorld) (name : List ℕ) → connection_of x name ≡ None → lines_of (as_world x) (event.Journal name) ≡ texts_of (idle ∷ [])
nobody_journal x name is = ap (λ (o : Option Conn). map line_text (journal_of (as_world x) o)) (conn_is x name ∙ ap (option_map as_conn) is)
