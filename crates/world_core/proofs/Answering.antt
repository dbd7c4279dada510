-- An act of a client is answered as its connection answers it.
use Rattle.ejson_value.specs.declared.memory.Mem.{Mem}
use Rattle.std.specs.Prelude.{◌≡◌, ℕ, Option, List, [], ◌∷◌, ◌++◌, true, false, cond, Result, Ok, Err, refl}
use Rattle.std.proofs.Common.{ap, sym, subst, ◌∙◌, append-nil}
use Rattle.app_model.specs.App.{App}
use Rattle.connection.specs.history_model.declared.entry.Entry.{Entry}
use Rattle.connection.specs.store_machine.State.{MachineState}
use Rattle.connection.specs.world_model.declared.events.Act.{Act}
use Rattle.connection.specs.world_model.declared.events.Act.TheVariants as act
use Rattle.connection.specs.world_model.declared.events.Answer.{Answer}
use Rattle.connection.specs.world_model.declared.events.Answer.TheVariants as answer
use Rattle.connection.specs.world_model.Conn.{Conn}
use Rattle.connection.specs.world_model.Acts.{outcome, is_done, can, does, entries}
use Rattle.connection.specs.world_invariant_laws.Links.{IsLinked}
use Rattle.connection.specs.world_invariant_laws.LinksLaws.{links_kept}
use Rattle.world_rounds_laws.specs.Visits.{Side, can_on, act_on}
use Rattle.connection.specs.connection_laws.Connection.{AConnection, as_conn, IsConnection}
use Rattle.connection.specs.connection_laws.StandingLaws.{longer_stays}
use Rattle.connection.specs.Answers.{Acts, AnswersIn}
use Rattle.connection.specs.Acting.{TellsOver}
use Rattle.connection.specs.Storing.{Enters, Begins, StepsOn}
use Rattle.connection.specs.connection_laws.Acting.{IsDone}
use Rattle.world_news_laws.specs.multiplexer.Telling.{ANews}
use Rattle.world_news_laws.specs.multiplexer.LongerLaws.{told_longer}
use Rattle.world_news_laws.specs.Sources.{cursors_at_of}
use Rattle.world_news_laws.specs.News.{AreNews}
use Rattle.world_core.specs.Visit.{AVisit, visit, side, IsReady, IsSame}
use Rattle.world_core.specs.Acting.{IsMade, IsLeft, Answered, AnswersTo}
use Rattle.world_core.proofs.PhaseVisits.{ready_same}

module _ (v : AVisit) (r : IsReady v) (a : Act) where
  abbrev app : App
  app = v.machine.app

  abbrev h : List Entry
  h = v.machine.history

  abbrev c : Conn
  c = as_conn v.client

  abbrev es : List Entry
  es = entries app h c a

  -- with the act's entry
  abbrev longer : MachineState
  longer = record { app = app; history = h ++ es }

  module _ (y : AConnection) (d : IsDone app v.client.own.name h a v.client y) where
    may : can app h c a ≡ true
    may = ap is_done d.can

    ready_longer : (news : ANews) → AreNews longer news → IsReady (visit longer y news)
    ready_longer news n = record {
      connection = subst (λ (name : List ℕ). IsConnection app name (h ++ es) y) (sym d.stays.named) (longer_stays app v.client.own.name h es y d.stays);
      linked = subst (λ (x : Conn). IsLinked app (h ++ es) x) (sym d.does) (links_kept.acts app h c a may r.linked);
      news = n;
    }

    leads_longer : act_on app a (side v) ≡ (let t : Side = record { history = h ++ es; conn = as_conn y } in t)
    leads_longer =
        ap (λ b. cond b (let t : Side = record { history = h ++ es; conn = does app h c a } in t) (side v)) may
        ∙ ap (λ (x : Conn). let t : Side = record { history = h ++ es; conn = x } in t) (sym d.does)

    made_longer : (news : ANews) → AreNews longer news → IsMade a v (visit longer y news)
    made_longer news n =
        let one = leads_longer in
        record {
          led = record { app = refl; name = d.stays.named; ready = ready_longer news n; acts = a ∷ []; leads = one };
          can = may;
          leads = one;
        }

    pub done_made : (n : MachineState) (news : ANews) → n ≡ longer → AreNews n news → IsMade a v (visit n y news)
    done_made n news is told =
        subst (λ (m : MachineState). IsMade a v (visit m y news)) (sym is) (made_longer news (subst (λ (m : MachineState). AreNews m news) is told))

  left : (n : MachineState) (y : AConnection) (news : ANews) → n ≡ v.machine → y ≡ v.client → AreNews n news → IsLeft v (visit n y news)
  left n y news m x told = let s : IsSame v (visit n y news) = record { machine = m; client = x } in record { same = s; ready = ready_same v (visit n y news) r s told }

  -- by what is answered
  pub answered : (n : MachineState) (y : AConnection) (news : ANews) → AreNews n news → (o : Answer) → Acts app v.client.own.name h a v.client y o → Enters a v.machine n v.client o → Answered a v (visit n y news) o
  answered n y news told answer.Done acts enters = done_made y acts n news enters told
  answered n y news told answer.Idle acts enters = (left n y news enters acts.1 told, acts.0)
  answered n y news told answer.JournalFull acts enters = (left n y news enters acts.1 told, acts.0)
  answered n y news told answer.QueueFull acts enters = (left n y news enters acts.1 told, acts.0)

  -- an act that adds no entry leaves the machine
  stays : es ≡ [] → (o : Answer) → Enters a v.machine v.machine v.client o
  stays none answer.Done = λ j. record { app = app; history = (sym (append-nil h) ∙ ap (λ (x : List Entry). h ++ x) (sym none)) j }
  stays none answer.Idle = refl
  stays none answer.JournalFull = refl
  stays none answer.QueueFull = refl

  module _ {E : Type 0} (y : AConnection) where
    -- over the history, which tells more perhaps
    pub over : es ≡ [] → (news : ANews) → AreNews v.machine news → (result : Result Answer E) → AnswersIn app h a v.client y result → AnswersTo a v (visit v.machine y news) result
    over none news told (Ok o) acts = answered v.machine y news told o (acts v.client.own.name r.connection) (stays none o)
    over none news told (Err e) acts = left v.machine y news refl acts told

  -- what was told is told of the history with the act's entry
  told_then : (n : MachineState) (o : Answer) → Enters a v.machine n v.client o → AreNews n v.news
  told_then n answer.Done enters = subst (λ (m : MachineState). AreNews m v.news) (sym enters) (told_longer (cursors_at_of app) v.machine es v.news r.news)
  told_then n answer.Idle enters = subst (λ (m : MachineState). AreNews m v.news) (sym enters) r.news
  told_then n answer.JournalFull enters = subst (λ (m : MachineState). AreNews m v.news) (sym enters) r.news
  told_then n answer.QueueFull enters = subst (λ (m : MachineState). AreNews m v.news) (sym enters) r.news

  pub entered : (n : MachineState) (y : AConnection) (o : Answer) → Acts app v.client.own.name h a v.client y o → Enters a v.machine n v.client o → Answered a v (visit n y v.news) o
  entered n y o acts enters = answered n y v.news (told_then n o enters) o acts enters

  pub left_by : (n : MachineState) (y : AConnection) → n ≡ v.machine → y ≡ v.client → IsLeft v (visit n y v.news)
  left_by n y m x = left n y v.news m x (subst (λ (k : MachineState). AreNews k v.news) (sym m) r.news)

-- as the client tells it, of an act that adds no entry
module _ (v : AVisit) (r : IsReady v) (a : Act) (y : AConnection) where
  pub told_over : (told : Answer × Option ℕ) → TellsOver a v.machine v.machine v.client y (Ok told) → Answered a v (visit v.machine y v.news) told.0
  told_over told t = answered v r a v.machine y v.news r.news told.0 t.0.0 t.0.1

  pub told_left : (e : Mem) → TellsOver a v.machine v.machine v.client y (Err e) → IsLeft v (visit v.machine y v.news)
  told_left e t = left_by v r a v.machine y t.1 t.0

module _ {E : Type 0} (v : AVisit) (r : IsReady v) where
  pub begins : (n : MachineState) (y : AConnection) (result : Result Answer E) → Begins v.machine n v.client y result → AnswersTo act.Begin v (visit n y v.news) result
  begins n y (Ok o) b = entered v r act.Begin n y o b.0 b.1
  begins n y (Err e) b = left_by v r act.Begin n y b.1 b.0

  pub steps : (k : ℕ) (n : MachineState) (result : Result Answer E) → StepsOn k v.machine n v.client result → AnswersTo (act.Step k) v (visit n v.client v.news) result
  steps k n (Ok o) s = let both = s v.client.own.name r.connection in entered v r (act.Step k) n v.client o both.0 both.1
  steps k n (Err e) s = left_by v r (act.Step k) n v.client s refl

-- ---- whether it was made

module _ (v : AVisit) where
  off : (a : Act) (o : Answer) → is_done o ≡ false → outcome v.machine.app v.machine.history (as_conn v.client) a ≡ o → can_on v.machine.app (side v) a ≡ false
  off a o not_done is = ap is_done is ∙ not_done

  pub tried : (a : Act) (w : AVisit) (o : Answer) → is_done o ≡ false → Answered a v w o → IsLeft v w × (can_on v.machine.app (side v) a ≡ false)
  tried a w answer.Done not_done t = cc not_done
  tried a w answer.Idle not_done t = (t.0, off a answer.Idle not_done t.1)
  tried a w answer.JournalFull not_done t = (t.0, off a answer.JournalFull not_done t.1)
  tried a w answer.QueueFull not_done t = (t.0, off a answer.QueueFull not_done t.1)
