-- An act or a wish that isn't enabled leaves the world, and a printed journal shows the texts of its session.
use Rattle.std.specs.Prelude.{◌≡◌, ℕ, List, [], ◌∷◌, ◌++◌, map, false, cond, Option, Some, None, refl}
use Rattle.std.proofs.Common.{ap, sym, ◌∙◌}
use Rattle.ddp_messages.specs.ServerMessage.{ServerMessage}
use Rattle.app_model.specs.App.{App}
use Rattle.history_model.specs.declared.entry.Entry.{Entry}
use Rattle.ddp_messages.specs.Texts.{server_text}
use Rattle.session_model.specs.Items.{Item}
use Rattle.session_model.specs.State.{State, started, after}
use Rattle.session_model.specs.Moments.{Moment}
use Rattle.session_model.specs.Shown.{Calls, call_of}
use Rattle.session_model.specs.Out.{messages_of, out_from, out_texts}
use Rattle.world_model.specs.declared.events.Act.{Act}
use Rattle.world_model.specs.Store.{moments}
use Rattle.world_model.specs.Conn.{Conn}
use Rattle.world_model.specs.Asks.{Ask, asked}
use Rattle.world_model.specs.World.{World, conn_of, with_conn, acted, done_by, done, can_by, can_in, asked_by, asked_in, can_ask_by}
use Rattle.world_model.specs.Lines.{Line, out_line, items_lines, journal_lines, texts_among}

-- ---- what isn't enabled

by_none : (w : World) (name : List ℕ) (a : Act) (o : Option Conn) → can_by w a o ≡ false → done_by w name a o ≡ w
by_none w name a None e = refl
by_none w name a (Some c) e = ap (λ b. cond b (acted w name a c) w) e

pub idle_acts_leave : (w : World) (name : List ℕ) (a : Act) → can_in w (name, a) ≡ false → done (name, a) w ≡ w
idle_acts_leave w name a e = by_none w name a (conn_of w name) e

ask_none : (w : World) (name : List ℕ) (a : Ask) (o : Option Conn) → can_ask_by a o ≡ false → asked_by w name a o ≡ w
ask_none w name a None e = refl
ask_none w name a (Some c) e = ap (λ b. cond b (with_conn w name (asked w.app c a)) w) e

pub idle_asks_leave : (w : World) (name : List ℕ) (a : Ask) → can_ask_by a (conn_of w name) ≡ false → asked_in name a w ≡ w
idle_asks_leave w name a e = ask_none w name a (conn_of w name) e

-- ---- printed journals

texts-behind : (ms : List ServerMessage) (ls : List Line) → texts_among (map (λ m. out_line (server_text m)) ms ++ ls) ≡ map server_text ms ++ texts_among ls
texts-behind [] ls = refl
texts-behind (m ∷ ms) ls = ap (λ (ts : List (List ℕ)). server_text m ∷ ts) (texts-behind ms ls)

map-behind : (ms more : List ServerMessage) → map server_text (ms ++ more) ≡ map server_text ms ++ map server_text more
map-behind [] more = refl
map-behind (m ∷ ms) more = ap (λ (ts : List (List ℕ)). server_text m ∷ ts) (map-behind ms more)

items_show : (C : List Moment) (n : ℕ) (past : Calls) (st : State) (items : List Item) →
    texts_among (items_lines C n past st items) ≡ map server_text (out_from C n past st items)
items_show C n past st [] = refl
items_show C n past st (i ∷ items) =
    let ms = messages_of C n past st i in
    let rest = out_from C n (call_of C st i ∷ past) (after st i) items in
    texts-behind ms (items_lines C n (call_of C st i ∷ past) (after st i) items)
    ∙ ap (λ (ts : List (List ℕ)). map server_text ms ++ ts) (items_show C n (call_of C st i ∷ past) (after st i) items)
    ∙ sym (map-behind ms rest)

-- the texts in the lines of a journal are those of the session, in order, sent or not
pub journals_show : (app : App) (history : List Entry) (c : Conn) →
    texts_among (journal_lines app history c) ≡ out_texts (moments app c.number history) c.number c.items
journals_show app history c = items_show (moments app c.number history) c.number [] started c.items
