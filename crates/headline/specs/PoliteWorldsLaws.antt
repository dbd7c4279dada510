-- Laws: In every world that events lead to, a client that sent no text as it stands is polite; so it refuses none but for its length.
use Rattle.std.specs.Prelude.{◌≡◌, ℕ, suc, ◌+◌, ◌-◌, List, [], ◌∷◌, ◌++◌, length, take, false, Option, Some, None, IfSome, if◌then◌else◌, refl}
use Rattle.std.proofs.Common.{ap, sym, subst, ◌∙◌, arith, length-append}
use Rattle.std.proofs.Math.Seq.{take-append_seam}
use Rattle.app_model.specs.App.{App}
use Rattle.headline.specs.history_model.declared.entry.Entry.{Entry}
use Rattle.headline.specs.session_model.Items.{Item}
use Rattle.headline.specs.session_model.Taking.{Taken, at_once, to_queue, taken_text}
use Rattle.headline.specs.world_values_laws.Values.{HasValues, AreEntries}
use Rattle.headline.specs.world_values_laws_for_proofs.MomentValues.{moments_are_kept}
use Rattle.headline.specs.world_model.declared.events.Act.{Act}
use Rattle.headline.specs.world_model.declared.events.Act.TheVariants as act
use Rattle.headline.specs.world_model.declared.events.Event.{Event}
use Rattle.headline.specs.world_model.Store.{programs}
use Rattle.headline.specs.world_model.Conn.{Waiting, Conn, state_in}
use Rattle.headline.specs.world_model.Acts.{goes_up, received_as, receives, handles, is_kept, learnt, learns_item, sends, takes, does, entries}
use Rattle.headline.specs.world_model.Asks.{Ask, asked}
use Rattle.headline.specs.world_model.Asks as ask
use Rattle.headline.specs.world_model.World.{World, start, conn_of}
use Rattle.headline.specs.world_model.Events.{run, AreEvents}
use Rattle.headline.specs.world_model.Headline.{IsLongAlone, HaveLongAlone}
use Rattle.headline.specs.world_invariant_laws.Lift.{IsKept, Holds, every_world}
use Rattle.headline.specs.world_invariant_laws.LinksLaws.{can_enabled, links_kept}
use Rattle.headline.specs.Worlds.{IsSound}
use Rattle.headline.specs.WorldsLaws.{sound_kept}
use Rattle.headline.specs.Polite.{IsAlone, IsPolite}
use Rattle.headline.specs.Acts.{new_polite, act_polite, asked_polite}
use Rattle.headline.specs.PoliteWorlds.{IsKnownPolite}

-- ---- no act makes a text of its own

up_raw : (c : Conn) (ts : List (List ℕ)) → (goes_up c ts).made_raw ≡ c.made_raw
up_raw c [] = refl
up_raw c (t ∷ ts) = refl

as_raw : (app : App) (h : List Entry) (c : Conn) (bytes : ℕ) (t : Taken) → (received_as app h c bytes t).made_raw ≡ c.made_raw
as_raw app h c bytes (at_once i) = refl
as_raw app h c bytes (to_queue message) = refl

recv_raw : (app : App) (h : List Entry) (c : Conn) (ts : List (List ℕ)) → (receives app h c ts).made_raw ≡ c.made_raw
recv_raw app h c [] = refl
recv_raw app h c (t ∷ ts) = as_raw app h (record c { upward = ts; received = c.received ++ t ∷ [] }) (length t) (taken_text (state_in c).connected t)

handle_raw : (app : App) (h : List Entry) (c : Conn) (ws : List Waiting) → (handles app h c ws).made_raw ≡ c.made_raw
handle_raw app h c [] = refl
handle_raw app h c (w ∷ ws) = refl

item_raw : (app : App) (h : List Entry) (c : Conn) (o : Option Item) → (learns_item app h c o).made_raw ≡ c.made_raw
item_raw app h c None = refl
item_raw app h c (Some i) = refl

send_raw : (c : Conn) (ts : List (List ℕ)) → (sends c ts).made_raw ≡ c.made_raw
send_raw c [] = refl
send_raw c (t ∷ ts) = refl

take_raw : (c : Conn) (ts : List (List ℕ)) → (takes c ts).made_raw ≡ c.made_raw
take_raw c [] = refl
take_raw c (t ∷ ts) = refl

same_raw : (app : App) (h : List Entry) (c : Conn) (a : Act) → (does app h c a).made_raw ≡ c.made_raw
same_raw app h c act.Up = up_raw c c.client.waiting
same_raw app h c act.Recv = recv_raw app h c c.upward
same_raw app h c act.Handle = handle_raw app h c c.queue
same_raw app h c act.Begin = refl
same_raw app h c (act.Step k) = refl
same_raw app h c (act.Learn k place) = item_raw app h (record c { kept = if is_kept k c.kept then None else c.kept }) (learnt app h c k place)
same_raw app h c (act.Load sub place) = refl
same_raw app h c (act.Advance sub count) = refl
same_raw app h c act.Send = send_raw c c.outbox
same_raw app h c act.Take = take_raw c c.downward

asked_raw : (app : App) (c : Conn) (a : Ask) → (asked app c a).made_raw ≡ false → c.made_raw ≡ false
asked_raw app c (ask.subscribe id name params) e = e
asked_raw app c (ask.unsubscribe id) e = e
asked_raw app c (ask.call name params) e = e
asked_raw app c (ask.raw t) e = cc e
asked_raw app c ask.drop e = e

-- ---- every world

entries_first : (h es : List Entry) → AreEntries (h ++ es) → AreEntries h
entries_first [] es p = tt
entries_first (e ∷ h) es p = (p.0, entries_first h es p.1)

pub polite_kept : (first : App) → IsKept (IsSound first) IsKnownPolite
polite_kept first =
    let sound = sound_kept first in record {
      new = λ app n h upto. (links_kept.new app n h upto, λ v e raw. new_polite (suc n));
      entered = λ app h c a may s p. sound.entered app h c a may s p.0;
      acts = λ app h c a may p. (
        links_kept.acts app h c a may p.0,
        λ v e raw.
            let before = entries_first h (entries app h c a) e in
            act_polite app h c a (can_enabled app h c a may) p.0 (moments_are_kept app c.number h v before) (p.1 v before (sym (same_raw app h c a) ∙ raw)),
      );
      longer = λ app h c e apart p. (links_kept.longer app h c e apart p.0, λ v es raw. p.1 v (entries_first h (e ∷ []) es) raw);
      asks = λ app h c a good may p. (links_kept.asks app h c a good may p.0, λ v e raw. asked_polite app c a good may raw (p.1 v e (asked_raw app c a raw)));
      operations = sound.operations;
    }

-- what is so of every world that events lead to
abbrev pub StandsPolite : App → World → Type 0
StandsPolite first w = Holds (IsSound first) IsKnownPolite (polite_kept first) w

pub worlds_are_polite : (app : App) (events : List Event) → AreEvents events → StandsPolite app (run (start app) events)
worlds_are_polite app events good = every_world (IsSound app) IsKnownPolite (polite_kept app) app events good (record { same = refl; legal = tt; values = tt })

pub client_polite : (first : App) (w : World) → HasValues (programs first) → StandsPolite first w → (name : List ℕ) (c : Conn) →
    conn_of w name ≡ Some c → c.made_raw ≡ false → IsPolite c
client_polite first w good l name c e raw = (l.all name c e).1 (subst (λ (a : App). HasValues (programs a)) (sym l.history.same) good) l.history.values raw

-- ---- texts that are too long

taken_are : (sent downward taken : List (List ℕ)) → taken ++ downward ≡ sent → take (length sent - length downward) sent ≡ taken
taken_are sent downward taken is =
    let all : length taken + length downward ≡ length sent = sym (length-append taken downward) ∙ ap length is in
    let n : length sent - length downward ≡ length taken = omega (arith, all) in
    ap (λ k. take k sent) n ∙ (ap (take (length taken)) (sym is) ∙ take-append_seam taken downward)

polite_alone : (c : Conn) → IsPolite c → IsLongAlone c
polite_alone c p = subst (λ (ts : List (List ℕ)). IsAlone c.client.broken ts) (sym (taken_are c.sent c.downward p.taking.taken p.taking.is)) p.taking.alone

pub have_long_alone : (first : App) (w : World) → HasValues (programs first) → StandsPolite first w → HaveLongAlone w
have_long_alone first w good l name = by (conn_of w name) refl
  where
    by : (o : Option Conn) → conn_of w name ≡ o → IfSome o (λ (c : Conn). c.made_raw ≡ false → IsLongAlone c)
    by None e = tt
    by (Some c) e = λ raw. polite_alone c (client_polite first w good l name c e raw)

pub worlds_have_long_alone : (app : App) (events : List Event) → HasValues (programs app) → AreEvents events → HaveLongAlone (run (start app) events)
worlds_have_long_alone app events good all = have_long_alone app (run (start app) events) good (worlds_are_polite app events all)
