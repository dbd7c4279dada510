-- Laws: A client's part of a round adds entries of its session alone, and leaves its number and that it is there.
use Rattle.std.specs.Prelude.{ℕ, ◌==◌, List, [], ◌∷◌, ◌++◌, map, Bool, true, false, if◌then◌else◌, refl}
use Rattle.std.proofs.Common.{ap, sym, ◌∙◌, append-nil}
use Rattle.std.proofs.lemmas.List.{append_assoc}
use Rattle.app_model.specs.App.{App}
use Rattle.headline.specs.history_model.declared.entry.Entry.{Entry}
use Rattle.rounds_model.specs.Rounds.{made, through}
use Rattle.headline.specs.world_model.declared.events.Act.{Act}
use Rattle.headline.specs.world_model.Acts.{can, does, entries}
use Rattle.headline.specs.world_model.Settle.{order}
use Rattle.world_laws.specs.Gone.{AreNotBy}
use Rattle.headline.specs.world_invariant_laws.Lift.{same_number}
use Rattle.world_laws.specs.Making.{does_there, entries_apart}
use Rattle.world_rounds_laws.specs.Visits.{Side, act_on, phase_on, visited}
use Rattle.world_laws.specs.Growing.{Grows}

both_apart : (n : ℕ) (a b : List Entry) → AreNotBy n a → AreNotBy n b → AreNotBy n (a ++ b)
both_apart n [] b p q = q
both_apart n (e ∷ a) b p q = (p.0, both_apart n a b p.1 q)

grows_none : (s : Side) → Grows s s
grows_none s = record { more = []; behind = sym (append-nil s.history); apart = λ n e. tt; number = refl; there = refl }

grows_on : (s t u : Side) → Grows s t → Grows t u → Grows s u
grows_on s t u a b = record {
  more = a.more ++ b.more;
  behind = b.behind ∙ (ap (λ (h : List Entry). h ++ b.more) a.behind ∙ append_assoc s.history a.more b.more);
  apart = λ n e. both_apart n a.more b.more (a.apart n e) (b.apart n (ap (λ m. n == m) a.number ∙ e));
  number = b.number ∙ a.number;
  there = b.there ∙ a.there;
}

one_grows : (app : App) (a : Act) (s : Side) → Grows s (act_on app a s)
one_grows app a s = by (can app s.history s.conn a)
  where
    by : (b : Bool) →
        Grows s (if b then (let t : Side = record { history = s.history ++ entries app s.history s.conn a; conn = does app s.history s.conn a } in t) else s)
    by false = grows_none s
    by true = record {
      more = entries app s.history s.conn a;
      behind = refl;
      apart = λ n e. entries_apart app s.history s.conn a n e;
      number = same_number app s.history s.conn a;
      there = does_there app s.history s.conn a;
    }

pub made_grows : (app : App) (acts : List Act) (s : Side) → Grows s (made (act_on app) acts s)
made_grows app [] s = grows_none s
made_grows app (a ∷ acts) s = grows_on s (act_on app a s) (made (act_on app) acts (act_on app a s)) (one_grows app a s) (made_grows app acts (act_on app a s))

through_grows : (app : App) (ps : List (Side → List Act)) (s : Side) → Grows s (through (act_on app) ps s)
through_grows app [] s = grows_none s
through_grows app (p ∷ ps) s = grows_on s (made (act_on app) (p s) s) (through (act_on app) ps (made (act_on app) (p s) s)) (made_grows app (p s) s)
    (through_grows app ps (made (act_on app) (p s) s))

pub visit_grows : (app : App) (s : Side) → Grows s (visited app s)
visit_grows app s = through_grows app (map (phase_on app) order) s
