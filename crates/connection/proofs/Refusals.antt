-- An event of the session that is done or refused is answered as the act is.
use Rattle.std.specs.Prelude.{◌≡◌, ℕ, List, Result, Ok, Err, IsErr, refl}
use Rattle.std.proofs.lemmas.Bool.{true≢false}
use Rattle.std.proofs.Common.{sym, subst, ◌∙◌}
use Rattle.app_model.specs.App.{App}
use Rattle.connection.specs.history_model.declared.entry.Entry.{Entry}
use Rattle.connection.specs.session_laws.declared.fault.EventFault.{EventFault}
use Rattle.connection.specs.session_laws.declared.fault.EventFault.TheVariants as fault
use Rattle.connection.specs.world_model.declared.events.Act.{Act}
use Rattle.connection.specs.world_model.declared.events.Answer.{Answer}
use Rattle.connection.specs.world_model.declared.events.Answer.TheVariants as answer
use Rattle.connection.specs.connection_laws.Connection.{AConnection, IsConnection}
use Rattle.connection.specs.connection_laws.Acting.{Makes}
use Rattle.connection.specs.Answers.{Acts, Answers, IsRefusal}

same_ok : {E : Type 0} (a o : Answer) → (let x : Result Answer E = Ok a in x) ≡ Ok o → a ≡ o
same_ok a o e = cc e

-- over one history
pub refused_acts : {E : Type 0} (app : App) (name : List ℕ) (history : List Entry) (a : Act) (old done new : AConnection) (fault : EventFault) (result : Result Answer E) → IsRefusal fault result → Makes app name history a old done (Err fault) → new ≡ old →
    (o : Answer) → result ≡ Ok o → Acts app name history a old new o
refused_acts app name history a old done new fault.Idle result is makes same o e = subst (Acts app name history a old new) (same_ok answer.Idle o (sym is ∙ e)) (makes, same)
refused_acts app name history a old done new fault.JournalFull result is makes same o e = subst (Acts app name history a old new) (same_ok answer.JournalFull o (sym is ∙ e)) (makes, same)
refused_acts app name history a old done new fault.QueueFull result is makes same o e = subst (Acts app name history a old new) (same_ok answer.QueueFull o (sym is ∙ e)) (makes, same)
refused_acts app name history a old done new fault.Memory result is makes same o e = absurd (true≢false (sym (subst IsErr e is)))

-- over each
pub refused_answers : {E : Type 0} (a : Act) (old done new : AConnection) (fault : EventFault) (result : Result Answer E) → IsRefusal fault result →
    ((app : App) (name : List ℕ) (history : List Entry) → IsConnection app name history old → Makes app name history a old done (Err fault)) → new ≡ old → Answers a old new result
refused_answers a old done new fault (Ok o) is makes same = λ app name history p. refused_acts app name history a old done new fault (Ok o) is (makes app name history p) same o refl
refused_answers a old done new fault (Err e) is makes same = same
