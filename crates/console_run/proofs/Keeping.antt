-- A client that keeps each text that it had to send is the client itself, with these texts before those that wait.
use Rattle.std.specs.Prelude.{◌≡◌, ℕ, List, [], ◌∷◌, ◌++◌, length, Bool, true, false, cond, nat_lt, MatchBool, Option, Some, None, is_some, Result, Ok, Err, refl}
use Rattle.std.proofs.Common.{ap, sym, subst, ◌∙◌}
use Rattle.std.proofs.lemmas.List.{append_assoc, append-nil}
use Rattle.ddp_messages.specs.Answers.{server_answer}
use Rattle.ddp_messages.specs.declared.fault.MsgFault.{MsgFault}
use Rattle.ddp_messages.specs.declared.fault.MsgFault.TheVariants.{Parse, BadRequest, Memory}
use Rattle.ddp_messages.specs.ServerMessage as server
use Rattle.ddp_messages.specs.ServerMessage.{ServerMessage}
use Rattle.client_model.specs.Client.{Client}
use Rattle.client_model.specs.Taking.{max_server_text, early_refusal, late_refusal, message_refusal, answers_in, told_message, told_unless, told_answer, told_text, breaks}
use Rattle.client_core.specs.State.{Own}
use Rattle.client_script.specs.declared.line.Line.TheVariants as line
use Rattle.client_script.specs.declared.line.Ask.{Ask}
use Rattle.client_script.specs.declared.line.Ask.TheVariants as ask
use Rattle.client_script.specs.Course.{Step, texts_said, Makes, Runs, Goes}
use Rattle.client_script.specs.Course as step
use Rattle.console_run.specs.Speaking.{can, asked, told, look_of, Does}
use Rattle.console_run.specs.Console.{made, all_made, MayBeMade, AllMayBeMade, printed, all_printed}

-- these texts before those that wait
abbrev pub behind : List (List ℕ) → Client → Client
behind texts c = record c { waiting = texts ++ c.waiting }

abbrev pub keeping : List (List ℕ) → Own → Own
keeping texts own = record own { client = behind texts own.client }

-- ---- a text of the server

late_same : (texts : List (List ℕ)) (c : Client) (m : ServerMessage) → late_refusal (behind texts c) m ≡ late_refusal c m
late_same texts c (server.connected session) = refl
late_same texts c (server.failed version) = refl
late_same texts c (server.about m) = refl
late_same texts c (server.finished id fault value) = refl
late_same texts c (server.updated ids) = refl
late_same texts c _ = refl

refusal_same : (texts : List (List ℕ)) (c : Client) (m : ServerMessage) → message_refusal (behind texts c) m ≡ message_refusal c m
refusal_same texts c m = ap (λ r. cond (is_some c.session) r (early_refusal m)) (late_same texts c m)

message_same : (texts : List (List ℕ)) (c : Client) (m : ServerMessage) → told_message (behind texts c) m ≡ behind texts (told_message c m)
message_same texts c m = ap (λ ws. record (told_message c m) { waiting = ws }) (append_assoc texts c.waiting (answers_in m))

unless_same : (texts : List (List ℕ)) (c : Client) (m : ServerMessage) (r : Option ℕ) → told_unless (behind texts c) m r ≡ behind texts (told_unless c m r)
unless_same texts c m None = message_same texts c m
unless_same texts c m (Some n) = refl

answer_same : (texts : List (List ℕ)) (c : Client) (r : Result ServerMessage MsgFault) → told_answer (behind texts c) r ≡ behind texts (told_answer c r)
answer_same texts c (Ok m) = ap (told_unless (behind texts c) m) (refusal_same texts c m) ∙ unless_same texts c m (message_refusal c m)
answer_same texts c (Err Parse) = refl
answer_same texts c (Err (BadRequest name)) = refl
answer_same texts c (Err Memory) = refl

text_same : (texts : List (List ℕ)) (c : Client) (t : List ℕ) → told_text (behind texts c) t ≡ behind texts (told_text c t)
text_same texts c t =
    elim (nat_lt max_server_text (length t)) as (λ b. cond b (breaks 1 (behind texts c)) (told_answer (behind texts c) (server_answer t)) ≡ behind texts (cond b (breaks 1 c) (told_answer c (server_answer t)))) [
      | true ↦ refl
      | false ↦ answer_same texts c (server_answer t)
    ]

-- ---- what is asked for

-- one text more waits
more_waits : (texts : List (List ℕ)) (own after : Own) (text : List ℕ) → after.client.waiting ≡ own.client.waiting ++ text ∷ []
    → record after { client = record after.client { waiting = (texts ++ own.client.waiting) ++ text ∷ [] } } ≡ keeping texts after
more_waits texts own after text waits =
    ap (λ ws. record after { client = record after.client { waiting = ws } }) (append_assoc texts own.client.waiting (text ∷ []) ∙ ap (λ ws. texts ++ ws) (sym waits))

asked_same : (texts : List (List ℕ)) (own : Own) (a : Ask) → asked a (keeping texts own) ≡ keeping texts (asked a own)
asked_same texts own (ask.Sub id name params) = more_waits texts own (asked (ask.Sub id name params) own) _ refl
asked_same texts own (ask.Unsub id) = more_waits texts own (asked (ask.Unsub id) own) _ refl
asked_same texts own (ask.Call method params) = more_waits texts own (asked (ask.Call method params) own) _ refl

can_same : (texts : List (List ℕ)) (own : Own) (a : Ask) → can (keeping texts own) a ≡ can own a
can_same texts own (ask.Sub id name params) = refl
can_same texts own (ask.Unsub id) = refl
can_same texts own (ask.Call method params) = refl

answers_same : (texts : List (List ℕ)) (own m : Own) (a : Ask) (b : Bool) → MatchBool b (m ≡ asked a own) (m ≡ own) → cond b (asked a (keeping texts own)) (keeping texts own) ≡ keeping texts m
answers_same texts own m a true is = asked_same texts own a ∙ ap (keeping texts) (sym is)
answers_same texts own m a false is = ap (keeping texts) (sym is)

-- ---- steps

-- a step of the client is one of the client that keeps its texts
pub record Same (texts : List (List ℕ)) (own : Own) (s : Step) (m : Own) (here : List ℕ) : Type 0 where
  pub made_so : made (keeping texts own) s ≡ keeping (texts ++ texts_said (s ∷ [])) m
  pub may : MayBeMade (keeping texts own) s
  pub prints : printed (keeping texts own) s ≡ here

-- no text was given
quiet : (texts : List (List ℕ)) (own m : Own) → own ≡ keeping texts m → own ≡ keeping (texts ++ []) m
quiet texts own m is = is ∙ ap (λ ts. keeping ts m) (sym (append-nil texts))

step_same : (texts : List (List ℕ)) (own : Own) (s : Step) (m : Own) (here : List ℕ) → Makes look_of Does own s m here → Same texts own s m here
step_same texts own (step.heard text) m here d = record {
  made_so = quiet texts (told text (keeping texts own)) m (ap (λ c. record own { client = c }) (text_same texts own.client text) ∙ ap (keeping texts) (sym d.0));
  may = tt;
  prints = sym d.1;
}
step_same texts own (step.said text) m here d = record {
  made_so = ap (λ ws. record own { client = record own.client { waiting = ws } }) (ap (λ ws. texts ++ ws) d.0.0 ∙ sym (append_assoc texts (text ∷ []) m.client.waiting))
      ∙ sym (ap (λ (o : Own). record o { client = record o.client { waiting = (texts ++ text ∷ []) ++ m.client.waiting } }) d.0.1);
  may = tt;
  prints = sym d.1;
}
step_same texts own (step.ran (line.Ask a)) m here d = record {
  made_so = quiet texts (made (keeping texts own) (step.ran (line.Ask a))) m
      (ap (λ b. cond b (asked a (keeping texts own)) (keeping texts own)) (can_same texts own a) ∙ answers_same texts own m a (can own a) d.1.0);
  may = d.0;
  prints = sym d.1.1;
}
step_same texts own (step.ran line.Wait) m here d = record {
  made_so = quiet texts (keeping texts own) m (ap (keeping texts) (sym d.1.1));
  may = (d.0, d.1.0);
  prints = sym d.1.2;
}
step_same texts own (step.ran line.Show) m here d = record {
  made_so = quiet texts (keeping texts own) m (ap (keeping texts) (sym d.1.0));
  may = d.0;
  prints = sym d.1.1;
}

-- ---- courses

pub record SameCourse (texts : List (List ℕ)) (own : Own) (steps : List Step) (last : Own) (bytes : List ℕ) : Type 0 where
  pub made_so : all_made (keeping texts own) steps ≡ keeping (texts ++ texts_said steps) last
  pub may : AllMayBeMade (keeping texts own) steps
  pub prints : all_printed (keeping texts own) steps ≡ bytes

said_first : (s : Step) (steps : List Step) → texts_said (s ∷ []) ++ texts_said steps ≡ texts_said (s ∷ steps)
said_first (step.heard text) steps = refl
said_first (step.ran line) steps = refl
said_first (step.said text) steps = refl

pub same_course : (texts : List (List ℕ)) (own : Own) (steps : List Step) (last : Own) (bytes : List ℕ) → Goes look_of Does own steps last bytes → SameCourse texts own steps last bytes
same_course texts own [] last bytes g = record {
  made_so = quiet texts (keeping texts own) last (ap (keeping texts) (sym g.0));
  may = tt;
  prints = sym g.1;
}
same_course texts own (s ∷ steps) last bytes g =
    let m = g.0 in
    let first = step_same texts own s m g.1 g.3 in
    let ts = texts ++ texts_said (s ∷ []) in
    let rest = same_course ts m steps last g.2 g.4 in
    let P : Own → Type 0 = λ o. AllMayBeMade o steps in record {
      made_so = ap (λ o. all_made o steps) first.made_so ∙ rest.made_so
          ∙ ap (λ ts. keeping ts last) (append_assoc texts (texts_said (s ∷ [])) (texts_said steps) ∙ ap (λ ts. texts ++ ts) (said_first s steps));
      may = (first.may, subst P (sym first.made_so) rest.may);
      prints = ap (λ bs. bs ++ all_printed (made (keeping texts own) s) steps) first.prints ∙ ap (λ o. g.1 ++ all_printed o steps) first.made_so
          ∙ ap (λ bs. g.1 ++ bs) rest.prints ∙ sym g.5;
    }
