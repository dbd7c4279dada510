-- A client once it has taken a message.
use Rattle.std.specs.Prelude.{Option, Some, None, is_some, option_map}
use Rattle.std.proofs.Common.{◌≡◌, ◌≢◌, true, cond, List, ℕ, [], ◌++◌, refl, sym, ap, ap₂, subst, ◌∙◌}
use Rattle.std.proofs.lemmas.List.{append-nil}
use Rattle.value_model.specs.Val.{Entries}
use Rattle.view_model.specs.Views.{View, released}
use Rattle.ejson_value.specs.declared.key.Key.{Key}
use Rattle.ejson_value.specs.Key.{key_cmp}
use Rattle.ddp_messages.specs.ServerMessage as server
use Rattle.ddp_messages.specs.ServerMessage.{ServerMessage}
use Rattle.client_model.specs.Client.{Client, Call}
use Rattle.client_model.specs.Taking.{message_refusal, late_refusal, early_refusal, told_message, all_changed, with_update}
use Rattle.client_core.specs.Numbered.{AreUpdated}
use Rattle.client_core.specs.State.{Own}

-- which rules refuse a message
pub late_is : (c : Client) (m : ServerMessage) → c.session ≢ None → message_refusal c m ≡ late_refusal c m
late_is c m later = ap (λ b. cond b (late_refusal c m) (early_refusal m)) (there c.session later)
  where
    there : (o : Option (List ℕ)) → o ≢ None → is_some o ≡ true
    there None h = absurd (h refl)
    there (Some name) h = refl

-- an `updated` is taken
pub updated_told : (own : Own) (methods : List (List ℕ)) (numbers : List ℕ) (documents : View Key Entries) (calls : List Call) → own.client.session ≢ None → AreUpdated own.client.calls methods (Some numbers)
    → documents ≡ released key_cmp numbers own.client.documents → calls ≡ all_changed numbers with_update own.client.calls
    → (message_refusal own.client (server.updated methods) ≡ None) × (record own { client = record own.client { documents = documents; calls = calls } } ≡ record own { client = told_message own.client (server.updated methods) })
updated_told own methods numbers documents calls later are over is = (
  late_is own.client (server.updated methods) later ∙ are.0,
  ap₂ (λ (ds : View Key Entries) (cs : List Call). record own { client = record own.client { documents = ds; calls = cs } })
      (over ∙ ap (λ ns. released key_cmp ns own.client.documents) are.1) (is ∙ ap (λ ns. all_changed ns with_update own.client.calls) are.1)
      ∙ sym (ap (λ (c : Client). record own { client = c }) (quiet (record own.client {
        documents = (told_message own.client (server.updated methods)).documents;
        calls = (told_message own.client (server.updated methods)).calls;
      }))),
)
  where
    -- no text more waits
    quiet : (c : Client) → record c { waiting = c.waiting ++ [] } ≡ c
    quiet c = λ i. record c { waiting = append-nil c.waiting i }

-- the numbers of an `updated` that were given
pub given : {V : Type 0} (items : V → List ℕ) (calls : List Call) (ids : List (List ℕ)) (found : Option V) (numbers : V) → found ≡ Some numbers → AreUpdated calls ids (option_map items found) → AreUpdated calls ids (Some (items numbers))
given items calls ids found numbers is are = subst (λ o. AreUpdated calls ids (option_map items o)) is are
