-- What a client knows, and what it asked for.
use Rattle.std.specs.Prelude.{◌≡◌, ℕ, ◌+◌, ◌≤◌, List, [], ◌∷◌, ◌++◌, false, None, is_some}
use Rattle.map_model.specs.Differences.{all_taken}
use Rattle.value_model.specs.Order.{text_cmp}
use Rattle.ejson_value.specs.Key.{key_cmp}
use Rattle.value_model.specs.Size.{is_name}
use Rattle.ddp_messages.specs.ClientMessage.{ClientMessage}
use Rattle.ddp_messages.specs.ClientMessage as client
use Rattle.client_model.specs.Client.{Client}
use Rattle.client_model.specs.Taking.{number_of}
use Rattle.world_invariant_laws.specs.session_model.Texts.{messages_in}
use Rattle.world_invariant_laws.specs.session_model.Items.{Item}
use Rattle.world_invariant_laws.specs.session_model.Taking.{queued_from}
use Rattle.world_invariant_laws.specs.session_model.Data.{data_of}
use Rattle.world_invariant_laws.specs.session_model.Counting.{one_if, methods_handled}
use Rattle.headline.specs.Fitting.{session_after}
use Rattle.headline.specs.Calls.{AreCounted}

-- what a client knows by the texts that it took; these and those on the link to it were sent
pub record IsKnown (c : Client) (sent downward : List (List ℕ)) : Type 0 where
  pub taken : List (List ℕ)
  pub is : taken ++ downward ≡ sent
  pub session : c.session ≡ session_after None (messages_in taken)
  pub server : c.documents.server ≡ all_taken text_cmp key_cmp [] (data_of (messages_in taken))
  pub counted : AreCounted c.calls (messages_in taken)

-- no more methods of an id were handled than there are calls of it
abbrev pub AreAsked : List Item → ℕ → Type 0
AreAsked items calls = (id : List ℕ) → methods_handled id items ≤ one_if (is_some (number_of calls id))

-- ---- methods among messages

abbrev pub method_in : List ℕ → ClientMessage → ℕ
method_in id (client.method x name params seed) = one_if (is_name id x)
method_in id m = 0

abbrev pub methods_in : List ℕ → List ClientMessage → ℕ
methods_in id [] = 0
methods_in id (m ∷ ms) = method_in id m + methods_in id ms

-- there are no more methods of an id among the texts of a client than it has calls of it
abbrev pub HasAsks : List (List ℕ) → ℕ → Type 0
HasAsks texts calls = (id : List ℕ) → methods_in id (queued_from false texts) ≤ one_if (is_some (number_of calls id))
