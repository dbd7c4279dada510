-- What a client shows (Meteor's guide, "Methods", "Optimistic UI").
use Rattle.std.specs.Prelude.{◌≡◌, ℕ, true, List, [], ◌∷◌}
use Rattle.view_model.specs.Pending.{is_among, holders}
use Rattle.view_model.specs.Views.{IsView}
use Rattle.ejson_value.specs.declared.key.Key.{Key}
use Rattle.ejson_value.specs.Key.{key_cmp}
use Rattle.client_model.specs.Client.{Client}
use Rattle.client_model.specs.Taking.{awaits_update, call_at, told_text}

-- The view has the server's document, or its absence, at each key that no simulation holds; and a simulation holds its keys no
-- longer than until the `updated` of its call is taken.
pub record IsShown (c : Client) : Type 0 where
  pub view : IsView key_cmp c.documents
  pub awaited : (k : Key) (n : ℕ) → is_among (holders key_cmp c.documents.pending k) n ≡ true → awaits_update (call_at c.calls n) ≡ true

-- each call that awaits its `updated` still holds what it held
abbrev pub IsHeldOn : Client → Client → Type 0
IsHeldOn c now = (k : Key) (n : ℕ) → is_among (holders key_cmp c.documents.pending k) n ≡ true → awaits_update (call_at now.calls n) ≡ true →
    is_among (holders key_cmp now.documents.pending k) n ≡ true

-- the client once it has taken the texts, one after another
abbrev pub all_told : Client → List (List ℕ) → Client
all_told c [] = c
all_told c (t ∷ texts) = all_told (told_text c t) texts
