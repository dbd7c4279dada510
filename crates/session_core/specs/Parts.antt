-- What one more item makes of the parts of a session that it changes.
use Rattle.std.specs.Prelude.{◌≡◌, ℕ, List, [], ◌∷◌, ◌++◌, length, map, None}
use Rattle.std.specs.Ordering.{nat_cmp}
use Rattle.map_model.specs.Maps.{IsSorted}
use Rattle.merge_model.specs.Publishing.{Call}
use Rattle.merge_model.specs.Kept.{merged}
use Rattle.value_model.specs.Val.{Entries}
use Rattle.ejson_value.specs.declared.key.Key.{Key}
use Rattle.merge_box.specs.State.{KeptDocs, IsBoxAfter, IsBox}
use Rattle.ddp_messages.specs.Texts.{server_text}
use Rattle.session_model.specs.State.{State, started}
use Rattle.session_model.specs.Methods.{all_told}
use Rattle.session_model.specs.Shown.{difference}
use Rattle.session_model.specs.Out.{about}
use Rattle.session_journal_laws.specs.Fired.{unfired, is_opening, least_with}
use Rattle.session_journal_laws.specs.Stands.{fired_state}
use Rattle.session_state.specs.declared.journal.Line.{Line}
use Rattle.session_state.specs.Journal.{new_journal}
use Rattle.session_state.specs.Own.{as_state, watch_after, SameOwn}
use Rattle.session_state.specs.Subs.{observers_of}
use Rattle.session_core.specs.declared.adding.Addition.{Addition}
use Rattle.session_core.specs.declared.parts.Parts.{Parts}
use Rattle.session_core.specs.Additions.{armed_by, updated_text}

-- nothing was taken
pub record IsNew (p : Parts) : Type 0 where
  pub own : as_state p.own ≡ started
  pub shown : p.shown.kept ≡ []
  pub fences : p.fences ≡ []
  pub journal : p.journal ≡ new_journal
  pub outbox : p.outbox.items ≡ []

-- the same, in other memory perhaps
pub record AreSame (old new : Parts) : Type 0 where
  pub own : SameOwn old.own new.own
  pub shown : new.shown.kept ≡ old.shown.kept
  pub fences : new.fences ≡ old.fences
  pub lines : new.journal.lines ≡ old.journal.lines
  pub counts : new.journal.counts ≡ old.journal.counts
  pub outbox : new.outbox.items ≡ old.outbox.items

-- the texts of an item that makes this of subscriptions and calls: of what is shown otherwise, then these words, then an `updated` for each call
-- whose fence is open then
abbrev pub gained_texts : State → List (List ℕ) → KeptDocs → KeptDocs → List (List ℕ)
gained_texts state words old new =
    map server_text (map about (difference (merged old) (merged new))) ++ (words ++ map updated_text (all_told state.subs state.methods))

abbrev pub line_of : Addition → Line
line_of a = record { item = a.item; id = a.id }

-- the item stands behind the journal, its texts behind the outbox; each call is told whose fence is open, and its fence is armed no longer; the box
-- is one after the call of the merge
pub record HasGained (a : Addition) (call : Call Key Entries) (state : State) (old new : Parts) : Type 0 where
  pub lines : new.journal.lines ≡ old.journal.lines ++ line_of a ∷ []
  pub counts : new.journal.counts ≡ old.journal.counts ++ length (gained_texts state a.words.items old.shown.kept new.shown.kept) ∷ []
  pub outbox : new.outbox.items ≡ old.outbox.items ++ gained_texts state a.words.items old.shown.kept new.shown.kept
  pub own : as_state new.own ≡ fired_state state
  pub observers : observers_of new.own.subs.items ≡ watch_after a.step old.own
  pub fences : new.fences ≡ unfired (is_opening state.subs) (least_with None state.subs) (armed_by a.step old.fences)
  pub shown : IsBoxAfter call old.shown.kept new.shown.kept
  pub whole : IsBox new.shown.kept
  pub rising : IsSorted nat_cmp old.fences
