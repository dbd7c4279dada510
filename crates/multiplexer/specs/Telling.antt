-- What sessions share: what publications tell of the entries of a history.
use Rattle.std.specs.Prelude.{◌≡◌, ℕ, suc, ◌+◌, ◌≤◌, List, [], ◌∷◌, map, length, Option, None, IfSome}
use Rattle.std.specs.List.{AllByRecursion}
use Rattle.value_model.specs.Val.{Val}
use Rattle.ejson_value.specs.declared.change.Publish.{Publish}
use Rattle.ejson_value.specs.Changes.{news_of}
use Rattle.ejson_value.specs.Rows.{Rows}
use Rattle.history_model.specs.declared.entry.Entry.{Entry}
use Rattle.history_model.specs.History.{Programs, held_at, changes_between}
use Rattle.history_log.specs.declared.batch.Batch.{Batch}
use Rattle.store_machine.specs.State.{MachineState, programs}
use Rattle.publication.specs.Cursors.{ACursors}
use Rattle.publication.specs.Published.{published}
use Rattle.live_observer.specs.Observing.{AnObserver, cursors_of, HaveNoLimit}
use Rattle.session_state.specs.declared.subs.Sub.{Sub}
use Rattle.known_texts.specs.Places.{Texts}
use Rattle.multiplexer.specs.Leading.{News, AreDifferences, IsLead}
use Rattle.multiplexer.specs.Known.{AreKnown}

-- the cursors of each publication with params
abbrev pub CursorsAt : Type 0
CursorsAt = List ℕ → List Val → ACursors

-- what is told of the entries between two places, and the texts that are known of it
pub record ASpan : Type 0 where
  pub from : ℕ
  pub until : ℕ
  pub told : List Publish
  pub texts : Texts

-- what is told of an entry, and the texts that are known of it
pub record AnEntry : Type 0 where
  pub told : List Publish
  pub texts : Texts

-- what a publication, called with its params, tells of each entry from the first on, and of a span
pub record ASource : Type 0 where
  pub name : List ℕ
  pub params : List Val
  pub first : ℕ
  pub ones : List AnEntry
  pub last : Option ASpan

pub record ANews : Type 0 where
  pub sources : List ASource
  pub batch : Option Batch

abbrev pub nothing_told : ANews
nothing_told = record { sources = []; batch = None }

-- the changes of a span of a machine's history
abbrev pub batch_of : MachineState → ℕ → ℕ → Batch
batch_of m from count = record { from = from; count = count; changes = changes_between (programs m.app) m.history from count }

-- the documents after each number of entries
abbrev pub documents_of : Programs → List Entry → ℕ → Rows
documents_of app history place = (held_at app history place).rows

-- the span is the history's, what is told of it leads from what is published at its beginning to what is published at its end, and a text that is
-- known is what each client is told that sees what is published at its beginning
pub record IsSpan (cursors : ACursors) (app : Programs) (history : List Entry) (span : ASpan) : Type 0 where
  pub order : span.from ≤ span.until
  pub within : span.until ≤ length history
  pub leads : IsLead (published cursors (documents_of app history span.from)) (published cursors (documents_of app history span.until)) (news_of span.told)
  pub known : AreKnown (published cursors (documents_of app history span.from)) (news_of span.told) span.texts

-- the news that are told of an entry
abbrev pub news_in : AnEntry → News
news_in one = news_of one.told

-- a text that is known of an entry is what each client is told that sees what is published before it
abbrev pub AreKnownFrom : ACursors → (ℕ → Rows) → ℕ → List AnEntry → Type 0
AreKnownFrom cursors C from [] = Unit {0}
AreKnownFrom cursors C from (one ∷ ones) = AreKnown (published cursors (C from)) (news_in one) one.texts × AreKnownFrom cursors C (suc from) ones

-- the entries are the history's, what is told of each is the difference that it makes, and a text that is known of one is what each client is told
-- that sees what is published before it
pub record IsTold (cursors_at : CursorsAt) (app : Programs) (history : List Entry) (source : ASource) : Type 0 where
  pub within : source.first + length source.ones ≤ length history
  pub each : AreDifferences (cursors_at source.name source.params) (documents_of app history) source.first (map news_in source.ones)
  pub known : AreKnownFrom (cursors_at source.name source.params) (documents_of app history) source.first source.ones
  pub last : IfSome source.last (IsSpan (cursors_at source.name source.params) app history)

-- the batch is of the history
abbrev pub IsKept : MachineState → Batch → Type 0
IsKept m b = (b.from + b.count ≤ length m.history) × (b ≡ batch_of m b.from b.count)

-- what is kept is told of the machine's history
pub record AreTold (cursors_at : CursorsAt) (m : MachineState) (news : ANews) : Type 0 where
  pub sources : AllByRecursion (IsTold cursors_at (programs m.app) m.history) news.sources
  pub batch : IfSome news.batch (IsKept m)

-- the subscription has the cursors of its publication with its parameters, none of them with a limit, and its observer has them too
pub record IsSource (cursors_at : CursorsAt) (sub : Sub) : Type 0 where
  pub cursors : sub.cursors ≡ cursors_at sub.name sub.params
  pub no_limit : HaveNoLimit sub.cursors
  pub observer : IfSome sub.observer (λ (o : AnObserver). cursors_of o ≡ sub.cursors)
