-- A history that gets longer.
use Rattle.std.specs.Prelude.{◌≡◌, ℕ, zero, suc, ◌+◌, ◌≤◌, List, [], ◌∷◌, ◌++◌, length, map, take, drop, Option, None, Some, IfSome}
use Rattle.std.specs.List.{AllByRecursion}
use Rattle.std.proofs.Common.{ap, ap₂, sym, subst, ◌∙◌, arith}
use Rattle.std.proofs.lemmas.List.{drop-append-le, take-append-le, length-append, length-map}
use Rattle.ejson_value.specs.Changes.{news_of}
use Rattle.ejson_value.specs.Rows.{Rows}
use Rattle.history_model.specs.declared.entry.Entry.{Entry}
use Rattle.history_model.specs.History.{Programs, Held, changes_from, changes_between}
use Rattle.history_model.specs.HistoryLaws.{held_at-longer}
use Rattle.history_log.specs.declared.batch.Batch.{Batch}
use Rattle.publication.specs.Cursors.{ACursors}
use Rattle.publication.specs.Published.{published}
use Rattle.live_observer.specs.Observing.{IsDifference}
use Rattle.store_machine.specs.State.{MachineState, programs}
use Rattle.multiplexer.specs.Leading.{News, AreDifferences, IsLead}
use Rattle.multiplexer.specs.Known.{AreKnown}
use Rattle.multiplexer.specs.Telling.{CursorsAt, AnEntry, ASpan, ASource, ANews, nothing_told, documents_of, news_in, AreKnownFrom, IsSpan, IsTold}
use Rattle.multiplexer.specs.Telling.{IsKept, AreTold}

taken_within : {A : Type 0} (count place : ℕ) (xs more : List A) → place + count ≤ length xs → take count (drop place (xs ++ more)) ≡ take count (drop place xs)
taken_within count place xs more fits =
    ap (take count) (drop-append-le place xs more (omega (arith, fits)))
    ∙ take-append-le count (drop place xs) more (room count place xs fits)
  where
    room : {A : Type 0} (count place : ℕ) (xs : List A) → place + count ≤ length xs → count ≤ length (drop place xs)
    room count zero xs fits = omega (arith, fits)
    room count (suc place) [] fits = omega (arith, fits)
    room count (suc place) (x ∷ xs) fits = room count place xs (omega (arith, fits))

-- a longer history has the same changes between places of the shorter one
pub between_longer : (app : Programs) (history more : List Entry) (place count : ℕ) → place + count ≤ length history →
    changes_between app (history ++ more) place count ≡ changes_between app history place count
between_longer app history more place count fits =
    ap₂ (λ (h : Held) (es : List Entry). changes_from app h es) (held_at-longer app history more place (omega (arith, fits)))
    (taken_within count place history more fits)

batch_longer : (m : MachineState) (es : List Entry) (o : Option Batch) → IfSome o (IsKept m) → IfSome o (IsKept (record m { history = m.history ++ es }))
batch_longer m es None kept = tt
batch_longer m es (Some b) kept = (
  omega (arith, kept.0, length-append m.history es),
  kept.1 ∙ ap (λ cs. record { from = b.from; count = b.count; changes = cs }) (sym (between_longer (programs m.app) m.history es b.from b.count kept.0)),
)

-- ---- sources

module _ (cursors : ACursors) (C D : ℕ → Rows) where
  -- the differences are told of all documents that are the same at their places
  known_alike : (from : ℕ) (ones : List AnEntry) → ((place : ℕ) → place ≤ from + length ones → C place ≡ D place) → AreKnownFrom cursors C from ones →
      AreKnownFrom cursors D from ones
  known_alike from [] same known = tt
  known_alike from (one ∷ ones) same known = (
    subst (λ (rows : Rows). AreKnown (published cursors rows) (news_in one) one.texts) (same from (omega arith)) known.0,
    known_alike (suc from) ones (λ place le. same place (omega (arith, le))) known.1,
  )

  differ_alike : (from : ℕ) (all : List News) → ((place : ℕ) → place ≤ from + length all → C place ≡ D place) → AreDifferences cursors C from all →
      AreDifferences cursors D from all
  differ_alike from [] same told = tt
  differ_alike from (one ∷ all) same told = (
    subst (λ (rows : Rows). IsDifference (published cursors rows) (published cursors (D (suc from))) one) (same from (omega arith))
        (subst (λ (rows : Rows). IsDifference (published cursors (C from)) (published cursors rows) one) (same (suc from) (omega arith)) told.0),
    differ_alike (suc from) all (λ place le. same place (omega (arith, le))) told.1,
  )

same_documents : (app : Programs) (history more : List Entry) (place : ℕ) → place ≤ length history →
    documents_of app history place ≡ documents_of app (history ++ more) place
same_documents app history more place le = ap (λ (h : Held). h.rows) (sym (held_at-longer app history more place le))

-- what is told of a span is told of documents that are the same at its places
span_alike : (cursors : ACursors) (app : Programs) (old new : List Entry) (span : ASpan) → span.until ≤ length new →
    documents_of app old span.from ≡ documents_of app new span.from → documents_of app old span.until ≡ documents_of app new span.until →
    IsSpan cursors app old span → IsSpan cursors app new span
span_alike cursors app old new span within from until told = record {
  order = told.order;
  within = within;
  leads =
      subst (λ (rows : Rows). IsLead (published cursors rows) (published cursors (documents_of app new span.until)) (news_of span.told)) from
      (subst (λ (rows : Rows). IsLead (published cursors (documents_of app old span.from)) (published cursors rows) (news_of span.told)) until told.leads);
  known = subst (λ (rows : Rows). AreKnown (published cursors rows) (news_of span.told) span.texts) from told.known;
}

pub one_longer : (cursors : ACursors) (app : Programs) (history more : List Entry) (span : ASpan) → IsSpan cursors app history span →
    IsSpan cursors app (history ++ more) span
one_longer cursors app history more span told =
    span_alike cursors app history (history ++ more) span (omega (arith, told.within, length-append history more))
    (same_documents app history more span.from (omega (arith, told.order, told.within))) (same_documents app history more span.until told.within) told

pub one_shorter : (cursors : ACursors) (app : Programs) (history more : List Entry) (span : ASpan) → span.until ≤ length history →
    IsSpan cursors app (history ++ more) span → IsSpan cursors app history span
one_shorter cursors app history more span le told =
    span_alike cursors app (history ++ more) history span le (sym (same_documents app history more span.from (omega (arith, told.order, le))))
    (sym (same_documents app history more span.until le)) told

span_longer : (cursors : ACursors) (app : Programs) (history more : List Entry) (o : Option ASpan) → IfSome o (IsSpan cursors app history) →
    IfSome o (IsSpan cursors app (history ++ more))
span_longer cursors app history more None told = tt
span_longer cursors app history more (Some span) told = one_longer cursors app history more span told

source_longer : (cursors_at : CursorsAt) (app : Programs) (history more : List Entry) (source : ASource) → IsTold cursors_at app history source →
    IsTold cursors_at app (history ++ more) source
source_longer cursors_at app history more source told = record {
  within = omega (arith, told.within, length-append history more);
  each = differ_alike (cursors_at source.name source.params) (documents_of app history) (documents_of app (history ++ more)) source.first
      (map news_in source.ones)
      (λ place le. ap (λ (h : Held). h.rows)
      (sym (held_at-longer app history more place (omega (arith, le, length-map source.ones news_in, told.within))))) told.each;
  known = known_alike (cursors_at source.name source.params) (documents_of app history) (documents_of app (history ++ more)) source.first source.ones
      (λ place le. ap (λ (h : Held). h.rows) (sym (held_at-longer app history more place (omega (arith, le, told.within))))) told.known;
  last = span_longer (cursors_at source.name source.params) app history more source.last told.last;
}

sources_longer : (cursors_at : CursorsAt) (app : Programs) (history more : List Entry) (sources : List ASource) →
    AllByRecursion (IsTold cursors_at app history) sources → AllByRecursion (IsTold cursors_at app (history ++ more)) sources
sources_longer cursors_at app history more [] told = tt
sources_longer cursors_at app history more (source ∷ sources) told =
    (source_longer cursors_at app history more source told.0, sources_longer cursors_at app history more sources told.1)

-- what is told of a history is told of every longer one
pub told_longer : (cursors_at : CursorsAt) (m : MachineState) (es : List Entry) (news : ANews) → AreTold cursors_at m news →
    AreTold cursors_at (record m { history = m.history ++ es }) news
told_longer cursors_at m es news told = record {
  sources = sources_longer cursors_at (programs m.app) m.history es news.sources told.sources;
  batch = batch_longer m es news.batch told.batch;
}

-- nothing is told at first
pub nothing_told_yet : (cursors_at : CursorsAt) (m : MachineState) → AreTold cursors_at m nothing_told
nothing_told_yet cursors_at m = record { sources = tt; batch = tt }
