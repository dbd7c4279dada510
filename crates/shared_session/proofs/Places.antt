-- What was so of the store after some entries of a list is so after as many of a longer list, and at that moment of the session.
use Rattle.std.specs.Prelude.{◌≡◌, ℕ, zero, suc, ◌+◌, ◌<◌, ◌≤◌, List, [], ◌∷◌, ◌++◌, length, take, drop, true, Option, None, Some, IfSome, refl}
use Rattle.std.proofs.Common.{ap, ap₂, sym, subst, ◌∙◌, arith, length-append}
use Rattle.std.proofs.lemmas.List.{drop-append-le, take-append-le}
use mathlib.Core.List.{IsPrefix}
use Rattle.map_model.specs.Changes.{Leads}
use Rattle.ejson_value.specs.declared.change.Change.{Change}
use Rattle.ejson_value.specs.declared.change.Publish.{Publish}
use Rattle.ejson_value.specs.Key.{key_cmp}
use Rattle.ejson_value.specs.Rows.{Rows}
use Rattle.ejson_value.specs.Changes.{changes_of, news_of}
use Rattle.merge_model.specs.Publishing.{renewed}
use Rattle.app_model.specs.App.{App}
use Rattle.program_steps.specs.declared.outcome.Status.{Status}
use Rattle.program_steps.specs.Runs.{End}
use Rattle.publication.specs.Cursors.{ACursors}
use Rattle.session_model.specs.Publication.{queried}
use Rattle.session_model.specs.Methods.{Blocking}
use Rattle.session_model.specs.Subscriptions.{cursor_of}
use Rattle.session_model.specs.Moments.{Moment, moment_at, rows_of, rows_at, run_at}
use Rattle.session_model.specs.Fits.{IsRefusedAt}
use Rattle.history_model.specs.declared.entry.Entry.{Entry}
use Rattle.history_model.specs.History.{Programs, Held, held_at, status_in, status_at, changes_from, changes_between, is_full}
use Rattle.history_model.specs.HistoryLaws.{held_at-longer, between_leads}
use Rattle.world_model.specs.Store.{programs, moment_of, moments}
use Rattle.world_invariant_laws.specs.PlacesLaws.{ended_there}
use Rattle.world_invariant_laws.specs.Moments.{moments_length, moment_there, run_there}
use Rattle.session_laws.specs.Session.{ASession}
use Rattle.session_laws.specs.Events.{IsSnapshot, IsBatch, IsStatus, IsFeed, cursors_at}
use Rattle.shared_session.specs.Standing.{WereThere, WereMade, WasSo, HadNoRoom, WereTold}

-- ---- longer lists

module _ (app : App) (xs ys : List Entry) (p : IsPrefix xs ys) where
  longer_by : length xs ≤ length ys
  longer_by = omega (arith, ap length p.1, length-append xs p.0)

  held_there : (place : ℕ) → place ≤ length xs → held_at (programs app) xs place ≡ held_at (programs app) ys place
  held_there place le = sym (held_at-longer (programs app) xs p.0 place le) ∙ ap (λ es. held_at (programs app) es place) p.1

  rows_there : (place : ℕ) → place ≤ length xs → (held_at (programs app) xs place).rows ≡ (held_at (programs app) ys place).rows
  rows_there place le = ap (λ (h : Held). h.rows) (held_there place le)

  pub there_longer : (place : ℕ) (rows : Rows) → WereThere app xs place rows → WereThere app ys place rows
  there_longer place rows w = record { within = omega (arith, w.within, longer_by); documents = w.documents ∙ rows_there place w.within }

  pub made_longer : (from count : ℕ) (changes : List Change) → WereMade app xs from count changes → WereMade app ys from count changes
  made_longer from count changes w = record {
    within = omega (arith, w.within, longer_by);
    made = w.made ∙ (sym (between from count xs p.0 w.within) ∙ ap (λ es. changes_between (programs app) es from count) p.1);
  }
    where
      room : {A : Type 0} (count place : ℕ) (zs : List A) → place + count ≤ length zs → count ≤ length (drop place zs)
      room count zero zs fits = omega (arith, fits)
      room count (suc place) [] fits = omega (arith, fits)
      room count (suc place) (z ∷ zs) fits = room count place zs (omega (arith, fits))

      taken_within : {A : Type 0} (count place : ℕ) (zs more : List A) → place + count ≤ length zs → take count (drop place (zs ++ more)) ≡ take count (drop place zs)
      taken_within count place zs more fits =
          ap (take count) (drop-append-le place zs more (omega (arith, fits)))
          ∙ take-append-le count (drop place zs) more (room count place zs fits)

      between : (from count : ℕ) (zs more : List Entry) → from + count ≤ length zs → changes_between (programs app) (zs ++ more) from count ≡ changes_between (programs app) zs from count
      between from count zs more fits =
          ap₂ (λ (h : Held) (es : List Entry). changes_from (programs app) h es) (held_at-longer (programs app) zs more from (omega (arith, fits))) (taken_within count from zs more fits)

  pub so_longer : (number k : ℕ) (status : Status) → WasSo app number xs k status → WasSo app number ys k status
  so_longer number k status w = record {
    place = w.place;
    within = omega (arith, w.within, longer_by);
    so = sym (ap (λ (h : Held). status_in h number k) (held_there w.place w.within)) ∙ w.so;
  }

  pub full_longer : (number place k : ℕ) (call : Blocking) → HadNoRoom app number xs place k call → HadNoRoom app number ys place k call
  full_longer number place k call w = record {
    within = omega (arith, w.within, longer_by);
    unbegun = sym (ap (λ (h : Held). status_in h number k) (held_there place w.within)) ∙ w.unbegun;
    full = sym (ap (λ (h : Held). is_full (programs app) h call.method call.params call.seed) (held_there place w.within)) ∙ w.full;
  }

  pub told_longer : (cursors : ACursors) (from count : ℕ) (news : List Publish) → WereTold app xs cursors from count news → WereTold app ys cursors from count news
  told_longer cursors from count news w =
      let least : from ≤ length xs = omega (arith, w.within) in
      record {
        within = omega (arith, w.within, longer_by);
        no_limit = w.no_limit;
        lead =
            sym (ap (λ (rows : Rows). renewed key_cmp (queried cursors rows) (news_of news)) (rows_there from least))
            ∙ (w.lead ∙ ap (λ (rows : Rows). queried cursors rows) (rows_there (from + count) w.within));
      }

-- ---- at the session's moments

module _ (app : App) (number : ℕ) (list : List Entry) where
  rows_are : (place : ℕ) → place ≤ length list → rows_at (moments app number list) place ≡ (held_at (programs app) list place).rows
  rows_are place le = ap rows_of (moment_there app number list place le)

  pub snapshot_at : (place : ℕ) (rows : Rows) → WereThere app list place rows → IsSnapshot (moments app number list) place rows
  snapshot_at place rows w = record { within = omega (arith, w.within, moments_length app number list); documents = w.documents ∙ sym (rows_are place w.within) }

  pub batch_at : (cursor : Option ℕ) (from count : ℕ) (changes : List Change) → cursor ≡ Some from → WereMade app list from count changes → IsBatch (moments app number list) cursor from count changes
  batch_at cursor from count changes is w =
      let least : from ≤ length list = omega (arith, w.within) in
      record {
        from = is;
        within = omega (arith, w.within, moments_length app number list);
        leads =
            subst (λ (rows : Rows). Leads key_cmp (changes_of changes) rows (rows_at (moments app number list) (from + count))) (sym (rows_are from least))
            (subst (λ (rows : Rows). Leads key_cmp (changes_of changes) (held_at (programs app) list from).rows rows) (sym (rows_are (from + count) w.within))
            (subst (λ (cs : List Change). Leads key_cmp (changes_of cs) (held_at (programs app) list from).rows (held_at (programs app) list (from + count)).rows) (sym w.made) (between_leads (programs app) list from count)));
      }

  pub status_at_moment : (k : ℕ) (status : Status) → WasSo app number list k status → IsStatus (moments app number list) k status
  status_at_moment k status w = record { place = w.place; is = run_there app number list w.place k w.within ∙ w.so; end = ended status.ended refl }
    where
      ended : (o : Option End) → status.ended ≡ o → IfSome o (λ end. run_at (moments app number list) end.at k ≡ Some status)
      ended None e = tt
      ended (Some end) e = let there = ended_there (programs app) list w.place number k status end w.so e in run_there app number list end.at k there.0 ∙ there.1

  pub refused_at : (place k : ℕ) (call : Blocking) → call.k ≡ k → HadNoRoom app number list place k call → IsRefusedAt (moment_at (moments app number list) place) k (Some call)
  refused_at place k call is w =
      subst (λ (o : Option Moment). IsRefusedAt o k (Some call)) (sym (moment_there app number list place w.within)) (record { number = is; begun = w.unbegun; full = w.full })

  pub feed_at : (sub from count : ℕ) (news : List Publish) (s : ASession) → cursor_of sub s.carried.own.subs ≡ Some from → WereTold app list (cursors_at sub s) from count news → IsFeed (moments app number list) sub count news s
  feed_at sub from count news s is w =
      let least : from ≤ length list = omega (arith, w.within) in
      record {
        from = from;
        loaded = is;
        within = omega (arith, w.within, moments_length app number list);
        no_limit = w.no_limit;
        leads =
            ap (λ (rows : Rows). renewed key_cmp (queried (cursors_at sub s) rows) (news_of news)) (rows_are from least)
            ∙ (w.lead ∙ sym (ap (λ (rows : Rows). queried (cursors_at sub s) rows) (rows_are (from + count) w.within)));
      }
