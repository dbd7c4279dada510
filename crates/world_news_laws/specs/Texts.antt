-- The texts that are known of publishes are those that a session's client is told, where one subscription alone publishes the document; and what is
-- learnt of one client is known for all.
use Rattle.std.specs.Prelude.{◌≡◌, ℕ, List, [], ◌∷◌, Option, None, Some, option_map, refl}
use Rattle.std.proofs.Common.{ap, sym, subst, ◌∙◌}
use Rattle.map_model.specs.Maps.{at}
use Rattle.map_model.specs.Differences.{Step, between}
use Rattle.merge_model.specs.Publishing.{shown, shown_since}
use Rattle.merge_model.specs.Kept.{publishers_at}
use Rattle.value_model.specs.Val.{Val, Entries}
use Rattle.value_model.specs.Order.{text_cmp}
use Rattle.ejson_value.specs.declared.key.Key.{Key}
use Rattle.ejson_value.specs.declared.change.Publish.{Publish}
use Rattle.ejson_value.specs.Key.{key_cmp}
use Rattle.ejson_value.specs.Rows.{Rows}
use Rattle.ejson_value.specs.Changes.{news_of}
use Rattle.known_texts.specs.Places.{Texts}
use Rattle.kept_document.specs.Held.{same_value, IsAlone}
use Rattle.merge_box.specs.State.{KeptDocs}
use Rattle.merge_box.specs.Words.{NewsList, seen_in}
use Rattle.connection_laws.specs.publication.Cursors.{ACursors}
use Rattle.connection_laws.specs.publication.Published.{published}
use Rattle.connection_laws.specs.store_machine.State.{MachineState, held_after}
use Rattle.connection_laws.specs.session_model.Subscriptions.{cursor_of}
use Rattle.connection_laws.specs.session_model.State.{State}
use Rattle.connection_laws.specs.session_model.Moments.{Moment, rows_of, rows_at}
use Rattle.connection_laws.specs.session_model.Shown.{shown_in, calls_of}
use Rattle.connection_laws.specs.session_journal_laws.Shows.{calls_show}
use Rattle.connection_laws.specs.session_journal_laws.PublicationLaws.{at_queried}
use Rattle.connection_laws.specs.session_journal_laws.Stands.{items_of}
use Rattle.session_state.specs.declared.subs.Sub.{Sub}
use Rattle.connection_laws.specs.session_laws.Session.{ASession}
use Rattle.connection_laws.specs.session_laws.Meaning.{Means}
use Rattle.connection_laws.specs.session_laws.Events.{cursors_at}
use Rattle.connection_laws.specs.session_laws.LoadingLaws.{shown_from}
use Rattle.session_core.specs.Known.{text_about, text_told, IsRight, AreRight, IsLearnt, AreLearnt}
use Rattle.connection_laws.specs.world_model.Store.{moments}
use Rattle.connection_laws.specs.world_invariant_laws.Moments.{moment_there}
use Rattle.connection_laws.specs.Showing.{cursor_within}
use Rattle.connection_laws.specs.Connection.{AConnection, IsConnection}
use Rattle.multiplexer.specs.Known.{IsSeenAs, text_of, IsKnown, AreKnown}
use Rattle.world_news_laws.specs.Sources.{IsSub}
use Rattle.world_news_laws.specs.Found.{cursors_are, place_is}
use Rattle.world_news_laws.specs.Alone.{seen_once, seen_alone}

-- ---- one client

-- the text that a box tells is the one of the document as its client sees it
told_as_seen : (box : KeptDocs) (one : Key × Option Entries) → text_told box one ≡ text_of one (seen_in box one.0)
told_as_seen box one = said (between text_cmp same_value (seen_in box one.0) one.1)
  where
    said : (step : Option (Step (List ℕ) Val)) → option_map text_about (option_map (λ s. (one.0, s)) step) ≡ option_map (λ s. text_about (one.0, s)) step
    said None = refl
    said (Some step) = refl

-- a client sees each document that the subscription alone publishes as it was shown before
abbrev pub SeesAlone : ℕ → KeptDocs → (Key → Option Entries) → Type 0
SeesAlone sub box before = (key : Key) → IsAlone sub (publishers_at key_cmp box key) → IsSeenAs (seen_in box key) (before key)

module _ (sub : ℕ) (box : KeptDocs) (before : Key → Option Entries) (sees : SeesAlone sub box before) where
  right_one : (one : Key × Option Entries) (text : Option (List ℕ)) → IsKnown before one text → IsRight sub box one text
  right_one one None known = tt
  right_one one (Some text) known = λ alone. told_as_seen box one ∙ known (seen_in box one.0) (sees one.0 alone)

  -- what is known is right for it
  pub known_right : (news : NewsList) (texts : Texts) → AreKnown before news texts → AreRight sub box news texts
  known_right news [] known = tt
  known_right [] (text ∷ texts) known = absurd known
  known_right (one ∷ news) (text ∷ texts) known = (right_one one text known.0, known_right news texts known.1)

  learnt_one : (one : Key × Option Entries) (old new : Option (List ℕ)) → IsKnown before one old → IsLearnt sub box one old new → IsKnown before one new
  learnt_one one (Some text) None known learnt = tt
  learnt_one one (Some text) (Some other) known learnt = λ seen is. known seen is ∙ sym learnt
  learnt_one one None None known learnt = tt
  learnt_one one None (Some text) known learnt = λ seen is.
      ap (text_of one) (seen_once seen (seen_in box one.0) (before one.0) is (sees one.0 learnt.0)) ∙ (sym (told_as_seen box one) ∙ learnt.1)

  -- and what is learnt of it is known for all
  pub learnt_known : (news : NewsList) (old new : Texts) → AreKnown before news old → AreLearnt sub box news old new → AreKnown before news new
  learnt_known news [] [] known learnt = tt
  learnt_known news [] (text ∷ texts) known learnt = absurd learnt
  learnt_known news (was ∷ old) [] known learnt = absurd learnt
  learnt_known [] (was ∷ old) (text ∷ texts) known learnt = absurd learnt
  learnt_known (one ∷ news) (was ∷ old) (text ∷ texts) known learnt = (learnt_one one was text known.0 learnt.0, learnt_known news old texts known.1 learnt.1)

-- ---- a session

module _ (taken : List (List ℕ)) (C : List Moment) (sent : List (List ℕ)) (s : ASession) (m : Means taken C sent s) (number start : ℕ)
    (is : cursor_of number s.carried.own.subs ≡ Some start) where
  -- what its calls show is what the subscription publishes
  shows : shown key_cmp (calls_of C (items_of taken s.carried)) number ≡ shown_in C s.carried.own.subs number
  shows = calls_show C m.order (items_of taken s.carried) number ∙ ap (λ (st : State). shown_in C st.subs number) (sym m.stands.own)

  -- at its place
  shows_at : (key : Key) → at key_cmp (shown key_cmp (calls_of C (items_of taken s.carried)) number) key ≡ published (cursors_at number s) (rows_at C start) key
  shows_at key = ap (λ (rows : Rows). at key_cmp rows key) (shows ∙ shown_from C number start s.carried.own.subs is)
      ∙ at_queried (cursors_at number s) (rows_at C start) key (m.order start)

  pub sees_alone : SeesAlone number s.carried.box (published (cursors_at number s) (rows_at C start))
  sees_alone key alone =
      let past = calls_of C (items_of taken s.carried) in
      subst (IsSeenAs (seen_in s.carried.box key)) (shows_at key)
      (seen_alone (shown key_cmp past) (shown_since key_cmp text_cmp past) s.carried.box m.stands.shows number key alone)

-- ---- a connection

module _ (m : MachineState) (name : List ℕ) (x : AConnection) (p : IsConnection m.app name m.history x) (number start : ℕ) (sub : Sub)
    (is : IsSub number sub x.session) (placed : sub.cursor ≡ Some start) where
  abbrev pub shown_before : Key → Option Entries
  shown_before = published sub.cursors (held_after m start).rows

  loaded : cursor_of number x.session.carried.own.subs ≡ Some start
  loaded = place_is m.app name m.history x p number sub is ∙ placed

  rows_are : rows_at (moments m.app x.session.carried.number m.history) start ≡ (held_after m start).rows
  rows_are = ap rows_of (moment_there m.app x.session.carried.number m.history start (cursor_within m.app name m.history x p number start loaded))

  client_sees : SeesAlone number x.session.carried.box shown_before
  client_sees =
      subst (λ (cs : ACursors). SeesAlone number x.session.carried.box (published cs (held_after m start).rows))
      (cursors_are m.app name m.history x p number sub is)
      (subst (λ (rows : Rows). SeesAlone number x.session.carried.box (published (cursors_at number x.session) rows)) rows_are
      (sees_alone x.received (moments m.app x.session.carried.number m.history) x.sent x.session p.means number start loaded))

  pub known_are_right : (news : List Publish) (texts : Texts) → AreKnown shown_before (news_of news) texts →
      AreRight number x.session.carried.box (news_of news) texts
  known_are_right news texts known = known_right number x.session.carried.box shown_before client_sees (news_of news) texts known

  pub learnt_are_known : (news : List Publish) (old new : Texts) → AreKnown shown_before (news_of news) old →
      AreLearnt number x.session.carried.box (news_of news) old new → AreKnown shown_before (news_of news) new
  learnt_are_known news old new known learnt = learnt_known number x.session.carried.box shown_before client_sees (news_of news) old new known learnt
