-- What the parts of a session gain is what one more item makes of the session.
use Rattle.std.proofs.Common.{◌≡◌, ℕ, List, [], ◌∷◌, ◌++◌, length, map, refl, ap, ap₂, sym, ◌∙◌}
use Rattle.std.proofs.lemmas.List.{map-append, length-map}
use Rattle.merge_model.specs.Publishing.{Call}
use Rattle.merge_model.specs.Kept.{merged}
use Rattle.value_model.specs.Val.{Entries}
use Rattle.ejson_value.specs.declared.key.Key.{Key}
use Rattle.merge_box.specs.State.{KeptDocs}
use Rattle.ddp_messages.specs.ServerMessage.{ServerMessage}
use Rattle.ddp_messages.specs.Texts.{server_text}
use Rattle.session_core.specs.session_model.State.{State}
use Rattle.session_core.specs.session_model.Methods.{all_told}
use Rattle.session_core.specs.session_model.Shown.{difference}
use Rattle.session_core.specs.session_model.Out.{about, updated}
use Rattle.session_core.specs.session_journal_laws.Stands.{added_messages}
use Rattle.session_state.specs.declared.journal.Line.{Line}
use Rattle.session_state.specs.Journal.{items_of}
use Rattle.session_core.specs.session_state.Own.{as_state, stepped}
use Rattle.session_core.specs.declared.adding.Addition.{Addition}
use Rattle.session_core.specs.Additions.{updated_text}
use Rattle.session_core.specs.Parts.{gained_texts, line_of, HasGained}
use Rattle.session_core.specs.session_laws.Adding.{HasAddedTexts}
use Rattle.session_core.specs.declared.inner.Inner.{Inner}
use Rattle.session_core.specs.Kept.{seen}
use Rattle.session_core.specs.Adding.{StaysElse}

updated_texts : (ids : List (List ℕ)) → map updated_text ids ≡ map server_text (map updated ids)
updated_texts [] = refl
updated_texts (id ∷ ids) = ap (λ (ts : List (List ℕ)). updated_text id ∷ ts) (updated_texts ids)

texts_gained : (state : State) (texts : List (List ℕ)) (words : List ServerMessage) (old new : KeptDocs) → texts ≡ map server_text words → gained_texts state texts old new ≡ map server_text (added_messages state words old new)
texts_gained state texts words old new is =
    let told = map about (difference (merged old) (merged new)) in
    let ids = all_told state.subs state.methods in
    ap₂ (λ (ws us : List (List ℕ)). map server_text told ++ (ws ++ us)) is (updated_texts ids)
    ∙ (ap (λ (ts : List (List ℕ)). map server_text told ++ ts) (sym (map-append server_text words (map updated ids))) ∙ sym (map-append server_text told (words ++ map updated ids)))

module _ (a : Addition) (call : Call Key Entries) (old new : Inner) (g : HasGained a call (stepped a.step (as_state old.parts.own)) old.parts new.parts) (s : StaysElse old new) where
  pub has_added : HasAddedTexts a.item a.id call (stepped a.step (as_state old.parts.own)) a.words.items (seen old) (seen new)
  has_added words is =
      let state = stepped a.step (as_state old.parts.own) in
      let texts = texts_gained state a.words.items words old.parts.shown.kept new.parts.shown.kept is in
      record {
        added = record {
          app = s.app;
          number = s.number;
          journal = ap items_of g.lines ∙ map-append (λ (l : Line). l.item) old.parts.journal.lines (line_of a ∷ []);
          outbox = g.outbox ∙ ap (λ (ts : List (List ℕ)). old.parts.outbox.items ++ ts) texts;
          counts = g.counts ∙ ap (λ (n : ℕ). old.parts.journal.counts ++ n ∷ []) (ap length texts ∙ length-map (added_messages state words old.parts.shown.kept new.parts.shown.kept) server_text);
          own = g.own;
          box = g.shown;
          order = record { by_key = g.whole.by_key; by_name = λ k. (g.whole.held k).by_name };
        };
        ids = ap (map (λ (l : Line). l.id)) g.lines ∙ map-append (λ (l : Line). l.id) old.parts.journal.lines (line_of a ∷ []);
        dropped = s.dropped;
      }
