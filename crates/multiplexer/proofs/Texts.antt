-- At first no text is known.
use Rattle.std.specs.Prelude.{◌≡◌, ℕ, ◌+◌, List, [], ◌∷◌, length, Option, None, Result, Ok, Err, IfOk, replicate, refl}
use Rattle.std.specs.Arc.{arc_value}
use Rattle.std.proofs.Common.{sym, subst, ◌∙◌, ap}
use Rattle.std.proofs.lemmas.List.{length-map}
use Rattle.value_model.specs.Val.{Entries}
use Rattle.ejson_value.specs.declared.key.Key.{Key}
use Rattle.ejson_value.specs.declared.change.Publish.{Publish}
use Rattle.ejson_value.specs.Changes.{news_of}
use Rattle.known_texts.specs.Places.{Texts}
use Rattle.publication.specs.Cursors.{ACursors}
use Rattle.publication.specs.Published.{published}
use Rattle.store_machine.specs.State.{MachineState, held_after}
use Rattle.multiplexer.specs.declared.entry.Told.{Told}
use Rattle.multiplexer.specs.Inside.{seen_entry}
use Rattle.multiplexer.specs.Sources.{entry_of, LeadsBy, TellsBy}
use Rattle.multiplexer.specs.Known.{AreKnown}
use Rattle.live_observer.specs.Observing.{IsDifference}
use Rattle.multiplexer.specs.Leading.{News}
use Rattle.multiplexer.specs.LeadingLaws.{difference_leads}
use Rattle.multiplexer.specs.Telling.{AnEntry, news_in}

none_known : (before : Key → Option Entries) (news : News) → AreKnown before news (replicate (length news) None)
none_known before [] = tt
none_known before (one ∷ news) = (tt, none_known before news)

-- places with no text
pub no_text_known : (before : Key → Option Entries) (news : News) (count : ℕ) (texts : Texts) → count ≡ length news → texts ≡ replicate count None → AreKnown before news texts
no_text_known before news count texts many is = subst (AreKnown before news) (sym (is ∙ ap (λ n. replicate n None) many)) (none_known before news)

pub nothing_known : (before : Key → Option Entries) (told : List Publish) (count : ℕ) (texts : Texts) → count ≡ length told → texts ≡ replicate count None → AreKnown before (news_of told) texts
nothing_known before told count texts many is = no_text_known before (news_of told) count texts (many ∙ sym (length-map told (λ p. (p.key, p.new)))) is

-- what is told of entries, with no text that is known
pub tells_by : {E : Type 0} (cursors : ACursors) (m : MachineState) (from count until : ℕ) (result : Result Told E) → from + count ≡ until →
    IfOk result (λ told. IsDifference (published cursors (held_after m from).rows) (published cursors (held_after m (from + count)).rows) (news_in (seen_entry told))) → IfOk result (λ told. seen_entry told ≡ entry_of (arc_value told.news)) →
    IfOk result (λ told. TellsBy cursors m from until (seen_entry told))
tells_by cursors m from count until (Ok told) ends differs is =
    let before = published cursors (held_after m from).rows in
    let news = arc_value told.news in
    record {
      leads = subst (λ n. LeadsBy cursors m from n news) ends (difference_leads before (published cursors (held_after m (from + count)).rows) (news_of news) differs);
      known = subst (λ (e : AnEntry). AreKnown before (news_in e) e.texts) (sym is) (nothing_known before news (length news) (replicate (length news) None) refl refl);
    }
tells_by cursors m from count until (Err e) ends differs is = tt

pub shared_differs : {E : Type 0} (before after : Key → Option Entries) (told : List Publish) (result : Result Told E) → IfOk result (λ shared. arc_value shared.news ≡ told) → IsDifference before after (news_of told) →
    IfOk result (λ shared. IsDifference before after (news_in (seen_entry shared)))
shared_differs before after told (Ok shared) is differs = subst (λ (ps : List Publish). IsDifference before after (news_of ps)) (sym is) differs
shared_differs before after told (Err e) is differs = tt

pub shared_entry : {E : Type 0} (told : List Publish) (result : Result Told E) → IfOk result (λ shared. arc_value shared.news ≡ told) → IfOk result (λ shared. seen_entry shared ≡ entry_of told) → IfOk result (λ shared. seen_entry shared ≡ entry_of (arc_value shared.news))
shared_entry told (Ok shared) is entry = entry ∙ ap entry_of (sym is)
shared_entry told (Err e) is entry = tt

-- what is told of entries that are put together, with the texts that are known of it
pub tells_joined : {E : Type 0} (cursors : ACursors) (m : MachineState) (from until : ℕ) (result : Result Told E) → IfOk result (λ told. LeadsBy cursors m from until (arc_value told.news)) →
    IfOk result (λ told. AreKnown (published cursors (held_after m from).rows) (news_in (seen_entry told)) told.texts) → IfOk result (λ told. TellsBy cursors m from until (seen_entry told))
tells_joined cursors m from until (Ok told) leads known = record { leads = leads; known = known }
tells_joined cursors m from until (Err e) leads known = tt
