-- Laws: What a span that is lent says, and how it is put back.
use Rattle.std.specs.Prelude.{ℕ, ◌≤◌, List, ◌++◌, length}
use Rattle.std.specs.Arc.{arc_value}
use Rattle.std.proofs.Common.{sym, subst}
use Rattle.ejson_value.specs.Changes.{news_of}
use Rattle.known_texts.specs.Places.{Texts}
use Rattle.history_model.specs.declared.entry.Entry.{Entry}
use Rattle.publication.specs.Cursors.{ACursors}
use Rattle.publication.specs.Published.{published}
use Rattle.session_state.specs.declared.subs.Sub.{Sub}
use Rattle.store_machine.specs.State.{MachineState, programs, held_after}
use Rattle.multiplexer.specs.declared.source.Span.{Span}
use Rattle.multiplexer.specs.declared.news.Lent.{Lent}
use Rattle.multiplexer.specs.Leading.{IsLead}
use Rattle.multiplexer.specs.Known.{AreKnown}
use Rattle.multiplexer.specs.Inside.{seen_span}
use Rattle.multiplexer.specs.LongerLaws.{one_longer, one_shorter}
use Rattle.multiplexer.specs.Spans.{IsAsked, IsLent}
use Rattle.multiplexer.specs.Lending.{with_texts}

-- it leads from the one place to the other
pub asked_leads : (cursors : ACursors) (m : MachineState) (from until : ℕ) (span : Span) → IsAsked cursors m from until span →
    IsLead (published cursors (held_after m from).rows) (published cursors (held_after m until).rows) (news_of (arc_value span.told))
asked_leads cursors m from until span asked =
    let told = news_of (arc_value span.told) in
    subst (λ n. IsLead (published cursors (held_after m n).rows) (published cursors (held_after m until).rows) told) asked.begins
    (subst (λ n. IsLead (published cursors (held_after m span.from).rows) (published cursors (held_after m n).rows) told) asked.ends asked.is.leads)

module _ (m : MachineState) (sub : Sub) (from until : ℕ) (lent : Lent) (is : IsLent m sub from until lent) where
  -- the texts that are known of it
  pub known_of : AreKnown (published sub.cursors (held_after m from).rows) (news_of (arc_value lent.span.told)) lent.span.texts
  known_of = subst
      (λ n. AreKnown (published sub.cursors (held_after m n).rows) (news_of (arc_value lent.span.told)) lent.span.texts) is.asked.begins is.asked.is.known

  -- it is put back with others that are known
  pub known_with : (texts : Texts) → AreKnown (published sub.cursors (held_after m from).rows) (news_of (arc_value lent.span.told)) texts →
      IsLent m sub from until (with_texts lent texts)
  known_with texts known = record {
    name = is.name;
    params = is.params;
    asked = record {
      begins = is.asked.begins;
      ends = is.asked.ends;
      is = record {
        order = is.asked.is.order;
        within = is.asked.is.within;
        leads = is.asked.is.leads;
        known = subst (λ n. AreKnown (published sub.cursors (held_after m n).rows) (news_of (arc_value lent.span.told)) texts) (sym is.asked.begins) known;
      };
    };
  }

-- ---- histories that begin alike

-- a span of the entries of a history is one of every longer one
pub asked_longer : (cursors : ACursors) (m : MachineState) (more : List Entry) (from until : ℕ) (span : Span) → IsAsked cursors m from until span →
    IsAsked cursors (record m { history = m.history ++ more }) from until span
asked_longer cursors m more from until span asked =
    record { begins = asked.begins; ends = asked.ends; is = one_longer cursors (programs m.app) m.history more (seen_span span) asked.is }

-- and of a shorter one that has the entries
pub asked_shorter : (cursors : ACursors) (m : MachineState) (more : List Entry) (from until : ℕ) (span : Span) → until ≤ length m.history →
    IsAsked cursors (record m { history = m.history ++ more }) from until span → IsAsked cursors m from until span
asked_shorter cursors m more from until span le asked = record {
  begins = asked.begins;
  ends = asked.ends;
  is = one_shorter cursors (programs m.app) m.history more (seen_span span) (subst (λ n. n ≤ length m.history) (sym asked.ends) le) asked.is;
}

pub lent_longer : (m : MachineState) (more : List Entry) (sub : Sub) (from until : ℕ) (lent : Lent) → IsLent m sub from until lent →
    IsLent (record m { history = m.history ++ more }) sub from until lent
lent_longer m more sub from until lent is = record { name = is.name; params = is.params; asked = asked_longer sub.cursors m more from until lent.span is.asked }

pub lent_shorter : (m : MachineState) (more : List Entry) (sub : Sub) (from until : ℕ) (lent : Lent) → until ≤ length m.history →
    IsLent (record m { history = m.history ++ more }) sub from until lent → IsLent m sub from until lent
lent_shorter m more sub from until lent le is =
    record { name = is.name; params = is.params; asked = asked_shorter sub.cursors m more from until lent.span le is.asked }
