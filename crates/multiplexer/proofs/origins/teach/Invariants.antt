use Rattle.std.proofs.Common.{◌≡◌, ◌+◌, ℕ, map, length}
use Rattle.ejson_value.specs.Rows.{Rows}
use Rattle.ejson_value.specs.Changes.{news_of}
use Rattle.publication.specs.Cursors.{ACursors}
use Rattle.publication.specs.Published.{published}
use Rattle.multiplexer.specs.Inside.{seen_entry, news_told}
use Rattle.multiplexer.specs.Known.{AreKnown}
use Rattle.multiplexer.specs.Leading.{IsLead}
use Rattle.multiplexer.specs.Origins.{AreTaught}
use Rattle.multiplexer.proofs.origins.teach.Given as goal

abbrev pub invariant-loop-place : goal.invariant-loop-place
invariant-loop-place l = record {
  many : length l.all.items ≡ length l.initial.all.items;
  same : map news_told l.all.items ≡ map news_told l.initial.all.items;
  taught : (cursors : ACursors) (C : ℕ → Rows) (first : ℕ) → AreTaught cursors C first (map seen_entry l.initial.all.items) → IsLead (published cursors (C (first + l.start))) (published cursors (C (first + l.end))) (news_of l.told) →
      AreKnown (published cursors (C (first + l.start))) (news_of l.told) l.texts → AreTaught cursors C first (map seen_entry l.all.items);
}
