use Rattle.std.proofs.Common.{◌+◌, option_map, option_copied, ap, sym, ◌∙◌}
use Rattle.std.proofs.lemmas.Option.{slice_get-map}
use Rattle.ejson_value.specs.declared.change.Publish.{Publish}
use Rattle.ejson_value.specs.Changes.{news_of}
use Rattle.publication.specs.Published.{published}
use Rattle.multiplexer.proofs.Soles.{ends_there, known_at}
use Rattle.multiplexer.proofs.origins.teach.Goals.{in-Some+in-Some-get, in-Some+in_default-get, in_default}
use Rattle.multiplexer.proofs.origins.teach.Goals as goal

pub loop-place-preserved : goal.loop-place-preserved
loop-place-preserved c =
    let told = c.args.told.now in
    let texts = c.args.texts.now in
    let start = c.args.start in
    let end = c.args.end in
    elim c.match-get.branch [
      | in-Some+in-Some-get w ↦ record {
        many = rw w.all-is (w.teach_one.ensures.many ∙ c.loop-place.invariant.many);
        same = rw w.all-is (w.teach_one.ensures.same ∙ c.loop-place.invariant.same);
        taught = λ cursors C first all lead known.
            let one = w.in-Some.one.now in
            let at = slice_get-map (λ (p : Publish). (p.key, p.new)) told _ ∙ ap (option_map (λ (p : Publish). (p.key, p.new))) (sym c.get.ensures ∙ ap option_copied w.in-Some.is) in
            let is = sym w.get-in-Some.ensures ∙ ap option_copied w.in-Some-get.is in
            rw w.all-is (w.teach_one.ensures.taught cursors C first one.new (c.loop-place.invariant.taught cursors C first all lead known)
            (ends_there (published cursors (C (first + start))) (published cursors (C (first + end))) (news_of told) _ (one.key, one.new) at lead)
            (known_at (published cursors (C (first + start))) (news_of told) texts _ (one.key, one.new) w.in-Some-get.text.now known at is));
      }
      | in-Some+in_default-get w ↦ record {
        many = rw w.all-is c.loop-place.invariant.many;
        same = rw w.all-is c.loop-place.invariant.same;
        taught = λ cursors C first all lead known. rw w.all-is (c.loop-place.invariant.taught cursors C first all lead known);
      }
      | in_default w ↦ record {
        many = rw w.all-is c.loop-place.invariant.many;
        same = rw w.all-is c.loop-place.invariant.same;
        taught = λ cursors C first all lead known. rw w.all-is (c.loop-place.invariant.taught cursors C first all lead known);
      }
    ]
