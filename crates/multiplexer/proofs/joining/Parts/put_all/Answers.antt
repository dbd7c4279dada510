use Rattle.std.proofs.Common.{◌≡◌, ◌+◌, List, map, length, drop, slice_get, Some, option_map, refl, ap, sym, subst, ◌∙◌}
use Rattle.std.proofs.lemmas.Option.{slice_get_read, slice_get-map}
use Rattle.multiplexer.specs.Inside.{seen_entry}
use Rattle.multiplexer.specs.Leading.{News}
use Rattle.multiplexer.specs.Joining.{put_all}
use Rattle.multiplexer.specs.Telling.{AnEntry, news_in}
use Rattle.multiplexer.specs.Parts.{news_of_parts, AreNewKnown}
use Rattle.multiplexer.proofs.Putting.{drop_more}
use Rattle.multiplexer.proofs.joining.Parts.put_all.Goals as goal

pub loop-entry-preserved : goal.loop-entry-preserved
loop-entry-preserved c =
    let all = c.args.all.now in
    let ones = map seen_entry all in
    let entry = c.loop-entry.entry in
    let x = c.index-all-entry.result in
    let one = seen_entry x in
    let named = news_of_parts c.loop-entry.self in
    let get : slice_get ones entry ≡ Some one = slice_get-map seen_entry all entry ∙ ap (option_map seen_entry) (slice_get_read all (length all) entry x refl c.loop-entry-test.true c.index-all-entry.is) in
    let next = drop_more ones entry one get in
    record {
      news =
          ap (λ (m : News). put_all m (map news_in (drop (entry + 1) ones))) c.in_ok-put_entry.ensures.news
          ∙ (sym (ap (λ (es : List AnEntry). put_all named (map news_in es)) next) ∙ c.loop-entry.invariant.news);
      known = λ before known new.
          let so_far = c.loop-entry.invariant.known before known new in
          let rest = subst (AreNewKnown before named) next so_far.1 in
          (c.in_ok-put_entry.ensures.known before so_far.0 rest.0, subst (λ (m : News). AreNewKnown before m (drop (entry + 1) ones)) (sym c.in_ok-put_entry.ensures.news) rest.1);
    }
