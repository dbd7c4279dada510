use Rattle.std.proofs.Common.{◌≡◌, ◌+◌, List, length, drop, slice_get, Some, None, Option, option_map, refl, ap, sym, subst, ◌∙◌}
use Rattle.std.proofs.lemmas.Option.{slice_get_read, slice_get-map}
use Rattle.map_model.specs.Maps.{at}
use Rattle.value_model.specs.Val.{Entries}
use Rattle.ejson_value.specs.declared.change.Publish.{Publish}
use Rattle.ejson_value.specs.declared.key.Key.{Key}
use Rattle.ejson_value.specs.Key.{key_cmp}
use Rattle.ejson_value.specs.Changes.{news_of}
use Rattle.multiplexer.specs.Leading.{News}
use Rattle.multiplexer.specs.Known.{IsKnown}
use Rattle.multiplexer.specs.Joining.{put_news}
use Rattle.multiplexer.specs.Parts.{news_of_parts}
use Rattle.multiplexer.proofs.Putting.{drop_more, not_named}
use Rattle.multiplexer.proofs.joining.Parts.put_entry.Goals as goal

pub loop-place-preserved : goal.loop-place-preserved
loop-place-preserved c =
    let news = c.as_slice-news.result.now in
    let place = c.loop-place.place in
    let x = c.index-news-place.result in
    let named = news_of_parts c.loop-place.self in
    let one : Key × Option Entries = (x.key, x.new) in
    let get : slice_get news place ≡ Some x = slice_get_read news (length news) place x refl c.loop-place-test.true c.index-news-place.is in
    record {
      news =
          ap (λ (m : News). put_news m (news_of (drop (place + 1) news))) c.in_ok-put.ensures.news
          ∙ (sym (ap (λ (ps : List Publish). put_news named (news_of ps)) (drop_more news place x get)) ∙ c.loop-place.invariant.news);
      unnamed = λ key none. c.loop-place.invariant.unnamed key (not_named named x.key x.new key (subst (λ (m : News). at key_cmp m key ≡ None) c.in_ok-put.ensures.news none));
      known = λ before known new.
          c.in_ok-put.ensures.known before (c.loop-place.invariant.known before known new)
          (λ none. subst (IsKnown before one) (sym c.get.ensures)
          (new place one (slice_get-map (λ (p : Publish). (p.key, p.new)) news place ∙ ap (option_map (λ (p : Publish). (p.key, p.new))) get) (c.loop-place.invariant.unnamed x.key none)));
    }
